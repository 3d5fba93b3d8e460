-- The requests of submissions open by the rules.
use Rattle.std.proofs.Common.{◌≡◌, ◌⊎◌, ◌≤◌, ℕ, Bool, true, false, if◌then◌else◌, List, Option, Some, None, Result, Ok, Contains, length, refl, sym, ap, ◌∙◌, subst, inl, inr, arith}
use Rattle.std.proofs.lemmas.Bool.{and_parts}
use Rattle.ledger_terms.specs.Trees.{Actions}
use Rattle.ledger_terms.specs.declared.known.Known.{Known}
use Rattle.ledger_terms.specs.declared.submission.Submission.{Submission}
use Rattle.ledger_terms.specs.declared.topology.Topology.{Topology}
use Rattle.ledger_terms.specs.declared.tx.Tx.{Tx}
use Rattle.ledger_terms.specs.declared.what.What.{What}
use Rattle.ledger_terms.specs.declared.what.What.TheVariants.{Commands, Prepared}
use Rattle.ledger_model.proofs.Lists.{contains_from_In}
use Rattle.canton_model.specs.Inbox.{Item}
use Rattle.canton_model.specs.Log.{request_at}
use Rattle.lang_eval.specs.Found.{Packages}
use Rattle.lang_eval.specs.Parts.{PartyNames}
use Rattle.interpret.specs.Ids.{Hash}
use Rattle.interpret.specs.declared.command_fault.CommandFault.{CommandFault}
use Rattle.interpret.proofs.DraftLaw.{filled_is_given}
use Rattle.interpret.proofs.Wholes.{wanted_is_given}
use Rattle.sealed_form.specs.SealedForm.{CanBeSealed, Whole}
use Rattle.sealed_form.proofs.Decided.{can_decides}
use Rattle.sealed_form.proofs.Made.{made_is_sealed, made_whole}
use Rattle.framed_form.specs.Framed.{is_framed}
use Rattle.framed_form.specs.FramedReading.{framed_reading}
use Rattle.framed_form.proofs.Decided.{framed_decides}
use Rattle.framed_form.proofs.SealedWhole.{read_back}
use Rattle.world_model.specs.Messages.{Entry, Request}
use Rattle.world_model.specs.Machine.{Machine, IsMachine}
use Rattle.world_model.specs.Rounds.{SentHolds, read_at, wanted_at}
use Rattle.world_model.specs.World as w
use Rattle.world_model.proofs.Grown.{request_within}
use Rattle.world_model.proofs.Origins.{origins}
use Rattle.prepare_request.specs.Causes.{AreWantedBy, IsRequestOf}
use Rattle.prepare_request.specs.Machine.{can_seal, if_framed, is_sealable, is_within}
use Rattle.prepare_request.specs.Prepared.{actions_for, actions_of, prepared, seed_for, tx_for, tx_where_wanted, wanted_tx, whole_for}
use Rattle.prepare_request.proofs.Wanted.{framed_if_wanted, opens_if_wanted}
use Rattle.node_core.specs.Machines.{machine_of, offered_in}
use Rattle.world_play.specs.ActiveAt.{Wants, active_at}
use Rattle.world_play.specs.OwnRequests.{IsOwnRequest, IsSubmitted, OpensByRules}
use Rattle.world_play.proofs.ActiveAt.{offers, wants}

module _ (topology : Topology) (packages : Packages) where
  abbrev WantedLaw : Type 0
  WantedLaw = (t : Topology) (ps : Packages) (me : ℕ) (ks : List Known) (s : Submission) (time : ℕ) (q : Request) → prepared t ps me ks s time ≡ Ok q
      → IsRequestOf t ps me ks s time q

  -- what is wanted is given
  given : (known : List Known) (seed : Hash) (act_as : PartyNames) (w : What) (roots : Actions) → AreWantedBy packages known seed act_as w roots
      → actions_of packages known seed act_as w ≡ Ok roots
  given known seed act_as (Commands commands) roots h = wanted_is_given packages known seed act_as commands roots h
  given known seed act_as (Prepared borrowed drafts) roots h = filled_is_given known seed drafts roots h

  passed : {X : Type 0} (b : Bool) (o : Option X) (x : X) → (if b then o else None) ≡ Some x → b ≡ true
  passed true o x h = refl
  passed false o x h = absurd cc

  module _ (capacity now : ℕ) (log : List Entry) (what : Submission) (n : ℕ) (request : Request)
      (wanted : wanted_at (machine_of topology packages capacity) now log what n ≡ Some request) where
    abbrev me : ℕ
    me = what.participant

    abbrev items : List Item
    items = read_at (machine_of topology packages capacity) log what n

    framed : is_framed topology request ≡ true
    framed = framed_if_wanted topology packages (offered_in topology packages) what items now request wanted

    pub wanted_opens : OpensByRules topology packages request
    wanted_opens = opens_if_wanted topology packages (offered_in topology packages) what items now request wanted

    module _ (law : WantedLaw) (le : n ≤ length log) where
      wants_it : Wants topology packages now log what n request
      wants_it = wants topology packages capacity now log what n le law request wanted

      abbrev tx : Tx
      tx = tx_for topology what.participant what now wants_it.roots

      abbrev known : List Known
      known = offered_in topology packages what.participant items

      -- its actions are those that the machine's test is of
      actions : actions_for topology packages me known what ≡ Ok wants_it.roots
      actions =
          ap (λ (ks : List Known). actions_for topology packages me ks what) (offers topology packages capacity now log what n le)
          ∙ given (active_at topology packages log me n) (seed_for topology me what) what.act_as what.what wants_it.roots wants_it.wanted

      can_be : CanBeSealed topology packages me (whole_for topology me tx)
      can_be =
          let tests =
          and_parts (is_within topology packages what) (can_seal topology packages me (wanted_tx topology packages me known what now))
          (passed (is_sealable topology packages known what now) (if_framed topology (prepared topology packages me known what now)) request wanted) in
          let test : can_seal topology packages me (Ok tx) ≡ true =
          ap (λ (a : Result Actions CommandFault). can_seal topology packages me (tx_where_wanted topology me what now a)) (sym actions) ∙ tests.1 in
          (can_decides topology packages me (whole_for topology me tx)).0 test

      read_as_wanted : (framed_reading topology packages).whole request ≡ Some (whole_for topology me tx).transaction
      read_as_wanted =
          let fits = (framed_decides topology request).0 framed in
          let whole = whole_for topology me tx in
          let same = wants_it.request_is in
          read_back topology packages request
          (made_is_sealed topology packages me what.command whole request can_be same fits.short_mediator fits.short) fits
          ∙ ap (λ (x : Whole). Some x.transaction) (made_whole topology packages me what.command whole request can_be same fits.short_mediator fits.short)

      pub is_own : IsOwnRequest topology packages now log what n request
      is_own = record { wanted = wants_it; whole = read_as_wanted; opens = wanted_opens }

  -- the request of a Sent result
  pub sent_is_own : WantedLaw → (capacity now : ℕ) (log : List Entry) (end : ℕ) (what : Submission) (place read_to : ℕ)
      → SentHolds (machine_of topology packages capacity) now log end what place read_to
      → (request : Request) × (request_at log place ≡ Some request) × IsOwnRequest topology packages now log what read_to request
  sent_is_own law capacity now log end what place read_to sent =
      let within = request_within log place sent.request sent.there in
      let before = sent.read_before in (
        sent.request,
        sent.there,
        is_own capacity now log what read_to sent.request sent.wanted law (omega (arith, within, before)),
      )

  -- the requests of a world's log after events are raw ones of these, and those of their submissions
  abbrev AreAsked : List w.Event → List Entry → Type 0
  AreAsked events log =
      (k : ℕ) (request : Request) → request_at log k ≡ Some request
      → Contains events (w.SubmitRaw request) ⊎ IsSubmitted topology packages events log k request

  module _ (law : WantedLaw) (capacity : ℕ) (events : List w.Event) where
    abbrev m : Machine
    m = machine_of topology packages capacity

    abbrev log : List Entry
    log = (w.played m (w.new_world m) events).log

    of_submission : (k : ℕ) (request : Request) → request_at log k ≡ Some request → (what : Submission) (n now : ℕ)
        → Contains events (w.Submit what) → n ≤ k → wanted_at m now log what n ≡ Some request → IsSubmitted topology packages events log k request
    of_submission k request there what n now among before wanted =
        let within = request_within log k request there in
        record {
          what = what;
          among = among;
          read_to = n;
          read_before = before;
          now = now;
          own = is_own capacity now log what n request wanted law (omega (arith, within, before));
        }

    are_asked : IsMachine m → AreAsked events log
    are_asked machine k request there =
        elim (origins m events machine k request there) [
          | inl raw ↦ inl (contains_from_In events (w.SubmitRaw request) raw)
          | inr s ↦ inr (of_submission k request there s.0 s.1 s.2 (contains_from_In events (w.Submit s.0) s.3) s.4 s.5)
        ]

    pub asked_of_events : IsMachine m → (xs : List Entry) → xs ≡ log → AreAsked events xs
    asked_of_events machine xs is = subst (AreAsked events) (sym is) (are_asked machine)
