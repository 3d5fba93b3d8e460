-- What is prepared within a topology can be sealed.
use Rattle.std.proofs.Common.{◌≡◌, ℕ, zero, suc, ◌<◌, true, List, [], ◌∷◌, length, Some, refl, ap, ◌∙◌, arith}
use Rattle.std.specs.Prelude.{slice_get}
use Rattle.std.proofs.lemmas.Slice.Eq.{bytes_eq-Decides}
use Rattle.ledger_terms.specs.Drafts.{Drafts}
use Rattle.ledger_terms.specs.Trees.{Actions}
use Rattle.ledger_terms.specs.declared.command.Command.{Command}
use Rattle.ledger_terms.specs.declared.host.Host.{Host}
use Rattle.ledger_terms.specs.declared.known.Known.{Known}
use Rattle.ledger_terms.specs.declared.submission.Submission.{Submission}
use Rattle.ledger_terms.specs.declared.topology.Topology.{Topology}
use Rattle.ledger_terms.specs.declared.tx.Tx.{Tx}
use Rattle.ledger_terms.specs.declared.what.What.{What}
use Rattle.ledger_terms.specs.declared.what.What.TheVariants.{Commands, Prepared}
use Rattle.lang_eval.specs.Found.{Packages}
use Rattle.lang_eval.specs.HandedIn.{parties_in_commands, parties_in_drafts}
use Rattle.lang_eval.specs.Parts.{PartyNames}
use Rattle.interpret.specs.FilledTree.{IsFilled}
use Rattle.interpret.specs.Ids.{Hash}
use Rattle.interpret.specs.Wanted.{IsWanted}
use Rattle.interpret.proofs.Rules.{keeps_rules}
use Rattle.blind_tree.specs.Blind.{is_host_named}
use Rattle.blind_tree.specs.Limits.{KeepLimits}
use Rattle.sealed_form.specs.SealedForm.{CanBeSealed, IsSealedForm, Whole}
use Rattle.sealed_form.specs.Submission.{IsSubmittedWithin}
use Rattle.sealed_form.proofs.FromDrafts.{filled_keeps_limits}
use Rattle.sealed_form.proofs.FromRules.{keeps_limits, wanted_is_seeded}
use Rattle.sealed_form.proofs.Limited.{limited_is_sealed, limited_whole}
use Rattle.framed_form.specs.Framed.{is_framed}
use Rattle.framed_form.specs.FramedReading.{framed_reading}
use Rattle.framed_form.proofs.Decided.{framed_decides}
use Rattle.framed_form.proofs.SealedWhole.{read_back}
use Rattle.prepare_request.specs.Causes.{AreWantedBy, ConfirmsRequesters}
use Rattle.prepare_request.specs.Prepared.{name_at, name_of, request_for, seed_for, tx_for, whole_for}
use Rattle.prepare_request.specs.Within.{IsWithin, parties_in_what}

-- the participant at an index has its name
pub is_named : (hosts : List Host) (p : ℕ) → p < length hosts → is_host_named hosts p (name_of (slice_get hosts p)) ≡ true
is_named [] p h = absurd (omega (arith, h))
is_named (host ∷ hosts) zero h = (bytes_eq-Decides host.name host.name).1 refl
is_named (host ∷ hosts) (suc p) h = is_named hosts p (omega (arith, h))

-- what is wanted keeps the limits of trees
pub limits : (packages : Packages) (known : List Known) (seed : Hash) (act_as : PartyNames) (w : What) (roots : Actions)
    → AreWantedBy packages known seed act_as w roots → KeepLimits roots
limits packages known seed act_as (Commands cs) roots h =
    keeps_limits packages act_as roots (keeps_rules packages known seed act_as cs roots h) (wanted_is_seeded packages known seed act_as cs roots h)
limits packages known seed act_as (Prepared borrowed ds) roots h = filled_keeps_limits known seed ds roots h

module _ (topology : Topology) (packages : Packages) (me : ℕ) (what : Submission) (now : ℕ) (roots : Actions) where
  abbrev tx : Tx
  tx = tx_for topology me what now roots

  module _ (known : List Known) (wanted : AreWantedBy packages known (seed_for topology me what) what.act_as what.what roots)
      (can : CanBeSealed topology packages me (whole_for topology me tx)) where
    kept : KeepLimits roots
    kept = limits packages known (seed_for topology me what) what.act_as what.what roots wanted

    pub made_is_sealed : IsSealedForm topology packages (request_for topology packages me what.command tx)
    made_is_sealed = limited_is_sealed topology packages me what.command (whole_for topology me tx) can kept

    made_of : made_is_sealed.whole ≡ whole_for topology me tx
    unfolding made_is_sealed
    made_of = limited_whole topology packages me what.command (whole_for topology me tx) can kept

    pub made_is_whole : is_framed topology (request_for topology packages me what.command tx) ≡ true
        → (framed_reading topology packages).whole (request_for topology packages me what.command tx) ≡ Some (whole_for topology me tx).transaction
    made_is_whole framed =
        read_back topology packages (request_for topology packages me what.command tx) made_is_sealed
        ((framed_decides topology (request_for topology packages me what.command tx)).0 framed)
        ∙ ap (λ (whole : Whole). Some whole.transaction) made_of

-- What is said of interpreted commands and of filled drafts holds of what is wanted, within the topology.
pub by_what : (P : Type 0) (topology : Topology) (packages : Packages) (me : ℕ) (known : List Known) (seed : Hash) (act_as : PartyNames) (roots : Actions)
    → ((commands : List Command) → IsSubmittedWithin topology packages known me (name_at topology me) act_as (parties_in_commands commands)
    → IsWanted packages known seed act_as commands roots → P)
    → ((drafts : Drafts) → IsSubmittedWithin topology packages known me (name_at topology me) act_as (parties_in_drafts drafts)
    → IsFilled known seed drafts roots → P)
    → (w : What) → IsSubmittedWithin topology packages known me (name_at topology me) act_as (parties_in_what w)
    → AreWantedBy packages known seed act_as w roots → P
by_what P topology packages me known seed act_as roots by_commands by_drafts (Commands commands) within wanted = by_commands commands within wanted
by_what P topology packages me known seed act_as roots by_commands by_drafts (Prepared borrowed drafts) within wanted = by_drafts drafts within wanted

-- a submission within the topology whose requesters' participant confirms for them
pub submitted : (topology : Topology) (packages : Packages) (me : ℕ) (known : List Known) (what : Submission) → IsWithin topology packages me known what
    → ConfirmsRequesters topology me what
    → IsSubmittedWithin topology packages known me (name_at topology me) what.act_as (parties_in_what what.what)
submitted topology packages me known what within confirms =
    record {
      sender_is = is_named topology.hosts me within.is_host;
      confirms_requesters = confirms;
      named_by_packages = within.named_by_packages;
      named_by_known = within.named_by_known;
      named_by_input = within.named_by_input;
    }
