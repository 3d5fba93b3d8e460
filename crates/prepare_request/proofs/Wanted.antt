-- What a submission wants is prepared, sealed and framed.
use Rattle.std.proofs.Common.{◌≡◌, ℕ, Bool, true, false, List, Option, Some, None, Result, Ok, Err, refl, sym, ap, ◌∙◌, if◌then◌else◌}
use Rattle.std.proofs.lemmas.Bool.{and_parts}
use Rattle.ledger_terms.specs.declared.known.Known.{Known}
use Rattle.ledger_terms.specs.declared.submission.Submission.{Submission}
use Rattle.ledger_terms.specs.declared.topology.Topology.{Topology}
use Rattle.ledger_terms.specs.declared.tx.Tx.{Tx}
use Rattle.canton_model.specs.Inbox.{Item}
use Rattle.canton_model.specs.declared.request.Request.{Request}
use Rattle.lang_eval.specs.Found.{Packages}
use Rattle.sealed_form.specs.SealedForm.{CanBeSealed, IsSealedForm}
use Rattle.sealed_form.proofs.Decided.{can_decides}
use Rattle.sealed_form.proofs.Made.{made_is_sealed}
use Rattle.framed_form.specs.Framed.{is_framed}
use Rattle.framed_form.proofs.Decided.{framed_decides}
use Rattle.prepare_request.specs.Machine.{Offered, can_seal, if_framed, is_sealable, is_within, prepare_over}
use Rattle.prepare_request.specs.Opens.{OpensByRules}
use Rattle.prepare_request.specs.Prepared.{prepared, tx_for, tx_where_wanted, wanted_tx, whole_for}
use Rattle.prepare_request.specs.declared.submit_fault.SubmitFault.{SubmitFault}
use Rattle.prepare_request.proofs.Opens.{opens_by_rules}
use Rattle.prepare_request.proofs.Wants.{steps}

module _ (topology : Topology) (packages : Packages) where
  record Kept (answer : Result Request SubmitFault) (request : Request) : Type 0 where
    is : answer ≡ Ok request
    framed : is_framed topology request ≡ true

  kept : (answer : Result Request SubmitFault) (request : Request) → if_framed topology answer ≡ Some request → Kept answer request
  kept (Ok q) request e = by (is_framed topology q) refl e
    where
      ok : Request → Result Request SubmitFault
      ok r = Ok r

      by : (f : Bool) → is_framed topology q ≡ f → (if f then Some q else None) ≡ Some request → Kept (Ok q) request
      by true framed h =
          let same : q ≡ request = cc in
          record { is = ap ok same; framed = ap (is_framed topology) (sym same) ∙ framed }
      by false framed h = absurd cc
  kept (Err fault) request e = absurd cc

  allowed : (b : Bool) (o : Option Request) (request : Request) → (if b then o else None) ≡ Some request → (b ≡ true) × (o ≡ Some request)
  allowed true o request h = (refl, h)
  allowed false o request h = absurd cc

  abbrev pub nothing : Option Request
  nothing = None

  pub never : (b : Bool) → (if b then nothing else nothing) ≡ nothing
  never true = refl
  never false = refl

  -- the transaction that can be sealed
  sealable : (me : ℕ) (r : Result Tx SubmitFault) (tx : Tx) → r ≡ Ok tx → can_seal topology packages me r ≡ true
      → CanBeSealed topology packages me (whole_for topology me tx)
  sealable me r tx is h =
      let here : can_seal topology packages me (Ok tx) ≡ true = ap (can_seal topology packages me) (sym is) ∙ h in
      (can_decides topology packages me (whole_for topology me tx)).0 here

  module _ (offered : Offered) (what : Submission) (items : List Item) (now : ℕ) where
    abbrev known : List Known
    known = offered what.participant items

    abbrev answer : Result Request SubmitFault
    answer = prepared topology packages what.participant (offered what.participant items) what now

    abbrev wanted : Result Tx SubmitFault
    wanted = wanted_tx topology packages what.participant (offered what.participant items) what now

    pub none_if_refused : (fault : SubmitFault) → prepared topology packages what.participant (offered what.participant items) what now ≡ Err fault
        → prepare_over topology packages offered what items now ≡ None
    none_if_refused fault e =
        ap (λ (a : Result Request SubmitFault). if is_sealable topology packages known what now then if_framed topology a else None) e
        ∙ never (is_sealable topology packages known what now)

    module _ (request : Request) (gives : prepare_over topology packages offered what items now ≡ Some request) where
      abbrev both : (is_sealable topology packages known what now ≡ true) × (if_framed topology answer ≡ Some request)
      both = allowed (is_sealable topology packages known what now) (if_framed topology answer) request gives

      pub prepared_if_wanted : prepared topology packages what.participant (offered what.participant items) what now ≡ Ok request
      prepared_if_wanted = (kept answer request both.1).is

      pub framed_if_wanted : is_framed topology request ≡ true
      framed_if_wanted = (kept answer request both.1).framed

      pub sealed_if_wanted : IsSealedForm topology packages request
      sealed_if_wanted =
          let s = steps topology packages what.participant known what now request prepared_if_wanted in
          let can =
          sealable what.participant wanted (tx_for topology what.participant what now s.roots) (ap (tx_where_wanted topology what.participant what now) s.actions)
          (and_parts (is_within topology packages what) (can_seal topology packages what.participant wanted) both.0).1 in
          let framed = (framed_decides topology request).0 framed_if_wanted in
          made_is_sealed topology packages what.participant what.command (whole_for topology what.participant (tx_for topology what.participant what now s.roots))
          request can s.request_is framed.short_mediator framed.short

      pub opens_if_wanted : OpensByRules topology packages request
      opens_if_wanted = opens_by_rules topology packages request sealed_if_wanted framed_if_wanted
