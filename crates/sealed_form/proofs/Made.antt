-- A request that is made of what can be sealed is sealed.
use Rattle.std.proofs.Common.{◌≡◌, ℕ, ◌≤◌, List, length, Contains, refl, sym, ap, ◌∙◌}
use Rattle.ledger_terms.specs.declared.topology.Topology.{Topology}
use Rattle.canton_model.specs.declared.envelope.Envelope.{Envelope}
use Rattle.canton_model.specs.declared.request.Request.{Request}
use Rattle.lang_eval.specs.Found.{Packages}
use Rattle.sealed_form.specs.SealedForm.{CanBeSealed, IsSealedForm, Whole, request_of}

pub made_is_sealed : (topology : Topology) (packages : Packages) (sender : ℕ) (command : List ℕ) (whole : Whole) (request : Request)
    → CanBeSealed topology packages sender whole → request ≡ request_of topology packages sender whole.sender command whole.salts whole.transaction
    → length request.mediator ≤ 4194304 → ((e : Envelope) → Contains request.envelopes e → length e.bytes ≤ 4194304)
    → IsSealedForm topology packages request
made_is_sealed topology packages sender command whole request can same short_mediator short =
    record {
      whole = whole;
      can_be = sent_by (ap (λ (r : Request). r.sender) same);
      made = same ∙ (λ i. request_of topology packages ((sym same i).sender) whole.sender ((sym same i).command) whole.salts whole.transaction);
      short_mediator = short_mediator;
      short = short;
    }
  where
    sent_by : {p : ℕ} → p ≡ sender → CanBeSealed topology packages p whole
    sent_by e = rw e can

-- of just that
pub made_whole : (topology : Topology) (packages : Packages) (sender : ℕ) (command : List ℕ) (whole : Whole) (request : Request)
    (can : CanBeSealed topology packages sender whole) (same : request ≡ request_of topology packages sender whole.sender command whole.salts whole.transaction)
    (short_mediator : length request.mediator ≤ 4194304) (short : (e : Envelope) → Contains request.envelopes e → length e.bytes ≤ 4194304)
    → (made_is_sealed topology packages sender command whole request can same short_mediator short).whole ≡ whole
unfolding made_is_sealed
made_whole topology packages sender command whole request can same short_mediator short = refl
