-- The request that is made of a transaction that can be sealed is sealed and framed.
use Rattle.std.proofs.Common.{◌≡◌, ◌≢◌, ℕ, true, List, sym, subst}
use Rattle.std.proofs.lemmas.List.Elements.{All-contains}
use Rattle.ledger_terms.specs.Forest.{NoRoots}
use Rattle.ledger_terms.specs.declared.topology.Topology.{Topology}
use Rattle.ledger_terms.specs.declared.tx.Tx.{Tx}
use Rattle.canton_model.specs.declared.request.Request.{Request}
use Rattle.lang_eval.specs.Found.{Packages}
use Rattle.blind_tree.specs.Limits.{KeepLimits}
use Rattle.sealed_form.specs.SealedForm.{CanBeSealed, Whole}
use Rattle.sealed_form.specs.Submission.{whole_with_seed}
use Rattle.sealed_form.proofs.Limited.{limited_is_sealed, limited_whole}
use Rattle.framed_form.specs.Framed.{is_framed}
use Rattle.framed_form.proofs.Decided.{framed_decides}
use Rattle.framed_form.proofs.SealedFramed.{sealed_framed}
use Rattle.proto_model.specs.Made.{HasBytes, SendsBytes, request_of_tx}
use Rattle.proto_model.specs.SealedRequests.{IsSealedOf}

module _ (topology : Topology) (packages : Packages) (sender : ℕ) (name command : List ℕ) (tx : Tx) (request : Request)
    (same : request ≡ request_of_tx topology packages sender name command tx)
    (can : CanBeSealed topology packages sender (whole_with_seed name tx)) where
  pub sealed_within : KeepLimits tx.roots → IsSealedOf topology packages name tx request
  sealed_within limits =
      subst (IsSealedOf topology packages name tx) (sym same) (record {
        sealed = limited_is_sealed topology packages sender command (whole_with_seed name tx) can limits;
        is_of = limited_whole topology packages sender command (whole_with_seed name tx) can limits;
      })

  pub framed_within : KeepLimits tx.roots → tx.roots ≢ NoRoots → SendsBytes request → is_framed topology request ≡ true
  framed_within limits some sends =
      let told = sealed_within limits in
      let roots : (((told.sealed).whole).transaction).roots ≢ NoRoots = subst (λ (whole : Whole). (whole.transaction).roots ≢ NoRoots) (sym told.is_of) some in
      (framed_decides topology request).1
      (sealed_framed topology packages request told.sealed roots sends.mediator
      (λ envelope there. All-contains HasBytes request.envelopes envelope sends.envelopes there))
