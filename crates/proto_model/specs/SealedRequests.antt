-- Requests that are sealed and tell a transaction.
use Rattle.std.specs.Prelude.{◌≡◌, List, ℕ}
use Rattle.ledger_terms.specs.declared.topology.Topology.{Topology}
use Rattle.ledger_terms.specs.declared.tx.Tx.{Tx}
use Rattle.canton_model.specs.declared.request.Request.{Request}
use Rattle.lang_eval.specs.Found.{Packages}
use Rattle.sealed_form.specs.SealedForm.{IsSealedForm}
use Rattle.sealed_form.specs.Submission.{whole_with_seed}

-- The request was made by the rules, as participants make theirs, of this transaction of a sender of this name.
pub record IsSealedOf (topology : Topology) (packages : Packages) (name : List ℕ) (tx : Tx) (request : Request) : Type 0 where
  pub sealed : IsSealedForm topology packages request
  pub is_of : sealed.whole ≡ whole_with_seed name tx
