use Rattle.std.proofs.Common.{◌≡◌, ◌++◌, drop}
use Rattle.ledger_terms.specs.Hosting.{confirms_at}
use Rattle.sealed_form.specs.SealedForm.{confirming_by}
use Rattle.proto_model.proofs.participants.confirming.Given as goal

abbrev pub invariant-loop-p : goal.invariant-loop-p
invariant-loop-p l =
    l.asked ++ confirming_by (confirms_at (l.topology).hosts) (drop l.p-index l.p-items) l.views ≡ confirming_by (confirms_at (l.topology).hosts) l.participants l.views
