use Rattle.std.proofs.Common.{◌≡◌, drop}
use Rattle.serde_json.specs.View.{items_view}
use Rattle.ledger_terms.specs.Syntax.{NoExprs}
use Rattle.ledger_terms.specs.ExprForms.{list_form}
use Rattle.lang_read.specs.Exprs.{operands_from}
use Rattle.lang_read.proofs.expr.+expr.Given as goal

abbrev pub invariant-read_operands-operands : goal.invariant-read_operands-operands
invariant-read_operands-operands l =
    operands_from l.topology.hosts l.at l.depth l.i (list_form l.operands) (items_view (drop l.i l.items.items)) ≡ operands_from l.topology.hosts l.at l.depth 1 NoExprs (items_view (drop 1 l.items.items))
