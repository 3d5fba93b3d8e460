use Rattle.std.proofs.Common.{◌≡◌, drop}
use Rattle.serde_json.specs.View.{items_view}
use Rattle.ledger_terms.specs.Syntax.{NoExprs}
use Rattle.ledger_terms.specs.ExprForms.{list_form}
use Rattle.json_walk.specs.Walk.{walk_items}
use Rattle.lang_read.specs.Exprs.{expr_step}
use Rattle.lang_read.proofs.expr_members.read_exprs.Given as goal

abbrev pub invariant-items : goal.invariant-items
invariant-items l =
    walk_items (expr_step l.topology.hosts l.at) l.i (list_form l.exprs) (items_view (drop l.i l.items)) ≡ walk_items (expr_step l.topology.hosts l.at) 0 NoExprs (items_view l.items)
