use Rattle.std.proofs.Common.{◌≡◌, ◌≤◌, ◌+◌, ◌*◌, drop}
use Rattle.serde_json.specs.Data.{depth, items_depth}
use Rattle.serde_json.specs.View.{view, items_view}
use Rattle.ledger_terms.specs.Syntax.{NoStmts}
use Rattle.ledger_terms.specs.StmtForms.{stmt_list_form}
use Rattle.json_walk.specs.declared.limits.TheConstants.{STATEMENTS}
use Rattle.lang_read.specs.Stmts.{stmts_from}
use Rattle.lang_read.proofs.stmt.+stmt.Given as goal

abbrev pub decreases-read_stmt : goal.decreases-read_stmt
decreases-read_stmt l = 2 * depth (view l.value.now)

abbrev pub decreases-read_when : goal.decreases-read_when
decreases-read_when l = 2 * depth (view l.value.now) + 1

abbrev pub decreases-read_else : goal.decreases-read_else
decreases-read_else l = 2 * depth (view l.value.now)

abbrev pub decreases-read_block : goal.decreases-read_block
decreases-read_block l = 2 * depth (view l.value.now)

abbrev pub decreases-read_stmts : goal.decreases-read_stmts
decreases-read_stmts l = 2 * items_depth (items_view l.items.now.items) + 1

abbrev pub invariant-read_stmts-stmts : goal.invariant-read_stmts-stmts
invariant-read_stmts-stmts l = record {
  walk : stmts_from l.topology.hosts l.at l.i (stmt_list_form l.stmts, l.count) (items_view (drop l.i l.items.items)) ≡ stmts_from l.topology.hosts l.at 0 (NoStmts, l.before) (items_view l.items.items);
  within : l.count ≤ STATEMENTS.most;
}
