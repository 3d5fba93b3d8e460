use Rattle.std.proofs.Common.{◌≡◌, ◌<◌, [], List, length, get_or, map, sym, ap, ◌∙◌, subst, arith}
use Rattle.std.proofs.lemmas.List.{take_all}
use Rattle.ledger_terms.specs.declared.active_row.ActiveRow.{ActiveRow}
use Rattle.contract_store.specs.Rows.{created}
use Rattle.contract_store.specs.Written.{written}
use Rattle.inbox_registry.specs.Changes.{creation_of}
use Rattle.pruned_inbox.specs.Start.{Start}
use Rattle.std.specs.Prelude.{take}
use Rattle.node_inbox.proofs.Created.{created_more}
use Rattle.node_inbox.proofs.beginning.write_start.Goals as goal

pub start_row-requires : goal.start_row-requires
start_row-requires c =
    let count = c.start_len-count.ensures in
    let inside = c.rows-test.true in
    subst (λ (start : Start). c.rows.at < length start.active) (sym c.rows.invariant.start) (omega (arith, inside, count))

pub write_created-requires-clause-written : goal.write_created-requires-clause-written
write_created-requires-clause-written c = (map creation_of (take c.rows.at c.args.registry.now.start.active), c.rows.invariant.rows)

pub rows-preserved : goal.rows-preserved
rows-preserved c =
    let inv = c.rows.invariant in
    let wrote = c.in_ok-write_created.ensures in
    let row = c.in_ok-row.row in
    let active = c.args.registry.now.start.active in
    let count = c.start_len-count.ensures in
    let inside = c.rows-test.true in
    record {
      told = wrote.told;
      rows = wrote.rows ∙ (ap (created row.known row.created_at) inv.rows
          ∙ sym (created_more active c.rows.at row (omega (arith, inside, count))
          (subst (λ (start : Start). row ≡ get_or start.active c.rows.at row) inv.start c.in_ok-row.ensures)));
      holds = wrote.holds ∙ inv.holds;
      tracking = wrote.tracking ∙ inv.tracking;
      start = wrote.start ∙ inv.start;
    }

pub returns-clause-rows : goal.returns-clause-rows
returns-clause-rows c =
    let active = c.args.registry.now.start.active in
    let count = c.start_len-count.ensures in
    let past = c.rows-test.false in
    c.rows.invariant.rows ∙ ap (λ (rows : List ActiveRow). written (map creation_of rows) []) (take_all c.rows.at active (omega (arith, past, count)))
