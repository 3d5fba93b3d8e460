use Rattle.std.proofs.Common.{◌∙◌, sym, refl, arith, None, Some}
use Rattle.std.specs.Str.{bytes_eq}
use Rattle.std.proofs.lemmas.Grind.{common_steps}
use Rattle.indexmap.specs.IndexMap.{get}
use Rattle.contract_store.specs.Leads.{row_behind}
use Rattle.contract_store.specs.Rows.{with_created}
use Rattle.contract_store.proofs.Places.{get_some}
use Rattle.contract_store.proofs.RowSteps.{leads_within, row_changed, changed_rows, pushed_rows}
use Rattle.contract_store.proofs.rows.create_row.Goals as goal

pub set_created-requires : goal.set_created-requires
set_created-requires c =
    let w = leads_within c.args.known.id c.args.kept.now.items (λ q. row_behind (get bytes_eq c.args.ids.now q)) c.in-Some.at c.requires.leads.by_id
    (sym c.in-Some.ensures) in
    grind (arith, common_steps)

pub returns-in-Some-clause-leads : goal.returns-in-Some-clause-leads
returns-in-Some-clause-leads c =
    let w = leads_within c.args.known.id c.args.kept.now.items (λ q. row_behind (get bytes_eq c.args.ids.now q)) c.in-Some.at c.requires.leads.by_id
    (sym c.in-Some.ensures) in
    let k = get_some c.args.kept.now.items c.in-Some.at w in
    rw (c.set_created.ensures.row k.0 k.1)
    (row_changed c.args.kept.now.items c.in-Some.at k.0 (with_created c.args.place k.0.row) (λ q. row_behind (get bytes_eq c.args.ids.now q))
    (λ q. get bytes_eq c.args.salts.now q) k.1 refl c.requires.leads)

pub returns-in-Some-clause-rows : goal.returns-in-Some-clause-rows
returns-in-Some-clause-rows c =
    let w = leads_within c.args.known.id c.args.kept.now.items (λ q. row_behind (get bytes_eq c.args.ids.now q)) c.in-Some.at c.requires.leads.by_id
    (sym c.in-Some.ensures) in
    let k = get_some c.args.kept.now.items c.in-Some.at w in
    rw (c.set_created.ensures.row k.0 k.1)
    (changed_rows (with_created c.args.place)
    (record { known = c.args.known; created_at = Some c.args.place; consumed_at = None }) c.args.kept.now.items
    (λ q. row_behind (get bytes_eq c.args.ids.now q)) c.in-Some.at k.0 c.requires.leads.by_id (sym c.in-Some.ensures) k.1)

pub returns-in-None-clause-rows : goal.returns-in-None-clause-rows
returns-in-None-clause-rows c =
    c.push_row.ensures.rows
    ∙ pushed_rows (with_created c.args.place)
    (record { known = c.args.known; created_at = Some c.args.place; consumed_at = None }) c.args.kept.now.items
    (λ q. row_behind (get bytes_eq c.args.ids.now q)) c.requires.leads.by_id (sym c.in-None.ensures)
