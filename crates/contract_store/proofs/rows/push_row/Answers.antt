use Rattle.std.proofs.Common.{◌≡◌, ◌++◌, ◌∷◌, [], length, arith}
use Rattle.std.specs.Str.{bytes_eq}
use Rattle.std.proofs.lemmas.Grind.{common_steps}
use Rattle.indexmap.specs.IndexMap.{get}
use Rattle.contract_store.specs.Leads.{row_behind}
use Rattle.contract_store.specs.declared.row.KeptRow.{KeptRow}
use Rattle.contract_store.proofs.RowSteps.{row_pushed}
use Rattle.contract_store.proofs.rows.push_row.Goals as goal

pub returns-clause-leads : goal.returns-clause-leads
returns-clause-leads c =
    let k : KeptRow = record { row = c.args.row; before = c.put_salt-before.result } in
    let pushed : c.push.new.self.items ≡ c.args.kept.now.items ++ k ∷ [] = rw c.unwrap.ensures at c.push.ensures.items in
    let at : c.len-at.result ≡ length c.args.kept.now.items = grind (arith, common_steps) in
    rw pushed
    (row_pushed c.args.kept.now.items k (λ q. row_behind (get bytes_eq c.args.ids.now q)) _
    (λ q. get bytes_eq c.args.salts.now q) _ c.requires.leads c.requires.absent c.put_salt-before.ensures.before
    (rw at at c.put_row.ensures.rows)
    (rw at at c.put_salt-before.ensures.rows))
