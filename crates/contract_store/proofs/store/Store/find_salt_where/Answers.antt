use Rattle.std.proofs.Common.{◌∙◌, sym}
use Rattle.std.specs.Prelude.{◌&&◌}
use Rattle.std.specs.Str.{bytes_eq}
use Rattle.contract_store.specs.KeptRows.{rows_of}
use Rattle.ledger_terms.specs.declared.known.Known.{Known}
use Rattle.contract_store.proofs.Soonest.{find_earliest}
use Rattle.contract_store.proofs.store.Store.find_salt_where.Goals as goal

pub returns : goal.returns
returns g c =
    let p = λ (k : Known). g.T.ContractTest.passes c.args.test.now k && bytes_eq k.salt c.args.salt.now in
    rw (← c.self.view_is) (c.first_with_salt.ensures ∙ sym (find_earliest p (rows_of c.self.inside.rows.items)))
