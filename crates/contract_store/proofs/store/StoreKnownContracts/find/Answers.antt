use Rattle.std.proofs.Common.{◌∙◌, ap, sym}
use Rattle.std.specs.Prelude.{option_map, option_and_then}
use Rattle.std.specs.Str.{bytes_eq}
use Rattle.contract_store.specs.KeptRows.{rows_of}
use Rattle.contract_store.specs.Active.{active}
use Rattle.ledger_terms.specs.declared.active_row.ActiveRow.{ActiveRow}
use Rattle.ledger_terms.specs.declared.known.Known.{Known}
use Rattle.contract_store.proofs.Maps.{same_bytes}
use Rattle.contract_store.proofs.Soonest.{find_earliest, earliest_of}
use Rattle.contract_store.proofs.store.StoreKnownContracts.find.Goals as goal

pub returns-in-Some : goal.returns-in-Some
returns-in-Some c =
    let p = λ (k : Known). bytes_eq k.id c.args.id.now in
    let rows = rows_of c.self.inside.rows.items in
    rw (← c.self.view_is)
    (c.known_if_active.ensures
    ∙ ap (λ o. option_map (λ (a : ActiveRow). a.known) (option_and_then active o)) c.in-Some.ensures
    ∙ sym (find_earliest p rows
    ∙ ap (option_map (λ (a : ActiveRow). a.known)) (earliest_of same_bytes c.args.id.now rows c.self.invariant.0.to_rows.one_each)))

pub returns-in-None : goal.returns-in-None
returns-in-None c =
    let p = λ (k : Known). bytes_eq k.id c.args.id.now in
    let rows = rows_of c.self.inside.rows.items in
    rw (← c.self.view_is)
    (ap (λ o. option_map (λ (a : ActiveRow). a.known) (option_and_then active o)) c.in-None.ensures
    ∙ sym (find_earliest p rows
    ∙ ap (option_map (λ (a : ActiveRow). a.known)) (earliest_of same_bytes c.args.id.now rows c.self.invariant.0.to_rows.one_each)))
