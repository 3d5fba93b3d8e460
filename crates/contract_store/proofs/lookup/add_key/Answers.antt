use Rattle.std.proofs.Common.{◌≡◌, ◌∙◌, ap, arith, unwrap_or}
use Rattle.std.specs.Str.{bytes_eq}
use Rattle.std.proofs.lemmas.Grind.{common_steps}
use Rattle.indexmap.specs.IndexMap.{get}
use Rattle.indexmap.specs.Entry.{map_with_value}
use Rattle.contract_store.proofs.Growing.{nothing, grows_key}
use Rattle.contract_store.proofs.lookup.add_key.Goals as goal

pub returns-clause-grows : goal.returns-clause-grows
returns-clause-grows c =
    let e = c.in_ok-ids.field-0 in
    let v = c.or_insert.result.now in
    let is : v ≡ unwrap_or (get bytes_eq c.args.ids.now c.args.key) nothing =
    c.or_insert.ensures.value ∙ ap (λ o. unwrap_or o nothing) c.in_ok-ids.ensures.value in
    let g = grows_key c.args.key v (λ q. get bytes_eq c.args.ids.now q) (λ q. get bytes_eq (map_with_value e v) q) is (c.in_ok-ids.ensures.update.0 v).0 in
    record {
      by_row = λ q. grind (arith, common_steps, g.by_row q);
      by_hold = λ q. grind (arith, common_steps, g.by_hold q);
      kept = λ q h. grind (arith, common_steps, g.kept q h);
    }
