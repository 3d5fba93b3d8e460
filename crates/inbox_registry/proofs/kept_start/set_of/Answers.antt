use Rattle.std.proofs.Common.{◌≡◌, List, Some, sym, ap, ◌∙◌, subst}
use Rattle.std.specs.Prelude.{slice_get}
use Rattle.std.specs.List.{list_any}
use Rattle.std.specs.Str.{bytes_eq}
use Rattle.std.proofs.lemmas.Option.{slice_get-get_or}
use Rattle.ledger_model.specs.Terms.{Hash}
use Rattle.inbox_registry.proofs.IdSets.{rising_apart}
use Rattle.inbox_registry.proofs.kept_start.set_of.Goals as goal

pub push_id-requires : goal.push_id-requires
push_id-requires c =
    let at = c.loop-id.id-index in
    let id = c.id-item.result in
    let there : slice_get c.args.ids.now at ≡ Some id =
    subst (λ (xs : List Hash). slice_get xs at ≡ Some id) c.as_slice-id-items.ensures
    (slice_get-get_or c.as_slice-id-items.result.now at id c.loop-id-test.true ∙ ap Some (sym c.id-item.is)) in
    ap (list_any (bytes_eq id)) c.loop-id.invariant ∙ rising_apart c.args.ids.now at id c.requires there
