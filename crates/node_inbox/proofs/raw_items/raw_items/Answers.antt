use Rattle.std.proofs.Common.{◌+◌, ◌<◌, ◌++◌, ℕ, List, drop, length, ap, ◌∙◌, subst, arith}
use Rattle.node_state.specs.declared.item.Item.{Item as RawItem}
use Rattle.node_inbox.specs.Raw.{raw_item, raw_items}
use Rattle.node_inbox.proofs.Raws.{drop_map, raw_end, raw_next}
use Rattle.node_inbox.proofs.raw_items.raw_items.Goals as goal

pub places-init : goal.places-init
places-init c = (c.requires, ap (λ (raw : List RawItem). raw ++ raw_items (drop c.args.from c.args.items.now.items)) c.new-raw.ensures)

pub places-preserved : goal.places-preserved
places-preserved c =
    let within : c.places.place < length c.args.items.now.items = subst (λ (n : ℕ). c.places.place < n) c.len-end.ensures c.places-test.true in (
      omega (arith, within),
      raw_next c.args.items.now.items c.places.place c.item.result c.places.raw c.push_raw.new.raw within c.item.ensures c.in_ok-push_raw.ensures
          ∙ c.places.invariant.1,
    )

pub returns : goal.returns
returns c =
    let many = c.len-end.ensures in
    let past = c.places-test.false in
    raw_end c.args.items.now.items c.places.place c.places.raw (omega (arith, many, past))
    ∙ (c.places.invariant.1 ∙ drop_map raw_item c.args.from c.args.items.now.items)
