use Rattle.std.proofs.Common.{map, ap, subst, sym, ◌∙◌, arith}
use Rattle.node_state.specs.declared.item.Item.{Item as RawItem}
use Rattle.std.specs.Prelude.{List}
use Rattle.node_inbox.specs.Items.{model_items}
use Rattle.node_inbox.specs.Raw.{AreCame, item_by}
use Rattle.node_inbox.proofs.Put.{as_many}
use Rattle.node_inbox.proofs.Raws.{raw_are, raw_came}
use Rattle.node_inbox.proofs.inbox.Inbox.items.Goals as goal

pub raw_items-requires : goal.raw_items-requires
raw_items-requires c =
    let i = c.self.inside in
    let within = c.self.invariant.5.within in
    let many = as_many i.items.items in
    omega (arith, within, many)

pub returns-clause-items : goal.returns-clause-items
returns-clause-items c =
    let i = c.self.inside in
    let topology = i.setup.now.topology in
    let is = c.in_ok-items.ensures in
    rw (← c.self.view_is)
    (ap (map (item_by topology)) is
    ∙ raw_are topology i.setup.now.checked i.me i.registry.start i.items.items c.self.invariant.0.each i.base)

pub returns-clause-came : goal.returns-clause-came
returns-clause-came c =
    let i = c.self.inside in
    let topology = i.setup.now.topology in
    let packages = i.setup.now.checked in
    let is = c.in_ok-items.ensures in
    rw (← c.self.view_is)
    (subst (λ (raw : List RawItem). AreCame topology packages i.me i.base (model_items i.items.items) raw) (sym is)
    (raw_came topology packages i.me i.registry.start i.items.items c.self.invariant.0.each i.base))
