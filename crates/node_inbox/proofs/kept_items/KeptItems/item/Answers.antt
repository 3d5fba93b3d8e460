use Rattle.std.proofs.Common.{◌<◌, ◌≤◌, ◌-◌, length, arith}
use Rattle.node_inbox.proofs.KeptItems.{kept_item, kept_length, silent_item}
use Rattle.node_inbox.proofs.kept_items.KeptItems.item.Goals as goal

pub returns-then-place-self : goal.returns-then-place-self
returns-then-place-self c =
    let s = c.self.inside in
    rw (← c.self.view_is) (silent_item s.base s.base_time c.args.place s.items.items s.silent c.self.invariant.2 c.if-place-self.true)

pub index-item-requires : goal.index-item-requires
index-item-requires c =
    let s = c.self.inside in
    let past = c.if-place-self.false in
    let all = kept_length s.base s.base_time s.items.items in
    let within = rw (← c.self.view_is) at c.requires in
    let kept = s.items.ok.0 in
    omega (arith, past, all, within, kept)

pub returns : goal.returns
returns c =
    let s = c.self.inside in
    let past = c.if-place-self.false in
    let all = kept_length s.base s.base_time s.items.items in
    let within = rw (← c.self.view_is) at c.requires in
    let low : s.base ≤ c.args.place = omega (arith, past) in
    let far : c.args.place - s.base < length s.items.items = omega (arith, past, all, within) in
    rw (← c.self.view_is) (kept_item s.base s.base_time c.args.place s.items.items c.index-item.result.now low far c.index-item.ensures)
