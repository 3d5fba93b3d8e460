use Rattle.std.proofs.Common.{◌<◌, ◌≤◌, ◌^◌, ◌∷◌, ◌++◌, [], append-nil, length, map, take, List, refl, sym, ap, ◌∙◌, subst, arith}
use Rattle.std.proofs.lemmas.List.{length-append, length-map, take_all}
use Rattle.std.proofs.lemmas.Option.{slice_get_read}
use Rattle.canton_model.specs.Inbox.{Item, last_time}
use Rattle.node_state.specs.declared.item.Item.{Item as StateItem}
use Rattle.node_inbox.specs.Raw.{IsCame, item_by}
use Rattle.world_model.specs.Node.{with_items}
use Rattle.world_model.proofs.Steps.{length_take}
use Rattle.node_core.specs.Participant.{Participant, items_of, with_state}
use Rattle.node_core.proofs.Beginnings.{put_next}
use Rattle.node_core.proofs.node.Node.put_all.Goals as goal

pub loop-item-init : goal.loop-item-init
loop-item-init c =
    let p = c.args.self.now in
    sym (ap (λ (items : List Item). with_state p (with_items p.state items)) (append-nil (items_of p)))

pub put-requires-clause-few : goal.put-requires-clause-few
put-requires-clause-few c =
    let p = c.args.self.now in
    let items = c.args.items.now in
    let k = c.loop-item.item-index in
    let came = map (item_by p.topology) (take k items) in
    let all = c.requires.few in
    let within = c.loop-item-test.true in
    let shorter : k ≤ length items = omega (arith, within) in
    let long = length-append (items_of p) came in
    let part = length-map (take k items) (item_by p.topology) in
    let front = length_take k items shorter in
    let few : length (items_of p ++ came) < 2 ^ 63 = omega (arith, all, within, long, part, front) in
    subst (λ (q : Participant). length (items_of q) < 2 ^ 63) (sym c.loop-item.invariant) few

pub put-requires-clause-rises : goal.put-requires-clause-rises
put-requires-clause-rises c =
    let p = c.args.self.now in
    let items = c.args.items.now in
    let k = c.loop-item.item-index in
    let item = c.item-item.result in
    let there = slice_get_read items (length items) k item refl c.loop-item-test.true c.item-item.is in
    subst (λ (q : Participant). last_time (items_of q) < (c.in_ok-copy.copy).time) (sym c.loop-item.invariant)
    (subst (λ (x : StateItem). last_time (items_of p ++ map (item_by p.topology) (take k items)) < x.time) (sym c.in_ok-copy.ensures)
    (c.requires.rises k item there))

pub put-requires-clause-came : goal.put-requires-clause-came
put-requires-clause-came c =
    let p = c.args.self.now in
    let items = c.args.items.now in
    let k = c.loop-item.item-index in
    let item = c.item-item.result in
    let there = slice_get_read items (length items) k item refl c.loop-item-test.true c.item-item.is in
    subst (λ (q : Participant). IsCame q.topology q.packages q.me (items_of q) (c.in_ok-copy.copy).what) (sym c.loop-item.invariant)
    (subst (λ (x : StateItem). IsCame p.topology p.packages p.me (items_of p ++ map (item_by p.topology) (take k items)) x.what) (sym c.in_ok-copy.ensures)
    (c.requires.came k item there))

pub loop-item-preserved : goal.loop-item-preserved
loop-item-preserved c =
    let p = c.args.self.now in
    let items = c.args.items.now in
    let k = c.loop-item.item-index in
    let item = c.item-item.result in
    let copy = c.in_ok-copy.copy in
    let there = slice_get_read items (length items) k item refl c.loop-item-test.true c.item-item.is in
    c.in_ok-put.ensures
    ∙ (ap (λ (q : Participant). with_state q (with_items q.state (items_of q ++ item_by q.topology copy ∷ []))) c.loop-item.invariant
    ∙ (ap (λ (x : StateItem). with_state p (with_items p.state ((items_of p ++ map (item_by p.topology) (take k items)) ++ item_by p.topology x ∷ [])))
    c.in_ok-copy.ensures
    ∙ ap (λ (xs : List Item). with_state p (with_items p.state xs)) (put_next p.topology (items_of p) items k item there)))

pub returns : goal.returns
returns c =
    let p = c.args.self.now in
    let items = c.args.items.now in
    let all = take_all c.loop-item.item-index items c.loop-item-test.false in
    c.loop-item.invariant ∙ ap (λ (xs : List StateItem). with_state p (with_items p.state (items_of p ++ map (item_by p.topology) xs))) all
