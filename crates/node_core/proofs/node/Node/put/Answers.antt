use Rattle.std.proofs.Common.{◌≡◌, ◌<◌, ◌^◌, ◌∷◌, ◌++◌, [], true, false, length, sym, ap, ◌∙◌, subst}
use Rattle.canton_model.specs.Inbox.{last_time}
use Rattle.world_model.specs.Node.{with_items}
use Rattle.node_inbox.specs.Raw.{IsCame, item_by}
use Rattle.node_core.specs.Duties.{state_of}
use Rattle.node_core.specs.Participant.{Participant, items_of, with_state}
use Rattle.node_core.proofs.Beginnings.{put_is}
use Rattle.node_core.proofs.NextItem.{belong_if_not, belong_if_owed, owed_before}
use Rattle.node_core.proofs.ReadSteps.{participant_of}
use Rattle.node_core.proofs.node.Node.put.Goals as goal

pub put-requires-clause-few : goal.put-requires-clause-few
put-requires-clause-few c = subst (λ (p : Participant). length (items_of p) < 2 ^ 63) (sym c.self.view_is) c.requires.few

pub put-requires-clause-rises : goal.put-requires-clause-rises
put-requires-clause-rises c = subst (λ (p : Participant). last_time (items_of p) < (c.args.item).time) (sym c.self.view_is) c.requires.rises

pub put-requires-clause-came : goal.put-requires-clause-came
put-requires-clause-came c =
    subst (λ (p : Participant). IsCame p.topology p.packages p.me (items_of p) (c.args.item).what) (sym c.self.view_is) c.requires.came

pub owe-requires-clause-last : goal.owe-requires-clause-last
owe-requires-clause-last c =
    let i = c.self.inside.inbox in
    let kept = c.self.inside.duties in
    owed_before i kept c.self.invariant c.reserve.new.self c.reserve.ensures.same c.cursor-place.result c.cursor-place.ensures

pub invariant_of-self-then-owes : goal.invariant_of-self-then-owes
invariant_of-self-then-owes c =
    let i = c.self.inside.inbox in
    let kept = c.self.inside.duties in
    belong_if_owed i kept c.self.invariant c.reserve.new.self c.reserve.ensures.same c.cursor-place.result c.cursor-place.ensures
    (item_by i.topology c.args.item) c.put.new.self c.in_ok-put.ensures.ok (sym c.owes.ensures ∙ c.if-owes.true) c.owe.new.self c.owe.ensures

pub invariant_of-self-else-owes : goal.invariant_of-self-else-owes
invariant_of-self-else-owes c =
    let i = c.self.inside.inbox in
    let kept = c.self.inside.duties in
    belong_if_not i kept c.self.invariant c.reserve.new.self c.reserve.ensures.same c.cursor-place.result c.cursor-place.ensures
    (item_by i.topology c.args.item) c.put.new.self c.in_ok-put.ensures.ok (sym c.owes.ensures ∙ c.if-owes.false)

pub returns-then-owes : goal.returns-then-owes
returns-then-owes c =
    let paused = c.self.inside.is_paused in
    subst (λ (p : Participant). participant_of c.put.new.self paused c.owe.new.self
    ≡ with_state p (with_items p.state (items_of p ++ item_by p.topology c.args.item ∷ []))) c.self.view_is
    (put_is c.self.inside.inbox paused c.self.inside.duties (item_by c.self.inside.inbox.topology c.args.item) c.put.new.self c.owe.new.self c.in_ok-put.ensures.ok
    (λ items. ap (state_of items paused) c.owe.ensures ∙ ap (state_of items paused) c.reserve.ensures.same))

pub returns-else-owes : goal.returns-else-owes
returns-else-owes c =
    let paused = c.self.inside.is_paused in
    subst (λ (p : Participant). participant_of c.put.new.self paused c.reserve.new.self
    ≡ with_state p (with_items p.state (items_of p ++ item_by p.topology c.args.item ∷ []))) c.self.view_is
    (put_is c.self.inside.inbox paused c.self.inside.duties (item_by c.self.inside.inbox.topology c.args.item) c.put.new.self c.reserve.new.self
    c.in_ok-put.ensures.ok (λ items. ap (state_of items paused) c.reserve.ensures.same))
