use Rattle.std.proofs.Common.{◌≡◌, ◌∙◌, [], arith, rules}
use Rattle.std.proofs.lemmas.List.{nil_from_length}
use Rattle.node_inbox.specs.Items.{model_items}
use Rattle.node_inbox.proofs.Taken.{parts_none, taken_all, taken_far, taken_step}
use Rattle.node_inbox.proofs.taking.into_applied.Goals as goal
use Rattle.node_inbox.proofs.taking.into_applied.Goals.{in-None, in-Some+then-place-end}

pub returns-then-end-base : goal.returns-then-end-base
returns-then-end-base c =
    let low = c.if-end-base.true in
    c.new-commits.ensures ∙ parts_none (model_items c.args.items.items) c.args.end (λ k lt. c.into_kept-base.ensures.silent k (omega (arith, lt, low)))

pub items-init : goal.items-init
items-init c =
    let high = c.if-end-base.false in
    let all : c.into_iter-item-iterator.result.rest.items ≡ c.into_kept-base.result.1.items = search rules in (
      all ∙ c.into_kept-base.ensures.kept,
      omega (arith, high),
      c.new-commits.ensures ∙ parts_none (model_items c.args.items.items) c.into_kept-base.result.0 c.into_kept-base.ensures.silent,
    )

pub items-preserved : goal.items-preserved
items-preserved c =
    taken_step c.args.setup.now.topology.params c.args.registry.now _ _ _ _ _ c.in-Some.item _ _ c.requires c.if-place-end.false c.in-Some.ensures.steps.0
    c.in_ok-push_taken.ensures c.items.invariant

pub returns : goal.returns
returns c =
    elim c.match-next.branch [
      | in-None w ↦
          let none : c.items.item-iterator.rest.items ≡ [] = nil_from_length _ (omega (arith, c.items.item-iterator.rest.ok.0, w.in-None.ensures.steps.0)) in
          taken_all _ _ _ _ _ none c.items.invariant
      | in-Some+then-place-end w ↦ taken_far _ _ _ _ _ w.if-place-end.true c.items.invariant
    ]
