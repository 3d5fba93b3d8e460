use Rattle.std.proofs.Common.{◌≡◌, ◌+◌, ◌<◌, ℕ, true, false, is_some, length, refl, ◌∙◌, subst, arith}
use Rattle.std.specs.Prelude.{nat_lt}
use Rattle.canton_model.specs.Inbox.{verdict_in}
use Rattle.canton_model.specs.Timeline.{decision_on}
use Rattle.node_inbox.specs.Items.{model_content}
use Rattle.node_inbox.specs.declared.kept_item.KeptItem.{KeptItem}
use Rattle.node_inbox.proofs.DecidedSince.{heard_here, late_here, never, next_here}
use Rattle.node_inbox.proofs.decided_since.decided_among.Goals as goal

pub items-init : goal.items-init
items-init c = (c.requires, refl)

pub items-preserved : goal.items-preserved
items-preserved c =
    let within : c.items.k < length c.args.items.now.items = subst (λ (n : ℕ). c.items.k < n) c.len-end.ensures c.items-test.true in
    let decision = c.args.time + c.args.params.now.response_timeout + c.args.params.now.reaction_timeout in (
      omega (arith, within),
      next_here decision c.args.place c.args.items.now.items c.items.k c.items.k _ c.items.invariant.1 c.item-item.result within c.item-item.ensures
          (subst (λ (x : KeptItem). false ≡ nat_lt decision x.time) c.item.view_is c.if-is_later.ensures)
          (subst (λ (x : KeptItem). false ≡ is_some (decision_on c.args.place (verdict_in (model_content x.content)))) c.item.view_is c.if-is_verdict_on.ensures),
    )

pub returns-then-is_later : goal.returns-then-is_later
returns-then-is_later c =
    let within : c.items.k < length c.args.items.now.items = subst (λ (n : ℕ). c.items.k < n) c.len-end.ensures c.items-test.true in
    let decision = c.args.time + c.args.params.now.response_timeout + c.args.params.now.reaction_timeout in
    late_here decision c.args.place c.args.items.now.items c.items.k c.items.k _ c.items.invariant.1 c.item-item.result within c.item-item.ensures
    (subst (λ (x : KeptItem). true ≡ nat_lt decision x.time) c.item.view_is c.if-is_later.ensures)

pub returns-then-is_verdict_on : goal.returns-then-is_verdict_on
returns-then-is_verdict_on c =
    let within : c.items.k < length c.args.items.now.items = subst (λ (n : ℕ). c.items.k < n) c.len-end.ensures c.items-test.true in
    let decision = c.args.time + c.args.params.now.response_timeout + c.args.params.now.reaction_timeout in
    heard_here decision c.args.place c.args.items.now.items c.items.k c.items.k _ c.items.invariant.1 c.item-item.result within c.item-item.ensures
    (subst (λ (x : KeptItem). false ≡ nat_lt decision x.time) c.item.view_is c.if-is_later.ensures)
    (subst (λ (x : KeptItem). true ≡ is_some (decision_on c.args.place (verdict_in (model_content x.content)))) c.item.view_is c.if-is_verdict_on.ensures)

pub returns : goal.returns
returns c =
    let many = c.len-end.ensures in
    let low = c.items.invariant.0 in
    let past = c.items-test.false in
    let end : c.len-end.result ≡ c.items.k = omega (arith, many, low, past) in
    end
    ∙ never (c.args.time + c.args.params.now.response_timeout + c.args.params.now.reaction_timeout) c.args.place c.args.items.now.items c.items.k c.items.k _
    c.items.invariant.1 (omega (arith, many, past))
