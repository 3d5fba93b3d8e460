use Rattle.std.proofs.Common.{◌<◌, ℕ, length, refl, sym, ap, ◌∙◌, subst, arith}
use Rattle.std.specs.Prelude.{option_copied}
use Rattle.canton_model.specs.Inbox.{verdict_in}
use Rattle.canton_model.specs.Timeline.{decision_on}
use Rattle.node_inbox.specs.Items.{model_content}
use Rattle.node_inbox.specs.declared.kept_item.KeptItem.{KeptItem}
use Rattle.node_inbox.proofs.FirstVerdict.{told_end, told_here, told_next}
use Rattle.node_inbox.proofs.decision.decision_among.Goals as goal

pub items-init : goal.items-init
items-init c = (c.requires, refl)

pub items-preserved : goal.items-preserved
items-preserved c =
    let within : c.items.k < length c.args.items.now.items = subst (λ (n : ℕ). c.items.k < n) c.len-end.ensures c.items-test.true in (
      omega (arith, within),
      told_next c.args.request c.args.items.now.items c.items.k c.item-item.result within c.item-item.ensures
          (ap (λ (x : KeptItem). decision_on c.args.request (verdict_in (model_content x.content))) (sym c.item.view_is)
          ∙ sym c.in_default.ensures) ∙ c.items.invariant.1,
    )

pub returns-in-Some : goal.returns-in-Some
returns-in-Some c =
    let within : c.items.k < length c.args.items.now.items = subst (λ (n : ℕ). c.items.k < n) c.len-end.ensures c.items-test.true in
    told_here c.args.request c.args.items.now.items c.items.k c.item-item.result c.in-Some.decision.now within c.item-item.ensures
    (ap (λ (x : KeptItem). decision_on c.args.request (verdict_in (model_content x.content))) (sym c.item.view_is)
    ∙ (sym c.decision_in.ensures ∙ ap option_copied c.in-Some.is)) ∙ c.items.invariant.1

pub returns : goal.returns
returns c =
    let many = c.len-end.ensures in
    let past = c.items-test.false in
    told_end c.args.request c.args.items.now.items c.items.k (omega (arith, many, past)) ∙ c.items.invariant.1
