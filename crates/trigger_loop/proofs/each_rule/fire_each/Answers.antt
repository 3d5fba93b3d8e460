use Rattle.std.proofs.Common.{◌≡◌, ◌+◌, ℕ, List, Some, length, sym, ap, ◌∙◌, subst, arith}
use Rattle.std.specs.Prelude.{slice_get}
use Rattle.std.proofs.lemmas.Option.{slice_get-get_or}
use Rattle.ledger_terms.specs.declared.active_row.ActiveRow.{ActiveRow}
use Rattle.trigger_rules.specs.declared.caused.Caused.{Caused}
use Rattle.trigger_rules.specs.declared.rule.Rule.{Rule}
use Rattle.trigger_rules.specs.Firing.{Fires}
use Rattle.trigger_rules.specs.Kept.{fired_by}
use Rattle.trigger_model.specs.CausedRun.{AreAskedSo}
use Rattle.trigger_loop.proofs.Looping.{AreAskedTo, next_asked}
use Rattle.trigger_loop.proofs.each_rule.fire_each.Goals as goal

pub rules-preserved : goal.rules-preserved
rules-preserved g c =
    let i = c.rules.invariant in
    let f = c.in_ok-more.ensures in
    let rule = c.index-as_slice-at.result in
    let all : c.as_slice-in-rules.result.now ≡ c.args.rules.now.rules = c.as_slice-in-rules.ensures ∙ i.0 in
    let there : slice_get c.args.rules.now.rules c.rules.at ≡ Some rule =
    subst (λ (xs : List Rule). slice_get xs c.rules.at ≡ Some rule) all
    (slice_get-get_or c.as_slice-in-rules.result.now c.rules.at rule (search (arith, c.rules-test.true, c.as_slice.ensures, c.as_slice-in-rules.ensures, i)) ∙ ap Some (sym c.index-as_slice-at.is)) in
    let there' : slice_get c.rules.rules.rules c.rules.at ≡ Some rule = ap (λ (xs : List Rule). slice_get xs c.rules.at) i.0 ∙ there in
    let fires = f.fires rule there' in
    let fires' : Fires (g.F.Answering.may_answer c.args.rules.now.answer) rule c.args.round c.args.now (fired_by c.rules.rules c.rules.at)
    (g.P.Participants.rows c.args.participants.now rule.participant) c.in_ok-more.more =
    subst (λ (rows : List ActiveRow). Fires (g.F.Answering.may_answer c.args.rules.now.answer) rule c.args.round c.args.now (fired_by c.rules.rules c.rules.at) rows c.in_ok-more.more)
    (c.in_ok-rows.ensures ∙ ap (λ (r : Rule). g.P.Participants.rows c.args.participants.now r.participant) (sym c.index-as_slice-at.is))
    (subst (λ (a : g.row.F.Denot). Fires (g.F.Answering.may_answer a) rule c.args.round c.args.now (fired_by c.rules.rules c.rules.at) c.in_ok-rows.rows c.in_ok-more.more) i.1 fires) in (
      f.rules.0 ∙ i.0,
      f.rules.1 ∙ i.1,
      subst
          (λ (xs : List Caused).
          AreAskedTo (g.F.Answering.may_answer c.args.rules.now.answer) (g.P.Participants.rows c.args.participants.now) c.args.round c.args.now c.args.rules.now.rules
          (fired_by c.args.rules.now) (fired_by c.fire.new.self) (c.rules.at + 1) xs)
          (sym c.in_ok-append.ensures)
          (next_asked (g.F.Answering.may_answer c.args.rules.now.answer) (g.P.Participants.rows c.args.participants.now) c.args.round c.args.now c.args.rules.now.rules
          (fired_by c.args.rules.now) (fired_by c.rules.rules) (fired_by c.fire.new.self) c.rules.at c.rules.caused c.in_ok-more.more rule i.2 there fires' f.fired f.others),
    )

pub returns-clause-asked : goal.returns-clause-asked
returns-clause-asked g c reading params log fired earlier number now named sees so =
    let i = c.rules.invariant in
    let e = ap length c.as_slice.ensures in
    let all : c.rules.at ≡ length c.args.rules.now.rules = omega (arith, c.rules-test.false, c.rules.auto.at-end, e) in
    subst (λ (n : ℕ). AreAskedSo (g.F.Answering.may_answer c.args.rules.now.answer) reading params log fired earlier c.args.rules.now.rules (fired_by c.rules.rules) n c.rules.caused)
    all ((i.2).asked reading params log fired earlier number now named sees so)
