use Rattle.std.proofs.Common.{ap, ◌∙◌, arith, option_map}
use Rattle.std.specs.Prelude.{slice_set}
use Rattle.whole_request.specs.Completes.{transaction}
use Rattle.log_judge.specs.RuleUses.{Used, used_after}
use Rattle.log_judge.proofs.Mapped.{mapped_next, mapped_all}
use Rattle.log_judge.proofs.rule_uses.read_each.Goals as goal

pub loop-at-preserved : goal.loop-at-preserved
loop-at-preserved c =
    let f = used_after c.args.request.now (option_map transaction c.args.whole.now) in
    let first = c.args.uses.now in
    let now = c.loop-at.uses in
    let inside = c.loop-at-test.true in
    let end = c.len-at-end.ensures in
    let first_fits = first.ok.0 in
    ap (λ (u : Used). slice_set now.items c.loop-at.at u) c.in_ok-read.ensures
    ∙ mapped_next f first.items now.items c.loop-at.at c.index_mut.result.now c.loop-at.invariant (omega (arith, inside, end, first_fits)) c.index_mut.ensures.value

pub returns : goal.returns
returns c =
    let f = used_after c.args.request.now (option_map transaction c.args.whole.now) in
    let first = c.args.uses.now in
    let out = c.loop-at-test.false in
    let end = c.len-at-end.ensures in
    let first_fits = first.ok.0 in
    c.loop-at.invariant ∙ mapped_all f first.items c.loop-at.at (omega (arith, out, end, first_fits))
