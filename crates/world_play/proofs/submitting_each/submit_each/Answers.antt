use Rattle.std.proofs.Common.{◌≡◌, ◌<◌, List, length, Some, sym, ap, ◌∙◌, subst, arith}
use Rattle.std.specs.Prelude.{slice_get}
use Rattle.ledger_terms.specs.declared.submission.Submission.{Submission}
use Rattle.world_play.specs.Submitting.{CanSubmit}
use Rattle.world_play.proofs.InOrder.{submitting_ends, submitting_on}
use Rattle.world_play.proofs.Passing.{item_at}
use Rattle.world_play.proofs.Plays.{each_of}
use Rattle.world_play.proofs.submitting_each.submit_each.Goals as goal

pub submit_one-requires-clause-lawful : goal.submit_one-requires-clause-lawful
submit_one-requires-clause-lawful g c =
    let r = c.requires.lawful in
    let h = ((c.submits.invariant).kept).lawful r.0 r.1 r.2 r.3 in
    (r.0, r.1, h.0, h.1)

pub submit_one-requires-clause-within : goal.submit_one-requires-clause-within
submit_one-requires-clause-within g c =
    let k = c.submits.what-index in
    let e = c.what-item.result in
    let at =
    subst (λ (xs : List Submission). slice_get xs k ≡ Some e) c.as_slice-what-items.ensures
    (item_at c.as_slice-what-items.result.now k e c.submits-test.true ∙ ap Some (sym c.what-item.is)) in
    let w = c.requires.within in
    (w.0, w.1, ((c.submits.invariant).kept).set_up w.0 w.1 w.2, each_of (CanSubmit w.0 w.1) c.args.submits.now k e w.3 at)

pub submit_one-requires-clause-there : goal.submit_one-requires-clause-there
submit_one-requires-clause-there g c =
    let k = c.submits.what-index in
    let e = c.what-item.result in
    let at =
    subst (λ (xs : List Submission). slice_get xs k ≡ Some e) c.as_slice-what-items.ensures
    (item_at c.as_slice-what-items.result.now k e c.submits-test.true ∙ ap Some (sym c.what-item.is)) in
    let w = c.requires.within in
    let there =
    each_of (λ (what : Submission). what.participant < length (c.args.world.now.nodes).items) c.args.submits.now k e c.requires.there at in
    let before = (w.2).many in
    let after = (((c.submits.invariant).kept).set_up w.0 w.1 w.2).many in
    omega (arith, there, before, after)

pub submits-preserved : goal.submits-preserved
submits-preserved g c =
    let k = c.submits.what-index in
    let e = c.what-item.result in
    let at =
    subst (λ (xs : List Submission). slice_get xs k ≡ Some e) c.as_slice-what-items.ensures
    (item_at c.as_slice-what-items.result.now k e c.submits-test.true ∙ ap Some (sym c.what-item.is)) in
    let one = c.submit_one.ensures in
    submitting_on c.args.world.now c.args.submits.now c.args.results.now k e at c.submits.world c.submits.results c.submits.invariant c.submit_one.new.world
    (record { on = one.on; now = one.now; lawful = one.lawful; set_up = one.set_up; bases = one.bases; paused = one.paused }) c.in_ok-answer.answer
    c.in_ok-answer.ensures.plain c.in_ok-answer.ensures.answers c.push.new.self c.in_ok-push.ensures.ok

pub returns-clause-answers : goal.returns-clause-answers
returns-clause-answers g c =
    submitting_ends c.args.world.now c.args.submits.now c.args.results.now c.submits.what-index c.submits.world c.submits.results c.submits.invariant
    (let ends = c.submits.auto.what-index-end in let out = c.submits-test.false in let same = c.as_slice-what-items.ensures in
    omega (arith, ends, out, ap length same))

pub returns-in_err-answer-clause-set_up : goal.returns-in_err-answer-clause-set_up
returns-in_err-answer-clause-set_up g c = λ topology packages u.
    c.submit_one.ensures.set_up topology packages (((c.submits.invariant).kept).set_up topology packages u)

pub returns-in_err-answer-clause-bases : goal.returns-in_err-answer-clause-bases
returns-in_err-answer-clause-bases g c = λ bases u.
    c.submit_one.ensures.bases bases (((c.submits.invariant).kept).bases bases u)

pub returns-in_err-answer-clause-paused : goal.returns-in_err-answer-clause-paused
returns-in_err-answer-clause-paused g c = λ paused p.
    c.submit_one.ensures.paused paused (((c.submits.invariant).kept).paused paused p)

pub returns-in_err-push-clause-set_up : goal.returns-in_err-push-clause-set_up
returns-in_err-push-clause-set_up g c = λ topology packages u.
    c.submit_one.ensures.set_up topology packages (((c.submits.invariant).kept).set_up topology packages u)

pub returns-in_err-push-clause-bases : goal.returns-in_err-push-clause-bases
returns-in_err-push-clause-bases g c = λ bases u.
    c.submit_one.ensures.bases bases (((c.submits.invariant).kept).bases bases u)

pub returns-in_err-push-clause-paused : goal.returns-in_err-push-clause-paused
returns-in_err-push-clause-paused g c = λ paused p.
    c.submit_one.ensures.paused paused (((c.submits.invariant).kept).paused paused p)
