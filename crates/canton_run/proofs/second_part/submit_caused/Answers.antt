use Rattle.std.proofs.Common.{◌≡◌, ◌<◌, List, length, Some, sym, ap, ◌∙◌, subst, arith}
use Rattle.std.specs.Prelude.{slice_get}
use Rattle.std.proofs.lemmas.List.{length-map}
use Rattle.ledger_terms.specs.declared.submission.Submission.{Submission}
use Rattle.trigger_model.specs.CausedRequests.{submissions_in}
use Rattle.trigger_rules.specs.declared.caused.Caused.{Caused}
use Rattle.world_play.specs.Submitting.{CanSubmit}
use Rattle.world_play.proofs.InOrder.{submitting_ends, submitting_on}
use Rattle.world_play.proofs.Passing.{item_at}
use Rattle.world_play.proofs.Plays.{each_of}
use Rattle.canton_run.proofs.Mapped.{submission_at}
use Rattle.canton_run.proofs.second_part.submit_caused.Goals as goal

pub submit_one-requires-clause-lawful : goal.submit_one-requires-clause-lawful
submit_one-requires-clause-lawful g c =
    let r = c.requires.lawful in
    let h = ((c.caused.invariant).kept).lawful r.0 r.1 r.2 r.3 in
    (r.0, r.1, h.0, h.1)

pub submit_one-requires-clause-within : goal.submit_one-requires-clause-within
submit_one-requires-clause-within g c =
    let k = c.caused.one-index in
    let e = c.one-item.result in
    let at =
    subst (λ (xs : List Caused). slice_get xs k ≡ Some e) c.as_slice-one-items.ensures
    (item_at c.as_slice-one-items.result.now k e c.caused-test.true ∙ ap Some (sym c.one-item.is)) in
    let w = c.requires.within in (
      w.0,
      w.1,
      ((c.caused.invariant).kept).set_up w.0 w.1 w.2,
      each_of (CanSubmit w.0 w.1) (submissions_in c.args.caused.now) k e.submission w.3 (submission_at c.args.caused.now k e at),
    )

pub submit_one-requires-clause-there : goal.submit_one-requires-clause-there
submit_one-requires-clause-there g c =
    let k = c.caused.one-index in
    let e = c.one-item.result in
    let at =
    subst (λ (xs : List Caused). slice_get xs k ≡ Some e) c.as_slice-one-items.ensures
    (item_at c.as_slice-one-items.result.now k e c.caused-test.true ∙ ap Some (sym c.one-item.is)) in
    let w = c.requires.within in
    let there =
    each_of (λ (what : Submission). what.participant < length (c.args.world.now.nodes).items) (submissions_in c.args.caused.now) k e.submission
    c.requires.there (submission_at c.args.caused.now k e at) in
    let before = (w.2).many in
    let after = (((c.caused.invariant).kept).set_up w.0 w.1 w.2).many in
    omega (arith, there, before, after)

pub submit_one-requires-clause-paused : goal.submit_one-requires-clause-paused
submit_one-requires-clause-paused g c =
    let r = c.requires.paused in (r.0, ((c.caused.invariant).kept).paused r.0 r.1)

pub caused-preserved : goal.caused-preserved
caused-preserved g c =
    let k = c.caused.one-index in
    let e = c.one-item.result in
    let at =
    subst (λ (xs : List Caused). slice_get xs k ≡ Some e) c.as_slice-one-items.ensures
    (item_at c.as_slice-one-items.result.now k e c.caused-test.true ∙ ap Some (sym c.one-item.is)) in
    let one = c.submit_one.ensures in
    submitting_on c.args.world.now (submissions_in c.args.caused.now) c.args.results.now k e.submission (submission_at c.args.caused.now k e at)
    c.caused.world c.caused.results c.caused.invariant c.submit_one.new.world
    (record { on = one.on; now = one.now; lawful = one.lawful; set_up = one.set_up; bases = one.bases; paused = one.paused }) c.in_ok-answer.answer
    (c.in_ok-answer.ensures.answers).0 (c.in_ok-answer.ensures.answers).1 c.push.new.self c.in_ok-push.ensures.ok

pub returns-clause-answers : goal.returns-clause-answers
returns-clause-answers g c =
    submitting_ends c.args.world.now (submissions_in c.args.caused.now) c.args.results.now c.caused.one-index c.caused.world c.caused.results
    c.caused.invariant
    (let ends = c.caused.auto.one-index-end in let out = c.caused-test.false in let same = c.as_slice-one-items.ensures in
    let many = length-map c.args.caused.now (λ (x : Caused). x.submission) in omega (arith, ends, out, ap length same, many))
