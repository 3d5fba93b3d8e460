use Rattle.std.proofs.Common.{◌≡◌, ◌+◌, ◌++◌, ◌∷◌, drop, string_bytes, arith, sym}
use Rattle.std.proofs.lemmas.Grind.{common_steps}
use Rattle.report_text.specs.Results.{result_line, submitted_in}
use Rattle.report_text.proofs.Zipped.{drop-item, next_pair, no_pair}
use Rattle.report_text.proofs.results.put_submits.Goals as goal
use Rattle.report_text.proofs.results.put_submits.Goals.{in-Some+in_ok-put_result, in_default}

pub submissions-preserved : goal.submissions-preserved
submissions-preserved c =
    let s = c.submission-item.result in
    let head = drop-item _ c.args.submissions.now c.submissions.at s c.as_slice-submission-items.ensures c.submissions-test.true c.submission-item.is in
    let sofar = rw head at c.submissions.invariant in
    let others = drop (c.submissions.at + 1) c.args.submissions.now in
    let answers = c.args.answers.now in
    let done = string_bytes c.submissions.out in
    elim c.match-answer_at.branch [
      | in-Some+in_ok-put_result w ↦
          let pushed : string_bytes w.put_result.new.out
          ≡ string_bytes c.submissions.out ++ result_line c.args.hosts.now (record { round = c.args.round; submission = s }, w.in-Some.answer.now) =
          grind (arith, common_steps) in
          rw (w.out-is, pushed)
          (next_pair (result_line c.args.hosts.now) (record { round = c.args.round; submission = s }) (submitted_in c.args.round others) answers c.submissions.at w.in-Some.answer.now done _ (sym w.in-Some.ensures) sofar)
      | in_default w ↦ rw w.out-is
          (no_pair (result_line c.args.hosts.now) (submitted_in c.args.round (s ∷ others)) (submitted_in c.args.round others) answers c.submissions.at done _ (sym w.in_default.ensures) sofar)
    ]
