use Rattle.std.proofs.Common.{◌≡◌, Ok, arith, rules, subst}
use Rattle.std.specs.Io.KnownBytes.{Appends}
use Rattle.cli_words.specs.declared.job.Job.{Job}
use Rattle.log_dump.specs.Spelling.{spell_dump}
use Rattle.script_read.specs.Script.{script_in}
use Rattle.canton_run.specs.Jobs.{text_of}
use Rattle.canton_run.proofs.Judged.{dump_is_judged}
use Rattle.canton_run.proofs.top_call.run_source.Goals as goal

pub returns-in-Ok-read_script-clause-cut : goal.returns-in-Ok-read_script-clause-cut
returns-in-Ok-read_script-clause-cut g c at =
    let read : script_in c.in-Ok.bytes ≡ Ok c.in-Ok-read_script.script = search rules in (
      c.in-Ok.bytes,
      c.in-Ok-read_script.script,
      (c.in-Ok.ensures.whole, read),
      c.carry_out.ensures.ran (omega (arith, at)),
      c.carry_out.ensures.sure at,
      c.carry_out.ensures.cut at,
    )

pub returns-in-Ok-read_script-clause-judged : goal.returns-in-Ok-read_script-clause-judged
returns-in-Ok-read_script-clause-judged g c count log is at =
    let bytes = c.in-Ok.bytes in
    let script = c.in-Ok-read_script.script in
    let read : script_in bytes ≡ Ok script = search rules in
    let run = c.carry_out.ensures.ran (omega (arith, at)) in
    let spelled = c.carry_out.ensures.spelled count log is (omega (arith, at)) in
    let wrote =
    subst
    (λ (job : Job). Appends (g.K.Sink.held c.args.sink.now) (g.K.Sink.held c.carry_out.new.sink) (text_of job bytes script c.carry_out.result)) is
    (c.carry_out.ensures.done at) in (
      spell_dump bytes c.carry_out.result.log,
      wrote,
      dump_is_judged _ script _ _ _ _ _ _ run bytes (c.prepared_requests_make_a_machine.ensures _ _ _ _) c.in-Ok-read_script.ensures.accepted
          c.requires.room read spelled.0 spelled.1,
    )
