use Rattle.std.proofs.Common.{[], ◌≡◌, ◌≢◌, ◌<◌, ℕ, length, subst, take}
use Rattle.std.specs.Io.KnownBytes.{Appends}
use Rattle.cli_words.specs.declared.job.Job.TheVariants.{Gen}
use Rattle.script_read.specs.declared.script.Script.{Script}
use Rattle.ledger_terms.specs.declared.limits.TheConstants.{MOST_PLACES}
use Rattle.canton_run.specs.Jobs.{text_of}
use Rattle.canton_run.specs.Run.{IsRun}
use Rattle.canton_run.proofs.top_call.run_generated.Goals as goal

pub returns-in-Ok-clause-ran : goal.returns-in-Ok-clause-ran
returns-in-Ok-clause-ran g c =
    subst
    (λ (s : Script). c.carry_out.result.status ≢ 70
    → IsRun (g.A.Answering.may_answer c.args.answer) s MOST_PLACES c.args.workers.now.count c.carry_out.result.log c.carry_out.result.results
    c.carry_out.result.ends c.carry_out.result.caused)
    c.in-Ok.ensures c.carry_out.ensures.ran

pub returns-in-Ok-clause-done : goal.returns-in-Ok-clause-done
returns-in-Ok-clause-done g c n =
    subst
    (λ (s : Script). c.carry_out.result.status ≡ 0
    → Appends (g.K.Sink.held c.args.sink.now) (g.K.Sink.held c.carry_out.new.sink) (text_of (Gen c.args.count c.args.seed 0) [] s c.carry_out.result))
    c.in-Ok.ensures c.carry_out.ensures.done

pub returns-in-Ok-clause-cut : goal.returns-in-Ok-clause-cut
returns-in-Ok-clause-cut g c n =
    subst
    (λ (s : Script). c.carry_out.result.status ≡ 5 → (n : ℕ)
    × Appends (g.K.Sink.held c.args.sink.now) (g.K.Sink.held c.carry_out.new.sink) (take n (text_of (Gen c.args.count c.args.seed 0) [] s c.carry_out.result)))
    c.in-Ok.ensures c.carry_out.ensures.cut

pub returns-in-Ok-clause-sure : goal.returns-in-Ok-clause-sure
returns-in-Ok-clause-sure g c n =
    subst (λ (s : Script). c.carry_out.result.status ≡ 5 → g.K.Sink.room c.args.sink.now < length (text_of (Gen c.args.count c.args.seed 0) [] s c.carry_out.result))
    c.in-Ok.ensures c.carry_out.ensures.sure
