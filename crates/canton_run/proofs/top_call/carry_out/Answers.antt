use Rattle.std.proofs.Common.{◌≡◌, ◌<◌, ◌∙◌, ℕ, List, ap, length, subst, sym, take}
use Rattle.std.specs.Io.KnownBytes.{Appends}
use Rattle.canton_model.specs.declared.entry.Entry.{Entry}
use Rattle.cli_words.specs.declared.job.Job.{Job}
use Rattle.node_core.specs.declared.submit_result.SubmitResult.{SubmitResult}
use Rattle.script_read.specs.declared.script.Script.{Script}
use Rattle.trigger_rules.specs.declared.caused.Caused.{Caused}
use Rattle.canton_run.specs.Jobs.{told_text}
use Rattle.canton_run.proofs.top_call.carry_out.Goals as goal

-- the text of the record is that of the end
of_end : (job : Job) (bytes : List ℕ) (script : Script) (log log' : List Entry) → log' ≡ log → (results results' : List SubmitResult)
    → results' ≡ results → (ends ends' : List ℕ) → ends' ≡ ends → (caused caused' : List Caused) → caused' ≡ caused
    → told_text job bytes script log results ends caused ≡ told_text job bytes script log' results' ends' caused'
of_end job bytes script log log' one results results' two ends ends' three caused caused' four =
    ap (λ (l : List Entry). told_text job bytes script l results ends caused) (sym one)
    ∙ ap (λ (r : List SubmitResult). told_text job bytes script log' r ends caused) (sym two)
    ∙ ap (λ (e : List ℕ). told_text job bytes script log' results' e caused) (sym three)
    ∙ ap (λ (x : List Caused). told_text job bytes script log' results' ends' x) (sym four)

pub returns-clause-done : goal.returns-clause-done
returns-clause-done g c at =
    let end = c.finished.ensures in
    let is = c.as_slice.ensures ∙ c.in-Ok.ensures.text ∙ of_end c.args.job c.args.given.bytes c.args.given.script _ _ end.log _ _ end.results _ _ end.ends _ _ end.caused in
    subst (λ (bytes : List ℕ). Appends (g.K.Sink.held c.args.sink.now) (g.K.Sink.held c.write.new.sink) bytes) is
    (c.write.ensures.done (sym end.status ∙ at))

pub returns-clause-sure : goal.returns-clause-sure
returns-clause-sure g c at =
    let end = c.finished.ensures in
    let is = c.as_slice.ensures ∙ c.in-Ok.ensures.text ∙ of_end c.args.job c.args.given.bytes c.args.given.script _ _ end.log _ _ end.results _ _ end.ends _ _ end.caused in
    subst (λ (bytes : List ℕ). g.K.Sink.room c.args.sink.now < length bytes) is (c.write.ensures.sure (sym end.status ∙ at))

pub returns-clause-cut : goal.returns-clause-cut
returns-clause-cut g c at =
    let end = c.finished.ensures in
    let is = c.as_slice.ensures ∙ c.in-Ok.ensures.text ∙ of_end c.args.job c.args.given.bytes c.args.given.script _ _ end.log _ _ end.results _ _ end.ends _ _ end.caused in
    subst (λ (bytes : List ℕ). (n : ℕ) × Appends (g.K.Sink.held c.args.sink.now) (g.K.Sink.held c.write.new.sink) (take n bytes)) is
    (c.write.ensures.cut (sym end.status ∙ at))
