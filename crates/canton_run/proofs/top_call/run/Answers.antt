use Rattle.std.proofs.Common.{◌≡◌, true, [], ap, ◌∙◌, arith, refl, rules, subst, sym}
use Rattle.std.proofs.KnownBytes.{Keeps-refl}
use Rattle.cli_words.specs.declared.job.Job.{Job}
use Rattle.cli_words.specs.declared.job.Job.TheVariants.{Audit, Gen}
use Rattle.load_gen.specs.Generated.{generated}
use Rattle.canton_run.specs.Jobs.{capacity_of, needs_script, text_of, workers_of}
use Rattle.canton_run.proofs.Generated.{never_six}
use Rattle.canton_run.proofs.Sources.{asks, asks_source, did, from_source, gives, has_room, needed, offers, same_job, takes_none, takes_script, takes_script_bytes, with_workers}
use Rattle.canton_run.proofs.top_call.run.Goals as goal

pub returns-in-Gen-clause-taken : goal.returns-in-Gen-clause-taken
returns-in-Gen-clause-taken g c = ([], takes_none _ _ _ (λ six. never_six _ c.run_generated.ensures.status six), λ unasked. refl)

pub returns-in-Gen-clause-done : goal.returns-in-Gen-clause-done
returns-in-Gen-clause-done g c at =
    let job = Gen c.in-Gen.count c.in-Gen.seed c.in-Gen.workers in
    let script = generated c.in-Gen.seed c.in-Gen.count in
    let finish = c.run_generated.result in
    let ran =
    with_workers _ script (capacity_of job) _ (workers_of job) finish (c.workers_of.ensures ∙ ap workers_of c.in-Gen.is)
    (c.run_generated.ensures.ran (omega (arith, at))) in (
      text_of job [] script finish,
      (job, search rules, ([], script, (Keeps-refl _, refl, refl), ran, refl)),
      c.run_generated.ensures.done c.in-Gen.workers at,
    )

pub returns-in-Gen-clause-cut : goal.returns-in-Gen-clause-cut
returns-in-Gen-clause-cut g c at =
    let job = Gen c.in-Gen.count c.in-Gen.seed c.in-Gen.workers in
    let script = generated c.in-Gen.seed c.in-Gen.count in
    let finish = c.run_generated.result in
    let ran =
    with_workers _ script (capacity_of job) _ (workers_of job) finish (c.workers_of.ensures ∙ ap workers_of c.in-Gen.is)
    (c.run_generated.ensures.ran (omega (arith, at))) in (
      text_of job [] script finish,
      (job, search rules, ([], script, (Keeps-refl _, refl, refl), ran, refl)),
      c.run_generated.ensures.sure c.in-Gen.workers at,
      c.run_generated.ensures.cut c.in-Gen.workers at,
    )

pub returns-in-Audit-clause-cut : goal.returns-in-Audit-clause-cut
returns-in-Audit-clause-cut g c at =
    let found = c.run_audit.ensures.cut at in (found.0, (Audit, search rules, found.1), found.2, found.3)

pub run_source-requires-clause-room : goal.run_source-requires-clause-room
run_source-requires-clause-room g c κs within = has_room c.in-Ok.job c.in-Ok.ensures.within

pub returns-in-Ok-clause-script : goal.returns-in-Ok-clause-script
returns-in-Ok-clause-script g c at =
    let needs = takes_script c.in-Ok.job c.in_default.not-Gen c.in_default.not-Audit in
    (asks c.args.words.now c.in-Ok.job c.in-Ok.ensures.job needs, c.run_source.ensures.script at)

pub returns-in-Ok-clause-taken : goal.returns-in-Ok-clause-taken
returns-in-Ok-clause-taken g c =
    let job = c.in-Ok.job in
    let needs = takes_script job c.in_default.not-Gen c.in_default.not-Audit in
    let taken = c.run_source.ensures.taken in (
      taken.0,
      takes_script_bytes c.args.words.now job c.in-Ok.ensures.job needs _ _ _ _ taken.1,
      λ unasked. absurd (unasked (asks_source c.args.words.now job c.in-Ok.ensures.job (from_source job needs))),
    )

pub returns-in-Ok-clause-done : goal.returns-in-Ok-clause-done
returns-in-Ok-clause-done g c at =
    let job = c.in-Ok.job in
    let needs = takes_script job c.in_default.not-Gen c.in_default.not-Audit in
    let found = c.run_source.ensures.done at in
    let finish = c.run_source.result in
    let ran = with_workers _ found.1 (capacity_of job) _ (workers_of job) finish c.workers_of.ensures found.3 in
    let given = gives job _ _ found.0 found.1 needs found.2 in
    let text = text_of job found.0 found.1 finish in
    (text, (job, c.in-Ok.ensures.job, did _ job _ _ finish text needs (found.0, found.1, given, ran, refl)), found.4)

pub returns-in-Ok-clause-cut : goal.returns-in-Ok-clause-cut
returns-in-Ok-clause-cut g c at =
    let job = c.in-Ok.job in
    let needs = takes_script job c.in_default.not-Gen c.in_default.not-Audit in
    let found = c.run_source.ensures.cut at in
    let finish = c.run_source.result in
    let ran = with_workers _ found.1 (capacity_of job) _ (workers_of job) finish c.workers_of.ensures found.3 in
    let given = gives job _ _ found.0 found.1 needs found.2 in
    let text = text_of job found.0 found.1 finish in
    (text, (job, c.in-Ok.ensures.job, did _ job _ _ finish text needs (found.0, found.1, given, ran, refl)), found.4, found.5)

pub returns-in-Ok-clause-judged : goal.returns-in-Ok-clause-judged
returns-in-Ok-clause-judged g c count log is = c.run_source.ensures.judged count log (same_job _ _ (sym c.in-Ok.ensures.job ∙ is))

pub returns-in-Ok-clause-complete : goal.returns-in-Ok-clause-complete
returns-in-Ok-clause-complete g c = λ job is has unread unwritten.
    let same = same_job c.in-Ok.job job (sym c.in-Ok.ensures.job ∙ is) in
    let needs : needs_script job ≡ true =
    subst (λ (j : Job). needs_script j ≡ true) same (takes_script c.in-Ok.job c.in_default.not-Gen c.in_default.not-Audit) in
    c.run_source.ensures.complete (offers job _ needs has) (needed _ _ (from_source job needs) unread) unwritten
