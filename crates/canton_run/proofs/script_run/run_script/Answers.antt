use Rattle.std.proofs.Common.{ℕ, List, ap, ◌∙◌}
use Rattle.std.specs.Prelude.{slice_get}
use Rattle.seq_log.specs.Sequenced.{Sequenced}
use Rattle.trigger_rules.specs.Kept.{fired_by, or_none}
use Rattle.canton_run.specs.Run.{machine_for, script_with}
use Rattle.canton_run.specs.Restarts.{begins_in, bases_in}
use Rattle.canton_run.proofs.LastViews.{bases_over, have_read_all, known_are, two_ends_each, views_are}
use Rattle.canton_run.proofs.Runs.{is_run, no_rounds_played}
use Rattle.canton_run.proofs.script_run.run_script.Goals as goal

pub play_rounds-requires-clause-played : goal.play_rounds-requires-clause-played
play_rounds-requires-clause-played g c κs within =
    let plan = c.args.plan.now in
    let rules = c.args.rules.now in
    let script = script_with plan.setup.now rules.rules plan.rounds.now in
    let n = c.in_ok-new in
    no_rounds_played (g.A.Answering.may_answer rules.answer) script plan.capacity c.args.workers.now.count
    (c.prepared_requests_make_a_machine.ensures _ _ _ _) n.new n.ensures.is n.ensures.new n.ensures.set_up (fired_by rules)
    (λ k. ap (λ (lists : List (List (List ℕ))). or_none (slice_get lists k)) c.requires.fresh)

pub play_rounds-requires-clause-pruned : goal.play_rounds-requires-clause-pruned
play_rounds-requires-clause-pruned g c κs within = λ more k node at. c.in_ok-new.ensures.bases k node at

pub catch_up-requires : goal.catch_up-requires
catch_up-requires g c =
    let plan = c.args.plan.now in
    let script = script_with plan.setup.now c.args.rules.now.rules plan.rounds.now in
    let p = (c.in_ok-rounds_played.ensures.played).parts in
    record { lawful = (machine_for script plan.capacity, p.state, p.is, p.lawful) }

pub returns-clause-run : goal.returns-clause-run
returns-clause-run g c =
    let plan = c.args.plan.now in
    let rules = c.args.rules.now in
    let script = script_with plan.setup.now rules.rules plan.rounds.now in
    let r = c.in_ok-rounds_played in
    let answers = r.rounds_played.answers in
    is_run (g.A.Answering.may_answer rules.answer) script plan.capacity c.args.workers.now.count
    (c.prepared_requests_make_a_machine.ensures _ _ _ _) c.sent_requests_open_by_the_rules.ensures c.requires.accepted c.requires.room
    answers.results answers.ends answers.caused r.rounds_played.world (fired_by c.play_rounds.new.rules) c.in_ok-log.log
    (c.in_ok-log.ensures.log ∙ ap (λ (q : Sequenced). q.list) c.in_ok-catch_up.ensures.log) r.ensures.played

pub returns-clause-views : goal.returns-clause-views
returns-clause-views g c =
    let plan = c.args.plan.now in
    let script = script_with plan.setup.now c.args.rules.now.rules plan.rounds.now in
    let r = c.in_ok-rounds_played in
    let p = (r.ensures.played).parts in
    let q = c.in_ok-catch_up.ensures in
    let m = machine_for script plan.capacity in
    let answers = r.rounds_played.answers in
    let world = r.rounds_played.world in
    let ends = answers.ends in
    let many = two_ends_each script plan.capacity c.args.workers.now.count answers.caused world answers.results ends p in
    let log_is = c.in_ok-log.ensures.log ∙ ap (λ (s : Sequenced). s.list) q.log in
    let have =
    have_read_all script plan.capacity world c.catch_up.new.self p.state (q.is m p.state p.is) p.lawful (q.ok m p.state p.is p.lawful) c.in_ok-log.log log_is
    ends many (q.bases (bases_in script c.in_ok-log.log (begins_in script.rounds ends)) (bases_over script world ends c.in_ok-log.log log_is r.ensures.pruned)) in
    views_are script c.in_ok-log.log ends many (c.catch_up.new.self.nodes).items have ((q.set_up script.topology script.checked p.set_up).many)

pub returns-clause-knowledge : goal.returns-clause-knowledge
returns-clause-knowledge g c =
    let plan = c.args.plan.now in
    let script = script_with plan.setup.now c.args.rules.now.rules plan.rounds.now in
    let r = c.in_ok-rounds_played in
    let p = (r.ensures.played).parts in
    let q = c.in_ok-catch_up.ensures in
    let m = machine_for script plan.capacity in
    let answers = r.rounds_played.answers in
    let world = r.rounds_played.world in
    let ends = answers.ends in
    let many = two_ends_each script plan.capacity c.args.workers.now.count answers.caused world answers.results ends p in
    let log_is = c.in_ok-log.ensures.log ∙ ap (λ (s : Sequenced). s.list) q.log in
    let have =
    have_read_all script plan.capacity world c.catch_up.new.self p.state (q.is m p.state p.is) p.lawful (q.ok m p.state p.is p.lawful) c.in_ok-log.log log_is
    ends many (q.bases (bases_in script c.in_ok-log.log (begins_in script.rounds ends)) (bases_over script world ends c.in_ok-log.log log_is r.ensures.pruned)) in
    known_are script c.in_ok-log.log ends many (c.catch_up.new.self.nodes).items have ((q.set_up script.topology script.checked p.set_up).many)
