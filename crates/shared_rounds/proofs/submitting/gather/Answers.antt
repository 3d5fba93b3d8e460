use Rattle.std.proofs.Common.{rules, ◌≡◌, List, length, map, sym, ◌∙◌, subst}
use Rattle.std.specs.Prelude.{All, sum_by}
use mathlib.Core.List.{IsPrefix}
use Rattle.log_row.specs.LogPrefix.{RowName}
use Rattle.seq_log.specs.Sequenced.{Sequenced}
use Rattle.world_model.specs.Lawful.{Lawful}
use Rattle.world_model.specs.Mediator.{MediatorState}
use Rattle.world_model.specs.Messages.{Entry}
use Rattle.world_play.specs.WorldOf.{IsWorldOf, world_of}
use Rattle.shared_rounds.specs.Joined.{AreAnswered}
use Rattle.shared_rounds.specs.Retired.{IsLeftIn, list_seen, tickets_brought}
use Rattle.shared_rounds.proofs.Gathering.{all_fresh, each_of_clients, gathered}
use Rattle.shared_rounds.proofs.submitting.gather.Goals as goal

pub serve_beside-requires-clause-fresh : goal.serve_beside-requires-clause-fresh
serve_beside-requires-clause-fresh g c κs within =
    all_fresh g.S.Session.start c.in_ok-clients.clients.items c.in_ok-clients.ensures.each

pub results_of_each-requires : goal.results_of_each-requires
results_of_each-requires g c =
    subst (λ (row : RowName). All (IsLeftIn row) c.in_ok-retired.retired.items) (sym c.into_parts-world.ensures.row) c.in_ok-retired.ensures.row

pub returns-clause-world : goal.returns-clause-world
returns-clause-world g c =
    let m = g.S.Session.machine in
    let world = c.into_parts-world.result in
    subst
    (λ (s : Sequenced). (x : MediatorState) × IsWorldOf m x (record { sequencer = s; mediator = world.mediator; nodes = world.nodes; now = world.now })
    × Lawful m (world_of x (record { sequencer = s; mediator = world.mediator; nodes = world.nodes; now = world.now })))
    (sym c.results_of_each.ensures.same) c.into_parts-world.ensures.world

pub returns-clause-answered : goal.returns-clause-answered
returns-clause-answered g c =
    let m = g.S.Session.machine in
    let why = g.S.Session.why in
    let start = g.S.Session.start in
    let submits = c.args.input.submits.now in
    let now = c.args.world.now in
    let paused = c.args.input.paused.now in
    let log = c.into_parts-world.result.sequencer.list in
    let clients = c.in_ok-clients.clients in
    let all = c.in_ok-all.all in
    let same_time : c.deref.result.now.round.time ≡ now = search rules in
    let same_rules : c.deref.result.now.round.paused ≡ paused = search rules in
    let many : length all.items ≡ length clients.items = sym all.ok.0 ∙ (c.in_ok-all.ensures.many ∙ clients.ok.0) in
    let each =
    each_of_clients m why c.deref.result.now.round.time now c.deref.result.now.round.paused paused start submits clients.items all.items same_time same_rules
    c.in_ok-clients.ensures.each many c.in_ok-all.ensures.each in
    let hosts : length clients.items ≡ m.hosts =
    sym clients.ok.0 ∙ (c.in_ok-clients.ensures.many ∙ (search rules)) in
    let seen : All (λ (list : List Entry). IsPrefix list log) (map list_seen all.items) =
    subst (All (λ (list : List Entry). IsPrefix list log)) c.in_ok-retired.ensures.lists c.in_ok-queues.ensures.begins in
    let counted : c.retire_each.new.shared.counted ≡ sum_by tickets_brought all.items = search rules in
    subst (λ (s : Sequenced). AreAnswered m why now paused start submits s.list c.in_ok-queues.queues.items) (sym c.results_of_each.ensures.same)
    (gathered m why now paused start submits all.items (many ∙ hosts) each log seen c.retire_each.new.shared.counted c.into_parts-world.ensures.log counted
    c.in_ok-queues.queues.items (c.in_ok-queues.ensures.results ∙ c.in_ok-retired.ensures.results))
