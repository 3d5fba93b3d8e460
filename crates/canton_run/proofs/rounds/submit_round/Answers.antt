use Rattle.std.proofs.Common.{subst}
use Rattle.script_read.specs.declared.script.Script.{Script}
use Rattle.canton_run.specs.Between.{CanBeAnswered}
use Rattle.canton_run.proofs.Alone.{answered_by_none}
use Rattle.canton_run.proofs.Clients.{answered_by_clients, for_world}
use Rattle.canton_run.proofs.rounds.submit_round.Goals as goal

pub submit_alone-requires : goal.submit_alone-requires
submit_alone-requires g c = let r = c.requires.answerable in (r.0, r.1, r.3)

pub submit_shared-requires-clause-world : goal.submit_shared-requires-clause-world
submit_shared-requires-clause-world g c κs within =
    let r = c.requires.answerable in
    for_world c.args.setup.now (r.0).triggers (r.0).rounds r.1 c.args.round.now c.args.world
    (subst (λ (s : Script). CanBeAnswered s r.1 c.args.round.now c.args.world) r.2 r.3)

pub returns-then-workers-eq0-clause-answered : goal.returns-then-workers-eq0-clause-answered
returns-then-workers-eq0-clause-answered g c =
    answered_by_none c.args.workers.now.count c.if-workers-eq0.true c.args.setup.now c.args.round.now c.args.world c.submit_alone.result
    c.submit_alone.ensures.answered

pub returns-clause-answered : goal.returns-clause-answered
returns-clause-answered g c =
    let e = c.submit_shared.ensures in
    answered_by_clients c.args.workers.now.count c.if-workers-eq0.false c.args.setup.now c.args.round.now c.args.world c.submit_shared.result e.now
    e.nodes e.world e.many e.plain e.joined
