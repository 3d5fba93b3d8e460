use Rattle.std.proofs.Common.{ℕ, ◌+◌, List, ◌++◌, refl, sym, subst}
use Rattle.node_core.specs.declared.submit_result.SubmitResult.{SubmitResult}
use Rattle.canton_run.specs.Answered.{round_of}
use Rattle.canton_run.specs.Between.{IsPlayedOn}
use Rattle.canton_run.specs.Run.{machine_for}
use Rattle.canton_run.proofs.Begins.{has_begun}
use Rattle.canton_run.proofs.PlaysOn.{begins_in_time, can_be_answered, plays_on}
use Rattle.canton_run.proofs.rounds.play_round.Goals as goal

pub begin_round-requires-clause-time : goal.begin_round-requires-clause-time
begin_round-requires-clause-time g c = let r = c.requires.played in begins_in_time r.0 r.2 c.args.round.now r.4 r.5 (c.args.world).now (r.6).now

pub begin_round-requires-clause-lawful : goal.begin_round-requires-clause-lawful
begin_round-requires-clause-lawful g c = let r = c.requires.played in (machine_for r.0 r.1, (r.6).state, (r.6).is, (r.6).lawful)

pub submit_round-requires-clause-answerable : goal.submit_round-requires-clause-answerable
submit_round-requires-clause-answerable g c κs within =
    let r = c.requires.played in
    let b = c.in_ok-begin_round.ensures in
    let h = c.in_ok-hand_in_raws.ensures in
    let p = r.6 in
    let m = machine_for r.0 r.1 in
    let round = c.args.round.now in
    let w0 = c.begin_round.new.world in
    let w1 = c.hand_in_raws.new.world in
    let is = b.lawful m p.state p.is p.lawful in
    let begun =
    has_begun r.0 r.1 round p.state c.args.world w0 w1 b.now is (b.set_up (r.0).topology (r.0).checked p.set_up) b.paused
    (b.log m p.state (round_of round) p.is refl) h.now h.nodes (h.lawful m p.state)
    (h.log m ((c.args.world).now + round.advance) ((is.0).nodes).is_for) in (
      r.0,
      r.1,
      r.3,
      can_be_answered r.0 r.2 round r.4 r.5 r.1 c.args.workers.now.count c.args.world w1 (c.args.answers.now).results (c.args.answers.now).ends p
          begun.now begun.is begun.set_up begun.paused,
    )

pub settle-requires : goal.settle-requires
settle-requires g c =
    let r = c.requires.played in
    let b = c.in_ok-begin_round.ensures in
    let h = c.in_ok-hand_in_raws.ensures in
    let p = r.6 in
    let m = machine_for r.0 r.1 in
    let round = c.args.round.now in
    let w0 = c.begin_round.new.world in
    let w1 = c.hand_in_raws.new.world in
    let is = b.lawful m p.state p.is p.lawful in
    let begun =
    has_begun r.0 r.1 round p.state c.args.world w0 w1 b.now is (b.set_up (r.0).topology (r.0).checked p.set_up) b.paused
    (b.log m p.state (round_of round) p.is refl) h.now h.nodes (h.lawful m p.state)
    (h.log m ((c.args.world).now + round.advance) ((is.0).nodes).is_for) in
    let can =
    can_be_answered r.0 r.2 round r.4 r.5 r.1 c.args.workers.now.count c.args.world w1 (c.args.answers.now).results (c.args.answers.now).ends p
    begun.now begun.is begun.set_up begun.paused in
    let a = c.in_ok-answered.ensures.answered r.0 r.1 r.3 can in record { lawful = (m, a.state, a.is, a.lawful) }

pub returns-clause-on : goal.returns-clause-on
returns-clause-on g c = λ script capacity parts setup is fits p.
    let b = c.in_ok-begin_round.ensures in
    let h = c.in_ok-hand_in_raws.ensures in
    let m = machine_for script capacity in
    let t = script.topology in
    let k = script.checked in
    let round = c.args.round.now in
    let w1 = c.hand_in_raws.new.world in
    let world0 = b.lawful m p.state p.is p.lawful in
    let begun =
    has_begun script capacity round p.state c.args.world c.begin_round.new.world w1 b.now world0 (b.set_up t k p.set_up) b.paused
    (b.log m p.state (round_of round) p.is refl) h.now h.nodes (h.lawful m p.state)
    (h.log m ((c.args.world).now + round.advance) ((world0.0).nodes).is_for) in
    let can =
    can_be_answered script parts round is fits capacity c.args.workers.now.count c.args.world w1 (c.args.answers.now).results
    (c.args.answers.now).ends p begun.now begun.is begun.set_up begun.paused in
    let a = c.in_ok-answered.ensures.answered script capacity setup can in
    let s = c.in_ok-settle.ensures in
    let answered = c.in_ok-answered.answered in
    let on =
    plays_on script parts round is fits capacity c.args.workers.now.count c.args.world w1 answered.world
    c.settle.new.world (c.args.answers.now).results answered.results (c.args.answers.now).ends c.len.result p begun.now a.now s.now begun.begins
    a.each_result a.plain a.part (s.passes m a.state a.is a.lawful) c.len.ensures (s.lawful m a.state a.is a.lawful) (s.set_up t k a.set_up) in
    let old = c.args.answers.now in
    subst
    (λ (xs : List SubmitResult).
    IsPlayedOn script capacity c.args.workers.now.count parts round c.args.world c.settle.new.world old.results xs old.ends c.push.new.self)
    (sym c.in_ok-append.ensures)
    (subst
    (λ (xs : List ℕ).
    IsPlayedOn script capacity c.args.workers.now.count parts round c.args.world c.settle.new.world old.results (old.results ++ answered.results)
    old.ends xs)
    (sym c.in_ok-push.ensures.ok) on)

pub returns-clause-bases : goal.returns-clause-bases
returns-clause-bases g c = λ bases had.
    let same = c.in_ok-hand_in_raws.ensures.nodes in
    c.in_ok-settle.ensures.bases bases (c.in_ok-answered.ensures.bases bases (rw same (c.in_ok-begin_round.ensures.bases bases had)))
