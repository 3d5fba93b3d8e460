use Rattle.std.proofs.Common.{ℕ, List, sym, ap, ◌∙◌, subst}
use Rattle.ledger_model.specs.Terms.{ParticipantId}
use Rattle.world_model.specs.Settled.{Settled, left, passes}
use Rattle.world_model.specs.Settling.{WorldReady, returned}
use Rattle.world_model.proofs.Resuming.{world_resumed}
use Rattle.seq_log.specs.Sequenced.{Sequenced}
use Rattle.world_play.specs.Parts.{GoesOn}
use Rattle.world_play.specs.WorldOf.{world_of}
use Rattle.world_play.proofs.Answered.{on_ok}
use Rattle.world_play.proofs.settling.settle.Goals as goal

pub pass_until_settled-requires : goal.pass_until_settled-requires
pass_until_settled-requires g c =
    let m = c.requires.lawful.0 in
    let state = c.requires.lawful.1 in
    let world = c.args.world.now in (
      m,
      returned m.params (world.sequencer).list state,
      c.resume.ensures.is m state c.requires.lawful.2 c.requires.lawful.3,
      subst (WorldReady m c.as_slice.result.now) (sym (c.resume.ensures.resumed m state c.requires.lawful.2 c.requires.lawful.3))
          (world_resumed m c.as_slice.result.now (world_of state world) c.requires.lawful.3),
    )

pub returns-clause-on : goal.returns-clause-on
returns-clause-on g c =
    subst (λ (q : Sequenced). GoesOn q c.pass_until_settled.new.world.sequencer) c.resume.ensures.log c.pass_until_settled.ensures.on

pub returns-clause-lawful : goal.returns-clause-lawful
returns-clause-lawful g c = λ m state is l.
    let world = c.args.world.now in
    let ready =
    subst (WorldReady m c.as_slice.result.now) (sym (c.resume.ensures.resumed m state is l)) (world_resumed m c.as_slice.result.now (world_of state world) l) in
    c.pass_until_settled.ensures.lawful m (returned m.params (world.sequencer).list state) (c.resume.ensures.is m state is l) ready.lawful

pub returns-clause-passes : goal.returns-clause-passes
returns-clause-passes g c =
    on_ok c.pass_until_settled.result _ _ c.pass_until_settled.ensures.passes
    (λ ok m state is l.
    let world = c.args.world.now in
    let held = c.args.hold_verdicts in
    let ready =
    subst (WorldReady m c.as_slice.result.now) (sym (c.resume.ensures.resumed m state is l)) (world_resumed m c.as_slice.result.now (world_of state world) l) in
    ok m (returned m.params (world.sequencer).list state) (c.resume.ensures.is m state is l) ready
    ∙ (ap (λ (q : Sequenced). passes m c.resume.new.world.now c.as_slice.result.now held (left m.hosts q.list) q.list) c.resume.ensures.log
    ∙ (ap (λ (t : ℕ). passes m t c.as_slice.result.now held (left m.hosts (world.sequencer).list) (world.sequencer).list) c.resume.ensures.now
    ∙ ap (λ (p : List ParticipantId). passes m world.now p held (left m.hosts (world.sequencer).list) (world.sequencer).list) c.as_slice.ensures)))

pub returns-clause-settled : goal.returns-clause-settled
returns-clause-settled g c =
    on_ok c.pass_until_settled.result _ _ c.pass_until_settled.ensures.settled
    (λ ok m state is l.
    let world = c.args.world.now in
    let ready =
    subst (WorldReady m c.as_slice.result.now) (sym (c.resume.ensures.resumed m state is l)) (world_resumed m c.as_slice.result.now (world_of state world) l) in
    subst (λ (p : List ParticipantId). Settled m p c.args.hold_verdicts (c.pass_until_settled.new.world.sequencer).list) c.as_slice.ensures
    (ok m (returned m.params (world.sequencer).list state) (c.resume.ensures.is m state is l) ready))

pub returns-clause-set_up : goal.returns-clause-set_up
returns-clause-set_up g c = λ topology packages u.
    c.pass_until_settled.ensures.set_up topology packages (c.resume.ensures.set_up topology packages u)

pub returns-clause-bases : goal.returns-clause-bases
returns-clause-bases g c = λ bases u.
    c.pass_until_settled.ensures.bases bases (c.resume.ensures.bases bases u)
