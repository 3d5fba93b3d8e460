use Rattle.std.proofs.Common.{◌++◌, ◌∷◌, [], ℕ, ap, ◌∙◌}
use Rattle.world_model.specs.Settled.{left, passes}
use Rattle.trigger_model.specs.CausedRequests.{submissions_in}
use Rattle.canton_run.specs.Answered.{round_of}
use Rattle.canton_run.specs.Parts.{second_of}
use Rattle.canton_run.proofs.second_part.play_caused.Goals as goal

pub submit_caused-requires-clause-paused : goal.submit_caused-requires-clause-paused
submit_caused-requires-clause-paused g c = (c.args.round.now.paused, c.requires.paused)

pub settle-requires : goal.settle-requires
settle-requires g c =
    let r = c.requires.lawful in
    let h = c.in_ok-submit_caused.ensures.lawful r.0 r.1 r.2 r.3 in record { lawful = (r.0, r.1, h.0, h.1) }

pub returns-clause-lawful : goal.returns-clause-lawful
returns-clause-lawful g c = λ m state is lawful.
    let h = c.in_ok-submit_caused.ensures.lawful m state is lawful in c.in_ok-settle.ensures.lawful m state h.0 h.1

pub returns-clause-set_up : goal.returns-clause-set_up
returns-clause-set_up g c = λ topology packages set_up.
    c.in_ok-settle.ensures.set_up topology packages (c.in_ok-submit_caused.ensures.set_up topology packages set_up)

pub returns-clause-answers : goal.returns-clause-answers
returns-clause-answers g c =
    let a = c.in_ok-submit_caused.ensures.answers in
    let round = c.args.round.now in
    let w1 = c.submit_caused.new.world in (
      a.0,
      a.1,
      a.2,
      a.3,
      λ m state topology packages is lawful set_up.
          let h = c.in_ok-submit_caused.ensures.lawful m state is lawful in (
            (w1.sequencer).list,
            a.4 m state topology packages (round_of (second_of round (submissions_in c.args.caused))) is lawful set_up c.requires.paused,
            c.in_ok-settle.ensures.passes m state h.0 h.1
                ∙ ap (λ (n : ℕ). passes m n round.paused round.hold_verdicts (left m.hosts (w1.sequencer).list) (w1.sequencer).list)
                c.in_ok-submit_caused.ensures.now,
          ),
    )

pub returns-clause-ends : goal.returns-clause-ends
returns-clause-ends g c = c.in_ok-push.ensures.ok ∙ ap (λ (n : ℕ). (c.args.answers.now).ends ++ n ∷ []) c.len.ensures

pub returns-clause-bases : goal.returns-clause-bases
returns-clause-bases g c = λ bases had. c.in_ok-settle.ensures.bases bases (c.in_ok-submit_caused.ensures.bases bases had)
