use Rattle.std.proofs.Common.{◌≡◌, List, Option, Some, sym, ap, ◌∙◌, subst}
use Rattle.world_model.specs.Messages.{Entry, Verdict}
use Rattle.world_model.specs.Mediator.{next_verdict, take_verdict}
use Rattle.world_model.specs.World.{gives_verdict}
use Rattle.mediator.specs.KeptCases.{Keeps, with_verdict_taken}
use Rattle.world_play.proofs.deciding.give.Goals as goal

pub returns-in_ok-hand_in_verdict-clause-ok : goal.returns-in_ok-hand_in_verdict-clause-ok
returns-in_ok-hand_in_verdict-clause-ok c = λ m state n i.
    let v = c.in-Some.verdict in
    let s = c.args.sequencer.now in
    let next : next_verdict state ≡ Some v = sym (c.in_ok-verdict.ensures.verdict state i.keeps) ∙ c.in-Some.is in (
      take_verdict state v.request,
      record {
        params = c.take_verdict.ensures.params ∙ i.params;
        keeps =
            subst (λ (o : Option Verdict). Keeps c.take_verdict.new.self (with_verdict_taken state o)) c.in-Some.is (c.in_ok-verdict.ensures.ok state i.keeps);
      },
      λ now nodes.
          ap (λ (xs : List Entry). record { log = xs; now = now; mediator = take_verdict state v.request; nodes = nodes })
          (c.in_ok-hand_in_verdict.ensures.ok m now i.is_for)
          ∙ sym (ap (gives_verdict m (record { log = s.list; now = now; mediator = state; nodes = nodes })) next),
    )
