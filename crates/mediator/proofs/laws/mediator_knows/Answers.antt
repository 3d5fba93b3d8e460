use Rattle.std.proofs.Common.{◌≡◌, List, Option, Some, None, IfSome, refl}
use Rattle.world_model.specs.Messages.{Entry, Verdict}
use Rattle.world_model.specs.Machine.{Machine, GenuineLog}
use Rattle.world_model.specs.Fits.{IsDecision}
use Rattle.world_model.specs.Mediator.{next_verdict}
use Rattle.mediator.specs.KeptCases.{KeptMediator, Keeps, Knows, with_verdict_taken}
use Rattle.mediator.specs.Order.{HasGiven}
use Rattle.mediator.proofs.Known.{decision_is}
use Rattle.mediator.proofs.Knowing.{known_new, known_read, known_first, known_none, known_back}
use Rattle.mediator.proofs.laws.mediator_knows.Goals as goal

-- what counts as taken is what its state has
abbrev all_given : (m : Machine) (log : List Entry) (kept : KeptMediator) (knows : Knows m log kept) → HasGiven m log (knows.state).given kept
all_given m log kept knows = record { knows = knows; places = refl }

pub returns-clause-new : goal.returns-clause-new
returns-clause-new c = λ m kept params keeps. (known_new m kept params keeps).knows

pub returns-clause-read : goal.returns-clause-read
returns-clause-read c = λ m log before after entry knows same step.
    (known_read m log (knows.state).given before after (all_given m log before knows) same entry step).knows

take : (m : Machine) (log : List Entry) (before after : KeptMediator) (verdict : Option Verdict) → GenuineLog m log → (knows : Knows m log before)
    → after.params ≡ before.params → verdict ≡ next_verdict knows.state → Keeps after (with_verdict_taken knows.state verdict)
    → IfSome verdict (λ (v : Verdict). IsDecision m.params log v) × Knows m log after
take m log before after None genuine knows same next step =
    let r = known_none m log (knows.state).given before after (all_given m log before knows) same genuine None next step in
    (tt, (r.1).knows)
take m log before after (Some v) genuine knows same next step =
    let r = known_first m log (knows.state).given before after (all_given m log before knows) same genuine (Some v) next step in
    ((r.0).is_decision, (r.1).knows)

pub returns-clause-take : goal.returns-clause-take
returns-clause-take c =
    λ m log before after verdict genuine knows same next step. take m log before after verdict genuine knows same (next knows.state knows.keeps)
    (step knows.state knows.keeps)

pub returns-clause-give_back : goal.returns-clause-give_back
returns-clause-give_back c = λ m log before after k knows same step.
    (known_back m log (knows.state).given before after (all_given m log before knows) same k step).knows

pub returns-clause-decision : goal.returns-clause-decision
returns-clause-decision c = decision_is
