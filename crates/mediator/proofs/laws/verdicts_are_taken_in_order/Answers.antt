use Rattle.mediator.proofs.OrderFacts.{next_is_later}
use Rattle.mediator.proofs.Knowing.{known_new, known_read, known_first, known_none, known_back}
use Rattle.mediator.proofs.laws.verdicts_are_taken_in_order.Goals as goal

pub returns-clause-new : goal.returns-clause-new
returns-clause-new c = λ m kept params keeps. known_new m kept params keeps

pub returns-clause-read : goal.returns-clause-read
returns-clause-read c = λ m log given before after entry h same step. known_read m log given before after h same entry step

pub returns-clause-first : goal.returns-clause-first
returns-clause-first c =
    λ m log given before after verdict genuine h same next step.
    known_first m log given before after h same genuine verdict (next (h.knows).state (h.knows).keeps) (step (h.knows).state (h.knows).keeps)

pub returns-clause-none : goal.returns-clause-none
returns-clause-none c =
    λ m log given before after verdict genuine h same next step.
    known_none m log given before after h same genuine verdict (next (h.knows).state (h.knows).keeps) (step (h.knows).state (h.knows).keeps)

pub returns-clause-give_back : goal.returns-clause-give_back
returns-clause-give_back c = λ m log given before after k h same step. known_back m log given before after h same k step

pub returns-clause-rising : goal.returns-clause-rising
returns-clause-rising c = λ params log given one next f g. next_is_later params log given one next f g
