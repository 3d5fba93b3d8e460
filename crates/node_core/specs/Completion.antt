-- What a participant says of its own request.
use Rattle.std.specs.Prelude.{ℕ}
use Rattle.canton_model.specs.declared.decision.Decision.{Decision}
use Rattle.canton_model.specs.declared.decision.Decision.TheVariants.{Approved, Rejected, TimedOut}
use Rattle.canton_model.specs.Timeline.{Outcome, Decided, Expired, Undecided}
use Rattle.node_core.specs.declared.completion.Completion.{Completion}
use Rattle.node_core.specs.declared.completion.Completion.TheVariants as completion

-- What a participant that has read so many entries (`read_to`) says of its own request on which the mediator's decision came.
abbrev pub of_decision : (read_to : ℕ) → Decision → Completion
of_decision n Approved = completion.Approved n
of_decision n (Rejected from view reason) = completion.Rejected n from view reason
of_decision n (TimedOut missing) = completion.TimedOut n missing

-- What a participant that has read so many entries (`read_to`) says of its own request, which has this outcome over them.
abbrev pub completion_of : (read_to : ℕ) → Outcome → Completion
completion_of n (Decided decision) = of_decision n decision
completion_of n Expired = completion.Expired n
completion_of n Undecided = completion.NotYet n
