-- The verdicts that are owed on views.
use Rattle.std.specs.Prelude.{List, map}
use Rattle.ledger_model.specs.Terms.{Path}
use Rattle.canton_model.specs.declared.view_verdict.ViewVerdict.{ViewVerdict}
use Rattle.confirm_reply.specs.Verdict.{verdict_of}
use Rattle.confirm_reply.specs.declared.check_input.CheckInput.{CheckInput}

-- The path of a view with the local verdict that a participant's check gives on that view (`verdict_of`). The check goes by `input`: the setup, the
-- participant and the sender, the time of the request's entry, what the participant is shown, and what it knows of the contracts in that. Whether it
-- confirms the view isn't asked.
abbrev pub owed_on : CheckInput → Path → ViewVerdict
owed_on input path = record { view = path; verdict = verdict_of input path }

-- each of these paths with the model's verdict on its view, in order
abbrev pub owed_on_each : CheckInput → List Path → List ViewVerdict
owed_on_each input paths = map (owed_on input) paths
