use Rattle.std.proofs.Common.{ap, ◌∙◌}
use Rattle.audit_model.specs.Rules.{exercised_in}
use Rattle.log_judge.proofs.Uses.{two_roots}
use Rattle.log_judge.proofs.exercised.exercised_in.Goals as goal

pub returns-in-len2-up : goal.returns-in-len2-up
returns-in-len2-up c = two_roots c.as_slice.result.now c.in-len2-up.len_at_least ∙ ap exercised_in c.as_slice.ensures
