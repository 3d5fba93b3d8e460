use Rattle.std.proofs.Common.{◌≡◌, drop, Some}
use Rattle.std.specs.Prelude.{option_copied}
use Rattle.confirm_reply.specs.Located.{after_path}
use Rattle.confirm_reply.proofs.cores.after_path.Given as goal

abbrev pub invariant-loop-step : goal.invariant-loop-step
invariant-loop-step l = after_path (option_copied l.left) (drop l.step-index l.path) ≡ after_path (Some l.wanted) l.path
