use Rattle.std.proofs.Common.{All, take}
use Rattle.message_bytes.specs.InRange.{IsStep}
use Rattle.snapshot_store.proofs.typed.keeps_steps.Given as goal

abbrev pub invariant-loop-step : goal.invariant-loop-step
invariant-loop-step l = All IsStep (take l.step-index l.steps)
