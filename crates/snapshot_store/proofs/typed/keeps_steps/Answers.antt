use Rattle.message_bytes.specs.InRange.{IsStep}
use Rattle.snapshot_store.proofs.Ranged.{all_kept}
use Rattle.snapshot_store.proofs.typed.keeps_steps.Goals as goal

pub returns : goal.returns
returns c = all_kept IsStep _ _ c.loop-step-test.false c.loop-step.invariant
