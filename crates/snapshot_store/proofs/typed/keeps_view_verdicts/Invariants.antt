use Rattle.std.proofs.Common.{All, take}
use Rattle.message_bytes.specs.InRange.{IsViewVerdict}
use Rattle.message_bytes.specs.Spellable.{IsSpellableViewVerdict}
use Rattle.snapshot_store.proofs.typed.keeps_view_verdicts.Given as goal

abbrev pub invariant-loop-verdict : goal.invariant-loop-verdict
invariant-loop-verdict l = All (λ verdict. IsSpellableViewVerdict verdict → IsViewVerdict verdict) (take l.verdict-index l.verdicts)
