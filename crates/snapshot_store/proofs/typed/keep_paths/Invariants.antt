use Rattle.std.proofs.Common.{All, take}
use Rattle.message_bytes.specs.InRange.{IsPath}
use Rattle.message_bytes.specs.Spellable.{IsSpellablePath}
use Rattle.snapshot_store.proofs.typed.keep_paths.Given as goal

abbrev pub invariant-loop-path : goal.invariant-loop-path
invariant-loop-path l = All (λ path. IsSpellablePath path → IsPath path) (take l.path-index l.paths)
