use Rattle.std.proofs.Common.{All, take}
use Rattle.wire_form.specs.InRange.{IsHash}
use Rattle.snapshot_store.proofs.typed.keeps_hashes.Given as goal

abbrev pub invariant-loop-hash : goal.invariant-loop-hash
invariant-loop-hash l = All IsHash (take l.hash-index l.hashes)
