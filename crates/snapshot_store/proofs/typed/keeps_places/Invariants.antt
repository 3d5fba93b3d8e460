use Rattle.std.proofs.Common.{All, take}
use Rattle.message_bytes.specs.InRange.{IsPlace}
use Rattle.snapshot_store.proofs.typed.keeps_places.Given as goal

abbrev pub invariant-loop-place : goal.invariant-loop-place
invariant-loop-place l = All IsPlace (take l.place-index l.places)
