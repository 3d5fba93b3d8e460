use Rattle.std.proofs.Common.{◌≡◌, ◌==◌, [], length, drop}
use Rattle.std.specs.List.{slice_split}
use Rattle.script_read.specs.Refs.{steps_from}
use Rattle.script_read.proofs.reference.path_named.Given as goal

abbrev pub invariant-words : goal.invariant-words
invariant-words l =
    steps_from l.path (drop (length l.yielded) (slice_split (λ b. b == 46) l.text)) ≡ steps_from [] (slice_split (λ b. b == 46) l.text)
