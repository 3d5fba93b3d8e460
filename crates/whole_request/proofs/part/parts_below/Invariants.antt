use Rattle.std.proofs.Common.{◌≡◌, ◌++◌, drop}
use Rattle.whole_request.specs.Places.{shown_below}
use Rattle.whole_request.proofs.part.parts_below.Given as goal

abbrev pub invariant-loop-part : goal.invariant-loop-part
invariant-loop-part l = l.below.items ++ shown_below l.at (drop l.part-index l.parts) ≡ shown_below l.at l.parts
