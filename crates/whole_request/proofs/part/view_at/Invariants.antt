use Rattle.std.proofs.Common.{◌≡◌, drop}
use Rattle.framed_form.specs.Together.{view_at}
use Rattle.whole_request.specs.Places.{parts_at}
use Rattle.whole_request.proofs.part.view_at.Given as goal

abbrev pub invariant-loop-part : goal.invariant-loop-part
invariant-loop-part l = view_at l.path (parts_at l.at (drop l.part-index l.parts)) ≡ view_at l.path (parts_at l.at l.parts)
