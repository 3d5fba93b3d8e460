use Rattle.std.proofs.Common.{◌≡◌, ◌++◌, drop}
use Rattle.framed_form.specs.FramedReading.{framed_reading}
use Rattle.acs_commit.specs.Shared.{shared_ids}
use Rattle.acs_commit.proofs.counterparties.shared_ids.Given as goal

abbrev pub invariant-loop-row : goal.invariant-loop-row
invariant-loop-row l =
    l.ids ++ shared_ids (framed_reading l.topology l.checked) l.with (drop l.row-index l.row-items) ≡ shared_ids (framed_reading l.topology l.checked) l.with l.rows
