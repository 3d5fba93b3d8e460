use Rattle.std.proofs.Common.{sym, arith}
use Rattle.std.proofs.lemmas.List.FromFn.{map-range_with_len_more}
use Rattle.load_gen.specs.Submissions.{transfer_of}
use Rattle.load_gen.proofs.submissions.generated_transfers.Goals as goal

pub turns-preserved : goal.turns-preserved
turns-preserved c =
    rw (c.in_ok-push.ensures.ok, c.turns.invariant, c.in_ok-transfer_of.ensures)
    (sym (map-range_with_len_more transfer_of 0 c.turns.turn c.turns.turn (omega arith)))
