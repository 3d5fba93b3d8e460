use Rattle.std.proofs.Common.{◌≡◌, ◌++◌, drop, map, string_bytes}
use Rattle.framed_form.specs.FramedReading.{framed_reading}
use Rattle.commitment_text.specs.Asked.{counterparty_of}
use Rattle.commitment_text.specs.Commitments.{pairs_text}
use Rattle.commitment_text.proofs.pairs.put_pairs.Given as goal

-- the lines so far and those among the participants that are left are all
abbrev pub invariant-all : goal.invariant-all
invariant-all l =
    string_bytes l.out ++ pairs_text (framed_reading (l.setup).topology (l.setup).checked) (map counterparty_of (drop l.at l.all))
    ≡ string_bytes l.fn.out ++ pairs_text (framed_reading (l.setup).topology (l.setup).checked) (map counterparty_of l.all)
