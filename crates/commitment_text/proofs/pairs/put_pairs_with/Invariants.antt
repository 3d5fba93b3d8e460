use Rattle.std.proofs.Common.{◌≡◌, ◌++◌, drop, map, string_bytes}
use Rattle.std.specs.List.{flat_map}
use Rattle.framed_form.specs.FramedReading.{framed_reading}
use Rattle.commitment_text.specs.Asked.{counterparty_of}
use Rattle.commitment_text.specs.Commitments.{pair_text}
use Rattle.commitment_text.proofs.pairs.put_pairs_with.Given as goal

-- the lines so far and those of the participants that are left are all
abbrev pub invariant-others : goal.invariant-others
invariant-others l =
    string_bytes l.out
    ++ flat_map (pair_text (framed_reading (l.setup).topology (l.setup).checked) (counterparty_of l.one)) (map counterparty_of (drop l.other-index l.others))
    ≡ string_bytes l.fn.out
    ++ flat_map (pair_text (framed_reading (l.setup).topology (l.setup).checked) (counterparty_of l.one)) (map counterparty_of l.others)
