use Rattle.std.proofs.Common.{arith}
use Rattle.wire_form.specs.Reading.{value_at}
use Rattle.wire_form.specs.Spelling.{spell_value}
use Rattle.wire_form.specs.InRange.{IsInRange}
use Rattle.wire_form.proofs.PlacedLaws.{decodes}
use Rattle.wire_form.proofs.ValueLaws.{value_reads}
use Rattle.wire_form.proofs.decode.decode_value.Goals as goal

pub returns : goal.returns
returns c =
    let d = decodes spell_value IsInRange value_at value_reads c.args.bytes.now c.args.at c.new-reader.result c.value-read.result c.value-read.new.self c.len.result c.placed.result (λ i. omega (arith, c.type_inv.bytes i)) c.requires c.new-reader.ensures c.value-read.ensures c.len.ensures c.placed.ensures in
    record { exact = d.exact; found = d.found; only = d.only }
