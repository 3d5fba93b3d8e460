use Rattle.std.proofs.Common.{arith}
use Rattle.wire_form.specs.Reading.{instance_at}
use Rattle.wire_form.specs.Spelling.{spell_instance}
use Rattle.wire_form.specs.InRange.{IsInstance}
use Rattle.wire_form.proofs.PlacedLaws.{decodes}
use Rattle.wire_form.proofs.ValueLaws.{instance_reads}
use Rattle.wire_form.proofs.decode.decode_instance.Goals as goal

pub returns : goal.returns
returns c =
    let d = decodes spell_instance IsInstance instance_at instance_reads c.args.bytes.now c.args.at c.new-reader.result c.instance-read.result c.instance-read.new.self c.len.result c.placed.result (λ i. omega (arith, c.type_inv.bytes i)) c.requires c.new-reader.ensures c.instance-read.ensures c.len.ensures c.placed.ensures in
    record { exact = d.exact; found = d.found; only = d.only }
