use Rattle.std.proofs.Common.{arith}
use Rattle.wire_form.specs.Reading.{set_at}
use Rattle.wire_form.specs.Spelling.{spell_parties}
use Rattle.wire_form.specs.InRange.{IsPartySet}
use Rattle.wire_form.proofs.PlacedLaws.{decodes}
use Rattle.wire_form.proofs.ValueLaws.{set_reads}
use Rattle.wire_form.proofs.decode.decode_parties.Goals as goal

pub returns : goal.returns
returns c =
    let d = decodes spell_parties IsPartySet set_at set_reads c.args.bytes.now c.args.at c.new-reader.result c.parties-read.result c.parties-read.new.self c.len.result c.placed.result (λ i. omega (arith, c.type_inv.bytes i)) c.requires c.new-reader.ensures c.parties-read.ensures c.len.ensures c.placed.ensures in
    record { exact = d.exact; found = d.found; only = d.only }
