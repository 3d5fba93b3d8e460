use Rattle.std.proofs.Common.{arith}
use Rattle.wire_form.specs.Reading.{action_at}
use Rattle.wire_form.specs.Spelling.{spell_action}
use Rattle.wire_form.specs.InRange.{IsAction}
use Rattle.wire_form.proofs.PlacedLaws.{decodes}
use Rattle.wire_form.proofs.ValueLaws.{action_reads}
use Rattle.wire_form.proofs.decode.decode_action.Goals as goal

pub returns : goal.returns
returns c =
    let d = decodes spell_action IsAction action_at action_reads c.args.bytes.now c.args.at c.new-reader.result c.action-read.result c.action-read.new.self c.len.result c.placed.result (λ i. omega (arith, c.type_inv.bytes i)) c.requires c.new-reader.ensures c.action-read.ensures c.len.ensures c.placed.ensures in
    record { exact = d.exact; found = d.found; only = d.only }
