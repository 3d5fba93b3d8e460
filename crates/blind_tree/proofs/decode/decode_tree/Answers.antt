use Rattle.std.proofs.Common.{arith}
use Rattle.blind_tree.specs.Spelling.{spell_tree}
use Rattle.blind_tree.specs.InRange.{IsTree}
use Rattle.blind_tree.specs.Reading.{tree_at}
use Rattle.blind_tree.proofs.AllLaws.{decodes_all}
use Rattle.blind_tree.proofs.TreeLaws.{tree_reads}
use Rattle.blind_tree.proofs.decode.decode_tree.Goals as goal

pub returns : goal.returns
returns c =
    let d = decodes_all spell_tree IsTree tree_at tree_reads c.args.bytes.now c.new-reader.result c.read_tree-read.new.reader c.read_tree-read.result c.len.result c.finish.result (λ i. omega (arith, c.type_inv.bytes i)) c.new-reader.ensures c.read_tree-read.ensures c.len.ensures c.finish.ensures in
    record { exact = d.exact; found = d.found; only = d.only }
