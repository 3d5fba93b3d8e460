use Rattle.std.proofs.Common.{arith}
use Rattle.lang_eval.proofs.Archived.{archived_more}
use Rattle.lang_eval.proofs.checked.package_with_archives.Goals as goal

pub loop-i-preserved : goal.loop-i-preserved
loop-i-preserved c =
    let before = c.loop-i-test.true in
    let many = c.len-i-end.ensures in
    let given = c.into_vec-templates.ensures in
    let view = c.given.view_is in
    archived_more c.loop-i.templates.items c.args.given.templates c.loop-i.i c.index_mut.result.now c.add_archive.new.template (grind arith)
    c.loop-i.invariant c.index_mut.ensures.value c.in_ok-add_archive.ensures
