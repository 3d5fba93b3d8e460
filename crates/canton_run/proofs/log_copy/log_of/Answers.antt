use Rattle.std.proofs.Common.{◌∙◌}
use Rattle.canton_run.proofs.Copied.{copied_on}
use Rattle.canton_run.proofs.log_copy.log_of.Goals as goal

pub entries-preserved : goal.entries-preserved
entries-preserved c =
    let inv = c.entries.invariant in (
      c.in-Some.ensures.same ∙ inv.0,
      copied_on c.args.sequencer.now c.entries.sequencer inv.0 c.entries.log inv.1 c.len.result c.len.ensures (c.in-Some.ensures.some).0 c.in-Some.slip
          (c.in-Some.ensures.some).1 c.entry-in-Some.result.now c.in_ok-copy_of.field-0 c.entry-in-Some.ensures c.in_ok-copy_of.ensures
          c.push.new.self c.in_ok-push.ensures.ok,
    )
