use Rattle.std.proofs.Common.{sym, ◌∙◌}
use Rattle.inbox_registry.proofs.Expiry.{passing_ends}
use Rattle.inbox_registry.proofs.passing.pass_time.Goals as goal

pub late-preserved : goal.late-preserved
late-preserved c =
    let e = c.expire_one.ensures in
    let x = c.late.invariant in
    record {
      passing = e.step c.args.tracker.now.pairs c.args.store.now.holds x.passing;
      rows = e.rows ∙ x.rows;
      ready = e.ready ∙ x.ready;
      spare = e.spare ∙ x.spare;
      cursor = e.cursor ∙ x.cursor;
    }

pub returns-clause-pairs : goal.returns-clause-pairs
returns-clause-pairs c =
    passing_ends c.args.time c.args.tracker.now.pairs c.late.tracker.pairs c.args.store.now.holds c.late.store.holds
    (sym c.first_late.ensures ∙ c.in_default.is) c.late.invariant.passing
