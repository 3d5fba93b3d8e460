use Rattle.std.proofs.Common.{◌≡◌, true, get_or, arith}
use Rattle.std.proofs.lemmas.Grind.{common_steps}
use Rattle.std.proofs.lemmas.Option.{slice_get-get_or}
use Rattle.node_core.specs.Duties.{is_free}
use Rattle.node_core.proofs.DutyFacts.{found_at, found_nowhere}
use Rattle.node_core.proofs.duties.passed_now.Goals as goal

pub returns-then-not-has_decided-clause-first : goal.returns-then-not-has_decided-clause-first
returns-then-not-has_decided-clause-first g c =
    let owed = c.args.owed.now in
    let at = c.loop-at.at in
    let free : is_free (g.D.Decisions.decided c.args.decisions.now) c.args.claimed.now.keys (get_or owed at 0) ≡ true = grind (arith, common_steps) in
    found_at (is_free (g.D.Decisions.decided c.args.decisions.now) c.args.claimed.now.keys) owed at (get_or owed at 0)
    (slice_get-get_or owed at 0 c.loop-at-test.true) c.loop-at.invariant.1 free

pub returns-clause-first : goal.returns-clause-first
returns-clause-first g c = grind (arith, common_steps, found_nowhere)
