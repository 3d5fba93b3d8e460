use Rattle.std.proofs.Common.{◌∙◌, ap, arith}
use Rattle.std.specs.Prelude.{if◌then◌else◌, option_map}
use Rattle.ledger_terms.specs.declared.active_row.ActiveRow.{ActiveRow}
use Rattle.std.proofs.lemmas.Grind.{common_steps}
use Rattle.contract_store.specs.Active.{active, sooner}
use Rattle.contract_store.proofs.Places.{get_some}
use Rattle.contract_store.proofs.SaltSteps.{walk_begins, walk_step, walk_below, row_within}
use Rattle.contract_store.proofs.active.first_with_salt.Goals as goal

pub back-init : goal.back-init
back-init g c =
    let begins =
    walk_begins (g.T.ContractTest.passes c.args.test.now) c.args.kept.now.items c.args.salt.now c.salt_behind-cursor.result (rw c.salt_behind-cursor.ensures (c.requires.last c.args.salt.now)) in
    record { best = begins.0; alike = begins.1 }

pub sooner_passing-best-requires : goal.sooner_passing-best-requires
sooner_passing-best-requires g c =
    let w = row_within c.args.kept.now.items c.args.salt.now c.in-Some.at (rw c.in-Some.is at c.back.invariant.alike) in
    grind (arith, common_steps)

pub before_row-cursor-requires : goal.before_row-cursor-requires
before_row-cursor-requires g c =
    let w = row_within c.args.kept.now.items c.args.salt.now c.in-Some.at (rw c.in-Some.is at c.back.invariant.alike) in
    grind (arith, common_steps)

pub back-smaller : goal.back-smaller
back-smaller g c =
    let w = row_within c.args.kept.now.items c.args.salt.now c.in-Some.at (rw c.in-Some.is at c.back.invariant.alike) in
    let k = get_some c.args.kept.now.items c.in-Some.at w in
    let below = walk_below c.args.kept.now.items c.in-Some.at k.0 k.1 c.requires.linked in
    rw (c.in-Some.is, c.before_row-cursor.ensures k.0 k.1) (omega arith)

pub back-preserved : goal.back-preserved
back-preserved g c =
    let alike = rw c.in-Some.is at c.back.invariant.alike in
    let best = rw c.in-Some.is at c.back.invariant.best in
    let w = row_within c.args.kept.now.items c.args.salt.now c.in-Some.at alike in
    let k = get_some c.args.kept.now.items c.in-Some.at w in
    let step = walk_step (g.T.ContractTest.passes c.args.test.now) c.args.kept.now.items c.args.salt.now c.in-Some.at k.0 k.1 c.requires.linked alike in
    rw (c.before_row-cursor.ensures k.0 k.1)
    (record {
      best = c.sooner_passing-best.ensures k.0 k.1
          ∙ ap (λ o. if g.T.ContractTest.passes c.args.test.now k.0.row.known then sooner (active k.0.row) o else o) best ∙ step.0;
      alike = step.1;
    })

pub returns : goal.returns
returns g c =
    let best = rw c.in_default.is at c.back.invariant.best in
    c.known_at.ensures ∙ ap (option_map (λ (a : ActiveRow). a.known)) best
