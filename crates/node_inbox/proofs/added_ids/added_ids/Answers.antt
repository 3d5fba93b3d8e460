use Rattle.std.proofs.Common.{◌++◌, ◌+◌, ◌≤◌, length, map, take, ap, ◌∙◌, List, Bool, arith}
use Rattle.std.proofs.lemmas.Grind.{common_steps}
use Rattle.std.specs.Prelude.{◌&&◌, ◌||◌, not}
use Rattle.indexmap.specs.IndexMap.{keys}
use Rattle.ledger_model.specs.Terms.{Hash}
use Rattle.framed_form.specs.FramedReading.{framed_reading}
use Rattle.inbox_registry.specs.ChangeLists.{id_in}
use Rattle.node_inbox.specs.AddedIds.{added_if, is_new}
use Rattle.node_inbox.proofs.AddedIds.{added_step, changed_step, new_end, new_step}
use Rattle.node_inbox.proofs.added_ids.added_ids.Goals as goal

pub loop-at-preserved : goal.loop-at-preserved
loop-at-preserved c =
    let reading = framed_reading c.args.setup.now.topology c.args.setup.now.checked in
    let rows = c.args.store.now.rows in
    let few = c.front-first.result.now in
    let before : List Hash = map id_in (take c.loop-at.at few) ++ keys c.loop-at.later in
    let after : List Hash = map id_in (take (c.loop-at.at + 1) few) ++ keys c.put_if.new.changed in
    let new =
    c.is_new-is_new.ensures ∙ ap (λ first. is_new rows (map id_in first ++ keys c.loop-at.later) c.index-changes-at.result) c.front.ensures in
    let grown = c.in_ok-add_if.ensures ∙ ap (λ (b : Bool). c.loop-at.ids ++ added_if reading c.args.me b c.index-changes-at.result) new in
    let all = c.all_new-all_are_new.ensures ∙ ap (λ (b : Bool). c.loop-at.all_are_new && (b || not (c.index-changes-at.result).is_create)) new in
    let among =
    changed_step c.args.changes.now 8 c.loop-at.at c.index-changes-at.result few (keys c.loop-at.later) (keys c.put_if.new.changed)
    c.front-first.ensures c.loop-at-test.true c.index-changes-at.is c.in_ok-put_if.ensures in (
      added_step reading c.args.me rows c.args.changes.now c.loop-at.at c.index-changes-at.result c.loop-at.ids c.add_if.new.ids _
          before after c.loop-at-test.true c.index-changes-at.is grown among c.loop-at.invariant.0,
      new_step rows c.args.changes.now c.loop-at.at c.index-changes-at.result c.loop-at.all_are_new _ _ before after c.loop-at-test.true
          c.index-changes-at.is all among c.loop-at.invariant.1,
    )

pub returns-clause-new : goal.returns-clause-new
returns-clause-new c =
    let past : length c.args.changes.now ≤ c.loop-at.at = grind (arith, common_steps) in
    new_end c.args.store.now.rows c.args.changes.now c.loop-at.at c.loop-at.all_are_new _ _ past c.loop-at.invariant.1
