use Rattle.std.proofs.Common.{◌≤◌, ◌<◌, ◌∙◌, length, arith}
use Rattle.std.proofs.lemmas.Grind.{common_steps}
use Rattle.contract_store.proofs.Growing.{all_more, all_done}
use Rattle.inbox_registry.specs.Room.{IsPrepared}
use Rattle.inbox_registry.specs.declared.change.Change.{Change}
use Rattle.inbox_registry.proofs.writing.make_room.Goals as goal

pub loop-change-preserved : goal.loop-change-preserved
loop-change-preserved c =
    let x = c.loop-change.invariant in
    let e = c.make_ready.ensures in
    let within : c.loop-change.change-index < length c.args.changes.now.items = grind (arith, common_steps) in
    record {
      rows = e.rows ∙ x.rows;
      holds = e.holds ∙ x.holds;
      room = grind (arith, common_steps);
      each = all_more (IsPrepared c.loop-change.store.ready) (IsPrepared c.make_ready.new.self.ready) c.args.changes.now.items c.loop-change.change-index
          c.change-item.result (λ (change : Change) there. e.ready (change.known).id there) within (rw (c.deref-change-items.ensures.value) at c.change-item.is) x.each c.in_ok-make_ready.ensures.id;
    }

pub returns-clause-room : goal.returns-clause-room
returns-clause-room c =
    let past : length c.args.changes.now.items ≤ c.loop-change.change-index = grind (arith, common_steps) in
    record {
      room = c.loop-change.invariant.room;
      each = all_done (IsPrepared c.loop-change.store.ready) c.args.changes.now.items c.loop-change.change-index past c.loop-change.invariant.each;
    }
