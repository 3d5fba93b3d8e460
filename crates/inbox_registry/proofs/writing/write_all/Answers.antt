use Rattle.std.proofs.Common.{◌≡◌, ◌∷◌, List, sym, ap, ◌∙◌}
use Rattle.std.specs.Vec.Iter.{into_iter_items}
use Rattle.contract_store.specs.declared.row.StoreRow.{StoreRow}
use Rattle.inbox_registry.specs.ChangeLists.{write_changes}
use Rattle.inbox_registry.specs.declared.change.Change.{Change}
use Rattle.inbox_registry.proofs.Room.{room_left}
use Rattle.inbox_registry.proofs.writing.write_all.Goals as goal

pub loop-change-preserved : goal.loop-change-preserved
loop-change-preserved c =
    let x = c.loop-change.invariant in
    let e = c.write_one.ensures in
    let items : into_iter_items c.loop-change.change-iterator ≡ c.in-Some.change ∷ into_iter_items c.next.new.self = c.in-Some.ensures.steps.0 in
    record {
      next = tt;
      finite = tt;
      rows = ap (λ (rs : List StoreRow). write_changes c.args.place (into_iter_items c.next.new.self) rs) e.rows
          ∙ sym (ap (λ (xs : List Change). write_changes c.args.place xs c.loop-change.store.rows) items) ∙ x.rows;
      room = room_left c.loop-change.store.ready c.write_one.new.store.ready c.loop-change.store.spare c.write_one.new.store.spare c.in-Some.change
          (into_iter_items c.next.new.self) (into_iter_items c.loop-change.change-iterator) items e.ready e.spare x.room;
      holds = e.holds ∙ x.holds;
    }
