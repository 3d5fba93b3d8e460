use Rattle.std.proofs.Common.{◌≡◌, ◌++◌, ◌&&◌, List, [], drop, map, take}
use Rattle.indexmap.specs.IndexMap.{keys}
use Rattle.ledger_model.specs.Terms.{Hash}
use Rattle.framed_form.specs.FramedReading.{framed_reading}
use Rattle.inbox_registry.specs.ChangeLists.{id_in}
use Rattle.node_inbox.specs.AddedIds.{added_behind, are_new}
use Rattle.node_inbox.proofs.added_ids.added_ids.Given as goal

abbrev pub invariant-loop-at : goal.invariant-loop-at
invariant-loop-at l =
    let before : List Hash = map id_in (take l.at l.first) ++ keys l.later in
    (l.ids ++ added_behind (framed_reading l.setup.topology l.setup.checked) l.me l.store.rows before (drop l.at l.changes)
    ≡ added_behind (framed_reading l.setup.topology l.setup.checked) l.me l.store.rows [] l.changes)
    × ((l.all_are_new && are_new l.store.rows before (drop l.at l.changes)) ≡ are_new l.store.rows [] l.changes)
