use Rattle.std.proofs.Common.{List, ap, ◌∙◌}
use Rattle.std.specs.Prelude.{◌||◌}
use Rattle.ledger_model.specs.Terms.{Hash}
use Rattle.contract_store.specs.declared.row.StoreRow.{StoreRow}
use Rattle.framed_form.specs.FramedReading.{framed_reading}
use Rattle.inbox_registry.specs.ChangeLists.{write_changes}
use Rattle.inbox_registry.specs.declared.change.Change.{Change}
use Rattle.prepare_request.specs.Hosted.{is_among}
use Rattle.node_inbox.proofs.AddedIds.{TellsOn}
use Rattle.node_inbox.proofs.Created.{created_told}
use Rattle.node_inbox.proofs.beginning.write_created.Goals as goal

pub returns-clause-told : goal.returns-clause-told
returns-clause-told c =
    let reading = framed_reading c.args.setup.now.topology c.args.setup.now.checked in
    let me = c.args.me in
    let law = c.ids_tell_after_each_change.ensures in
    let on : TellsOn reading me = record {
      hosted = law.hosted reading me;
      other = law.other reading me;
      again = law.again reading me;
      consumed = law.consumed reading me;
    } in
    rw (c.write.ensures.rows, c.in_ok-make_room.ensures.rows)
    (created_told reading me on c.args.row.created_at c.requires.written.0 c.args.registry.now.store.rows c.requires.written.1
    c.in_ok-changes.changes.items c.args.hosted.now.ids c.put_ids.new.hosted.ids c.requires.told
    (λ id. c.put_ids.ensures id
    ∙ (ap (λ (ids : List Hash). is_among c.in_ok-ids.ids id || is_among ids id) c.in_ok-reserve.ensures.ids
    ∙ ap (λ (ids : List Hash). is_among ids id || is_among c.args.hosted.now.ids id) (rw (c.store.ensures, c.as_slice.ensures.value) at c.in_ok-ids.ensures.ids))))

pub returns-clause-rows : goal.returns-clause-rows
returns-clause-rows c =
    c.write.ensures.rows
    ∙ (ap (λ (rows : List StoreRow). write_changes c.args.row.created_at c.in_ok-changes.changes.items rows) c.in_ok-make_room.ensures.rows
    ∙ ap (λ (changes : List Change). write_changes c.args.row.created_at changes c.args.registry.now.store.rows) c.in_ok-changes.ensures)
