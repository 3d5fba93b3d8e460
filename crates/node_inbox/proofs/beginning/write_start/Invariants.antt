use Rattle.std.proofs.Common.{◌≡◌, [], map, take}
use Rattle.contract_store.specs.Written.{written}
use Rattle.framed_form.specs.FramedReading.{framed_reading}
use Rattle.inbox_registry.specs.Changes.{creation_of}
use Rattle.prepare_request.specs.Hosted.{AreTold}
use Rattle.node_inbox.proofs.beginning.write_start.Given as goal

abbrev pub invariant-rows : goal.invariant-rows
invariant-rows l = record {
  told : AreTold (framed_reading l.setup.topology l.setup.checked) l.me l.hosted.ids l.registry.store.rows;
  rows : l.registry.store.rows ≡ written (map creation_of (take l.at l.fn.registry.start.active)) [];
  holds : l.registry.store.holds ≡ l.fn.registry.store.holds;
  tracking : l.registry.tracking ≡ l.fn.registry.tracking;
  start : l.registry.start ≡ l.fn.registry.start;
}
