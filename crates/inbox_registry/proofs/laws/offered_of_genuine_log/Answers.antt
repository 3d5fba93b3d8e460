use Rattle.canton_model.proofs.Approved.{opens_of}
use Rattle.canton_model.proofs.FromGenuine.{consistent_of_log}
use Rattle.inbox_registry.proofs.InboxOrder.{inbox_in_order}
use Rattle.inbox_registry.proofs.LedgerOnce.{created_once_in_inbox}
use Rattle.inbox_registry.proofs.Offered.{offered_is_node_active}
use Rattle.inbox_registry.proofs.laws.offered_of_genuine_log.Goals as goal

pub returns : goal.returns
returns c reading params log p n lawful distinct genuine within =
    let opens = opens_of reading params log lawful genuine distinct p in
    let consistent = consistent_of_log reading params log lawful genuine distinct in
    offered_is_node_active reading p _ (inbox_in_order reading p n log genuine.timely.times)
    (created_once_in_inbox reading params log p n genuine.timely opens within consistent.once)
