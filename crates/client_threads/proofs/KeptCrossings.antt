-- What participants keep of requests may go to another thread, and be shared.
use denote.Param.Send.{IsSend, IsSync, sendable}
use denote.Param.SendFields.{as_row_send, as_row_sync, declared_send, declared_sync, variants_send, variants_sync}
use Rattle.std.proofs.Crossing.{crosses}
use Rattle.std.proofs.option.Option.TheSendSync as option
use Rattle.ledger_terms.proofs.act.Act.TheSendSync as act
use Rattle.ledger_terms.proofs.action.Action.TheSendSync as action
use Rattle.ledger_terms.proofs.hash.Hash.TheSendSync as hash
use Rattle.ledger_terms.proofs.list.ListOf.TheSendSync as list
use Rattle.ledger_terms.proofs.name.Name.TheSendSync as name
use Rattle.ledger_terms.proofs.participant_id.ParticipantId.TheSendSync as participant_id
use Rattle.ledger_terms.proofs.party_set.PartySet.TheSendSync as party_set
use Rattle.ledger_terms.proofs.tree.Branches.TheLaws.TheKnot.{send-Branches, sync-Branches, send-Tree, sync-Tree}
use Rattle.view_split.proofs.core_node.CoreChildList.TheLaws.TheKnot.{send-CoreChildList, both_sync-CoreChildList}
use Rattle.ledger_terms.specs.contracts.tree.Tree as Tree
use Rattle.view_split.specs.contracts.core_node.CoreChildList as CoreChildList
use Rattle.view_split.specs.contracts.split_view.SplitView as SplitView
use Rattle.view_split.specs.contracts.placed_view.PlacedView as PlacedView
use Rattle.view_split.specs.contracts.opened_tree.OpenedTree as OpenedTree
use Rattle.canton_model.proofs.shared_bytes.SharedBytes.TheSendSync as shared_bytes
use Rattle.canton_model.proofs.verdict.Verdict.TheSendSync as verdict
use Rattle.confirm_reply.specs.contracts.shared_tree.SharedTree as SharedTree
use Rattle.confirm_reply.proofs.id_facts.IdFacts.TheSendSync as id_facts
use Rattle.inbox_registry.proofs.change.Change.TheSendSync as change
use Rattle.node_inbox.specs.contracts.boxed_request.BoxedRequest as BoxedRequest
use Rattle.node_inbox.specs.contracts.kept_offer.KeptOffer as KeptOffer
use Rattle.node_inbox.specs.contracts.kept_item.KeptRequest as KeptRequest
use Rattle.node_inbox.specs.contracts.kept_item.KeptContent as KeptContent
use Rattle.node_inbox.specs.contracts.kept_item.KeptItem as KeptItem
use Rattle.node_inbox.specs.contracts.kept_items.KeptItems as KeptItems
use Rattle.node_inbox.specs.contracts.kept_items.KeptItems.TheInside as Inside

ruleset of_actions = (sendable, crosses, hash.the_send, hash.the_sync, action.the_send, action.the_sync, action.the_field_send, action.the_field_sync, as_row_send, as_row_sync)

pub core_send : IsSend CoreChildList.the_row
core_send = search (of_actions, send-CoreChildList) depth 40 fits 10000

pub core_sync : IsSync CoreChildList.the_row
core_sync = search (of_actions, both_sync-CoreChildList) depth 40 fits 10000

pub split_view_send : IsSend SplitView.the_row
split_view_send =
    declared_send SplitView.the_type (
      party_set.the_send,
      (party_set.the_send, (act.the_send, (search (sendable, crosses, core_send) depth 20, tt))),
    )

pub split_view_sync : IsSync SplitView.the_row
split_view_sync =
    declared_sync SplitView.the_type (
      party_set.the_sync,
      (party_set.the_sync, (act.the_sync, (search (sendable, crosses, core_sync) depth 20, tt))),
    )

pub view_send : IsSend (Tree.the_row SplitView.the_row)
view_send = search (sendable, crosses, split_view_send, send-Tree, send-Branches) depth 40 fits 10000

pub view_sync : IsSync (Tree.the_row SplitView.the_row)
view_sync = search (sendable, crosses, split_view_sync, sync-Tree, sync-Branches) depth 40 fits 10000

pub placed_view_send : IsSend PlacedView.the_row
placed_view_send =
    declared_send PlacedView.the_type (
      search (sendable, crosses, list.the_send, as_row_send) depth 20,
      (view_send, tt),
    )

pub placed_view_sync : IsSync PlacedView.the_row
placed_view_sync =
    declared_sync PlacedView.the_type (
      search (sendable, crosses, list.the_sync, as_row_sync) depth 20,
      (view_sync, tt),
    )

pub opened_tree_send : IsSend OpenedTree.the_row
opened_tree_send = search (sendable, crosses, name.the_send, party_set.the_send, list.the_send, placed_view_send) depth 40 fits 10000

pub opened_tree_sync : IsSync OpenedTree.the_row
opened_tree_sync = search (sendable, crosses, name.the_sync, party_set.the_sync, list.the_sync, placed_view_sync) depth 40 fits 10000

pub shared_tree_send : IsSend SharedTree.the_row
shared_tree_send = search (sendable, crosses, opened_tree_send, opened_tree_sync) depth 40 fits 10000

pub shared_tree_sync : IsSync SharedTree.the_row
shared_tree_sync = search (sendable, crosses, opened_tree_send, opened_tree_sync) depth 40 fits 10000

pub kept_offer_send : IsSend KeptOffer.the_row
kept_offer_send = search (variants_send, shared_tree_send) depth 12

pub kept_offer_sync : IsSync KeptOffer.the_row
kept_offer_sync = search (variants_sync, shared_tree_sync) depth 12

pub kept_request_send : IsSend KeptRequest.the_row
kept_request_send =
    declared_send KeptRequest.the_type (
      participant_id.the_send,
      (
        name.the_send,
        (
          hash.the_send,
          (
            search (sendable, crosses, list.the_send, as_row_send) depth 20,
            (
              search (sendable, crosses, list.the_send, as_row_send) depth 20,
              (
                search (sendable, crosses, option.the_field_send, shared_bytes.the_send, as_row_send) depth 20,
                (
                  kept_offer_send,
                  (
                    search (sendable, crosses, change.the_send, as_row_send) depth 20,
                    (search (sendable, crosses, list.the_send, id_facts.the_send, as_row_send) depth 20, tt),
                  ),
                ),
              ),
            ),
          ),
        ),
      ),
    )

pub kept_request_sync : IsSync KeptRequest.the_row
kept_request_sync =
    declared_sync KeptRequest.the_type (
      participant_id.the_sync,
      (
        name.the_sync,
        (
          hash.the_sync,
          (
            search (sendable, crosses, list.the_sync, as_row_sync) depth 20,
            (
              search (sendable, crosses, list.the_sync, as_row_sync) depth 20,
              (
                search (sendable, crosses, option.the_field_sync, shared_bytes.the_sync, as_row_sync) depth 20,
                (
                  kept_offer_sync,
                  (
                    search (sendable, crosses, change.the_sync, as_row_sync) depth 20,
                    (search (sendable, crosses, list.the_sync, id_facts.the_sync, as_row_sync) depth 20, tt),
                  ),
                ),
              ),
            ),
          ),
        ),
      ),
    )

pub boxed_request_send : IsSend BoxedRequest.the_row
boxed_request_send = search (sendable, crosses, kept_request_send) depth 40 fits 10000

pub boxed_request_sync : IsSync BoxedRequest.the_row
boxed_request_sync = search (sendable, crosses, kept_request_sync) depth 40 fits 10000

pub kept_content_send : IsSend KeptContent.the_row
kept_content_send = search (variants_send, boxed_request_send, verdict.the_send) depth 12

pub kept_content_sync : IsSync KeptContent.the_row
kept_content_sync = search (variants_sync, boxed_request_sync, verdict.the_sync) depth 12

pub kept_item_send : IsSend KeptItem.the_row
kept_item_send = declared_send KeptItem.the_type (search (sendable, as_row_send) depth 20, (kept_content_send, tt))

pub kept_item_sync : IsSync KeptItem.the_row
kept_item_sync = declared_sync KeptItem.the_type (search (sendable, as_row_sync) depth 20, (kept_content_sync, tt))

kept_inside_send : IsSend Inside.the_row
kept_inside_send =
    declared_send Inside.the_type (
      search (sendable, as_row_send) depth 20,
      (
        search (sendable, as_row_send) depth 20,
        (kept_content_send, (search (sendable, crosses, kept_item_send, as_row_send) depth 20, tt)),
      ),
    )

kept_inside_sync : IsSync Inside.the_row
kept_inside_sync =
    declared_sync Inside.the_type (
      search (sendable, as_row_sync) depth 20,
      (
        search (sendable, as_row_sync) depth 20,
        (kept_content_sync, (search (sendable, crosses, kept_item_sync, as_row_sync) depth 20, tt)),
      ),
    )

pub kept_items_send : IsSend KeptItems.the_row
kept_items_send = search (sendable, kept_inside_send) depth 12

pub kept_items_sync : IsSync KeptItems.the_row
kept_items_sync = search (sendable, kept_inside_sync) depth 12
