use Rattle.std.proofs.Common.{◌≡◌, ◌++◌, map, take}
use Rattle.world_model.specs.Node.{with_items}
use Rattle.node_inbox.specs.Raw.{item_by}
use Rattle.node_core.specs.Participant.{items_of, with_state}
use Rattle.node_core.proofs.node.Node.put_all.Given as goal

abbrev pub invariant-loop-item : goal.invariant-loop-item
invariant-loop-item l =
    l.self ≡ with_state l.fn.self (with_items l.fn.self.state (items_of l.fn.self ++ map (item_by l.fn.self.topology) (take l.item-index l.items)))
