use Rattle.std.proofs.Common.{◌≡◌, ◌++◌, drop, filter}
use Rattle.blind_tree.specs.Recipients.{is_recipient}
use Rattle.proto_model.proofs.participants.recipients.Given as goal

abbrev pub invariant-loop-p : goal.invariant-loop-p
invariant-loop-p l =
    l.reached ++ filter (is_recipient (l.topology).hosts l.views l.sender) (drop l.p-index l.p-items)
    ≡ filter (is_recipient (l.topology).hosts l.views l.sender) l.participants
