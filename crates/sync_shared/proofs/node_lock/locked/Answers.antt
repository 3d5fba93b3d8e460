use Rattle.std.proofs.Common.{◌≡◌, List, [], ◌∷◌, length, ap, subst, arith}
use Rattle.std.proofs.lemmas.List.{length-append}
use Rattle.log_row.specs.LogPrefix.{RowName}
use Rattle.node_core.specs.Participant.{Participant}
use Rattle.sync_shared.specs.Behind.{AreNodesBehind}
use Rattle.sync_shared.specs.Slips.{InRow, read_to}
use Rattle.sync_shared.proofs.NodeLists.{nodes_front, node_last, node_within}
use Rattle.sync_shared.proofs.node_lock.locked.Goals as goal

pub of-requires : goal.of-requires
of-requires g c =
    let nodes = c.pop.new.self.items in
    let node = c.in_ok-node.node in
    let log = c.args.sequencer.now.list in
    let items = c.in_ok-node.ensures.items in
    let h =
    subst (λ (xs : List Participant). AreNodesBehind g.S.Session.topology g.S.Session.packages g.S.Session.machine g.S.Session.why g.S.Session.bases log xs) items c.requires.nodes in
    let total = length-append nodes (node ∷ []) in
    let same = ap length items in
    let room = c.args.room.now.ok.0 in
    let most = c.requires.most in
    let len = c.len.ensures in
    let more = c.if-len.false in
    let long : length nodes ≡ g.row.I = omega (arith, total, same, room, most, len, more) in (
      omega arith,
      (
        subst (λ (row : RowName). InRow row c.slip_to-last.result) c.requires.row c.slip_to-last.ensures.row,
        node_last g.S.Session.topology g.S.Session.packages g.S.Session.machine g.S.Session.why g.S.Session.bases log nodes node h g.row.I long
            (read_to c.slip_to-last.result) c.cursor.result c.cursor.ensures c.slip_to-last.ensures.list,
      ),
    )

pub returns-clause-nodes : goal.returns-clause-nodes
returns-clause-nodes g c =
    let log = c.args.sequencer.now.list in
    nodes_front g.S.Session.topology g.S.Session.packages g.S.Session.machine g.S.Session.why g.S.Session.bases log c.pop.new.self.items c.in_ok-node.node
    (subst (λ (xs : List Participant). AreNodesBehind g.S.Session.topology g.S.Session.packages g.S.Session.machine g.S.Session.why g.S.Session.bases log xs)
    c.in_ok-node.ensures.items c.requires.nodes)

pub slip_to-last-requires : goal.slip_to-last-requires
slip_to-last-requires g c =
    node_within g.S.Session.topology g.S.Session.packages g.S.Session.machine g.S.Session.why g.S.Session.bases c.args.sequencer.now.list c.pop.new.self.items c.in_ok-node.node
    (subst (λ (xs : List Participant). AreNodesBehind g.S.Session.topology g.S.Session.packages g.S.Session.machine g.S.Session.why g.S.Session.bases c.args.sequencer.now.list xs)
    c.in_ok-node.ensures.items c.requires.nodes) c.cursor.result c.cursor.ensures
