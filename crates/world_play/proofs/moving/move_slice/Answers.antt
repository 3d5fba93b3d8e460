use Rattle.std.proofs.Common.{List, map, ap, ◌∙◌, arith}
use Rattle.std.specs.Prelude.{slice_index_or}
use Rattle.world_model.specs.Node.{NodeState}
use Rattle.node_core.specs.OverLog.{state_over}
use Rattle.world_play.specs.Worlds.{world_with}
use Rattle.world_play.proofs.Answered.{on_ok, three_ok}
use Rattle.world_play.proofs.Happened.{nobody, past}
use Rattle.world_play.proofs.Passing.{item_at, in_turn, moved_states, nodes_then, set_up_then, bases_then, map_at, length_states}
use Rattle.world_play.proofs.moving.move_slice.Goals as goal

pub move_once-requires : goal.move_once-requires
move_once-requires g c =
    let nodes = c.args.nodes.now in
    let k = c.args.at in
    let r = c.requires in (
      r.0,
      k,
      in_turn nodes c.args.sequencer.now k (slice_index_or nodes k c.index-nodes-at.result) (item_at nodes k c.index-nodes-at.result c.if-at-nodes.true)
          r.0 r.1 r.2 r.3 r.4,
    )

pub returns-then-at-nodes-clause-nodes : goal.returns-then-at-nodes-clause-nodes
returns-then-at-nodes-clause-nodes g c =
    let nodes = c.args.nodes.now in
    let k = c.args.at in
    let r = c.requires in
    let s = c.args.sequencer.now in
    let node = slice_index_or nodes k c.index-nodes-at.result in
    let at = item_at nodes k c.index-nodes-at.result c.if-at-nodes.true in
    three_ok c.move_once.result _ _ _ _ c.move_once.ensures.on c.move_once.ensures.same c.move_once.ensures.inbox
    (λ on same inbox m a.
    nodes_then nodes s k node at c.move_once.new.node c.move_once.new.sequencer on same (inbox r.0 k (in_turn nodes s k node at r.0 r.1 r.2 r.3 r.4)) m a)

pub returns-then-at-nodes-clause-set_up : goal.returns-then-at-nodes-clause-set_up
returns-then-at-nodes-clause-set_up g c =
    let nodes = c.args.nodes.now in
    let k = c.args.at in
    on_ok c.move_once.result _ _ c.move_once.ensures.same
    (λ same topology packages u.
    set_up_then nodes c.args.sequencer.now k (slice_index_or nodes k c.index-nodes-at.result)
    (item_at nodes k c.index-nodes-at.result c.if-at-nodes.true) c.move_once.new.node same topology packages u)

pub returns-then-at-nodes-clause-bases : goal.returns-then-at-nodes-clause-bases
returns-then-at-nodes-clause-bases g c =
    let nodes = c.args.nodes.now in
    let k = c.args.at in
    on_ok c.move_once.result _ _ c.move_once.ensures.same
    (λ same bases u.
    bases_then nodes c.args.sequencer.now k (slice_index_or nodes k c.index-nodes-at.result)
    (item_at nodes k c.index-nodes-at.result c.if-at-nodes.true) c.move_once.new.node same bases u)

pub returns-then-at-nodes-clause-ok : goal.returns-then-at-nodes-clause-ok
returns-then-at-nodes-clause-ok g c =
    let nodes = c.args.nodes.now in
    let k = c.args.at in
    let s = c.args.sequencer.now in
    let node = slice_index_or nodes k c.index-nodes-at.result in
    let at = item_at nodes k c.index-nodes-at.result c.if-at-nodes.true in
    let node' = c.move_once.new.node in
    let s' = c.move_once.new.sequencer in
    three_ok c.move_once.result _ _ _ _ c.move_once.ensures.on c.move_once.ensures.same c.move_once.ensures.ok
    (λ on same ok m now state a l.
    ap (λ (ns : List NodeState). record { log = s'.list; now = now; mediator = state; nodes = ns })
    (moved_states nodes s k node at node' s' on same m a)
    ∙ ok m k (in_turn nodes s k node at m now state a l) now state (map (state_over s.list) nodes) (map_at s.list nodes k node at))

pub returns-clause-ok : goal.returns-clause-ok
returns-clause-ok g c = λ m now state a l.
    let nodes = c.args.nodes.now in
    let k = c.args.at in
    let s = c.args.sequencer.now in
    nobody m (world_with now state nodes s) k c.args.action
    (past (map (state_over s.list) nodes) k (let long = length_states s.list nodes in let out = c.if-at-nodes.false in omega (arith, long, out)))
