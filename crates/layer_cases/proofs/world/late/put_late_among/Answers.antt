use Rattle.std.specs.Prelude.{slice_index_or}
use Rattle.world_play.proofs.Passing.{in_turn, item_at}
use Rattle.layer_cases.proofs.world.late.put_late_among.Goals as goal

pub put_first-requires : goal.put_first-requires
put_first-requires c =
    let nodes = c.args.nodes.now in
    let k = c.args.at in
    let r = c.requires in (
      r.0,
      k,
      in_turn nodes c.args.sequencer.now k (slice_index_or nodes k c.index-nodes-at.result) (item_at nodes k c.index-nodes-at.result c.if-at-nodes.true)
          r.0 r.1 r.2 r.3 r.4,
    )
