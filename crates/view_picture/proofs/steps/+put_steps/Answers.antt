use Rattle.std.proofs.Common.{◌<◌, sym, ◌∙◌}
use Rattle.view_split.specs.CoreLists.{core_weight}
use Rattle.view_picture.proofs.Cores.{inner_below}
use Rattle.view_picture.proofs.steps.+put_steps.Goals as goal

pub put_steps-requires : goal.put_steps-requires
put_steps-requires t c =
    let below : core_weight c.in-Inner.node.children < core_weight c.args.children.now =
    rw (← c.as_slice-child-items.ensures) (inner_below _ _ _ c.in-Inner.node c.loop-child-test.true (sym c.child-item.is ∙ c.in-Inner.is)) in
    (rw (← c.decreases) below, tt)
