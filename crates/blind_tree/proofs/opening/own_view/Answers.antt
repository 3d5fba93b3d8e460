use Rattle.std.proofs.Common.{Ok, arith, ap, sym, ◌∙◌}
use Rattle.view_split.specs.declared.split_view.SplitView.{SplitView}
use Rattle.blind_tree.proofs.OpenedLaws.{own_is}
use Rattle.blind_tree.proofs.opening.own_view.Goals as goal

pub returns : goal.returns
returns c =
    own_is c.args.informees.now c.args.contents.now c.args.subviews.now (c.in_ok-informees.informees, c.in_ok-informees.confirmers) c.in_ok-core.core _ _
    (c.in_ok-informees.ensures, c.in_ok-core.ensures, c.hole_count.ensures, c.len.ensures.vertices, c.len.ensures.bound, omega (arith, c.if-hole_count-len.false))
    ∙ ap (λ (v : SplitView). Ok v) (sym c.view_with.ensures)
