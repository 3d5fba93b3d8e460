use Rattle.std.proofs.Common.{◌∙◌, sym, arith}
use Rattle.whole_request.proofs.Walked.{below_here, below_past}
use Rattle.whole_request.proofs.part.subviews_at.Goals as goal

pub returns-then-at-items : goal.returns-then-at-items
returns-then-at-items c = sym (below_past c.as_slice-items.result.now c.args.vertices.now c.as_slice-items.ensures c.args.at (omega (arith, c.if-at-items.true)))

pub returns : goal.returns
returns c =
    c.subviews_of.ensures
    ∙ sym (below_here c.as_slice-items.result.now c.args.vertices.now c.as_slice-items.ensures c.args.at c.index-items-at.result
    (omega (arith, c.if-at-items.false)) c.index-items-at.is)
