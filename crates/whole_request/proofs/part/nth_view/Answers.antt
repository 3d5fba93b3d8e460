use Rattle.std.proofs.Common.{◌≡◌, Option, sym, subst, arith}
use Rattle.std.specs.Prelude.{IfOk}
use Rattle.view_split.specs.declared.split_view.SplitView.{SplitView}
use Rattle.whole_request.proofs.Walked.{view_here, view_past}
use Rattle.whole_request.proofs.part.nth_view.Goals as goal

pub returns-then-at-items : goal.returns-then-at-items
returns-then-at-items c = sym (view_past c.as_slice-items.result.now c.args.vertices.now c.as_slice-items.ensures c.args.at (omega (arith, c.if-at-items.true)))

pub returns : goal.returns
returns c =
    subst (λ (o : Option SplitView). IfOk c.vertex_view.result (λ (view : Option SplitView). view ≡ o))
    (sym (view_here c.as_slice-items.result.now c.args.vertices.now c.as_slice-items.ensures c.args.at c.index-items-at.result
    (omega (arith, c.if-at-items.false)) c.index-items-at.is)) c.vertex_view.ensures
