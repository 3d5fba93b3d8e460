use Rattle.std.proofs.Common.{sym, ◌∙◌}
use Rattle.framed_form.proofs.ReadOutlines.{narrow_of, unread, untold}
use Rattle.framed_form.proofs.told_tree.read_told_tree.Goals as goal

pub informee_tree-requires : goal.informee_tree-requires
informee_tree-requires c = narrow_of c.in-Some.tree (rw c.in-Some.is at c.in_ok-tree.ensures.fits)

pub returns-in_default-clause-none : goal.returns-in_default-clause-none
returns-in_default-clause-none c =
    λ topology. unread c.args.request.now topology (rw (c.as_slice.ensures) at (sym c.in_ok-tree.ensures.exact ∙ c.in_default.is))

pub returns-in-Ok-clause-some : goal.returns-in-Ok-clause-some
returns-in-Ok-clause-some c = record {
  spells = rw (c.as_slice.ensures) at (sym c.in_ok-tree.ensures.exact ∙ c.in-Some.is);
  narrow = narrow_of c.in-Some.tree (rw c.in-Some.is at c.in_ok-tree.ensures.fits);
  tells = c.in-Ok.ensures;
}

pub returns-in-Err-Bad-clause-none : goal.returns-in-Err-Bad-clause-none
returns-in-Err-Bad-clause-none c =
    λ topology.
    untold c.args.request.now topology c.in-Some.tree _ (rw (c.as_slice.ensures) at (sym c.in_ok-tree.ensures.exact ∙ c.in-Some.is))
    (c.in-Err-Bad.ensures (λ memory. let no = sym c.in-Err-Bad.field-0-is ∙ memory in cc))
