use Rattle.std.proofs.Common.{◌≡◌, sym, ◌∙◌}
use Rattle.ledger_terms.specs.Forest.{NoRoots}
use Rattle.ledger_terms.proofs.Grow.{join-end}
use Rattle.view_split.proofs.assembling.put_next.Goals as goal

pub returns-in_default-clause-filled : goal.returns-in_default-clause-filled
returns-in_default-clause-filled c =
    let empty : c.args.trees.now ≡ NoRoots = c.in_default.ensures.taken ∙ c.in_default.ensures.none in
    rw empty (sym (join-end c.args.out.now))
