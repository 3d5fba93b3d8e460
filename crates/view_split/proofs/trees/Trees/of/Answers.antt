use Rattle.std.proofs.Common.{ap, ◌∙◌, List}
use Rattle.std.specs.Prelude.{reverse}
use Rattle.std.proofs.lemmas.List.{reverse-reverse}
use Rattle.ledger_terms.specs.Grown.{forest_of}
use Rattle.ledger_terms.specs.Trees.{ActionNode}
use Rattle.view_split.proofs.trees.Trees.of.Goals as goal

pub returns : goal.returns
returns c =
    ap (λ (ns : List ActionNode). forest_of (reverse ns)) c.reverse.ensures.items ∙ (ap forest_of (reverse-reverse _) ∙ c.into_vec-last_first.ensures)
