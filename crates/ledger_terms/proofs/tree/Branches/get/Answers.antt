use Rattle.std.proofs.Common.{◌≡◌, option_map, option_copied, ap, sym, ◌∙◌}
use Rattle.std.specs.Prelude.{slice_get}
use Rattle.ledger_terms.specs.Grown.{tree_of}
use Rattle.ledger_terms.specs.Roots.{tree_at}
use Rattle.ledger_terms.proofs.Grow.{tree_at-forest_of}
use Rattle.ledger_terms.proofs.tree.Branches.get.Goals as goal

pub returns : goal.returns
returns g c =
    let found : option_copied c.node_at.result ≡ slice_get c.self.inside.trees.items c.args.at = cc in
    ap (λ o. option_map tree_of o) found ∙ (sym (tree_at-forest_of c.self.inside.trees.items c.args.at) ∙ ap (λ f. tree_at f c.args.at) c.self.view_is)
