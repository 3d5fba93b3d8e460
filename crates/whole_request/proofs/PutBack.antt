-- Views that are put back one after another.
use Rattle.std.proofs.Common.{◌≡◌, List, [], ◌∷◌, sym, subst, ap, ◌∙◌}
use Rattle.ledger_terms.specs.Forest.{Forest, join}
use Rattle.ledger_terms.specs.Grown.{forest_of, tree_of}
use Rattle.ledger_terms.specs.declared.act.Act.{Act}
use Rattle.ledger_terms.proofs.Grow.{join-assoc, join-end}
use Rattle.view_split.specs.Split.{assembled}
use Rattle.view_split.specs.ViewTrees.{View}

-- what is put back of those that are left, behind what is there, is all
abbrev pub PutsBack : List View → (out all : Forest Act) → Type 0
PutsBack views out all = join out (assembled (forest_of views)) ≡ all

pub put_next : (before views : List View) (view : View) (out new tree all : Forest Act) → before ≡ view ∷ views → new ≡ join out tree → tree ≡ assembled (tree_of view)
    → PutsBack before out all → PutsBack views new all
put_next before views view out new tree all steps grown put keeps =
    let k = subst (λ (vs : List View). PutsBack vs out all) steps keeps in
    ap (λ (f : Forest Act). join f (assembled (forest_of views))) (grown ∙ ap (join out) put)
    ∙ (join-assoc out (assembled (tree_of view)) (assembled (forest_of views)) ∙ k)

pub put_all : (views : List View) (out all : Forest Act) → views ≡ [] → PutsBack views out all → out ≡ all
put_all views out all none keeps = sym (join-end out) ∙ subst (λ (vs : List View). PutsBack vs out all) none keeps
