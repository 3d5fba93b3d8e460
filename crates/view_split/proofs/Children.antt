-- The children of an action whose view is put back.
use Rattle.std.proofs.Common.{◌≡◌, ℕ, zero, suc, ◌+◌, List, [], ◌∷◌, drop, map, refl, sym, ap, ◌∙◌, arith}
use Rattle.ledger_terms.specs.declared.act.Act.{Act}
use Rattle.ledger_terms.specs.Forest.{Forest, NoRoots, Root, roots_of}
use Rattle.view_split.specs.Holed.{Holed, NoMore, Inner, Hole, after_holes, children_with, fill, holes}
use Rattle.view_split.specs.declared.split_view.SplitView.{SplitView}
use Rattle.view_split.specs.Split.{assembled}

drop_none : {X : Type 0} (n : ℕ) → drop {A = X} n [] ≡ []
drop_none zero = refl
drop_none (suc n) = refl

drop_more : {X : Type 0} (n m : ℕ) (xs : List X) → drop m (drop n xs) ≡ drop (n + m) xs
drop_more zero m xs = ap (λ (k : ℕ). drop k xs) (omega arith)
drop_more (suc n) m [] = drop_none m ∙ sym (drop_none (suc n + m))
drop_more (suc n) m (x ∷ xs) =
    let more : suc (n + m) ≡ suc n + m = omega arith in
    drop_more n m xs ∙ ap (λ (k : ℕ). drop k (x ∷ xs)) more

-- each hole takes one tree
after_roots : (core : Holed Act) (trees : Forest Act) → roots_of (after_holes core trees) ≡ drop (holes core) (roots_of trees)
after_roots NoMore trees = refl
after_roots (Inner act below others) trees =
    after_roots others (after_holes below trees)
    ∙ (ap (drop (holes others)) (after_roots below trees) ∙ drop_more (holes below) (holes others) (roots_of trees))
after_roots (Hole others) NoRoots = refl
after_roots (Hole others) (Root act children more) = after_roots others more

pub children_are : (core : Holed Act) (trees : Forest Act) → roots_of (fill core trees) ≡ children_with core (roots_of trees)
children_are NoMore trees = refl
children_are (Inner act below others) trees =
    ap (λ (acts : List Act). act ∷ acts) (children_are others (after_holes below trees) ∙ ap (children_with others) (after_roots below trees))
children_are (Hole others) NoRoots = children_are others NoRoots
children_are (Hole others) (Root act children more) = ap (λ (acts : List Act). act ∷ acts) (children_are others more)

pub first_are : (views : Forest SplitView) → roots_of (assembled views) ≡ map (λ (view : SplitView). view.first) (roots_of views)
first_are NoRoots = refl
first_are (Root view subviews others) = ap (λ (acts : List Act). view.first ∷ acts) (first_are others)
