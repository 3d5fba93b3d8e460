-- Views over trees, one at a time.
use Rattle.std.specs.Option.{option_or}
use Rattle.std.proofs.Common.{◌≡◌, ℕ, suc, ◌+◌, ◌<◌, ◌≤◌, List, [], ◌∷◌, Option, Some, None, length, get_or, drop, refl, sym, ◌∙◌, ap, add-one}
use Rattle.std.proofs.lemmas.List.{drop_more}
use Rattle.std.proofs.Math.ListN.{drop_of_length-le}
use Rattle.ledger_terms.specs.declared.act.Act.{Act}
use Rattle.ledger_terms.specs.Forest.{Forest, NoRoots, Root, number_from}
use Rattle.view_split.specs.declared.split_view.SplitView.{SplitView}
use Rattle.view_split.specs.Numbered.{held_in}
use Rattle.ledger_terms.specs.Grown.{forest_of}
use Rattle.view_split.specs.declared.placed_view.PlacedView.{PlacedView}
use Rattle.view_split.specs.ViewTrees.{View}
use Rattle.confirm_reply.specs.Located.{Found, after_path, after_step, view_found, view_found_in, view_or}
use Rattle.confirm_reply.specs.Numbers.{numbered_trees}
use Rattle.confirm_reply.specs.declared.numbered.Numbered.{Numbered}

-- what is found of a view and those below it
abbrev pub found_of : Option (List ℕ) → View → Numbered → Option Found
found_of left v t =
    view_or left v.root (t.number, t.node.now.root) (number_from (suc t.number) t.node.now.below)
    (view_found left 0 v.below (held_in v.root.below (number_from (suc t.number) t.node.now.below)))

-- nothing is found where nothing is left of the path that is wanted
nothing_aside : (k : ℕ) (views : Forest SplitView) (trees : Forest (ℕ × Act)) → view_found None k views trees ≡ None
nothing_aside k NoRoots trees = refl
nothing_aside k (Root view subviews others) NoRoots = refl
nothing_aside k (Root view subviews others) (Root x children more) =
    ap (λ (o : Option Found). option_or o (view_found None (suc k) others more)) (nothing_aside 0 subviews (held_in view.below children))
    ∙ nothing_aside (suc k) others more

pub none_aside : (left : Option (List ℕ)) (v : View) (t : Numbered) → left ≡ None → None ≡ found_of left v t
none_aside left v t is =
    sym (ap (λ (l : Option (List ℕ)). found_of l v t) is
    ∙ nothing_aside 0 v.below (held_in v.root.below (number_from (suc t.number) t.node.now.below)))

nothing_over : (left : Option (List ℕ)) (k : ℕ) (views : Forest SplitView) → view_found left k views NoRoots ≡ None
nothing_over left k NoRoots = refl
nothing_over left k (Root view subviews others) = refl

module _ (left : Option (List ℕ)) (vs : List View) (ts : List Numbered) (i : ℕ) (all : Option Found) where
  abbrev pub Keeps : Type 0
  Keeps = view_found left i (forest_of (drop i vs)) (numbered_trees (drop i ts)) ≡ all

  module _ (keeps : Keeps) where
    pub short : length ts ≤ i → None ≡ all
    short past =
        let over : numbered_trees (drop i ts) ≡ NoRoots = rw (drop_of_length-le ts past) refl in
        sym (nothing_over left i (forest_of (drop i vs))) ∙ (ap (view_found left i (forest_of (drop i vs))) (sym over) ∙ keeps)

    pub ended : length vs ≤ i → None ≡ all
    ended past =
        let over : forest_of (drop i vs) ≡ NoRoots = rw (drop_of_length-le vs past) refl in
        ap (λ (f : Forest SplitView). view_found left i f (numbered_trees (drop i ts))) (sym over) ∙ keeps

    module _ (v : View) (t : Numbered) (h : i < length vs) (at : v ≡ get_or vs i v) (k : i < length ts) (there : t ≡ get_or ts i t) where
      parts : option_or (found_of (after_step left i) v t) (view_found left (suc i) (forest_of (drop (i + 1) vs)) (numbered_trees (drop (i + 1) ts))) ≡ all
      parts =
          let view : drop i vs ≡ v ∷ drop (i + 1) vs = rw (drop_more vs i v h, ← at) refl in
          let tree : drop i ts ≡ t ∷ drop (i + 1) ts = rw (drop_more ts i t k, ← there) refl in
          (λ j. view_found left i (forest_of (sym view j)) (numbered_trees (sym tree j))) ∙ keeps

      pub stopped : (found : Found) → Some found ≡ found_of (after_step left i) v t → Some found ≡ all
      stopped found is =
          ap (λ (o : Option Found). option_or o (view_found left (suc i) (forest_of (drop (i + 1) vs)) (numbered_trees (drop (i + 1) ts)))) is ∙ parts

      pub goes_on : None ≡ found_of (after_step left i) v t → view_found left (i + 1) (forest_of (drop (i + 1) vs)) (numbered_trees (drop (i + 1) ts)) ≡ all
      goes_on none =
          let rest = view_found left (suc i) (forest_of (drop (i + 1) vs)) (numbered_trees (drop (i + 1) ts)) in
          ap (λ (m : ℕ). view_found left m (forest_of (drop (i + 1) vs)) (numbered_trees (drop (i + 1) ts))) (add-one i)
          ∙ (ap (λ (o : Option Found). option_or o rest) none ∙ parts)

nothing_over_in : (path : List ℕ) (placed : List PlacedView) → view_found_in path placed NoRoots ≡ None
nothing_over_in path [] = refl
nothing_over_in path (p ∷ placed) = refl

module _ (path : List ℕ) (ps : List PlacedView) (ts : List Numbered) (i : ℕ) (all : Option Found)
    (keeps : view_found_in path (drop i ps) (numbered_trees (drop i ts)) ≡ all) where
  pub short_in : length ts ≤ i → None ≡ all
  short_in past =
      let over : numbered_trees (drop i ts) ≡ NoRoots = rw (drop_of_length-le ts past) refl in
      sym (nothing_over_in path (drop i ps)) ∙ (ap (view_found_in path (drop i ps)) (sym over) ∙ keeps)

  pub ended_in : length ps ≤ i → None ≡ all
  ended_in past =
      let over : drop i ps ≡ [] = drop_of_length-le ps past in
      ap (λ (xs : List PlacedView). view_found_in path xs (numbered_trees (drop i ts))) (sym over) ∙ keeps

  module _ (p : PlacedView) (t : Numbered) (h : i < length ps) (at : p ≡ get_or ps i p) (k : i < length ts) (there : t ≡ get_or ts i t) where
    parts_in : option_or (found_of (after_path (Some path) p.path) p.view t) (view_found_in path (drop (i + 1) ps) (numbered_trees (drop (i + 1) ts))) ≡ all
    parts_in =
        let view : drop i ps ≡ p ∷ drop (i + 1) ps = rw (drop_more ps i p h, ← at) refl in
        let tree : drop i ts ≡ t ∷ drop (i + 1) ts = rw (drop_more ts i t k, ← there) refl in
        (λ j. view_found_in path (sym view j) (numbered_trees (sym tree j))) ∙ keeps

    pub stopped_in : (found : Found) → Some found ≡ found_of (after_path (Some path) p.path) p.view t → Some found ≡ all
    stopped_in found is =
        ap (λ (o : Option Found). option_or o (view_found_in path (drop (i + 1) ps) (numbered_trees (drop (i + 1) ts)))) is ∙ parts_in

    pub goes_on_in : None ≡ found_of (after_path (Some path) p.path) p.view t → view_found_in path (drop (i + 1) ps) (numbered_trees (drop (i + 1) ts)) ≡ all
    goes_on_in none = ap (λ (o : Option Found). option_or o (view_found_in path (drop (i + 1) ps) (numbered_trees (drop (i + 1) ts)))) none ∙ parts_in
