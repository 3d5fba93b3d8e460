-- Views over trees, one at a time, with the first actions of those directly below a path.
use Rattle.std.proofs.Common.{◌≡◌, ℕ, suc, ◌+◌, ◌<◌, ◌≤◌, List, [], ◌∷◌, ◌++◌, Option, Some, None, length, get_or, drop, refl, sym, ◌∙◌, ap, add-one, append_assoc, append-nil}
use Rattle.std.proofs.lemmas.List.{drop_more}
use Rattle.std.proofs.Math.ListN.{drop_of_length-le}
use Rattle.ledger_terms.specs.declared.act.Act.{Act}
use Rattle.ledger_terms.specs.Forest.{Forest, NoRoots, Root, number_from}
use Rattle.ledger_terms.specs.Grown.{forest_of}
use Rattle.canton_model.specs.Checks.{is_directly_below}
use Rattle.view_split.specs.declared.split_view.SplitView.{SplitView}
use Rattle.view_split.specs.declared.placed_view.PlacedView.{PlacedView}
use Rattle.view_split.specs.Numbered.{held_in}
use Rattle.view_split.specs.ViewTrees.{View}
use Rattle.confirm_reply.specs.Located.{after_path, after_step, is_reached, number_if, starts_among, starts_in}
use Rattle.confirm_reply.specs.Numbers.{numbered_trees}
use Rattle.confirm_reply.specs.declared.numbered.Numbered.{Numbered}

-- those below a view
abbrev pub starts_under : Option (List ℕ) → View → Numbered → List ℕ
starts_under left v t = starts_among left 0 v.below (held_in v.root.below (number_from (suc t.number) t.node.now.below))

nothing_aside : (k : ℕ) (views : Forest SplitView) (trees : Forest (ℕ × Act)) → starts_among None k views trees ≡ []
nothing_aside k NoRoots trees = refl
nothing_aside k (Root view subviews others) NoRoots = refl
nothing_aside k (Root view subviews others) (Root x children more) =
    λ i. nothing_aside 0 subviews (held_in view.below children) i ++ nothing_aside (suc k) others more i

pub none_aside : (left : Option (List ℕ)) (v : View) (t : Numbered) (starts : List ℕ) → left ≡ None → starts ≡ starts ++ starts_under left v t
none_aside left v t starts is =
    sym (append-nil starts)
    ∙ (ap (λ (ns : List ℕ). starts ++ ns) (sym (nothing_aside 0 v.below (held_in v.root.below (number_from (suc t.number) t.node.now.below))))
    ∙ ap (λ (l : Option (List ℕ)). starts ++ starts_under l v t) (sym is))

nothing_over : (left : Option (List ℕ)) (k : ℕ) (views : Forest SplitView) → starts_among left k views NoRoots ≡ []
nothing_over left k NoRoots = refl
nothing_over left k (Root view subviews others) = refl

-- two lists put at the end, one after the other
two_more : (old one two new last rest all : List ℕ) → new ≡ old ++ one → last ≡ new ++ two → old ++ (one ++ (two ++ rest)) ≡ all → last ++ rest ≡ all
two_more old one two new last rest all first second before =
    ap (λ (ns : List ℕ). ns ++ rest) (second ∙ ap (λ (ns : List ℕ). ns ++ two) first)
    ∙ (append_assoc (old ++ one) two rest ∙ (append_assoc old one (two ++ rest) ∙ before))

module _ (left : Option (List ℕ)) (vs : List View) (ts : List Numbered) (i : ℕ) (starts all : List ℕ) where
  abbrev pub Keeps : Type 0
  Keeps = starts ++ starts_among left i (forest_of (drop i vs)) (numbered_trees (drop i ts)) ≡ all

  module _ (keeps : Keeps) where
    pub short : length ts ≤ i → starts ≡ all
    short past =
        let over : numbered_trees (drop i ts) ≡ NoRoots = rw (drop_of_length-le ts past) refl in
        sym (append-nil starts)
        ∙ (ap (λ (ns : List ℕ). starts ++ ns) (sym (nothing_over left i (forest_of (drop i vs))))
        ∙ (ap (λ (f : Forest (ℕ × Act)). starts ++ starts_among left i (forest_of (drop i vs)) f) (sym over) ∙ keeps))

    pub ended : length vs ≤ i → starts ≡ all
    ended past =
        let over : forest_of (drop i vs) ≡ NoRoots = rw (drop_of_length-le vs past) refl in
        sym (append-nil starts)
        ∙ (ap (λ (f : Forest SplitView). starts ++ starts_among left i f (numbered_trees (drop i ts))) (sym over) ∙ keeps)

    pub next : (v : View) (t : Numbered) (new last : List ℕ) → i < length vs → v ≡ get_or vs i v → i < length ts → t ≡ get_or ts i t
        → new ≡ starts ++ number_if (is_reached left) (t.number, t.node.now.root) → last ≡ new ++ starts_under (after_step left i) v t
        → last ++ starts_among left (i + 1) (forest_of (drop (i + 1) vs)) (numbered_trees (drop (i + 1) ts)) ≡ all
    next v t new last h at k there first second =
        let view : drop i vs ≡ v ∷ drop (i + 1) vs = rw (drop_more vs i v h, ← at) refl in
        let tree : drop i ts ≡ t ∷ drop (i + 1) ts = rw (drop_more ts i t k, ← there) refl in
        let rest = starts_among left (suc i) (forest_of (drop (i + 1) vs)) (numbered_trees (drop (i + 1) ts)) in
        ap (λ (m : ℕ). last ++ starts_among left m (forest_of (drop (i + 1) vs)) (numbered_trees (drop (i + 1) ts))) (add-one i)
        ∙ two_more starts (number_if (is_reached left) (t.number, t.node.now.root)) (starts_under (after_step left i) v t) new last rest all first second
        ((λ j. starts ++ starts_among left i (forest_of (sym view j)) (numbered_trees (sym tree j))) ∙ keeps)

nothing_over_in : (path : List ℕ) (placed : List PlacedView) → starts_in path placed NoRoots ≡ []
nothing_over_in path [] = refl
nothing_over_in path (p ∷ placed) = refl

module _ (path : List ℕ) (ps : List PlacedView) (ts : List Numbered) (i : ℕ) (starts all : List ℕ)
    (keeps : starts ++ starts_in path (drop i ps) (numbered_trees (drop i ts)) ≡ all) where
  pub short_in : length ts ≤ i → starts ≡ all
  short_in past =
      let over : numbered_trees (drop i ts) ≡ NoRoots = rw (drop_of_length-le ts past) refl in
      sym (append-nil starts)
      ∙ (ap (λ (ns : List ℕ). starts ++ ns) (sym (nothing_over_in path (drop i ps)))
      ∙ (ap (λ (f : Forest (ℕ × Act)). starts ++ starts_in path (drop i ps) f) (sym over) ∙ keeps))

  pub ended_in : length ps ≤ i → starts ≡ all
  ended_in past =
      let over : drop i ps ≡ [] = drop_of_length-le ps past in
      sym (append-nil starts) ∙ (ap (λ (xs : List PlacedView). starts ++ starts_in path xs (numbered_trees (drop i ts))) (sym over) ∙ keeps)

  pub next_in : (p : PlacedView) (t : Numbered) (new last : List ℕ) → i < length ps → p ≡ get_or ps i p → i < length ts → t ≡ get_or ts i t
      → new ≡ starts ++ number_if (is_directly_below path p.path) (t.number, t.node.now.root)
      → last ≡ new ++ starts_under (after_path (Some path) p.path) p.view t
      → last ++ starts_in path (drop (i + 1) ps) (numbered_trees (drop (i + 1) ts)) ≡ all
  next_in p t new last h at k there first second =
      let view : drop i ps ≡ p ∷ drop (i + 1) ps = rw (drop_more ps i p h, ← at) refl in
      let tree : drop i ts ≡ t ∷ drop (i + 1) ts = rw (drop_more ts i t k, ← there) refl in
      two_more starts (number_if (is_directly_below path p.path) (t.number, t.node.now.root)) (starts_under (after_path (Some path) p.path) p.view t)
      new last (starts_in path (drop (i + 1) ps) (numbered_trees (drop (i + 1) ts))) all first second
      ((λ j. starts ++ starts_in path (sym view j) (numbered_trees (sym tree j))) ∙ keeps)
