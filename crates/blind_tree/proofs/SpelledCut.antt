-- What is cut of views with their hashes, written one view after another.
use Rattle.std.proofs.Common.{◌≡◌, ℕ, suc, ◌+◌, ◌<◌, Bool, true, false, List, ◌∷◌, ◌++◌, length, get_or, drop, refl, sym, ap, ◌∙◌, append_assoc}
use Rattle.std.specs.Prelude.{◌||◌}
use Rattle.std.specs.List.{list_any}
use Rattle.std.specs.Int.{w16, to_be_bytes}
use Rattle.ledger_terms.specs.Forest.{Forest, NoRoots, Root}
use Rattle.ledger_terms.specs.Grown.{tree_of, forest_of}
use Rattle.ledger_terms.specs.Roots.{trees_count}
use Rattle.ledger_terms.specs.declared.tree.Tree.{Tree}
use Rattle.blind_tree.specs.Vertices.{Vertices, NoVertices, BlindVertex, InnerVertex, count, beside}
use Rattle.blind_tree.specs.Spelling.{spell_each, spell_leaf, spell_vertices}
use Rattle.blind_tree.specs.Kept.{has_kept_sight, is_kept_sight, cut_views, cut_one, cut_part, cut_for_mediator}
use Rattle.blind_tree.specs.declared.kept_view.KeptView.{KeptView}
use Rattle.blind_tree.proofs.KeptGrow.{next_kept, one_more}

-- ---- how many there are

part_count : (sees below : Bool) (part : KeptView) (s o : Vertices) → count (cut_part sees below part s o) ≡ suc (count o)
part_count true below part s o = refl
part_count false true part s o = refl
part_count false false part s o = refl

views_count : (hosts : List ℕ → Bool) (above : Bool) (f : Forest KeptView) → count (cut_views hosts above f) ≡ trees_count f
views_count hosts above NoRoots = refl
views_count hosts above (Root part subviews others) =
    let sees = above || is_kept_sight hosts part in
    part_count sees (has_kept_sight hosts subviews) part (cut_views hosts sees subviews) (cut_views hosts above others)
    ∙ ap suc (views_count hosts above others)

named_count : (f : Forest KeptView) → count (cut_for_mediator f) ≡ trees_count f
named_count NoRoots = refl
named_count (Root part subviews others) = ap suc (named_count others)

-- the count is written, and all are left
pub spell_cut_start : (hosts : List ℕ → Bool) (above : Bool) (f all : Forest KeptView) (n : ℕ) (out new : List ℕ) → n ≡ trees_count all → f ≡ all → new ≡ out ++ to_be_bytes w16 n
    → new ++ spell_each (cut_views hosts above f) ≡ out ++ spell_vertices (cut_views hosts above all)
spell_cut_start hosts above f all n out new counted same grown =
    let views = cut_views hosts above all in
    let number : n ≡ count views = counted ∙ sym (views_count hosts above all) in
    (λ i. (grown ∙ ap (λ (k : ℕ). out ++ to_be_bytes w16 k) number) i ++ spell_each (cut_views hosts above (same i)))
    ∙ append_assoc out (to_be_bytes w16 (count views)) (spell_each views)

pub spell_named_start : (f all : Forest KeptView) (n : ℕ) (out new : List ℕ) → n ≡ trees_count all → f ≡ all → new ≡ out ++ to_be_bytes w16 n
    → new ++ spell_each (cut_for_mediator f) ≡ out ++ spell_vertices (cut_for_mediator all)
spell_named_start f all n out new counted same grown =
    let views = cut_for_mediator all in
    let number : n ≡ count views = counted ∙ sym (named_count all) in
    (λ i. (grown ∙ ap (λ (k : ℕ). out ++ to_be_bytes w16 k) number) i ++ spell_each (cut_for_mediator (same i)))
    ∙ append_assoc out (to_be_bytes w16 (count views)) (spell_each views)

-- ---- one view at a time

each_beside : (v w : Vertices) → spell_each (beside v w) ≡ spell_each v ++ spell_each w
each_beside NoVertices w = refl
each_beside (BlindVertex hash others) w =
    ap (λ (xs : List ℕ). (0 ∷ hash) ++ xs) (each_beside others w) ∙ sym (append_assoc (0 ∷ hash) (spell_each others) (spell_each w))
each_beside (InnerVertex informees contents subviews others) w =
    let here = 1 ∷ (spell_leaf informees ++ spell_leaf contents ++ spell_vertices subviews) in
    ap (λ (xs : List ℕ). here ++ xs) (each_beside others w) ∙ sym (append_assoc here (spell_each others) (spell_each w))

-- what is written of the next one goes from what is left to what was written
pub spell_cut_step : (hosts : List ℕ → Bool) (above sees : Bool) (vs : List (Tree KeptView)) (i : ℕ) (v : Tree KeptView) (all out new : List ℕ) → i < length vs → v ≡ get_or vs i v
    → sees ≡ (above || list_any hosts v.root.informees) → new ≡ out ++ spell_each (cut_one hosts sees v.root v.below)
    → out ++ spell_each (cut_views hosts above (forest_of (drop i vs))) ≡ all → new ++ spell_each (cut_views hosts above (forest_of (drop (i + 1) vs))) ≡ all
spell_cut_step hosts above sees vs i v all out new h at seen grown before =
    let rest = cut_views hosts above (forest_of (drop (i + 1) vs)) in
    let does = above || list_any hosts v.root.informees in
    let one = cut_one hosts does v.root v.below in
    let next : cut_views hosts above (forest_of (drop i vs)) ≡ beside one rest =
    ap (cut_views hosts above) (next_kept vs i v h at) ∙ one_more does (has_kept_sight hosts v.below) v.root (cut_views hosts does v.below) rest in
    ap (λ (xs : List ℕ). xs ++ spell_each rest) (grown ∙ ap (λ (b : Bool). out ++ spell_each (cut_one hosts b v.root v.below)) seen)
    ∙ (append_assoc out (spell_each one) (spell_each rest)
    ∙ (ap (λ (xs : List ℕ). out ++ xs) (sym (ap spell_each next ∙ each_beside one rest)) ∙ before))

pub spell_named_step : (vs : List (Tree KeptView)) (i : ℕ) (v : Tree KeptView) (all out new : List ℕ) → i < length vs → v ≡ get_or vs i v
    → new ≡ out ++ spell_each (cut_for_mediator (tree_of v))
    → out ++ spell_each (cut_for_mediator (forest_of (drop i vs))) ≡ all → new ++ spell_each (cut_for_mediator (forest_of (drop (i + 1) vs))) ≡ all
spell_named_step vs i v all out new h at grown before =
    let rest = cut_for_mediator (forest_of (drop (i + 1) vs)) in
    let one = cut_for_mediator (tree_of v) in
    let next : cut_for_mediator (forest_of (drop i vs)) ≡ beside one rest = ap cut_for_mediator (next_kept vs i v h at) in
    ap (λ (xs : List ℕ). xs ++ spell_each rest) grown
    ∙ (append_assoc out (spell_each one) (spell_each rest)
    ∙ (ap (λ (xs : List ℕ). out ++ xs) (sym (ap spell_each next ∙ each_beside one rest)) ∙ before))
