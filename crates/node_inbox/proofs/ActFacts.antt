-- Actions, as they are walked.
use Rattle.std.proofs.Common.{◌≡◌, ℕ, zero, suc, ◌+◌, ◌<◌, ◌≤◌, Bool, true, false, List, [], ◌∷◌, ◌++◌, length, map, filter, take, drop, get_or, slice_set}
use Rattle.std.proofs.Common.{refl, sym, ap, ◌∙◌, subst, arith, append-nil, append_assoc}
use Rattle.std.specs.Prelude.{All, if◌then◌else◌, ◌&&◌}
use Rattle.std.proofs.lemmas.List.{drop_more, map-append}
use Rattle.std.proofs.lemmas.List.Elements.{All-head, All-tail, filter-append}
use Rattle.std.proofs.Math.ListN.{drop_of_length-le}
use Rattle.ledger_terms.specs.declared.act.Act.{Act}
use Rattle.ledger_terms.specs.Forest.{Forest, NoRoots, Root, join, paths_from}
use Rattle.ledger_terms.specs.Grown.{tree_of}
use Rattle.ledger_terms.specs.Trees.{Actions}
use Rattle.ledger_terms.proofs.Grow.{join-assoc, join-end}
use Rattle.contract_store.specs.Written.{is_change}
use Rattle.interpret.specs.Ids.{is_authentic}
use Rattle.view_split.specs.Holed.{fill}
use Rattle.view_split.specs.Numbered.{map_forest}
use Rattle.view_split.specs.Placed.{placed_forest}
use Rattle.view_split.specs.SeenViews.{put_back}
use Rattle.view_split.specs.Split.{assembled}
use Rattle.view_split.specs.declared.split_view.SplitView.{SplitView}
use Rattle.view_split.specs.declared.placed_view.PlacedView.{PlacedView}
use Rattle.inbox_registry.specs.ChangeLists.{change_of, changes_of}
use Rattle.inbox_registry.specs.declared.change.Change.{Change}
use Rattle.node_inbox.specs.Acts.{is_authentic_change}

-- what holds of each holds of the one at a place
pub all_at : (P : Act → Type 0) (found : List Act) (i : ℕ) (b : Act) → All P found → i < length found → b ≡ get_or found i b → P b
all_at P [] i b all lt e = absurd (omega arith)
all_at P (x ∷ found) zero b all lt e = subst P (sym e) (All-head P x found all)
all_at P (x ∷ found) (suc i) b all lt e = all_at P found i b (All-tail P x found all) (omega (arith, lt)) e

-- one filter under another
filtered_twice : (xs : List Act) → filter is_change (filter is_authentic xs) ≡ filter is_authentic_change xs
filtered_twice [] = refl
filtered_twice (x ∷ xs) = by (is_authentic x) (is_change x) refl refl (filtered_twice xs)
  where
    by : (a c : Bool) → is_authentic x ≡ a → is_change x ≡ c → filter is_change (filter is_authentic xs) ≡ filter is_authentic_change xs
        → filter is_change (if a then x ∷ filter is_authentic xs else filter is_authentic xs)
        ≡ (if (c && a) then x ∷ filter is_authentic_change xs else filter is_authentic_change xs)
    by true true a c rest = rw c (ap (λ (ys : List Act). x ∷ ys) rest)
    by true false a c rest = rw c rest
    by false true a c rest = rest
    by false false a c rest = rest

pub changes_are : (xs : List Act) → changes_of (filter is_authentic xs) ≡ map change_of (filter is_authentic_change xs)
changes_are xs = ap (map change_of) (filtered_twice xs)

abbrev of_rest : List Act → List Change
of_rest found = map change_of (filter is_authentic_change found)

rest_next : (found : List Act) (i : ℕ) (b : Act) → i < length found → b ≡ get_or found i b
    → of_rest (drop i found) ≡ map change_of (filter is_authentic_change (b ∷ [])) ++ of_rest (drop (i + 1) found)
rest_next found i b lt at =
    rw (drop_more found i b lt, ← at)
    (ap (map change_of) (filter-append is_authentic_change (b ∷ []) (drop (i + 1) found))
    ∙ map-append change_of (filter is_authentic_change (b ∷ [])) (filter is_authentic_change (drop (i + 1) found)))

pub changes_step : (found : List Act) (i : ℕ) (b : Act) (old new all : List Change) → i < length found → b ≡ get_or found i b
    → new ≡ old ++ map change_of (filter is_authentic_change (b ∷ [])) → old ++ of_rest (drop i found) ≡ all → new ++ of_rest (drop (i + 1) found) ≡ all
changes_step found i b old new all lt at pushed before =
    ap (λ (cs : List Change). cs ++ of_rest (drop (i + 1) found)) pushed
    ∙ append_assoc old (map change_of (filter is_authentic_change (b ∷ []))) (of_rest (drop (i + 1) found))
    ∙ ap (λ (cs : List Change). old ++ cs) (sym (rest_next found i b lt at)) ∙ before

pub changes_end : (found : List Act) (i : ℕ) (old all : List Change) → length found ≤ i → old ++ of_rest (drop i found) ≡ all → old ≡ all
changes_end found i old all past before = sym (append-nil old) ∙ (rw (drop_of_length-le found past) at before)

-- ---- views put back

bare_paths : (above : List ℕ) (k : ℕ) (views : Forest SplitView) → map_forest (λ (v : List ℕ × SplitView). v.1) (paths_from above k views) ≡ views
bare_paths above k NoRoots = refl
bare_paths above k (Root view subviews others) = λ i. Root view (bare_paths (above ++ k ∷ []) 0 subviews i) (bare_paths above (suc k) others i)

next_placed : (p : PlacedView) (ps : List PlacedView) → put_back (placed_forest (p ∷ ps)) ≡ join (assembled (tree_of p.view)) (put_back (placed_forest ps))
next_placed p ps = λ i. Root p.view.root.first (fill p.view.root.below (assembled (bare_paths p.path 0 p.view.below i))) (put_back (placed_forest ps))

pub placed_step : (ps : List PlacedView) (i : ℕ) (p : PlacedView) (all out new tree : Actions) → i < length ps → p ≡ get_or ps i p
    → new ≡ join out tree → tree ≡ assembled (tree_of p.view)
    → join out (put_back (placed_forest (drop i ps))) ≡ all → join new (put_back (placed_forest (drop (i + 1) ps))) ≡ all
placed_step ps i p all out new tree h at grown put before =
    let rest = put_back (placed_forest (drop (i + 1) ps)) in
    let next : put_back (placed_forest (drop i ps)) ≡ join (assembled (tree_of p.view)) rest = rw (drop_more ps i p h, ← at) (next_placed p (drop (i + 1) ps)) in
    ap (λ (x : Actions). join x rest) grown ∙ (join-assoc out tree rest ∙ ((λ k. join out (join (put k) rest)) ∙ (ap (join out) (sym next) ∙ before)))

pub placed_end : (ps : List PlacedView) (i : ℕ) (all out : Actions) → length ps ≤ i → join out (put_back (placed_forest (drop i ps))) ≡ all → out ≡ all
placed_end ps i all out past before = sym (join-end out) ∙ (rw (drop_of_length-le ps past) at before)

-- ---- a vector changed in place

pub mapped_place : {X : Type 0} (f : X → X) (xs : List X) (i : ℕ) (x y : X) → i < length xs → y ≡ f (get_or (map f (take i xs) ++ drop i xs) i x)
    → slice_set (map f (take i xs) ++ drop i xs) i y ≡ map f (take (suc i) xs) ++ drop (suc i) xs
mapped_place f [] i x y lt h = absurd (omega arith)
mapped_place f (t ∷ xs) zero x y lt h = ap (λ t. t ∷ xs) h
mapped_place f (t ∷ xs) (suc i) x y lt h = ap (λ l. f t ∷ l) (mapped_place f xs i x y (omega arith) h)

pub mapped_more : {X : Type 0} (f : X → X) (ts xs : List X) (i : ℕ) (x y : X) → i < length xs → ts ≡ map f (take i xs) ++ drop i xs
    → x ≡ get_or ts i x → y ≡ f x → slice_set ts i y ≡ map f (take (i + 1) xs) ++ drop (i + 1) xs
mapped_more f ts xs i x y lt e found added =
    let next : i + 1 ≡ suc i = omega arith in
    rw (e, next) (mapped_place f xs i x y lt (added ∙ ap f (found ∙ ap (λ l. get_or l i x) e)))
