-- The items of an array, one after another.
use Rattle.std.proofs.Common.{◌≡◌, ◌≢◌, arith, ℕ, ◌+◌, ◌<◌, ◌≤◌, List, [], ◌∷◌, length, get_or, drop, Result, Ok, Err, refl, ap, ◌∙◌, sym, add-one}
use Rattle.std.proofs.lemmas.List.{at_drop_more, at_drop_all}
use Rattle.serde_json.specs.Data.{Data}
use Rattle.serde_json.specs.View.{view, items_view}
use Rattle.serde_json.specs.declared.value.Value.{Value}
use Rattle.ledger_terms.specs.Answers.{◌>>=◌}
use Rattle.json_walk.specs.Walk.{Place, two_of, walk_items, item_count}
use Rattle.json_walk.specs.declared.walk_fault.WalkFault.{WalkFault}
use Rattle.json_walk.specs.declared.walk_fault.WalkFault.TheVariants.{Shape}

pub item_count_view : (vs : List Value) → item_count (items_view vs) ≡ length vs
item_count_view [] = refl
item_count_view (v ∷ vs) = ap (λ n. n + 1) (item_count_view vs) ∙ add-one (length vs)

module _ {A : Type 0} (step : ℕ → A → Data → Result A WalkFault) (i : ℕ) (a : A) (vs : List Value) where
  -- the walk at an item
  pub walk_items-at : (v : Value) → i < length vs → v ≡ get_or vs i v
      → walk_items step i a (items_view (drop i vs)) ≡ (step i a (view v) >>= (λ b. walk_items step (i + 1) b (items_view (drop (i + 1) vs))))
  walk_items-at v h e =
      at_drop_more (λ rest. walk_items step i a (items_view rest)) vs i v h
      ∙ ap (λ w. step i a (view w) >>= (λ b. walk_items step (i + 1) b (items_view (drop (i + 1) vs)))) (sym e)

  -- the walk past the last item
  pub walk_items-end : length vs ≤ i → walk_items step i a (items_view (drop i vs)) ≡ Ok a
  walk_items-end h = at_drop_all (λ rest. walk_items step i a (items_view rest)) vs i h

  -- the walk at an item that is refused
  pub walk_items-fails : (v : Value) (e : WalkFault) → i < length vs → v ≡ get_or vs i v → step i a (view v) ≡ Err e
      → walk_items step i a (items_view (drop i vs)) ≡ Err e
  walk_items-fails v e h at fails = rw fails at (walk_items-at v h at)

-- ---- lists of two

pub two_items : (at : Place) (vs : List Value) (a b : Value) → length vs ≡ 2 → two_of at (items_view vs) ≡ Ok (view (get_or vs 0 a), view (get_or vs 1 b))
two_items at [] a b h = absurd (omega arith)
two_items at (x ∷ []) a b h = absurd (omega arith)
two_items at (x ∷ y ∷ []) a b h = refl
two_items at (x ∷ y ∷ z ∷ vs) a b h = absurd (omega arith)

pub two_other : (at : Place) (vs : List Value) → length vs ≢ 2 → two_of at (items_view vs) ≡ Err (Shape at)
two_other at [] h = refl
two_other at (x ∷ []) h = refl
two_other at (x ∷ y ∷ []) h = absurd (h refl)
two_other at (x ∷ y ∷ z ∷ vs) h = refl
