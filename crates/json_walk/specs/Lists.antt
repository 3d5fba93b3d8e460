-- A list, read item by item. `Place` is where a value stands, `Data` a JSON value, A the type of what an item says.
use Rattle.std.specs.Prelude.{ℕ, ◌≤◌, List, [], ◌∷◌, ◌++◌, Result, Ok}
use denote.Ref.{Bor}
use Rattle.serde_json.specs.Data.{Data}
use Rattle.serde_json.specs.View.{view}
use Rattle.serde_json.specs.declared.value.Value.{Value}
use Rattle.ledger_terms.specs.Answers.{◌>>=◌, Follows}
use Rattle.ledger_terms.specs.Pointers.{at_item}
use Rattle.json_walk.specs.Walk.{Place, items_of, few_items_of, walk_items}
use Rattle.json_walk.specs.declared.limit.Limit.{Limit}
use Rattle.json_walk.specs.declared.walk_fault.WalkFault.{WalkFault}
use Rattle.json_walk.specs.declared.walk_fault.WalkFault.TheVariants.{Memory}

-- One step of a walk through the list at the place `at`: `item_of` reads the item `d` at index i, given its place and value, and what it says is
-- put behind `before`, what the items before it say. A fault of the item is the result.
abbrev pub item_step : {A : Type 0} → (Place → Data → Result A WalkFault) → Place → ℕ → List A → Data → Result (List A) WalkFault
item_step item_of at i before d = item_of (at_item at i) d >>= (λ a. Ok (before ++ a ∷ []))

-- What the items of a list of any length say, in order: `item_of` reads each, given its place and value. The first fault is the result: Shape where
-- the value `d` at the place `at` is no list, else that of an item.
unfoldable pub list_of : {A : Type 0} → (Place → Data → Result A WalkFault) → Place → Data → Result (List A) WalkFault
list_of item_of at d = do
  items ← items_of at d
  walk_items (item_step item_of at) 0 [] items

-- What the items of a list say, in order: `item_of` reads each, given its place and value. The first fault is the result: Shape where the value `d` at
-- the place `at` is no list, Limit where its length is outside the limit, else that of an item.
unfoldable pub few_of : {A : Type 0} → (Place → Data → Result A WalkFault) → Place → Limit → Data → Result (List A) WalkFault
few_of item_of at limit d = do
  items ← few_items_of at limit d
  walk_items (item_step item_of at) 0 [] items

-- A function that reads one item gives what the definition `item_of` says, for each value and place, unless memory is wanting. `post` is the
-- contract of that function: what holds of its value, its place and its result. Readers of lists, which are given such a function, ask this of it.
pub record ReadsBy {A : Type 0} (post : Bor Value → Bor (List ℕ) → Result A WalkFault → Type 0) (item_of : Place → Data → Result A WalkFault) : Type 0 where
  pub each : (v : Bor Value) (at : Bor (List ℕ)) (r : Result A WalkFault) → post v at r → Follows Memory r (item_of at.now (view v.now))

-- ---- with a count that goes from item to item

-- Reads the item `d` at its place `here`: `item_of` takes the count so far, a place and a value, and gives what the item says and the count after
-- it. `before` has what the items before say and the count so far, and the result has both with this item.
abbrev pub counted_item : {A : Type 0} → (ℕ → Place → Data → Result (A × ℕ) WalkFault) → Place → List A × ℕ → Data → Result (List A × ℕ) WalkFault
counted_item item_of here before d = item_of before.1 here d >>= (λ s. Ok (before.0 ++ s.0 ∷ [], s.1))

-- One step of a walk that counts through the list at the place `at`: `counted_item` for the item `d` at index i. `before` is what the items before
-- say, and the count so far.
abbrev pub counted_step : {A : Type 0} → (ℕ → Place → Data → Result (A × ℕ) WalkFault) → Place → ℕ → List A × ℕ → Data → Result (List A × ℕ) WalkFault
counted_step item_of at i before d = counted_item item_of (at_item at i) before d

-- What the items of a list say, in order, and the count after the last one, which begins at 0. `item_of` takes the count so far, a place and a
-- value. It is Shape where `d` is no list, Limit where its length is outside the limit, else the first fault of an item.
unfoldable pub counted_of : {A : Type 0} → (ℕ → Place → Data → Result (A × ℕ) WalkFault) → Place → Limit → Data → Result (List A × ℕ) WalkFault
counted_of item_of at limit d = do
  items ← few_items_of at limit d
  walk_items (counted_step item_of at) 0 ([], 0) items

-- A function that reads one item and goes on counting gives what the definition `item_of` says, for each value, each place and each count `n` so
-- far that is at most `bound`, unless memory is wanting. `post` is the contract of that function: what holds of its value, its place, the count and
-- its result.
pub record CountsBy {A : Type 0} (bound : ℕ) (post : Bor Value → Bor (List ℕ) → ℕ → Result (A × ℕ) WalkFault → Type 0)
    (item_of : ℕ → Place → Data → Result (A × ℕ) WalkFault) : Type 0 where
  pub each : (v : Bor Value) (at : Bor (List ℕ)) (n : ℕ) (r : Result (A × ℕ) WalkFault) → n ≤ bound → post v at n r
      → Follows Memory r (item_of n at.now (view v.now))
