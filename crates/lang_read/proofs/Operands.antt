-- The items behind an operator.
use Rattle.std.proofs.Common.{◌≡◌, ◌≢◌, ℕ, ◌+◌, List, [], ◌∷◌, length, get_or, drop, Err, refl, arith}
use Rattle.serde_json.specs.Data.{no_items, item}
use Rattle.serde_json.specs.View.{view, items_view}
use Rattle.serde_json.specs.declared.value.Value.{Value}
use Rattle.ledger_terms.specs.declared.host.Host.{Host}
use Rattle.ledger_terms.specs.Answers.{◌>>=◌}
use Rattle.json_walk.specs.Walk.{Place}
use Rattle.lang_read.specs.Literals.{within_depth}
use Rattle.lang_read.specs.Operators.{operator_of}
use Rattle.lang_read.specs.Exprs.{name_after, call_of, applied_of, negated_of, pair_of, cond_of}
use Rattle.lang_read.specs.declared.binary.Binary.{Binary}
use Rattle.json_walk.specs.declared.walk_fault.WalkFault.TheVariants.{Shape}
use Rattle.json_walk.proofs.Items.{item_count_view}

-- the items from the second on, of lists of two, three and four
pub behind_one : (vs : List Value) (a : Value) → length vs ≡ 2 → items_view (drop 1 vs) ≡ item (view (get_or vs 1 a)) no_items
behind_one [] a h = absurd (omega arith)
behind_one (x ∷ []) a h = absurd (omega arith)
behind_one (x ∷ y ∷ []) a h = refl
behind_one (x ∷ y ∷ z ∷ vs) a h = absurd (omega arith)

pub behind_two : (vs : List Value) (a b : Value) → length vs ≡ 3 → items_view (drop 1 vs) ≡ item (view (get_or vs 1 a)) (item (view (get_or vs 2 b)) no_items)
behind_two [] a b h = absurd (omega arith)
behind_two (x ∷ []) a b h = absurd (omega arith)
behind_two (x ∷ y ∷ []) a b h = absurd (omega arith)
behind_two (x ∷ y ∷ z ∷ []) a b h = refl
behind_two (x ∷ y ∷ z ∷ u ∷ vs) a b h = absurd (omega arith)

pub behind_three : (vs : List Value) (a b c : Value) → length vs ≡ 4
    → items_view (drop 1 vs) ≡ item (view (get_or vs 1 a)) (item (view (get_or vs 2 b)) (item (view (get_or vs 3 c)) no_items))
behind_three [] a b c h = absurd (omega arith)
behind_three (x ∷ []) a b c h = absurd (omega arith)
behind_three (x ∷ y ∷ []) a b c h = absurd (omega arith)
behind_three (x ∷ y ∷ z ∷ []) a b c h = absurd (omega arith)
behind_three (x ∷ y ∷ z ∷ u ∷ []) a b c h = refl
behind_three (x ∷ y ∷ z ∷ u ∷ v ∷ vs) a b c h = absurd (omega arith)

-- lists of other lengths
module _ (at : Place) where
  pub name_after_other : (vs : List Value) → length vs ≢ 2 → name_after at (items_view (drop 1 vs)) ≡ Err (Shape at)
  name_after_other [] h = refl
  name_after_other (x ∷ []) h = refl
  name_after_other (x ∷ y ∷ []) h = absurd (h refl)
  name_after_other (x ∷ y ∷ z ∷ vs) h = refl

module _ (hosts : List Host) (at : Place) (depth : ℕ) where
  pub negated_other : (vs : List Value) → length vs ≢ 2 → negated_of hosts at depth (items_view (drop 1 vs)) ≡ Err (Shape at)
  negated_other [] h = refl
  negated_other (x ∷ []) h = refl
  negated_other (x ∷ y ∷ []) h = absurd (h refl)
  negated_other (x ∷ y ∷ z ∷ vs) h = refl

  pub pair_other : (o : Binary) (vs : List Value) → length vs ≢ 3 → pair_of hosts at depth o (items_view (drop 1 vs)) ≡ Err (Shape at)
  pair_other o [] h = refl
  pair_other o (x ∷ []) h = refl
  pair_other o (x ∷ y ∷ []) h = refl
  pair_other o (x ∷ y ∷ z ∷ []) h = absurd (h refl)
  pair_other o (x ∷ y ∷ z ∷ u ∷ vs) h = refl

  pub cond_other : (vs : List Value) → length vs ≢ 4 → cond_of hosts at depth (items_view (drop 1 vs)) ≡ Err (Shape at)
  cond_other [] h = refl
  cond_other (x ∷ []) h = refl
  cond_other (x ∷ y ∷ []) h = refl
  cond_other (x ∷ y ∷ z ∷ []) h = refl
  cond_other (x ∷ y ∷ z ∷ u ∷ []) h = absurd (h refl)
  cond_other (x ∷ y ∷ z ∷ u ∷ v ∷ vs) h = refl

  -- the first item is the operator
  pub call_first : (vs : List Value) (v : Value) (n : ℕ) → length vs ≡ n + 1
      → call_of hosts at depth (items_view vs) ≡ (operator_of at n (view (get_or vs 0 v)) >>= (λ o. within_depth at depth >>= (λ _. applied_of hosts at depth o (items_view (drop 1 vs)))))
  call_first [] v n h = absurd (omega arith)
  call_first (x ∷ vs) v n h = let same : length vs ≡ n = omega arith in rw (item_count_view vs, same) refl
