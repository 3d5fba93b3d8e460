-- What a reading that gave something went through.
use Rattle.std.proofs.Common.{◌≡◌, ℕ, ◌+◌, ◌≤◌, Bool, true, false, List, [], ◌∷◌, ◌++◌, length, Result, Ok, Err, refl, ap, arith}
use Rattle.std.specs.Prelude.{◌&&◌, nat_le}
use Rattle.std.specs.Bool.{⊤}
use Rattle.std.specs.List.{AllByRecursion}
use Rattle.std.proofs.lemmas.Bool.Decides.{nat_tests}
use Rattle.std.proofs.lemmas.List.{length_push}
use Rattle.serde_json.specs.Data.{Data, Items, no_items, item}
use Rattle.ledger_terms.specs.Answers.{◌>>=◌, check}
use Rattle.ledger_terms.specs.Pointers.{at_item}
use Rattle.json_walk.specs.Walk.{Place, within_limit, items_of, few_items_of, walk_items, item_count}
use Rattle.json_walk.specs.Lists.{item_step, list_of, few_of}
use Rattle.json_walk.specs.declared.limit.Limit.{Limit}
use Rattle.json_walk.specs.declared.walk_fault.WalkFault.{WalkFault}

-- a reading after another
pub after : {A B E : Type 0} (r : Result A E) (f : A → Result B E) (b : B) → (r >>= f) ≡ Ok b → (a : A) × (r ≡ Ok a) × (f a ≡ Ok b)
after (Ok a) f b h = (a, refl, h)
after (Err e) f b h = absurd (cc)

pub passed : {E : Type 0} (b : Bool) (e : E) (u : ⊤) → check b e ≡ Ok u → b ≡ true
passed true e u h = refl
passed false e u h = absurd (cc)

pub given : {A E : Type 0} (a b : A) → ◌≡◌ {A = Result A E} (Ok a) (Ok b) → b ≡ a
given a b h = cc

pub limit_kept : (at : Place) (limit : Limit) (n : ℕ) (u : ⊤) → within_limit at limit n ≡ Ok u → (limit.least ≤ n) × (n ≤ limit.most)
unfolding within_limit
limit_kept at limit n u h =
    let within : (nat_le limit.least n && nat_le n limit.most) ≡ true = passed _ _ u h in
    (grind (arith, nat_tests), grind (arith, nat_tests))

-- What each step keeps holds at the end of a walk.
pub walk_keeps : {A : Type 0} (step : ℕ → A → Data → Result A WalkFault) (I : ℕ → A → Type 0)
    → ((i : ℕ) (a b : A) (d : Data) → I i a → step i a d ≡ Ok b → I (i + 1) b)
    → (i : ℕ) (a b : A) (ds : Items) → I i a → walk_items step i a ds ≡ Ok b → I (i + item_count ds) b
walk_keeps step I kept i a b no_items p h =
    let n : i + 0 ≡ i = omega arith in
    rw (n, given a b h) p
walk_keeps step I kept i a b (item d ds) p h =
    let s = after (step i a d) (λ c. walk_items step (i + 1) c ds) b h in
    let n : i + (item_count ds + 1) ≡ i + 1 + item_count ds = omega arith in
    rw n (walk_keeps step I kept (i + 1) s.0 b ds (kept i a s.0 d p s.1) s.2)

-- ---- lists

pub all_push : {X : Type 0} (P : X → Type 0) (xs : List X) (x : X) → AllByRecursion P xs → P x → AllByRecursion P (xs ++ x ∷ [])
all_push P [] x h k = (k, tt)
all_push P (y ∷ ys) x h k = (h.0, all_push P ys x h.1 k)

-- as many items, of each of which P holds
pub record AreEach {A : Type 0} (P : A → Type 0) (count : ℕ) (a : List A) : Type 0 where
  pub many : length a ≡ count
  pub each : AllByRecursion P a

module _ {A : Type 0} (item_of : Place → Data → Result A WalkFault) (P : A → Type 0) (one : (at : Place) (d : Data) (a : A) → item_of at d ≡ Ok a → P a) (at : Place) where
  item_kept : (i : ℕ) (a b : List A) (d : Data) → AreEach P i a → item_step item_of at i a d ≡ Ok b → AreEach P (i + 1) b
  item_kept i a b d p h =
      let s = after (item_of (at_item at i) d) _ b h in
      let grown = length_push a s.0 in
      rw (given (a ++ s.0 ∷ []) b s.2) (record { many = omega (arith, grown, p.many); each = all_push P a s.0 p.each (one (at_item at i) d s.0 s.1) })

  -- the items of a walk
  pub items_kept : (ds : Items) (b : List A) → walk_items (item_step item_of at) 0 [] ds ≡ Ok b → AreEach P (item_count ds) b
  items_kept ds b h =
      let k = walk_keeps (item_step item_of at) (AreEach P) item_kept 0 [] b ds (record { many = refl; each = tt }) h in
      record { many = omega (arith, k.many); each = k.each }

  -- a list
  pub list_kept : (d : Data) (b : List A) → list_of item_of at d ≡ Ok b → AllByRecursion P b
  unfolding list_of
  list_kept d b h =
      let f = after (items_of at d) _ b h in
      (items_kept f.0 b f.2).each

  -- a list that keeps a limit
  pub few_kept : (limit : Limit) (d : Data) (b : List A) → few_of item_of at limit d ≡ Ok b → (limit.least ≤ length b) × (length b ≤ limit.most) × AllByRecursion P b
  unfolding few_of few_items_of
  few_kept limit d b h =
      let f = after (few_items_of at limit d) _ b h in
      let g = after (items_of at d) _ f.0 f.1 in
      let k = after (within_limit at limit (item_count g.0)) _ f.0 g.2 in
      let l = limit_kept at limit (item_count g.0) k.0 k.1 in
      let same = ap item_count (given g.0 f.0 k.2) in
      let w = items_kept f.0 b f.2 in
      (omega (arith, l.0, same, w.many), omega (arith, l.1, same, w.many), w.each)
