-- The first that a test finds is the first that shows what the test decides.
use Rattle.std.proofs.Common.{◌≡◌, ◌↔◌, ℕ, zero, suc, ◌<◌, Bool, true, false, List, [], ◌∷◌, ◌++◌, Option, Some, None, take, refl, sym, ◌∙◌, ap, subst, arith, append_assoc, append-nil, inl, inr}
use Rattle.std.specs.Prelude.{slice_get, IfSome}
use Rattle.std.specs.Bool.{Decides}
use Rattle.std.proofs.lemmas.Bool.{cases_Bool, both_ways}
use Rattle.std.proofs.lemmas.Option.{same_Some, none-some}
use Rattle.ledger_terms.specs.declared.act.Act.{Act}
use Rattle.consist.specs.First.{acts_in, NoneShows, IsFirst, first_found}

module _ {P : Type 0} (test : List Act → Act → Bool) where
  -- the test finds none of the first n
  abbrev pub NoneBelow : (before : List Act) (placed : List (P × Act)) (n : ℕ) → Type 0
  NoneBelow before placed n = (i : ℕ) (x : P × Act) → i < n → slice_get placed i ≡ Some x → test (before ++ acts_in (take i placed)) x.1 ≡ false

  below_more : (before : List Act) (x : P × Act) (xs : List (P × Act)) (n : ℕ) → test before x.1 ≡ false → NoneBelow (before ++ x.1 ∷ []) xs n → NoneBelow before (x ∷ xs) (suc n)
  below_more before x xs n b rest zero y lt e = rw append-nil (subst (λ (z : P × Act). test before z.1 ≡ false) (same_Some x y e) b)
  below_more before x xs n b rest (suc j) y lt e = rw append_assoc at (rest j y (omega arith) e)

  pub none_below : (before : List Act) (placed : List (P × Act)) (n : ℕ) → first_found test before placed ≡ None → NoneBelow before placed n
  none_below before [] n h i y lt e = absurd (none-some y e)
  none_below before (x ∷ xs) zero h i y lt e = absurd (omega arith)
  none_below before (x ∷ xs) (suc n) h i y lt e =
      elim (cases_Bool (test before x.1)) [
        | inl b ↦ let wrong : Some x.0 ≡ None = rw b at h in absurd (none-some x.0 (sym wrong))
        | inr b ↦ below_more before x xs n b (none_below (before ++ x.1 ∷ []) xs n (rw b at h)) i y lt e
      ]

-- no placed action shows it after those before it
abbrev pub NonePlaced : {P : Type 0} → (List Act → Act → Type 0) → List (P × Act) → Type 0
NonePlaced {P} shows placed = (i : ℕ) (x : P × Act) → slice_get placed i ≡ Some x → shows (acts_in (take i placed)) x.1 → ⊥

-- what is found where the test finds something
pub record FoundAt {P : Type 0} (test : List Act → Act → Bool) (before : List Act) (placed : List (P × Act)) (at : P) : Type 0 where
  pub number : ℕ
  pub act : Act
  pub stands : slice_get placed number ≡ Some (at, act)
  pub found : test (before ++ acts_in (take number placed)) act ≡ true
  pub earliest : NoneBelow test before placed number

module _ {P : Type 0} (test : List Act → Act → Bool) where
  pub found_at : (before : List Act) (placed : List (P × Act)) (at : P) → first_found test before placed ≡ Some at → FoundAt test before placed at
  found_at before [] at h = absurd (none-some at h)
  found_at before (x ∷ xs) at h =
      elim (cases_Bool (test before x.1)) [
        | inl b ↦
            let here : Some x.0 ≡ Some at = rw b at h in
            record {
              number = 0;
              act = x.1;
              stands = ap (λ (p : P). Some (p, x.1)) (same_Some x.0 at here);
              found = rw append-nil b;
              earliest = λ i y lt e. absurd (omega arith);
            }
        | inr b ↦
            let r = found_at (before ++ x.1 ∷ []) xs at (rw b at h) in
            record {
              number = suc r.number;
              act = r.act;
              stands = r.stands;
              found = rw append_assoc at r.found;
              earliest = below_more test before x xs r.number b r.earliest;
            }
      ]

not_shown : (b : Bool) (shown : Type 0) → Decides b shown → b ≡ false → shown → ⊥
not_shown b shown d h s = both_ways b h (d.1 s)

module _ {P : Type 0} (test : List Act → Act → Bool) (shows : List Act → Act → Type 0) (decides : (earlier : List Act) (a : Act) → Decides (test earlier a) (shows earlier a)) where
  pub is_first : (placed : List (P × Act)) (at : P) → first_found test [] placed ≡ Some at → IsFirst shows placed at
  is_first placed at h =
      let r = found_at test [] placed at h in
      record {
        number = r.number;
        act = r.act;
        stands = r.stands;
        shown = (decides (acts_in (take r.number placed)) r.act).0 r.found;
        earliest = λ i x lt e. not_shown _ _ (decides (acts_in (take i placed)) x.1) (r.earliest i x lt e);
      }

  pub none_show : (placed : List (P × Act)) → first_found test [] placed ≡ None → NonePlaced shows placed
  none_show placed h i x e = not_shown _ _ (decides (acts_in (take i placed)) x.1) (none_below test [] placed (suc i) h i x (omega arith) e)

  none_of : (placed : List (P × Act)) (found : Option P) → first_found test [] placed ≡ found → NonePlaced shows placed → found ≡ None
  none_of placed None h none = refl
  none_of placed (Some at) h none =
      let r = is_first placed at h in absurd (none r.number (at, r.act) r.stands r.shown)

  pub none_found : (placed : List (P × Act)) → NonePlaced shows placed → first_found test [] placed ≡ None
  none_found placed none = none_of placed (first_found test [] placed) refl none

  -- what is found is the first
  pub some_first : (placed : List (P × Act)) (found : Option P) → first_found test [] placed ≡ found → IfSome found (λ at. IsFirst shows placed at)
  some_first placed None h = tt
  some_first placed (Some at) h = is_first placed at h

  -- nothing is found exactly where none shows it
  pub none_first : (placed : List (P × Act)) (found : Option P) → first_found test [] placed ≡ found → (found ≡ None) ↔ NonePlaced shows placed
  none_first placed found h = (λ e. none_show placed (h ∙ e), λ none. sym h ∙ none_found placed none)

-- the same of the actions alone
acts_at : {P : Type 0} (xs : List (P × Act)) (i : ℕ) (a : Act) → slice_get (acts_in xs) i ≡ Some a → (x : P × Act) × (slice_get xs i ≡ Some x) × (x.1 ≡ a)
acts_at [] i a h = absurd (none-some a h)
acts_at (x ∷ xs) zero a h = (x, refl, same_Some x.1 a h)
acts_at (x ∷ xs) (suc i) a h = acts_at xs i a h

acts_get : {P : Type 0} (xs : List (P × Act)) (i : ℕ) (x : P × Act) → slice_get xs i ≡ Some x → slice_get (acts_in xs) i ≡ Some x.1
acts_get [] i x h = absurd (none-some x h)
acts_get {P} (y ∷ xs) zero x h = ap (λ (z : P × Act). Some z.1) (same_Some y x h)
acts_get (y ∷ xs) (suc i) x h = acts_get xs i x h

acts_take : {P : Type 0} (i : ℕ) (xs : List (P × Act)) → acts_in (take i xs) ≡ take i (acts_in xs)
acts_take zero xs = refl
acts_take (suc i) [] = refl
acts_take (suc i) (x ∷ xs) = ap (λ (acts : List Act). x.1 ∷ acts) (acts_take i xs)

module _ {P : Type 0} (shows : List Act → Act → Type 0) (placed : List (P × Act)) where
  pub none_of_acts : NonePlaced shows placed → NoneShows shows (acts_in placed)
  none_of_acts none i a e s =
      let w = acts_at placed i a e in
      none i w.0 w.1 (rw w.2 (rw (acts_take i placed) s))

  pub none_of_placed : NoneShows shows (acts_in placed) → NonePlaced shows placed
  none_of_placed none i x e s = none i x.1 (acts_get placed i x e) (rw (acts_take i placed) at s)
