-- Rising lists of places.
use Rattle.std.proofs.Common.{◌≡◌, ◌≢◌, ℕ, zero, suc, ◌<◌, ◌≤◌, Bool, true, false, not, List, [], ◌∷◌, ◌++◌, take, drop, length, Some, slice_get}
use Rattle.std.proofs.Common.{refl, sym, ap, ◌∙◌, subst, inl, inr, arith, nat_eq, ne_eqb, append-nil, le_refl}
use Rattle.std.specs.Prelude.{◌&&◌, slice_index_or}
use Rattle.std.specs.List.{AllWithin, filter}
use Rattle.std.proofs.lemmas.Bool.{cases_Bool, cases_lt, eq-eqb, eqb-true}
use Rattle.std.proofs.lemmas.List.Elements.{filter-append}
use Rattle.std.proofs.lemmas.Option.{none-some, same_Some}
use Rattle.world_model.specs.Messages.{Message}
use Rattle.world_model.specs.Sequencing.{is_verdict_on}
use Rattle.world_model.proofs.Grown.{snoc_cases}
use Rattle.seq_log.specs.OpenRequests.{RisesBetween, after_front, begins_with, place_if, places_below}

-- bounds
pub rises_on : (low : ℕ) (xs : List ℕ) (k high : ℕ) → RisesBetween low xs k → k < high → RisesBetween low (xs ++ k ∷ []) high
rises_on low [] k high h lt = (h, omega (arith, lt))
rises_on low (x ∷ xs) k high h lt = (h.0, rises_on (suc x) xs k high h.1 lt)

pub rises_to : (low : ℕ) (xs : List ℕ) (high more : ℕ) → RisesBetween low xs high → high ≤ more → RisesBetween low xs more
rises_to low [] high more h le = omega (arith, h, le)
rises_to low (x ∷ xs) high more h le = (h.0, rises_to (suc x) xs high more h.1 le)

pub places_rise : (test : ℕ → Bool) (n : ℕ) → RisesBetween 0 (places_below test n) n
places_rise test zero = omega arith
places_rise test (suc k) = by (test k) (places_rise test k)
  where
    by : (b : Bool) → RisesBetween 0 (places_below test k) k → RisesBetween 0 (places_below test k ++ place_if b k) (suc k)
    by true rises = rises_on 0 (places_below test k) k (suc k) rises (omega arith)
    by false rises =
        subst (λ (xs : List ℕ). RisesBetween 0 xs (suc k)) (sym (append-nil (places_below test k)))
        (rises_to 0 (places_below test k) k (suc k) rises (omega arith))

-- tests
pub same_places : (f g : ℕ → Bool) (n : ℕ) → ((k : ℕ) → k < n → f k ≡ g k) → places_below f n ≡ places_below g n
same_places f g zero same = refl
same_places f g (suc k) same =
    ap (λ (xs : List ℕ). xs ++ place_if (f k) k) (same_places f g k (λ i lt. same i (omega (arith, lt))))
    ∙ ap (λ (b : Bool). places_below g k ++ place_if b k) (same k (omega arith))

filter_if : (test : ℕ → Bool) (b : Bool) (k : ℕ) → filter test (place_if b k) ≡ place_if (b && test k) k
filter_if test false k = refl
filter_if test true k = elim (cases_Bool (test k)) [ inl e ↦ rw e refl | inr e ↦ rw e refl ]

pub filtered : (f test : ℕ → Bool) (n : ℕ) → filter test (places_below f n) ≡ places_below (λ k. f k && test k) n
filtered f test zero = refl
filtered f test (suc k) =
    filter-append test (places_below f k) (place_if (f k) k)
    ∙ (ap (λ (xs : List ℕ). xs ++ filter test (place_if (f k) k)) (filtered f test k)
    ∙ ap (λ (xs : List ℕ). places_below (λ i. f i && test i) k ++ xs) (filter_if test (f k) k))

-- all from one that passes on
all_kept : (test : ℕ → Bool) (low : ℕ) (xs : List ℕ) (high : ℕ) → RisesBetween low xs high
    → ((k : ℕ) → low ≤ k → k < high → test k ≡ true) → filter test xs ≡ xs
all_kept test low [] high h all = refl
all_kept test low (x ∷ xs) high h all =
    let up = below (suc x) xs high h.1 in
    let within : x < high = omega (arith, up) in
    let here : test x ≡ true = all x h.0 within in
    let low_is = h.0 in
    rw here (ap (λ (ys : List ℕ). x ∷ ys) (all_kept test (suc x) xs high h.1 (λ k le lt. all k (omega (arith, le, low_is)) lt)))
  where
    below : (l : ℕ) (ys : List ℕ) (high : ℕ) → RisesBetween l ys high → l ≤ high
    below l [] high h = h
    below l (y ∷ ys) high h = let first = h.0 in let rest = below (suc y) ys high h.1 in omega (arith, first, rest)

-- the front that passes a test, where none passes after one that doesn't
pub front_filtered : (test : ℕ → Bool) (low : ℕ) (xs : List ℕ) (high : ℕ) → RisesBetween low xs high
    → ((i k : ℕ) → i ≤ k → k < high → test i ≡ false → test k ≡ false) → after_front test xs ≡ filter (λ k. not (test k)) xs
front_filtered test low [] high h stays = refl
front_filtered test low (x ∷ xs) high h stays =
    elim (cases_Bool (test x)) [
      | inl b ↦ rw b (front_filtered test (suc x) xs high h.1 stays)
      | inr b ↦
          rw b (ap (λ (ys : List ℕ). x ∷ ys)
          (sym (all_kept (λ k. not (test k)) (suc x) xs high h.1 (λ k le lt. ap not (stays x k (omega (arith, le)) lt b)))))
    ]

-- one step of it
pub front_on : (test : ℕ → Bool) (x : ℕ) (xs : List ℕ) → test x ≡ true → after_front test (x ∷ xs) ≡ after_front test xs
front_on test x xs b = rw b refl

pub front_ends : (test : ℕ → Bool) (xs : List ℕ) → begins_with test xs ≡ false → after_front test xs ≡ xs
front_ends test [] h = refl
front_ends test (x ∷ xs) h = rw h refl

-- what an index reads
pub item_at : (xs : List ℕ) (at x : ℕ) → at < length xs → slice_get xs at ≡ Some (slice_index_or xs at x)
item_at [] at x lt = absurd (omega (arith, lt))
item_at (y ∷ ys) zero x lt = refl
item_at (y ∷ ys) (suc at) x lt = item_at ys at x (omega (arith, lt))

pub other_there : (xs : List ℕ) (at x r : ℕ) → at < length xs → x ≡ slice_index_or xs at x → x ≢ r → (d : ℕ) → slice_index_or xs at d ≢ r
other_there [] at x r lt is other d = absurd (omega (arith, lt))
other_there (y ∷ ys) zero x r lt is other d = λ same. other (is ∙ same)
other_there (y ∷ ys) (suc at) x r lt is other d = other_there ys at x r (omega (arith, lt)) is other d

-- one place goes
others : (r low : ℕ) (xs : List ℕ) (high : ℕ) → RisesBetween low xs high → r < low → filter (λ k. not (nat_eq r k)) xs ≡ xs
others r low xs high h lt = all_kept (λ k. not (nat_eq r k)) low xs high h (λ k le below. ap not (apart r k (omega (arith, le, lt))))
  where
    apart : (a b : ℕ) → a < b → nat_eq a b ≡ false
    apart a b less = elim (cases_Bool (nat_eq a b)) [ inl e ↦ let same = eqb-true a b e in absurd (omega (arith, same, less)) | inr e ↦ e ]

at_least : (r low : ℕ) (xs : List ℕ) (high at : ℕ) → RisesBetween low xs high → slice_get xs at ≡ Some r → low ≤ r
at_least r low [] high at h found = absurd (none-some r found)
at_least r low (x ∷ xs) high zero h found = let same : x ≡ r = same_Some x r found in let from = h.0 in omega (arith, from, same)
at_least r low (x ∷ xs) high (suc at) h found =
    let from = h.0 in let later = at_least r (suc x) xs high at h.1 found in omega (arith, from, later)

pub one_gone : (r low : ℕ) (xs : List ℕ) (high at : ℕ) → RisesBetween low xs high → slice_get xs at ≡ Some r
    → take at xs ++ drop (suc at) xs ≡ filter (λ k. not (nat_eq r k)) xs
one_gone r low [] high at h found = absurd (none-some r found)
one_gone r low (x ∷ xs) high zero h found =
    let same : x ≡ r = same_Some x r found in
    let e : nat_eq r x ≡ true = eq-eqb r x (sym same) in
    rw e (sym (others r (suc x) xs high h.1 (omega (arith, same))))
one_gone r low (x ∷ xs) high (suc at) h found =
    let later = at_least r (suc x) xs high at h.1 found in
    let here : nat_eq r x ≡ false = ne_eqb r x (λ e. omega (arith, later, e)) in
    rw here (ap (λ (ys : List ℕ). x ∷ ys) (one_gone r (suc x) xs high at h.1 found))

-- none goes, where all before a place are below it, all from there on are not, and it isn't the first of these
pub none_gone : (r low : ℕ) (xs : List ℕ) (high at : ℕ) → RisesBetween low xs high → AllWithin (λ (k : ℕ). k < r) xs 0 at
    → AllWithin (λ (k : ℕ). r ≤ k) xs at (length xs) → (at < length xs → (d : ℕ) → slice_index_or xs at d ≢ r)
    → xs ≡ filter (λ k. not (nat_eq r k)) xs
none_gone r low [] high at h less more other = refl
none_gone r low (x ∷ xs) high zero h less more other =
    elim (cases_lt r x) [
      | inl lt ↦ sym (others r x (x ∷ xs) high (le_refl x, h.1) lt)
      | inr le ↦ let from = more 0 0 (omega arith) (omega arith) in absurd (other (omega arith) 0 (omega (arith, le, from)))
    ]
none_gone r low (x ∷ xs) high (suc at) h less more other =
    let below = less 0 0 (omega arith) (omega arith) in
    let here : nat_eq r x ≡ false = ne_eqb r x (λ e. omega (arith, below, e)) in
    rw here (ap (λ (ys : List ℕ). x ∷ ys)
    (none_gone r (suc x) xs high at h.1 (λ i d from to. less (suc i) d (omega (arith, from)) (omega (arith, to)))
    (λ i d from to. more (suc i) d (omega (arith, from)) (omega (arith, to))) (λ lt. other (omega (arith, lt)))))

above_low : (low high : ℕ) (xs : List ℕ) (j d : ℕ) → RisesBetween low xs high → j < length xs → low ≤ slice_index_or xs j d
above_low low high [] j d h lt = absurd (omega (arith, lt))
above_low low high (x ∷ xs) zero d h lt = h.0
above_low low high (x ∷ xs) (suc j) d h lt =
    let from = h.0 in let later = above_low (suc x) high xs j d h.1 (omega (arith, lt)) in omega (arith, from, later)

pub in_order : (low high : ℕ) (xs : List ℕ) → RisesBetween low xs high → (i j d : ℕ) → i ≤ j → j < length xs
    → slice_index_or xs i d ≤ slice_index_or xs j d
in_order low high [] h i j d le lt = absurd (omega (arith, lt))
in_order low high (x ∷ xs) h zero zero d le lt = omega arith
in_order low high (x ∷ xs) h zero (suc j) d le lt = let later = above_low (suc x) high xs j d h.1 (omega (arith, lt)) in omega (arith, later)
in_order low high (x ∷ xs) h (suc i) zero d le lt = absurd (omega (arith, le))
in_order low high (x ∷ xs) h (suc i) (suc j) d le lt = in_order (suc x) high xs h.1 i j d (omega (arith, le)) (omega (arith, lt))

-- a message that is no verdict
pub kept_by : (xs : List ℕ) (message : Message) → ((k : ℕ) → is_verdict_on k message ≡ false) → filter (λ k. not (is_verdict_on k message)) xs ≡ xs
kept_by [] message no_verdict = refl
kept_by (x ∷ xs) message no_verdict = let e = no_verdict x in rw e (ap (λ (ys : List ℕ). x ∷ ys) (kept_by xs message no_verdict))

-- what stands among the places that pass a test
pub place_passes : (test : ℕ → Bool) (n at k : ℕ) → slice_get (places_below test n) at ≡ Some k → (test k ≡ true) × (k < n)
place_passes test zero at k there = absurd (none-some k there)
place_passes test (suc n) at k there = by (test n) refl (place_passes test n at k) there
  where
    by : (b : Bool) → test n ≡ b → (slice_get (places_below test n) at ≡ Some k → (test k ≡ true) × (k < n))
        → slice_get (places_below test n ++ place_if b n) at ≡ Some k → (test k ≡ true) × (k < suc n)
    by true is before here =
        elim (snoc_cases (places_below test n) n at k here) [
          | inl h ↦ let p = before h.1 in let lt = p.1 in (p.0, omega (arith, lt))
          | inr h ↦ let same : n ≡ k = h.1 in (ap test (sym same) ∙ is, omega (arith, same))
        ]
    by false is before here =
        let p = before (ap (λ (xs : List ℕ). slice_get xs at) (sym (append-nil (places_below test n))) ∙ here) in
        let lt = p.1 in (p.0, omega (arith, lt))
