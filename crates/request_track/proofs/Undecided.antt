-- The undecided places, as pairs come and are settled.
use Rattle.std.proofs.Common.{◌≡◌, ℕ, suc, ◌≤◌, Bool, true, false, cond, List, [], ◌∷◌, ◌++◌, length, Option, Some, None, refl, sym, ap, ◌∙◌, inl, inr, arith}
use Rattle.std.specs.Prelude.{if◌then◌else◌, nat_le, nat_eq, min, option_map}
use Rattle.std.proofs.lemmas.Bool.{leb-true, leb-false, le-leb, lt-leb, eq-eqb, ne_eqb, eqb-true, eqb-false, cases_lt, cases_eq}
use Rattle.indexmap.specs.IndexMap.{insert_entry}
use Rattle.canton_model.specs.declared.outcome.Outcome.{Outcome}
use Rattle.request_track.specs.declared.tracked.Tracked.{Tracked}
use Rattle.request_track.specs.Pairs.{Pair, is_undecided, is_open, tracked_at, settled, clean_of, in_place, undecided_of, without, first_or, put_if}
use Rattle.request_track.specs.Pairs.{drop_if, Apart, NotBelow, Rising}

-- a value written at a place that is tracked, with its decision time, settles it
pub settles : (place decision : ℕ) (o : Outcome) (ps : List Pair) → option_map (λ (t : Tracked). t.decision) (tracked_at ps place) ≡ Some decision
    → insert_entry nat_eq ps place (record { decision = decision; outcome = o }) ≡ settled place o ps
settles place decision o [] e = absurd (cc)
settles place decision o (p ∷ ps) e = by (nat_eq place p.0) e (settles place decision o ps)
  where
    by : (b : Bool) → option_map (λ (t : Tracked). t.decision) (cond b (Some p.1) (tracked_at ps place)) ≡ Some decision
        → (option_map (λ (t : Tracked). t.decision) (tracked_at ps place) ≡ Some decision
        → insert_entry nat_eq ps place (record { decision = decision; outcome = o }) ≡ settled place o ps)
        → (if b then (p.0, record { decision = decision; outcome = o }) ∷ ps
        else p ∷ insert_entry nat_eq ps place (record { decision = decision; outcome = o })) ≡
        (if b then (p.0, record p.1 { outcome = o }) ∷ ps else p ∷ settled place o ps)
    by true e rest = (let w : p.1.decision ≡ decision = cc in let f : ℕ → List Pair = λ d. (p.0, record { decision = d; outcome = o }) ∷ ps in ap f (sym w))
    by false e rest = ap (λ (qs : List Pair). p ∷ qs) (rest e)

commute : (p q : ℕ) (xs : List ℕ) → in_place p (in_place q xs) ≡ in_place q (in_place p xs)
commute p q [] = elim (cases_lt p q) [
  | inl h ↦ rw (le-leb p q (omega arith), lt-leb q p h) refl
  | inr h ↦ elim (cases_eq p q) [
    | inl e ↦ rw e refl
    | inr n ↦ rw (lt-leb p q (omega arith), le-leb q p h) refl
  ]
]
commute p q (x ∷ xs) = by (nat_le p x) (nat_le q x) refl refl (commute p q xs)
  where
    by : (a b : Bool) → nat_le p x ≡ a → nat_le q x ≡ b → in_place p (in_place q xs) ≡ in_place q (in_place p xs)
        → in_place p (if b then q ∷ x ∷ xs else x ∷ in_place q xs) ≡ in_place q (if a then p ∷ x ∷ xs else x ∷ in_place p xs)
    by true true a b rest = elim (cases_lt p q) [
      | inl h ↦ rw (le-leb p q (omega arith), lt-leb q p h, b) refl
      | inr h ↦ elim (cases_eq p q) [
        | inl e ↦ rw (le-leb p q (omega arith), le-leb q p (omega arith)) (cc)
        | inr n ↦ rw (lt-leb p q (omega arith), le-leb q p h, a) refl
      ]
    ]
    by true false a b rest = (let u = leb-true p x a in let v = leb-false q x b in rw (a, lt-leb q p (omega arith), b) refl)
    by false true a b rest = (let u = leb-false p x a in let v = leb-true q x b in rw (lt-leb p q (omega arith), a, b) refl)
    by false false a b rest = rw (a, b) (ap (λ ys. x ∷ ys) rest)

pub without-in_place : (p : ℕ) (xs : List ℕ) → without p (in_place p xs) ≡ xs
without-in_place p [] = rw (eq-eqb p p refl) refl
without-in_place p (x ∷ xs) = elim (cases_lt x p) [
  | inl h ↦ rw (lt-leb p x h, ne_eqb p x (λ e. omega arith)) (ap (λ ys. x ∷ ys) (without-in_place p xs))
  | inr h ↦ rw (le-leb p x h, eq-eqb p p refl) refl
]

lower : (m n : ℕ) (xs : List ℕ) → m ≤ n → NotBelow n xs → NotBelow m xs
lower m n [] h r = tt
lower m n (x ∷ xs) h r = (let k = r.0 in omega arith, lower m n xs h r.1)

after : (n p : ℕ) (xs : List ℕ) → n ≤ p → NotBelow n xs → NotBelow n (in_place p xs)
after n p [] h r = (h, tt)
after n p (x ∷ xs) h r = elim (cases_lt x p) [
  | inl k ↦ rw (lt-leb p x k) (r.0, after n p xs h r.1)
  | inr k ↦ rw (le-leb p x k) (h, r)
]

rising_in_place : (p : ℕ) (xs : List ℕ) → Rising xs → Rising (in_place p xs)
rising_in_place p [] r = (tt, tt)
rising_in_place p (x ∷ xs) r = elim (cases_lt x p) [
  | inl k ↦ rw (lt-leb p x k) (after x p xs (omega arith) r.0, rising_in_place p xs r.1)
  | inr k ↦ rw (le-leb p x k) ((k, lower p x xs k r.0), r)
]

rising_if : (b : Bool) (p : ℕ) (xs : List ℕ) → Rising xs → Rising (if b then in_place p xs else xs)
rising_if true p xs r = rising_in_place p xs r
rising_if false p xs r = r

pub rising_undecided : (ps : List Pair) → Rising (undecided_of ps)
rising_undecided [] = tt
rising_undecided (p ∷ ps) = rising_if (is_open p) p.0 (undecided_of ps) (rising_undecided ps)

not_below_without : (n p : ℕ) (xs : List ℕ) → NotBelow n xs → NotBelow n (without p xs)
not_below_without n p [] r = tt
not_below_without n p (x ∷ xs) r = by (nat_eq p x) (not_below_without n p xs r.1)
  where
    by : (b : Bool) → NotBelow n (without p xs) → NotBelow n (if b then xs else x ∷ without p xs)
    by true rest = r.1
    by false rest = (r.0, rest)

rising_without : (p : ℕ) (xs : List ℕ) → Rising xs → Rising (without p xs)
rising_without p [] r = tt
rising_without p (x ∷ xs) r = by (nat_eq p x) (rising_without p xs r.1)
  where
    by : (b : Bool) → Rising (without p xs) → Rising (if b then xs else x ∷ without p xs)
    by true rest = r.1
    by false rest = (not_below_without x p xs r.0, rest)

pub rising_drop : (b : Bool) (p : ℕ) (xs : List ℕ) → Rising xs → Rising (drop_if b p xs)
rising_drop true p xs r = rising_without p xs r
rising_drop false p xs r = r

front : (p : ℕ) (xs : List ℕ) → NotBelow p xs → in_place p xs ≡ p ∷ xs
front p [] r = refl
front p (x ∷ xs) r = rw (le-leb p x r.0) refl

without_other : (p q : ℕ) (xs : List ℕ) → (q ≡ p → ⊥) → Rising xs → without q (in_place p xs) ≡ in_place p (without q xs)
without_other p q [] n r = rw (ne_eqb q p n) refl
without_other p q (x ∷ xs) n r = by (nat_le p x) (nat_eq q x) refl refl (without_other p q xs n r.1)
  where
    by : (a b : Bool) → nat_le p x ≡ a → nat_eq q x ≡ b → without q (in_place p xs) ≡ in_place p (without q xs)
        → without q (if a then p ∷ x ∷ xs else x ∷ in_place p xs) ≡ in_place p (if b then xs else x ∷ without q xs)
    by true true a b rest = rw (ne_eqb q p n, b) (sym (front p xs (lower p x xs (leb-true p x a) r.0)))
    by true false a b rest = rw (ne_eqb q p n, b, a) refl
    by false true a b rest = rw b refl
    by false false a b rest = rw (b, a) (ap (λ ys. x ∷ ys) rest)

put_put : (a b : Bool) (p q : ℕ) (xs : List ℕ) → put_if a p (put_if b q xs) ≡ put_if b q (put_if a p xs)
put_put true true p q xs = commute p q xs
put_put true false p q xs = refl
put_put false true p q xs = refl
put_put false false p q xs = refl

drop_put : (a b : Bool) (p q : ℕ) (xs : List ℕ) → (q ≡ p → ⊥) → Rising xs → drop_if a q (put_if b p xs) ≡ put_if b p (drop_if a q xs)
drop_put true true p q xs n r = without_other p q xs n r
drop_put true false p q xs n r = refl
drop_put false true p q xs n r = refl
drop_put false false p q xs n r = refl

drop_own : (a : Bool) (p : ℕ) (xs : List ℕ) → drop_if a p (put_if a p xs) ≡ xs
drop_own true p xs = without-in_place p xs
drop_own false p xs = refl

-- the request at a place is settled
pub undecided_settled : (place : ℕ) (o : Outcome) (t : Tracked) (ps : List Pair) → tracked_at ps place ≡ Some t
    → undecided_of (settled place o ps) ≡ put_if (is_undecided o) place (drop_if (is_undecided t.outcome) place (undecided_of ps))
undecided_settled place o t [] e = absurd (cc)
undecided_settled place o t (p ∷ ps) e = by (nat_eq place p.0) refl e (undecided_settled place o t ps)
  where
    by : (b : Bool) → nat_eq place p.0 ≡ b → cond b (Some p.1) (tracked_at ps place) ≡ Some t
        → (tracked_at ps place ≡ Some t
        → undecided_of (settled place o ps) ≡ put_if (is_undecided o) place (drop_if (is_undecided t.outcome) place (undecided_of ps)))
        → undecided_of (if b then (p.0, record p.1 { outcome = o }) ∷ ps else p ∷ settled place o ps) ≡ put_if (is_undecided o) place
        (drop_if (is_undecided t.outcome) place (put_if (is_open p) p.0 (undecided_of ps)))
    by true h e rest =
        (let w : p.1 ≡ t = cc in
        let k : place ≡ p.0 = eqb-true place p.0 h in
        rw (← w, k) (ap (put_if (is_undecided o) p.0) (sym (drop_own (is_open p) p.0 (undecided_of ps)))))
    by false h e rest =
        ap (put_if (is_open p) p.0) (rest e)
        ∙ put_put (is_open p) (is_undecided o) p.0 place (drop_if (is_undecided t.outcome) place (undecided_of ps))
        ∙ ap (put_if (is_undecided o) place)
        (sym (drop_put (is_undecided t.outcome) (is_open p) p.0 place (undecided_of ps) (eqb-false place p.0 h) (rising_undecided ps)))

-- one more request
pub undecided_pushed : (ps : List Pair) (x : Pair) → undecided_of (ps ++ x ∷ []) ≡ put_if (is_open x) x.0 (undecided_of ps)
undecided_pushed [] x = refl
undecided_pushed (p ∷ ps) x = ap (put_if (is_open p) p.0) (undecided_pushed ps x) ∙ put_put (is_open p) (is_open x) p.0 x.0 (undecided_of ps)

-- a place that isn't tracked
pub settled_none : (place : ℕ) (o : Outcome) (ps : List Pair) → tracked_at ps place ≡ None → settled place o ps ≡ ps
settled_none place o [] e = refl
settled_none place o (p ∷ ps) e = by (nat_eq place p.0) e (settled_none place o ps)
  where
    by : (b : Bool) → cond b (Some p.1) (tracked_at ps place) ≡ None → (tracked_at ps place ≡ None → settled place o ps ≡ ps)
        → (if b then (p.0, record p.1 { outcome = o }) ∷ ps else p ∷ settled place o ps) ≡ p ∷ ps
    by true e rest = absurd (cc)
    by false e rest = ap (λ (qs : List Pair). p ∷ qs) (rest e)

first_put : (p cursor : ℕ) (xs : List ℕ) → first_or (in_place p xs) cursor ≡ min p (first_or xs cursor)
first_put p cursor [] = refl
first_put p cursor (x ∷ xs) = elim (cases_lt x p) [
  | inl h ↦ rw (lt-leb p x h) (omega arith)
  | inr h ↦ rw (le-leb p x h) (omega arith)
]

-- the first undecided place, and at most the cursor
pub clean_first : (ps : List Pair) (cursor : ℕ) → clean_of ps cursor ≡ first_or (undecided_of ps) cursor
clean_first [] cursor = refl
clean_first (p ∷ ps) cursor = by (is_open p) (clean_first ps cursor)
  where
    by : (b : Bool) → clean_of ps cursor ≡ first_or (undecided_of ps) cursor
        → (if b then min p.0 (clean_of ps cursor) else clean_of ps cursor) ≡ first_or (put_if b p.0 (undecided_of ps)) cursor
    by true e = ap (λ n. min p.0 n) e ∙ sym (first_put p.0 cursor (undecided_of ps))
    by false e = e

pub length_in_place : (p : ℕ) (xs : List ℕ) → length (in_place p xs) ≡ suc (length xs)
length_in_place p [] = refl
length_in_place p (x ∷ xs) = by (nat_le p x) (length_in_place p xs)
  where
    by : (b : Bool) → length (in_place p xs) ≡ suc (length xs) → length (if b then p ∷ x ∷ xs else x ∷ in_place p xs) ≡ suc (suc (length xs))
    by true e = refl
    by false e = ap suc e

pub few_undecided : (ps : List Pair) → length (undecided_of ps) ≤ length ps
few_undecided [] = omega arith
few_undecided (p ∷ ps) = by (is_open p) (few_undecided ps)
  where
    by : (b : Bool) → length (undecided_of ps) ≤ length ps → length (put_if b p.0 (undecided_of ps)) ≤ suc (length ps)
    by true e = (let n = length_in_place p.0 (undecided_of ps) in omega arith)
    by false e = omega arith

pub length_settled : (place : ℕ) (o : Outcome) (ps : List Pair) → length (settled place o ps) ≡ length ps
length_settled place o [] = refl
length_settled place o (p ∷ ps) = by (nat_eq place p.0) (length_settled place o ps)
  where
    by : (b : Bool) → length (settled place o ps) ≡ length ps
        → length (if b then (p.0, record p.1 { outcome = o }) ∷ ps else p ∷ settled place o ps) ≡ suc (length ps)
    by true e = refl
    by false e = ap suc e

pub tracked_settled : (place : ℕ) (o : Outcome) (ps : List Pair) (q : ℕ) → (place ≡ q → ⊥) → tracked_at (settled place o ps) q ≡ tracked_at ps q
tracked_settled place o [] q n = refl
tracked_settled place o (p ∷ ps) q n = by (nat_eq place p.0) refl (tracked_settled place o ps q n)
  where
    by : (b : Bool) → nat_eq place p.0 ≡ b → tracked_at (settled place o ps) q ≡ tracked_at ps q
        → tracked_at (if b then (p.0, record p.1 { outcome = o }) ∷ ps else p ∷ settled place o ps) q ≡ cond (nat_eq q p.0) (Some p.1) (tracked_at ps q)
    by true h rest = (let k = eqb-true place p.0 h in rw (ne_eqb q p.0 (λ w. n (k ∙ sym w))) refl)
    by false h rest = ap (λ (t : Option Tracked). cond (nat_eq q p.0) (Some p.1) t) rest

none_settled : (place : ℕ) (o : Outcome) (ps : List Pair) (q : ℕ) → tracked_at ps q ≡ None → tracked_at (settled place o ps) q ≡ None
none_settled place o [] q e = refl
none_settled place o (p ∷ ps) q e = by (nat_eq place p.0) (nat_eq q p.0) refl e (none_settled place o ps q)
  where
    by : (b c : Bool) → nat_eq q p.0 ≡ c → cond c (Some p.1) (tracked_at ps q) ≡ None → (tracked_at ps q ≡ None → tracked_at (settled place o ps) q ≡ None)
        → tracked_at (if b then (p.0, record p.1 { outcome = o }) ∷ ps else p ∷ settled place o ps) q ≡ None
    by b true h e rest = absurd (cc)
    by true false h e rest = rw h e
    by false false h e rest = rw h (rest e)

pub apart_settled : (place : ℕ) (o : Outcome) (ps : List Pair) → Apart ps → Apart (settled place o ps)
apart_settled place o [] a = tt
apart_settled place o (p ∷ ps) a = by (nat_eq place p.0) (apart_settled place o ps a.1)
  where
    by : (b : Bool) → Apart (settled place o ps) → Apart (if b then (p.0, record p.1 { outcome = o }) ∷ ps else p ∷ settled place o ps)
    by true rest = (a.0, a.1)
    by false rest = (none_settled place o ps p.0 a.0, rest)

none_pushed : (ps : List Pair) (x : Pair) (q : ℕ) → tracked_at ps q ≡ None → (q ≡ x.0 → ⊥) → tracked_at (ps ++ x ∷ []) q ≡ None
none_pushed [] x q e n = rw (ne_eqb q x.0 n) refl
none_pushed (p ∷ ps) x q e n = by (nat_eq q p.0) e (λ h. none_pushed ps x q h n)
  where
    by : (b : Bool) → cond b (Some p.1) (tracked_at ps q) ≡ None → (tracked_at ps q ≡ None → tracked_at (ps ++ x ∷ []) q ≡ None)
        → cond b (Some p.1) (tracked_at (ps ++ x ∷ []) q) ≡ None
    by true e rest = absurd (cc)
    by false e rest = rest e

pub apart_pushed : (ps : List Pair) (x : Pair) → tracked_at ps x.0 ≡ None → Apart ps → Apart (ps ++ x ∷ [])
apart_pushed [] x e a = (refl, tt)
apart_pushed (p ∷ ps) x e a = by (nat_eq x.0 p.0) refl e (λ h. apart_pushed ps x h a.1)
  where
    by : (b : Bool) → nat_eq x.0 p.0 ≡ b → cond b (Some p.1) (tracked_at ps x.0) ≡ None → (tracked_at ps x.0 ≡ None → Apart (ps ++ x ∷ []))
        → Apart (p ∷ (ps ++ x ∷ []))
    by true h e rest = absurd (cc)
    by false h e rest = (none_pushed ps x p.0 a.0 (λ w. eqb-false x.0 p.0 h (sym w)), rest e)
