-- Requests in step: the first that is late, and what is left open.
use Rattle.std.proofs.Common.{◌≡◌, ℕ, suc, ◌<◌, ◌≤◌, Bool, true, false, cond, List, [], ◌∷◌, Option, Some, None, refl, sym, ap, ◌∙◌, inl, inr, arith}
use Rattle.std.specs.Prelude.{if◌then◌else◌, nat_le, nat_lt, nat_eq, ◌&&◌, ◌||◌, not}
use Rattle.std.proofs.lemmas.Bool.{eq-eqb, ne_eqb, ltb-false, le-ltb, cases_eq, le-leb}
use Rattle.std.proofs.lemmas.Option.{none-some, same_Some}
use Rattle.canton_model.specs.declared.outcome.Outcome.{Outcome}
use Rattle.canton_model.specs.declared.outcome.Outcome.TheVariants.{Expired}
use Rattle.request_track.specs.CleanLaw.{is_open_at}
use Rattle.request_track.specs.Pairs.{Pair, NotBelow, is_undecided, is_open, tracked_at, settled, in_place, undecided_of, is_late, late_tracked}
use Rattle.request_track.specs.Pairs.{expired, expire_one, late_first, first_late}
use Rattle.inbox_registry.specs.Steps.{AllAfter, InStep}
use Rattle.inbox_registry.proofs.Tests.{and_false, and_true, out_first}

-- ---- places and decision times stay

all_after_settled : (p : Pair) (j : ℕ) (o : Outcome) (ps : List Pair) → AllAfter p ps → AllAfter p (settled j o ps)
all_after_settled p j o [] a = tt
all_after_settled p j o (q ∷ qs) a = by (nat_eq j q.0) (all_after_settled p j o qs a.1)
  where
    by : (b : Bool) → AllAfter p (settled j o qs) → AllAfter p (if b then (q.0, record q.1 { outcome = o }) ∷ qs else q ∷ settled j o qs)
    by true rest = (a.0, a.1)
    by false rest = (a.0, rest)

pub in_step_settled : (j : ℕ) (o : Outcome) (ps : List Pair) → InStep ps → InStep (settled j o ps)
in_step_settled j o [] s = tt
in_step_settled j o (p ∷ ps) s = by (nat_eq j p.0) (in_step_settled j o ps s.1) (all_after_settled p j o ps s.0)
  where
    same : (q : Pair) (qs : List Pair) → q.0 ≡ p.0 → q.1.decision ≡ p.1.decision → AllAfter p qs → AllAfter q qs
    same q [] e d a = tt
    same q (r ∷ rs) e d a = ((let h = a.0.0 in omega arith, let h = a.0.1 in omega arith), same q rs e d a.1)

    by : (b : Bool) → InStep (settled j o ps) → AllAfter p (settled j o ps) → InStep (if b then (p.0, record p.1 { outcome = o }) ∷ ps else p ∷ settled j o ps)
    by true rest a = (same (p.0, record p.1 { outcome = o }) ps refl refl s.0, s.1)
    by false rest a = (a, rest)

-- ---- what is open

none_open : (p : Pair) (ps : List Pair) (m : ℕ) → m ≤ p.0 → AllAfter p ps → is_open_at ps m ≡ false
none_open p [] m h a = refl
none_open p (q ∷ qs) m h a =
    let lt = a.0.0 in
    rw (ne_eqb q.0 m (λ e. omega arith)) (none_open p qs m h a.1)

-- a request that is settled isn't open, and each other one is as it was
pub open_settled : (j : ℕ) (o : Outcome) (ps : List Pair) → is_undecided o ≡ false → InStep ps → (m : ℕ)
    → is_open_at (settled j o ps) m ≡ (is_open_at ps m && not (nat_eq m j))
open_settled j o [] u s m = refl
open_settled j o (p ∷ ps) u s m = elim (cases_eq j p.0) [
  | inl same ↦ elim (cases_eq m j) [
    | inl here ↦
        let at : m ≡ p.0 = here ∙ same in
        let none : is_open_at ps m ≡ false = none_open p ps m (omega arith) s.0 in
        rw (eq-eqb j p.0 same, eq-eqb m j here, u, none, and_false (nat_eq p.0 m), and_false ((nat_eq p.0 m && is_open p) || false)) refl
    | inr other ↦
        rw (eq-eqb j p.0 same, ne_eqb m j other, ne_eqb p.0 m (λ e. other (sym e ∙ sym same)), and_true (is_open_at ps m)) refl
  ]
  | inr apart ↦ elim (cases_eq m j) [
    | inl here ↦
        rw (ne_eqb j p.0 apart, ne_eqb p.0 m (λ e. apart (sym (e ∙ here))))
        (open_settled j o ps u s.1 m)
    | inr other ↦
        let rest = open_settled j o ps u s.1 m in
        rw (ne_eqb j p.0 apart, rest, ne_eqb m j other) (out_first (nat_eq p.0 m && is_open p) (is_open_at ps m))
  ]
]

-- ---- the first that is late

not_below : (n : ℕ) (p : Pair) (ps : List Pair) → n ≤ p.0 → AllAfter p ps → NotBelow (suc n) (undecided_of ps)
not_below n p [] h a = tt
not_below n p (q ∷ qs) h a = by (is_open q) (not_below n p qs h a.1)
  where
    put : (q : ℕ) (us : List ℕ) → n < q → NotBelow (suc n) us → NotBelow (suc n) (in_place q us)
    put q [] l r = (omega arith, tt)
    put q (u ∷ us) l r = which (nat_le q u) (put q us l r.1)
      where
        which : (b : Bool) → NotBelow (suc n) (in_place q us) → NotBelow (suc n) (if b then q ∷ u ∷ us else u ∷ in_place q us)
        which true rest = (omega arith, r)
        which false rest = (r.0, rest)

    by : (b : Bool) → NotBelow (suc n) (undecided_of qs) → NotBelow (suc n) (if b then in_place q.0 (undecided_of qs) else undecided_of qs)
    by true rest = put q.0 (undecided_of qs) (let l = a.0.0 in omega arith) rest
    by false rest = rest

in_front : (p : ℕ) (us : List ℕ) → NotBelow (suc p) us → in_place p us ≡ p ∷ us
in_front p [] r = refl
in_front p (u ∷ us) r = rw (le-leb p u (let h = r.0 in omega arith)) refl

none_late_after : (time : ℕ) (p : Pair) (ps : List Pair) → time ≤ p.1.decision → AllAfter p ps → expired time ps ≡ ps
none_late_after time p [] h a = refl
none_late_after time p (q ∷ qs) h a =
    let d : p.1.decision ≤ q.1.decision = a.0.1 in
    rw (le-ltb q.1.decision time (omega (arith, d, h)), and_false (is_open q)) (ap (λ (rs : List Pair). q ∷ rs) (none_late_after time p qs h a.1))

others_later : (time : ℕ) (p : Pair) (ps : List Pair) (us : List ℕ) → NotBelow (suc p.0) us → late_first time (p ∷ ps) us ≡ late_first time ps us
others_later time p ps [] r = refl
others_later time p ps (u ∷ us) r = rw (ne_eqb u p.0 (λ e. (let h = r.0 in omega arith))) refl

late_if_some : (time : ℕ) (ps : List Pair) (us : List ℕ) (place : ℕ) → late_first time ps us ≡ Some place → is_late time ps place ≡ true
late_if_some time ps [] place e = absurd (none-some place e)
late_if_some time ps (u ∷ us) place e = by (is_late time ps u) refl e
  where
    by : (b : Bool) → is_late time ps u ≡ b → (if b then Some u else None) ≡ Some place → is_late time ps place ≡ true
    by true l e = ap (is_late time ps) (sym (same_Some u place e)) ∙ l
    by false l e = absurd (none-some place e)

pub late_place : (time : ℕ) (ps : List Pair) (place : ℕ) → first_late time ps ≡ Some place → is_late time ps place ≡ true
late_place time ps place e = late_if_some time ps (undecided_of ps) place e

if_none : (b : Bool) (u : ℕ) → ◌≡◌ {A = Option ℕ} (if b then Some u else None) None → b ≡ false
if_none true u e = absurd (none-some u (sym e))
if_none false u e = refl

-- where the first isn't late, none is
pub none_late : (time : ℕ) (ps : List Pair) → InStep ps → first_late time ps ≡ None → expired time ps ≡ ps
none_late time [] s e = refl
none_late time (p ∷ ps) s e = by (is_open p) refl e (none_late time ps s.1)
  where
    above : NotBelow (suc p.0) (undecided_of ps)
    above = not_below p.0 p ps (omega arith) s.0

    by : (b : Bool) → is_open p ≡ b → late_first time (p ∷ ps) (if b then in_place p.0 (undecided_of ps) else undecided_of ps) ≡ None
        → (first_late time ps ≡ None → expired time ps ≡ ps) → expired time (p ∷ ps) ≡ p ∷ ps
    by true o e rest =
        let first : late_first time (p ∷ ps) (p.0 ∷ undecided_of ps) ≡ None = rw (in_front p.0 (undecided_of ps) above) at e in
        let early : late_tracked time (cond (nat_eq p.0 p.0) (Some p.1) (tracked_at ps p.0)) ≡ false = if_none _ p.0 first in
        let mine : (is_open p && nat_lt p.1.decision time) ≡ false = rw (eq-eqb p.0 p.0 refl) at early in
        let later : nat_lt p.1.decision time ≡ false = rw o at mine in
        let le : time ≤ p.1.decision = ltb-false p.1.decision time later in
        rw mine (ap (λ (rs : List Pair). p ∷ rs) (none_late_after time p ps le s.0))
    by false o e rest = rw o (ap (λ (rs : List Pair). p ∷ rs) (rest (sym (others_later time p ps (undecided_of ps) above) ∙ e)))

-- ---- one that is late expires now or at the end

pub rest_settled : (time q : ℕ) (ps : List Pair) → is_late time ps q ≡ true → expired time (settled q Expired ps) ≡ expired time ps
rest_settled time q [] e = absurd (cc)
rest_settled time q (p ∷ ps) e = by (nat_eq q p.0) e (rest_settled time q ps)
  where
    by : (b : Bool) → late_tracked time (cond b (Some p.1) (tracked_at ps q)) ≡ true
        → (is_late time ps q ≡ true → expired time (settled q Expired ps) ≡ expired time ps)
        → expired time (if b then (p.0, record p.1 { outcome = Expired }) ∷ ps else p ∷ settled q Expired ps) ≡ expired time (p ∷ ps)
    by true e rest = rw e refl
    by false e rest = ap (λ qs. expire_one time p ∷ qs) (rest e)
