-- Requests that expire one after another.
use Rattle.std.proofs.Common.{◌≡◌, ℕ, zero, suc, ◌+◌, ◌<◌, ◌≤◌, Bool, true, false, cond, List, [], ◌∷◌, length, get_or, Option, Some, None, refl, sym}
use Rattle.std.proofs.Common.{ap, ◌∙◌, inl, inr, arith}
use Rattle.std.specs.Prelude.{if◌then◌else◌, nat_le, nat_lt, nat_eq, remove}
use Rattle.std.proofs.lemmas.Bool.{eq-eqb, ne_eqb, cases_lt, and_parts}
use Rattle.std.proofs.lemmas.List.Edits.{get_or-remove_below}
use Rattle.canton_model.specs.declared.outcome.Outcome.TheVariants.{Expired}
use Rattle.request_track.specs.declared.tracked.Tracked.{Tracked}
use Rattle.request_track.specs.Pairs.{Pair, is_undecided, is_open, tracked_at, settled, in_place, undecided_of, without, put_if, drop_if, Apart}
use Rattle.request_track.specs.Pairs.{is_late, late_tracked, expired, expire_one}
use Rattle.request_track.specs.Expiring.{Expiring}
use Rattle.request_track.proofs.InOrder.{removed}
use Rattle.request_track.proofs.Undecided.{undecided_settled, tracked_settled, apart_settled, length_settled, length_in_place}

late_open : (time : ℕ) (t : Tracked) → late_tracked time (Some t) ≡ true → is_undecided t.outcome ≡ true
late_open time t e = (and_parts (is_undecided t.outcome) (nat_lt t.decision time) e).0

-- one that is late expires now or at the end
rest_settled : (time q : ℕ) (ps : List Pair) → is_late time ps q ≡ true → expired time (settled q Expired ps) ≡ expired time ps
rest_settled time q [] e = absurd (cc)
rest_settled time q (p ∷ ps) e = by (nat_eq q p.0) e (rest_settled time q ps)
  where
    by : (b : Bool) → late_tracked time (cond b (Some p.1) (tracked_at ps q)) ≡ true
        → (is_late time ps q ≡ true → expired time (settled q Expired ps) ≡ expired time ps)
        → expired time (if b then (p.0, record p.1 { outcome = Expired }) ∷ ps else p ∷ settled q Expired ps) ≡ expired time (p ∷ ps)
    by true e rest = rw e refl
    by false e rest = ap (λ qs. expire_one time p ∷ qs) (rest e)

-- there is one undecided place less
pub one_less : (time q : ℕ) (ps : List Pair) → is_late time ps q ≡ true → suc (length (undecided_of (settled q Expired ps))) ≡ length (undecided_of ps)
one_less time q [] e = absurd (cc)
one_less time q (p ∷ ps) e = by (nat_eq q p.0) e (one_less time q ps)
  where
    more : (c : Bool) (n : ℕ) (xs ys : List ℕ) → suc (length xs) ≡ length ys → suc (length (put_if c n xs)) ≡ length (put_if c n ys)
    more true n xs ys h = rw (length_in_place n xs, length_in_place n ys) (ap suc h)
    more false n xs ys h = h

    by : (b : Bool) → late_tracked time (cond b (Some p.1) (tracked_at ps q)) ≡ true
        → (is_late time ps q ≡ true → suc (length (undecided_of (settled q Expired ps))) ≡ length (undecided_of ps))
        → suc (length (undecided_of (if b then (p.0, record p.1 { outcome = Expired }) ∷ ps else p ∷ settled q Expired ps))) ≡ length
        (put_if (is_open p) p.0 (undecided_of ps))
    by true e rest = rw (late_open time p.1 e) (sym (length_in_place p.0 (undecided_of ps)))
    by false e rest = more (is_open p) p.0 (undecided_of (settled q Expired ps)) (undecided_of ps) (rest e)

late_some : (time : ℕ) (o : Option Tracked) → late_tracked time o ≡ true → (t : Tracked) × (o ≡ Some t) × (is_undecided t.outcome ≡ true)
late_some time None e = absurd (cc)
late_some time (Some t) e = (t, refl, late_open time t e)

-- one that is late leaves the list
pub expiring_late : (time : ℕ) (start ps : List Pair) (us : List ℕ) (at : ℕ) → at < length us → Expiring time start ps us at
    → is_late time ps (get_or us at 0) ≡ true
    → (us' : List ℕ) → us' ≡ undecided_of (settled (get_or us at 0) Expired ps) → Expiring time start (settled (get_or us at 0) Expired ps) us' at
expiring_late time start ps us at within x late us' e =
    let q = get_or us at 0 in
    let t = late_some time (tracked_at ps q) late in
    let apart : (k : ℕ) → k < at → get_or us k 0 ≡ q → ⊥ =
    λ k h w. (let old = x.passed k h in let u : true ≡ false = sym late ∙ ap (is_late time ps) (sym w) ∙ old in absurd (cc)) in
    let us'' : us' ≡ remove us at =
    e ∙ undecided_settled q Expired t.0 ps t.1 ∙ ap (λ b. drop_if b q (undecided_of ps)) t.2 ∙ ap (without q) (sym x.listed)
    ∙ sym (removed q us at within (λ k h w. apart k h (sym w)) refl) in
    record {
      listed = e;
      rest = rest_settled time q ps late ∙ x.rest;
      apart = apart_settled q Expired ps x.apart;
      many = length_settled q Expired ps ∙ x.many;
      passed = λ k h. (let same : get_or us' k 0 ≡ get_or us k 0 = ap (λ ys. get_or ys k 0) us'' ∙ get_or-remove_below us at 0 k h within in
          ap (is_late time (settled q Expired ps)) same
          ∙ ap (late_tracked time) (tracked_settled q Expired ps (get_or us k 0) (λ w. apart k h (sym w))) ∙ x.passed k h);
    }

-- one that isn't is passed
pub expiring_on : (time : ℕ) (start ps : List Pair) (us : List ℕ) (at : ℕ) → Expiring time start ps us at → is_late time ps (get_or us at 0) ≡ false
    → Expiring time start ps us (at + 1)
expiring_on time start ps us at x early = record {
  listed = x.listed;
  rest = x.rest;
  apart = x.apart;
  many = x.many;
  passed = λ k h. elim (cases_lt k at) [
    | inl l ↦ x.passed k l
    | inr g ↦ (let w : k ≡ at = omega arith in ap (λ n. is_late time ps (get_or us n 0)) w ∙ early)
  ];
}

-- the undecided places hold those of all open pairs
abbrev Within : (time : ℕ) (all : List Pair) (us : List ℕ) → Type 0
Within time all us = (k : ℕ) → k < length us → is_late time all (get_or us k 0) ≡ false

later : (time p : ℕ) (all : List Pair) (us : List ℕ) → Within time all (in_place p us) → (is_late time all p ≡ false) × Within time all us
later time p all [] w = (w 0 (omega arith), λ k h. absurd (omega arith))
later time p all (u ∷ us) w = by (nat_le p u) w (later time p all us)
  where
    by : (b : Bool) → Within time all (if b then p ∷ u ∷ us else u ∷ in_place p us)
        → (Within time all (in_place p us) → (is_late time all p ≡ false) × Within time all us)
        → (is_late time all p ≡ false) × Within time all (u ∷ us)
    by true w rest = (w 0 (omega arith), λ k h. w (suc k) (omega arith))
    by false w rest = (let r = rest (λ k h. w (suc k) (omega arith)) in
        (r.0, both (w 0 (omega arith)) r.1))
      where
        both : is_late time all u ≡ false → Within time all us → Within time all (u ∷ us)
        both e v zero h = e
        both e v (suc k) h = v k (omega arith)

-- none of the pairs is late
all_early : (time : ℕ) (all ps : List Pair) → Apart ps → ((q : ℕ) (t : Tracked) → tracked_at ps q ≡ Some t → tracked_at all q ≡ Some t)
    → Within time all (undecided_of ps) → expired time ps ≡ ps
all_early time all [] a among w = refl
all_early time all (p ∷ ps) a among w = by (is_open p) refl w (λ v. all_early time all ps a.1 others v)
  where
    mine : tracked_at all p.0 ≡ Some p.1
    mine = among p.0 p.1 (rw (eq-eqb p.0 p.0 refl) refl)

    others : (q : ℕ) (t : Tracked) → tracked_at ps q ≡ Some t → tracked_at all q ≡ Some t
    others q t e = among q t (rw (ne_eqb q p.0 (λ w. absurd (let u : None ≡ Some t = sym a.0 ∙ ap (tracked_at ps) (sym w) ∙ e in cc))) e)

    by : (b : Bool) → is_open p ≡ b → Within time all (put_if b p.0 (undecided_of ps)) → (Within time all (undecided_of ps) → expired time ps ≡ ps)
        → expired time (p ∷ ps) ≡ p ∷ ps
    by true o w rest =
        (let l = later time p.0 all (undecided_of ps) w in
        let early : late_tracked time (Some p.1) ≡ false = ap (late_tracked time) (sym mine) ∙ l.0 in
        rw early (ap (λ qs. p ∷ qs) (rest l.1)))
    by false o w rest = rw o (ap (λ qs. p ∷ qs) (rest w))

pub expired_end : (time : ℕ) (start ps : List Pair) (us : List ℕ) (at : ℕ) → length us ≤ at → Expiring time start ps us at → ps ≡ expired time start
expired_end time start ps us at past x =
    sym (all_early time ps ps x.apart (λ q t e. e)
    (λ k h. ap (λ ys. is_late time ps (get_or ys k 0)) (sym x.listed) ∙ x.passed k (let n = ap length x.listed in omega arith))) ∙ x.rest
