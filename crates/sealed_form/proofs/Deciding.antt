-- Tests of several parts, and of all items of a list.
use Rattle.std.proofs.Common.{◌≡◌, ℕ, ◌≤◌, ◌<◌, Bool, true, List, [], ◌∷◌, Contains, refl, sym, ap, ◌∙◌, inl, inr}
use Rattle.std.specs.Prelude.{nat_eq, nat_le, nat_lt, ◌&&◌}
use Rattle.std.specs.Bool.{Decides}
use Rattle.std.specs.List.{list_all}
use Rattle.std.proofs.lemmas.Bool.{and_parts, and_from, leb-true, le-leb, ltb-true, lt-ltb, eqb-true, eq-eqb}
use Rattle.ledger_model.proofs.Lists.{In, in_from_Contains, contains_from_In}

pub at_most : (m n : ℕ) → Decides (nat_le m n) (m ≤ n)
at_most m n = (leb-true m n, le-leb m n)

pub below : (m n : ℕ) → Decides (nat_lt m n) (m < n)
below m n = (ltb-true m n, lt-ltb m n)

pub equal : (m n : ℕ) → Decides (nat_eq m n) (m ≡ n)
equal m n = (eqb-true m n, eq-eqb m n)

-- a test is what it tests to be true
pub itself : (a : Bool) → Decides a (a ≡ true)
itself a = (λ h. h, λ h. h)

pub both_decide : {P Q : Type 0} {a b : Bool} → Decides a P → Decides b Q → Decides (a && b) (P × Q)
both_decide {P} {Q} {a} {b} p q = (λ h. let t = and_parts a b h in (p.0 t.0, q.0 t.1), λ h. and_from a b (p.1 h.0) (q.1 h.1))

pub three_decide : {P Q R : Type 0} {a b c : Bool} → Decides a P → Decides b Q → Decides c R → Decides (a && (b && c)) (P × Q × R)
three_decide {P} {Q} {R} {a} {b} {c} p q r = (
  λ h. let t = and_parts a (b && c) h in let u = and_parts b c t.1 in (p.0 t.0, q.0 u.0, r.0 u.1),
  λ h. and_from a (b && c) (p.1 h.0) (and_from b c (q.1 h.1) (r.1 h.2)),
)

pub four_decide : {P Q R S : Type 0} {a b c d : Bool} → Decides a P → Decides b Q → Decides c R → Decides d S
    → Decides (a && (b && (c && d))) (P × Q × R × S)
four_decide {P} {Q} {R} {S} {a} {b} {c} {d} p q r s = (
  λ h.
      let t = and_parts a (b && (c && d)) h in
      let u = and_parts b (c && d) t.1 in
      let v = and_parts c d u.1 in
      (p.0 t.0, q.0 u.0, r.0 v.0, s.0 v.1),
  λ h. and_from a (b && (c && d)) (p.1 h.0) (and_from b (c && d) (q.1 h.1) (and_from c d (r.1 h.2) (s.1 h.3))),
)

pub five_decide : {P Q R S T : Type 0} {a b c d e : Bool} → Decides a P → Decides b Q → Decides c R → Decides d S → Decides e T
    → Decides (a && (b && (c && (d && e)))) (P × Q × R × S × T)
five_decide {P} {Q} {R} {S} {T} {a} {b} {c} {d} {e} p q r s t = (
  λ h.
      let u = and_parts a (b && (c && (d && e))) h in
      let v = and_parts b (c && (d && e)) u.1 in
      let w = and_parts c (d && e) v.1 in
      let x = and_parts d e w.1 in
      (p.0 u.0, q.0 v.0, r.0 w.0, s.0 x.0, t.0 x.1),
  λ h.
      and_from a (b && (c && (d && e))) (p.1 h.0)
      (and_from b (c && (d && e)) (q.1 h.1) (and_from c (d && e) (r.1 h.2) (and_from d e (s.1 h.3) (t.1 h.4)))),
)

module _ {X : Type 0} (p : X → Bool) where
  each_in : (xs : List X) (x : X) → list_all p xs ≡ true → In x xs → p x ≡ true
  each_in [] x h there = absurd there
  each_in (y ∷ xs) x h (inl same) = ap p (sym same) ∙ (and_parts (p y) (list_all p xs) h).0
  each_in (y ∷ xs) x h (inr later) = each_in xs x (and_parts (p y) (list_all p xs) h).1 later

  in_each : (xs : List X) → ((x : X) → In x xs → p x ≡ true) → list_all p xs ≡ true
  in_each [] f = refl
  in_each (y ∷ xs) f = and_from (p y) (list_all p xs) (f y (inl refl)) (in_each xs (λ x there. f x (inr there)))

  pub all_decide : (xs : List X) → Decides (list_all p xs) ((x : X) → Contains xs x → p x ≡ true)
  all_decide xs = (λ h x there. each_in xs x h (in_from_Contains xs x there), λ f. in_each xs (λ x there. f x (contains_from_In xs x there)))
