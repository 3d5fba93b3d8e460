-- An id tells of which rule it is.
use Rattle.std.proofs.Common.{◌≡◌, ℕ, zero, suc, ◌+◌, ◌/◌, ◌%◌, Bool, true, false, List, [], ◌∷◌, ◌++◌, drop, length, take, refl, sym, ap, ◌∙◌, subst, inl, inr, arith}
use Rattle.std.specs.Prelude.{◌&&◌, ◌==◌, nat_eq, nat_lt}
use Rattle.std.specs.Char.{is_ascii_digit}
use Rattle.std.specs.Cmp.Lexicographic.{pointwise}
use Rattle.std.specs.Fmt.{decimal, digit_glyph, digits, digits_onto}
use Rattle.std.specs.List.{list_all}
use Rattle.std.proofs.lemmas.Bool.{and_from, and_parts, cases_Bool, eqb-true, lt-ltb}
use Rattle.ledger_model.proofs.Lists.{In}
use Rattle.trigger_rules.specs.declared.rule.Rule.{Rule}
use Rattle.trigger_rules.specs.Firing.{command_id}
use Rattle.trigger_rules.specs.Ids.{is_hyphen_and_number, is_number, is_numbered}
use Rattle.trigger_rules.specs.Kept.{AreNamed}

-- ---- digits are no hyphens

abbrev is_past_hyphen : ℕ → Bool
is_past_hyphen b = nat_lt 45 b

abbrev ArePastHyphen : List ℕ → Type 0
ArePastHyphen bytes = list_all is_past_hyphen bytes ≡ true

glyph_past : (d : ℕ) → is_past_hyphen (digit_glyph false d) ≡ true
glyph_past d =
    elim (cases_Bool (nat_lt d 10)) [
      | inl b ↦ rw b (lt-ltb 45 (48 + d) (omega arith))
      | inr b ↦ rw b (lt-ltb 45 (87 + d) (omega arith))
    ]

digits_past : (k n : ℕ) (acc : List ℕ) → ArePastHyphen acc → ArePastHyphen (digits_onto k 10 false n acc)
digits_past zero n acc h = h
digits_past (suc k) n acc h =
    let more : ArePastHyphen (digit_glyph false (n % 10) ∷ acc) = and_from _ _ (glyph_past (n % 10)) h in
    elim (cases_Bool (n / 10 == 0)) [
      | inl b ↦ rw b more
      | inr b ↦ rw b (digits_past k (n / 10) (digit_glyph false (n % 10) ∷ acc) more)
    ]

decimal_past : (n : ℕ) → ArePastHyphen (decimal n)
unfolding digits
decimal_past n = digits_past 64 n [] refl

drop_past : (n : ℕ) (bytes : List ℕ) → ArePastHyphen bytes → ArePastHyphen (drop n bytes)
drop_past zero bytes h = h
drop_past (suc n) [] h = h
drop_past (suc n) (b ∷ bytes) h = drop_past n bytes (and_parts (is_past_hyphen b) (list_all is_past_hyphen bytes) h).1

no_hyphen : (bytes : List ℕ) → ArePastHyphen bytes → is_hyphen_and_number bytes ≡ true → ⊥
no_hyphen [] h e = cc
no_hyphen (b ∷ bytes) h e =
    let is : b ≡ 45 = eqb-true b 45 (and_parts (nat_eq b 45) (is_number bytes) e).0 in
    let up : nat_lt 45 45 ≡ true =
    subst (λ (x : ℕ). nat_lt 45 x ≡ true) is (and_parts (is_past_hyphen b) (list_all is_past_hyphen bytes) h).0 in cc

-- what stands before the last hyphen is no digits alone
hyphen_within : (name bytes : List ℕ) → list_all is_ascii_digit (name ++ 45 ∷ bytes) ≡ true → ⊥
hyphen_within [] bytes e = cc
hyphen_within (x ∷ name) bytes e = hyphen_within name bytes (and_parts (is_ascii_digit x) (list_all is_ascii_digit (name ++ 45 ∷ bytes)) e).1

-- ---- the name before the last hyphen

same_front : (one other bytes : List ℕ) → ArePastHyphen bytes → is_numbered one (other ++ 45 ∷ bytes) ≡ true → one ≡ other
same_front [] [] bytes h e = refl
same_front [] (y ∷ other) bytes h e =
    let digits' = (and_parts (nat_eq y 45) (is_number (other ++ 45 ∷ bytes)) e).1 in
    absurd (hyphen_within other bytes (and_parts (nat_lt 0 (length (other ++ 45 ∷ bytes))) (list_all is_ascii_digit (other ++ 45 ∷ bytes)) digits').1)
same_front (x ∷ one) [] bytes h e =
    absurd
    (no_hyphen (drop (length one) bytes) (drop_past (length one) bytes h)
    (and_parts (pointwise nat_eq (45 ∷ take (length one) bytes) (x ∷ one)) (is_hyphen_and_number (drop (length one) bytes)) e).1)
same_front (x ∷ one) (y ∷ other) bytes h e =
    let parts = and_parts (nat_eq y x && pointwise nat_eq (take (length one) (other ++ 45 ∷ bytes)) one) (is_hyphen_and_number (drop (length one) (other ++ 45 ∷ bytes))) e in
    let heads = and_parts (nat_eq y x) (pointwise nat_eq (take (length one) (other ++ 45 ∷ bytes)) one) parts.0 in
    let rest = same_front one other bytes h (and_from _ _ heads.1 parts.1) in
    let first : y ≡ x = eqb-true y x heads.0 in
    ap (λ (z : ℕ). z ∷ one) (sym first) ∙ ap (λ (zs : List ℕ). y ∷ zs) rest

pub same_name : (one other : List ℕ) (before : ℕ) → is_numbered one (command_id other before) ≡ true → one ≡ other
same_name one other before e = same_front one other (decimal before) (decimal_past before) e

-- ---- rules with one name

rest_named : (rule : Rule) (rules : List Rule) → AreNamed (rule ∷ rules) → AreNamed rules
rest_named rule rules named i j d lt within = named (suc i) (suc j) d (omega (arith, lt)) (omega (arith, within))

without_second : (rule second : Rule) (rules : List Rule) → AreNamed (rule ∷ second ∷ rules) → AreNamed (rule ∷ rules)
without_second rule second rules named zero zero d lt within = absurd (omega (arith, lt))
without_second rule second rules named (suc i) zero d lt within = absurd (omega (arith, lt))
without_second rule second rules named zero (suc j) d lt within = named 0 (suc (suc j)) d (omega arith) (omega (arith, within))
without_second rule second rules named (suc i) (suc j) d lt within =
    named (suc (suc i)) (suc (suc j)) d (omega (arith, lt)) (omega (arith, within))

not_again : (rule other : Rule) (rules : List Rule) → AreNamed (rule ∷ rules) → In other rules → rule.name ≡ other.name → ⊥
not_again rule other [] named i same = absurd i
not_again rule other (second ∷ rules) named (inl is) same =
    named 0 1 rule (omega arith) (omega arith) (ap (λ (r : Rule). r.name) is ∙ sym same)
not_again rule other (second ∷ rules) named (inr later) same =
    not_again rule other rules (without_second rule second rules named) later same

pub same_rule : (rules : List Rule) (one other : Rule) → AreNamed rules → In one rules → In other rules → one.name ≡ other.name → one ≡ other
same_rule [] one other named i j same = absurd i
same_rule (x ∷ rules) one other named (inl a) (inl b) same = sym a ∙ b
same_rule (x ∷ rules) one other named (inl a) (inr later) same =
    absurd (not_again x other rules named later (ap (λ (r : Rule). r.name) a ∙ same))
same_rule (x ∷ rules) one other named (inr later) (inl b) same =
    absurd (not_again x one rules named later (ap (λ (r : Rule). r.name) b ∙ sym same))
same_rule (x ∷ rules) one other named (inr i) (inr j) same = same_rule rules one other (rest_named x rules named) i j same
