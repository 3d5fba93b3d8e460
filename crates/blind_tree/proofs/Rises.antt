-- What stands between two neighbours of a rising list isn't in it.
use Rattle.std.proofs.Common.{◌≡◌, ℕ, zero, suc, Bool, true, false, List, [], ◌∷◌, ◌++◌, length, take, drop, get_or, ◌<◌, ◌+◌, refl, sym, ◌∙◌, ap, subst, arith}
use Rattle.std.specs.Prelude.{◌||◌}
use Rattle.std.specs.Str.{bytes_eq}
use Rattle.std.specs.Cmp.{IsTotalOrder}
use Rattle.std.specs.Cmp.Lexicographic.{slice_cmp, nat_list_cmp_total, texts_ties}
use Rattle.std.specs.Ordering.{is_lt, is_eq, nat_cmp, ordering_reverse}
use Rattle.std.specs.declared.cmp.Ordering.{Ordering}
use Rattle.std.specs.declared.cmp.Ordering.TheVariants.{Less, Equal, Greater}
use Rattle.std.proofs.lemmas.List.Folds.{list_any-append}
use Rattle.std.proofs.lemmas.List.{take-append-drop, take_more}
use Rattle.ledger_terms.specs.Parties.{name_below, stands_above, AllAbove, IsRising}
use Rattle.ledger_terms.proofs.Rising.{IsRising-push}
use Rattle.blind_tree.specs.OpenedFor.{is_listed}

less : (o : Ordering) → is_lt o ≡ true → o ≡ Less
less Less h = refl
less Equal h = cc
less Greater h = cc

below_trans : (a b c : List ℕ) → name_below a b ≡ true → name_below b c ≡ true → name_below a c ≡ true
below_trans a b c p q = ap is_lt (IsTotalOrder.trans nat_list_cmp_total a b c (less _ p) (less _ q))

not_tied : (o : Ordering) → is_lt o ≡ true → is_eq o ≡ false
not_tied Less h = refl
not_tied Equal h = cc
not_tied Greater h = cc

turned : (o r : Ordering) → r ≡ ordering_reverse o → is_lt o ≡ true → is_eq r ≡ false
turned Less r e h = ap is_eq e
turned Equal r e h = cc
turned Greater r e h = cc

-- paths of which one is below the other differ
first_differs : (p q : List ℕ) → name_below p q ≡ true → bytes_eq p q ≡ false
first_differs p q h = texts_ties p q ∙ not_tied (slice_cmp nat_cmp p q) h

second_differs : (p q : List ℕ) → name_below p q ≡ true → bytes_eq q p ≡ false
second_differs p q h = texts_ties q p ∙ turned (slice_cmp nat_cmp p q) _ (IsTotalOrder.antisymm nat_list_cmp_total q p) h

neither : (a b : Bool) → a ≡ false → b ≡ false → (a || b) ≡ false
neither true b h i = cc
neither false b h i = i

before_first : (p first : List ℕ) (rest : List (List ℕ)) → IsRising (first ∷ rest) → name_below p first ≡ true → is_listed (first ∷ rest) p ≡ false
before_first p first [] h q = neither (bytes_eq p first) false (first_differs p first q) refl
before_first p first (second ∷ rest) h q =
    neither (bytes_eq p first) (is_listed (second ∷ rest) p) (first_differs p first q) (before_first p second rest h.1 (below_trans p first second q h.0.0))

-- what is below the first of a rising list isn't in it
pub not_in_coming : (p first : List ℕ) (s : List (List ℕ)) → 0 < length s → first ≡ get_or s 0 first → IsRising s → name_below p first ≡ true → is_listed s p ≡ false
not_in_coming p first [] l at h q = absurd (omega (arith, l))
not_in_coming p first (x ∷ rest) l at h q = before_first p x rest h (subst (λ (y : List ℕ). name_below p y ≡ true) at q)

all_below : (a p : List ℕ) (s : List (List ℕ)) → IsRising (a ∷ s) → stands_above (a ∷ s) p ≡ true → name_below a p ≡ true
all_below a p [] h q = q
all_below a p (b ∷ s) h q = below_trans a b p h.0.0 (all_below b p s h.1 q)

-- what is above the last of a rising list isn't in it
pub not_in_passed : (p : List ℕ) (s : List (List ℕ)) → IsRising s → stands_above s p ≡ true → is_listed s p ≡ false
not_in_passed p [] h q = refl
not_in_passed p (a ∷ []) h q = neither (bytes_eq p a) false (second_differs a p q) refl
not_in_passed p (a ∷ b ∷ s) h q =
    neither (bytes_eq p a) (is_listed (b ∷ s) p) (second_differs a p (all_below a p (b ∷ s) h q)) (not_in_passed p (b ∷ s) h.1 q)

-- the parts of a rising list rise
front_above : (a : List ℕ) (s t : List (List ℕ)) → AllAbove a (s ++ t) → AllAbove a s
front_above a [] t h = tt
front_above a (b ∷ s) t h = (h.0, front_above a s t h.1)

front_rises : (s t : List (List ℕ)) → IsRising (s ++ t) → IsRising s
front_rises [] t h = tt
front_rises (a ∷ s) t h = (front_above a s t h.0, front_rises s t h.1)

back_rises : (s t : List (List ℕ)) → IsRising (s ++ t) → IsRising t
back_rises [] t h = h
back_rises (a ∷ s) t h = back_rises s t h.1

pub parts_rise : (n : ℕ) (s : List (List ℕ)) → IsRising s → IsRising (take n s) × IsRising (drop n s)
parts_rise n s h =
    let whole : IsRising (take n s ++ drop n s) = subst IsRising (sym (take-append-drop n s)) h in
    (front_rises (take n s) (drop n s) whole, back_rises (take n s) (drop n s) whole)

pub not_in_parts : (n : ℕ) (p : List ℕ) (s : List (List ℕ)) → is_listed (take n s) p ≡ false → is_listed (drop n s) p ≡ false → is_listed s p ≡ false
not_in_parts n p s h i =
    ap (λ (t : List (List ℕ)). is_listed t p) (sym (take-append-drop n s))
    ∙ (list_any-append (bytes_eq p) (take n s) (drop n s) ∙ neither (is_listed (take n s) p) (is_listed (drop n s) p) h i)

-- one more of a list rises where it is above those before it
pub one_more_rises : (s : List (List ℕ)) (n : ℕ) (p : List ℕ) → n < length s → p ≡ get_or s n p → stands_above (take n s) p ≡ true → IsRising (take n s) → IsRising (take (n + 1) s)
one_more_rises s n p l at q h =
    subst IsRising (sym (take_more s n p l ∙ ap (λ (x : List ℕ). take n s ++ x ∷ []) (sym at))) (IsRising-push (take n s) p q h)

or_true : (b : Bool) → (b || true) ≡ true
or_true true = refl
or_true false = refl

-- a path at a place is listed
pub there_listed : (s : List (List ℕ)) (n : ℕ) (p q : List ℕ) → n < length s → q ≡ get_or s n q → bytes_eq p q ≡ true → is_listed s p ≡ true
there_listed [] n p q l at same = absurd (omega (arith, l))
there_listed (x ∷ s) zero p q l at same = ap (λ (y : List ℕ). bytes_eq p y || is_listed s p) (sym at) ∙ ap (λ (b : Bool). b || is_listed s p) same
there_listed (x ∷ s) (suc n) p q l at same =
    ap (λ (b : Bool). bytes_eq p x || b) (there_listed s n p q (omega (arith, l)) at same) ∙ or_true (bytes_eq p x)
