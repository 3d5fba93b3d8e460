-- What is read has room in a spelling, whatever bytes it is read from.
use Rattle.std.proofs.Common.{◌≡◌, ℕ, zero, suc, ◌+◌, ◌≤◌, Bool, List, [], ◌∷◌, ◌++◌, length, take, drop, Ok, Err, sym, ap, subst, ◌∙◌, arith, cond}
use Rattle.std.specs.Prelude.{nat_le}
use Rattle.std.specs.Int.{w16, from_be_bytes}
use Rattle.std.specs.Str.{is_utf8}
use Rattle.std.specs.List.{AllByRecursion}
use Rattle.std.proofs.Math.Dec.{ltb}
use Rattle.std.proofs.lemmas.Bool.{leb-true}
use Rattle.std.proofs.lemmas.List.{length-append, length-take}
use Rattle.std.proofs.lemmas.List.Elements.{All-from_recursion}
use Rattle.ledger_terms.specs.Parties.{stands_above}
use Rattle.ledger_terms.specs.declared.value.Value.{Value}
use Rattle.ledger_terms.specs.declared.value.Value.TheVariants.{Unit as UnitValue, Int, Bool as BoolValue, Text, Party, Contract, Parties}
use Rattle.wire_form.specs.Formats.{◌>>=◌, Reading, both_at, seen_at, one_more, items_at, counted_at, any_item}
use Rattle.wire_form.specs.Fields.{bytes_at, count_at, small_count_at, int_at, truth_at, text_at, name_at, hash_at}
use Rattle.wire_form.specs.Reading.{set_at, value_at, tagged_value_at, values_at, instance_of, instance_at, create_of, create_at, input_at, exercise_of, exercise_at, fetch_of, fetch_at, action_at, tagged_action_at}
use Rattle.wire_form.specs.Spellable.{IsSpellableSet, IsSpellable, AreSpellable, IsSpellableInstance, IsSpellableAction}
use Rattle.wire_form.proofs.FormatLaws.{bind_ok, guard_ok, ok_is, test_ok}

-- what a reading gives is so
abbrev pub Gives : {A : Type 0} → (A → Type 0) → Reading A → Type 0
Gives {A} Is read = (bytes : List ℕ) (x : A × List ℕ) → read bytes ≡ Ok x → Is x.0

abbrev Any : {A : Type 0} → A → Type 0
Any x = Unit {0}

pub anything : {A : Type 0} (read : Reading A) → Gives Any read
anything read bytes x e = tt

pub both_give : {A B : Type 0} (Is : A → Type 0) (f : Reading A) (Are : B → Type 0) (g : Reading B) → Gives Is f → Gives Are g → Gives (λ (p : A × B). Is p.0 × Are p.1) (both_at f g)
both_give {A} {B} Is f Are g first second bytes x e =
    let b = bind_ok (f bytes) (λ x. g x.1 >>= λ y. Ok ((x.0, y.0), y.1)) x e in
    let d = bind_ok (g b.0.1) (λ y. Ok ((b.0.0, y.0), y.1)) x b.2 in
    subst (λ (y : (A × B) × List ℕ). Is y.0.0 × Are y.0.1) (ok_is ((b.0.0, d.0.0), d.0.1) x d.2) (first bytes b.0 b.1, second b.0.1 d.0 d.1)

pub seen_gives : {A B : Type 0} (to : A → B) (f : Reading A) (Is : B → Type 0) → Gives (λ a. Is (to a)) f → Gives Is (seen_at to f)
seen_gives {A} {B} to f Is h bytes x e =
    let b = bind_ok (f bytes) (λ x. Ok (to x.0, x.1)) x e in
    subst (λ (y : B × List ℕ). Is y.0) (ok_is (to b.0.0, b.0.1) x b.2) (h bytes b.0 b.1)

-- ---- counts

pub count_gives : (limit : ℕ) → Gives (λ n. n ≤ limit) (count_at limit)
unfolding count_at
count_gives limit bytes x e =
    let b = bind_ok (bytes_at 2 bytes) (λ n. cond (nat_le (from_be_bytes w16 n.0) limit) (Ok (from_be_bytes w16 n.0, n.1)) (Err (length bytes))) x e in
    let g = test_ok (nat_le (from_be_bytes w16 b.0.0) limit) (length bytes) (Ok (from_be_bytes w16 b.0.0, b.0.1)) x b.2 in
    subst (λ (y : ℕ × List ℕ). y.0 ≤ limit) (ok_is (from_be_bytes w16 b.0.0, b.0.1) x g.1) (leb-true _ _ g.0)

small_count_gives : (limit : ℕ) → Gives (λ n. n ≤ limit) (small_count_at limit)
unfolding small_count_at
small_count_gives limit [] x e = absurd cc
small_count_gives limit (b ∷ rest) x e =
    let g = test_ok (nat_le b limit) (length (b ∷ rest)) (Ok (b, rest)) x e in
    subst (λ (y : ℕ × List ℕ). y.0 ≤ limit) (ok_is (b, rest) x g.1) (leb-true _ _ g.0)

-- ---- so many items

all_append : {A : Type 0} (Is : A → Type 0) (xs : List A) (x : A) → AllByRecursion Is xs → Is x → AllByRecursion Is (xs ++ x ∷ [])
all_append Is [] x all is = (is, tt)
all_append Is (y ∷ xs) x all is = (all.0, all_append Is xs x all.1 is)

module _ {A : Type 0} (Is : A → Type 0) (admits : List A → A → Bool) (item : Reading A) (each : Gives Is item) where
  one_gives : (so_far : List A) (bytes : List ℕ) (y : List A × List ℕ) → one_more admits item so_far bytes ≡ Ok y → (x : A) × (y.0 ≡ so_far ++ x ∷ []) × Is x
  one_gives so_far bytes y e =
      let b = bind_ok (item bytes) (λ x. cond (admits so_far x.0) (Ok (so_far ++ x.0 ∷ [], x.1)) (Err (length bytes))) y e in
      let g = test_ok (admits so_far b.0.0) (length bytes) (Ok (so_far ++ b.0.0 ∷ [], b.0.1)) y b.2 in
      let same : (so_far ++ b.0.0 ∷ [], b.0.1) ≡ y = ok_is (so_far ++ b.0.0 ∷ [], b.0.1) y g.1 in
      (b.0.0, ap (λ (p : List A × List ℕ). p.0) (sym same), each bytes b.0 b.1)

  items_give : (n : ℕ) (so_far : List A) (bytes : List ℕ) (x : List A × List ℕ) → items_at admits item n so_far bytes ≡ Ok x → AllByRecursion Is so_far
      → (length x.0 ≡ length so_far + n) × AllByRecursion Is x.0
  unfolding items_at
  items_give zero so_far bytes x e all =
      let same : (so_far, bytes) ≡ x = ok_is (so_far, bytes) x e in
      let long : length so_far ≡ length so_far + 0 = omega arith in
      subst (λ (p : List A × List ℕ). (length p.0 ≡ length so_far + 0) × AllByRecursion Is p.0) same (long, all)
  items_give (suc n) so_far bytes x e all =
      let b = bind_ok (one_more admits item so_far bytes) (λ y. items_at admits item n y.0 y.1) x e in
      let one = one_gives so_far bytes b.0 b.1 in
      let others = items_give n b.0.0 b.0.1 x b.2 (subst (λ (k : List A). AllByRecursion Is k) (sym one.1) (all_append Is so_far one.0 all one.2)) in
      let long = ap (λ (k : List A). length k) one.1 ∙ length-append so_far (one.0 ∷ []) in
      (omega (arith, others.0, long), others.1)

  pub counted_give : (limit : ℕ) (count : Reading ℕ) → Gives (λ n. n ≤ limit) count → Gives (λ xs. (length xs ≤ limit) × AllByRecursion Is xs) (counted_at count admits item)
  counted_give limit count few bytes x e =
      let b = bind_ok (count bytes) (λ n. items_at admits item n.0 [] n.1) x e in
      let r = items_give b.0.0 [] b.0.1 x b.2 tt in
      let most = few bytes b.0 b.1 in
      (omega (arith, r.0, most), r.1)

-- ---- sets, values, instances and actions

pub set_gives : Gives IsSpellableSet set_at
unfolding set_at
set_gives bytes x e = (counted_give Any stands_above name_at (anything name_at) 128 (count_at 128) (count_gives 128) bytes x e).0

abbrev IsShort : List ℕ → Type 0
IsShort text = length text ≤ 256

taken : (n : ℕ) (bytes : List ℕ) (x : List ℕ × List ℕ) → bytes_at n bytes ≡ Ok x → length x.0 ≤ n
taken n bytes x e =
    let g = guard_ok (ltb (length bytes) n) (length bytes) (Ok (take n bytes, drop n bytes)) x e in
    let l = length-take n bytes in
    let short : length (take n bytes) ≤ n = omega (arith, l) in
    subst (λ (y : List ℕ × List ℕ). length y.0 ≤ n) (ok_is (take n bytes, drop n bytes) x g.1) short

text_gives : Gives IsShort text_at
unfolding text_at
text_gives bytes x e =
    let b = bind_ok (count_at 256 bytes) (λ len. bytes_at len.0 len.1 >>= λ text. cond (is_utf8 text.0) (Ok text) (Err (length len.1))) x e in
    let d = bind_ok (bytes_at b.0.0 b.0.1) (λ text. cond (is_utf8 text.0) (Ok text) (Err (length b.0.1))) x b.2 in
    let g = test_ok (is_utf8 d.0.0) (length b.0.1) (Ok d.0) x d.2 in
    let few = count_gives 256 bytes b.0 b.1 in
    let short = taken b.0.0 b.0.1 d.0 d.1 in
    let all : length d.0.0 ≤ 256 = omega (arith, few, short) in
    subst (λ (y : List ℕ × List ℕ). length y.0 ≤ 256) (ok_is d.0 x g.1) all

pub value_gives : Gives IsSpellable value_at
unfolding value_at tagged_value_at
value_gives [] x e = absurd cc
value_gives (zero ∷ rest) x e = subst (λ (y : Value × List ℕ). IsSpellable y.0) (ok_is (UnitValue, rest) x e) tt
value_gives (suc zero ∷ rest) x e = seen_gives Int int_at IsSpellable (anything int_at) rest x e
value_gives (suc (suc zero) ∷ rest) x e = seen_gives BoolValue truth_at IsSpellable (anything truth_at) rest x e
value_gives (suc (suc (suc zero)) ∷ rest) x e = seen_gives Text text_at IsSpellable text_gives rest x e
value_gives (suc (suc (suc (suc zero))) ∷ rest) x e = seen_gives Party name_at IsSpellable (anything name_at) rest x e
value_gives (suc (suc (suc (suc (suc zero)))) ∷ rest) x e = seen_gives Contract hash_at IsSpellable (anything hash_at) rest x e
value_gives (suc (suc (suc (suc (suc (suc zero))))) ∷ rest) x e = seen_gives Parties set_at IsSpellable set_gives rest x e
value_gives (suc (suc (suc (suc (suc (suc (suc n)))))) ∷ rest) x e = absurd cc

pub values_give : Gives AreSpellable values_at
unfolding values_at
values_give bytes x e =
    let r = counted_give IsSpellable any_item value_at value_gives 12 (small_count_at 12) (small_count_gives 12) bytes x e in
    record { count = r.0; each = All-from_recursion IsSpellable x.0 r.1 }

pub instance_gives : Gives IsSpellableInstance instance_at
unfolding instance_at
instance_gives bytes x e =
    let names = both_at name_at name_at in
    seen_gives instance_of (both_at names values_at) IsSpellableInstance
    (λ rest y d. (both_give Any names AreSpellable values_at (anything names) values_give rest y d).1) bytes x e

input_gives : Gives (λ p. IsSpellableInstance p.1) input_at
unfolding input_at
input_gives bytes x e =
    let hashes = both_at hash_at hash_at in
    (both_give Any hashes IsSpellableInstance instance_at (anything hashes) instance_gives bytes x e).1

create_gives : Gives IsSpellableAction create_at
unfolding create_at
create_gives bytes x e =
    seen_gives create_of (both_at hash_at instance_at) IsSpellableAction
    (λ rest y d. (both_give Any hash_at IsSpellableInstance instance_at (anything hash_at) instance_gives rest y d).1) bytes x e

exercise_gives : Gives IsSpellableAction exercise_at
unfolding exercise_at
exercise_gives bytes x e =
    let choice = both_give _ input_at _ name_at input_gives (anything name_at) in
    let args = both_give _ (both_at input_at name_at) _ values_at choice values_give in
    let actors = both_give _ (both_at (both_at input_at name_at) values_at) _ set_at args set_gives in
    let call = both_give _ (both_at (both_at (both_at input_at name_at) values_at) set_at) _ truth_at actors (anything truth_at) in
    let whole = both_give _ (both_at (both_at (both_at (both_at input_at name_at) values_at) set_at) truth_at) _ value_at call value_gives in
    seen_gives exercise_of (both_at (both_at (both_at (both_at (both_at input_at name_at) values_at) set_at) truth_at) value_at) IsSpellableAction
    (λ rest y d. let h = whole rest y d in (h.0.0.0.0.0, h.0.0.0.1, h.0.0.1, h.1)) bytes x e

fetch_gives : Gives IsSpellableAction fetch_at
unfolding fetch_at
fetch_gives bytes x e =
    seen_gives fetch_of (both_at input_at set_at) IsSpellableAction (both_give _ input_at IsSpellableSet set_at input_gives set_gives) bytes x e

pub action_gives : Gives IsSpellableAction action_at
unfolding action_at tagged_action_at
action_gives [] x e = absurd cc
action_gives (zero ∷ rest) x e = absurd cc
action_gives (suc zero ∷ rest) x e = create_gives rest x e
action_gives (suc (suc zero) ∷ rest) x e = exercise_gives rest x e
action_gives (suc (suc (suc zero)) ∷ rest) x e = fetch_gives rest x e
action_gives (suc (suc (suc (suc n))) ∷ rest) x e = absurd cc
