-- What is read weighs no more than the bytes that it is read from.
use Rattle.std.proofs.Common.{◌≡◌, ℕ, zero, suc, ◌+◌, ◌≤◌, Bool, List, [], ◌∷◌, ◌++◌, length, take, drop, Ok, Err, subst, arith, cond}
use Rattle.std.specs.Prelude.{nat_le}
use Rattle.std.specs.Int.{Width, w16, byte_len, from_be_bytes, cast_signed, w64}
use Rattle.std.specs.Str.{is_utf8}
use Rattle.std.proofs.Math.Dec.{ltb}
use Rattle.std.proofs.lemmas.Bool.{ltb-false}
use Rattle.std.proofs.lemmas.List.{length-take, length-drop}
use Rattle.ledger_terms.specs.Names.{is_name}
use Rattle.ledger_terms.specs.Parties.{stands_above}
use Rattle.ledger_terms.specs.declared.value.Value.{Value}
use Rattle.ledger_terms.specs.declared.value.Value.TheVariants.{Unit as UnitValue, Int, Bool as BoolValue, Text, Party, Contract, Parties}
use Rattle.wire_form.specs.Formats.{◌>>=◌, Reading, both_at, seen_at, one_more, items_at, counted_at, any_item}
use Rattle.wire_form.specs.Fields.{byte_at, bytes_at, number_at, count_at, small_count_at, int_at, truth_at, text_at, name_at, hash_at}
use Rattle.wire_form.specs.Reading.{set_at, value_at, tagged_value_at, values_at, instance_of, instance_at, create_of, create_at, input_at, exercise_of, exercise_at, fetch_of, fetch_at, action_at, tagged_action_at}
use Rattle.wire_form.proofs.FormatLaws.{bind_ok, guard_ok, ok_is, test_ok}

-- What it gives has a weight, which with the bytes that are left is at most what there was.
abbrev pub Takes : {A : Type 0} → (A → ℕ) → Reading A → Type 0
Takes {A} weight read = (bytes : List ℕ) (x : A × List ℕ) → read bytes ≡ Ok x → weight x.0 + length x.1 ≤ length bytes

pub less_takes : {A : Type 0} (w v : A → ℕ) (f : Reading A) → ((a : A) → v a ≤ w a) → Takes w f → Takes v f
less_takes w v f le h bytes x e =
    let t = h bytes x e in
    let l = le x.0 in
    omega (arith, t, l)

pub both_take : {A B : Type 0} (w : A → ℕ) (f : Reading A) (v : B → ℕ) (g : Reading B) → Takes w f → Takes v g → Takes (λ (p : A × B). w p.0 + v p.1) (both_at f g)
both_take {A} {B} w f v g first second bytes x e =
    let b = bind_ok (f bytes) (λ x. g x.1 >>= λ y. Ok ((x.0, y.0), y.1)) x e in
    let d = bind_ok (g b.0.1) (λ y. Ok ((b.0.0, y.0), y.1)) x b.2 in
    let one = first bytes b.0 b.1 in
    let two = second b.0.1 d.0 d.1 in
    let all : (w b.0.0 + v d.0.0) + length d.0.1 ≤ length bytes = omega (arith, one, two) in
    subst (λ (y : (A × B) × List ℕ). (w y.0.0 + v y.0.1) + length y.1 ≤ length bytes) (ok_is ((b.0.0, d.0.0), d.0.1) x d.2) all

pub seen_takes : {A B : Type 0} (to : A → B) (w : B → ℕ) (f : Reading A) → Takes (λ a. w (to a)) f → Takes w (seen_at to f)
seen_takes {A} {B} to w f h bytes x e =
    let b = bind_ok (f bytes) (λ x. Ok (to x.0, x.1)) x e in
    subst (λ (y : B × List ℕ). w y.0 + length y.1 ≤ length bytes) (ok_is (to b.0.0, b.0.1) x b.2) (h bytes b.0 b.1)

-- ---- so many items

abbrev pub sum_of : {A : Type 0} → (A → ℕ) → List A → ℕ
sum_of w [] = 0
sum_of w (x ∷ xs) = w x + sum_of w xs

sum_of-push : {A : Type 0} (w : A → ℕ) (xs : List A) (x : A) → sum_of w (xs ++ x ∷ []) ≡ sum_of w xs + w x
sum_of-push w [] x = omega arith
sum_of-push w (y ∷ xs) x = let r = sum_of-push w xs x in omega (arith, r)

module _ {A : Type 0} (w : A → ℕ) (admits : List A → A → Bool) (item : Reading A) (each : Takes w item) where
  one_takes : (so_far : List A) (bytes : List ℕ) (y : List A × List ℕ) → one_more admits item so_far bytes ≡ Ok y → sum_of w y.0 + length y.1 ≤ sum_of w so_far + length bytes
  one_takes so_far bytes y e =
      let b = bind_ok (item bytes) (λ x. cond (admits so_far x.0) (Ok (so_far ++ x.0 ∷ [], x.1)) (Err (length bytes))) y e in
      let g = test_ok (admits so_far b.0.0) (length bytes) (Ok (so_far ++ b.0.0 ∷ [], b.0.1)) y b.2 in
      let t = each bytes b.0 b.1 in
      let s = sum_of-push w so_far b.0.0 in
      let all : sum_of w (so_far ++ b.0.0 ∷ []) + length b.0.1 ≤ sum_of w so_far + length bytes = omega (arith, t, s) in
      subst (λ (z : List A × List ℕ). sum_of w z.0 + length z.1 ≤ sum_of w so_far + length bytes) (ok_is (so_far ++ b.0.0 ∷ [], b.0.1) y g.1) all

  items_take : (n : ℕ) (so_far : List A) (bytes : List ℕ) (x : List A × List ℕ) → items_at admits item n so_far bytes ≡ Ok x
      → sum_of w x.0 + length x.1 ≤ sum_of w so_far + length bytes
  unfolding items_at
  items_take zero so_far bytes x e =
      let least : sum_of w so_far + length bytes ≤ sum_of w so_far + length bytes = omega arith in
      subst (λ (z : List A × List ℕ). sum_of w z.0 + length z.1 ≤ sum_of w so_far + length bytes) (ok_is (so_far, bytes) x e) least
  items_take (suc n) so_far bytes x e =
      let b = bind_ok (one_more admits item so_far bytes) (λ y. items_at admits item n y.0 y.1) x e in
      let one = one_takes so_far bytes b.0 b.1 in
      let others = items_take n b.0.0 b.0.1 x b.2 in
      omega (arith, one, others)

  pub counted_takes : (k : ℕ) (count : Reading ℕ) → Takes (λ (n : ℕ). k) count → Takes (λ (xs : List A). k + sum_of w xs) (counted_at count admits item)
  counted_takes k count first bytes x e =
      let b = bind_ok (count bytes) (λ n. items_at admits item n.0 [] n.1) x e in
      let one = first bytes b.0 b.1 in
      let others = items_take b.0.0 [] b.0.1 x b.2 in
      omega (arith, one, others)

-- ---- fields

bytes_parts : (n : ℕ) (bytes : List ℕ) (x : List ℕ × List ℕ) → bytes_at n bytes ≡ Ok x → (length x.0 ≡ n) × (n + length x.1 ≤ length bytes)
bytes_parts n bytes x e =
    let g = guard_ok (ltb (length bytes) n) (length bytes) (Ok (take n bytes, drop n bytes)) x e in
    let enough = ltb-false (length bytes) n g.0 in
    let t = length-take n bytes in
    let d = length-drop n bytes in
    let one : length (take n bytes) ≡ n = omega (arith, t, enough) in
    let two : n + length (drop n bytes) ≤ length bytes = omega (arith, d, enough) in
    subst (λ (y : List ℕ × List ℕ). (length y.0 ≡ n) × (n + length y.1 ≤ length bytes)) (ok_is (take n bytes, drop n bytes) x g.1) (one, two)

pub bytes_take : (n : ℕ) → Takes (λ (b : List ℕ). n) (bytes_at n)
bytes_take n bytes x e = (bytes_parts n bytes x e).1

-- as many as were read
pub read_bytes_take : (n : ℕ) → Takes (λ (b : List ℕ). length b) (bytes_at n)
read_bytes_take n bytes x e = let p = bytes_parts n bytes x e in omega (arith, p.0, p.1)

pub byte_takes : Takes (λ (b : ℕ). 1) byte_at
byte_takes [] x e = absurd cc
byte_takes (b ∷ rest) x e =
    let least : 1 + length rest ≤ suc (length rest) = omega arith in
    subst (λ (y : ℕ × List ℕ). 1 + length y.1 ≤ suc (length rest)) (ok_is (b, rest) x e) least

pub hash_takes : Takes (λ (h : List ℕ). 32) hash_at
unfolding hash_at
hash_takes bytes x e = bytes_take 32 bytes x e

pub number_takes : (w : Width) → Takes (λ (n : ℕ). byte_len w) (number_at w)
unfolding number_at
number_takes w bytes x e =
    let b = bind_ok (bytes_at (byte_len w) bytes) (λ n. Ok (from_be_bytes w n.0, n.1)) x e in
    subst (λ (y : ℕ × List ℕ). byte_len w + length y.1 ≤ length bytes) (ok_is (from_be_bytes w b.0.0, b.0.1) x b.2) (bytes_take (byte_len w) bytes b.0 b.1)

pub count_takes : (limit : ℕ) → Takes (λ (n : ℕ). 2) (count_at limit)
unfolding count_at
count_takes limit bytes x e =
    let b = bind_ok (bytes_at 2 bytes) (λ n. cond (nat_le (from_be_bytes w16 n.0) limit) (Ok (from_be_bytes w16 n.0, n.1)) (Err (length bytes))) x e in
    let g = test_ok (nat_le (from_be_bytes w16 b.0.0) limit) (length bytes) (Ok (from_be_bytes w16 b.0.0, b.0.1)) x b.2 in
    subst (λ (y : ℕ × List ℕ). 2 + length y.1 ≤ length bytes) (ok_is (from_be_bytes w16 b.0.0, b.0.1) x g.1) (bytes_take 2 bytes b.0 b.1)

-- ---- what need not be weighed

abbrev pub nothing : {A : Type 0} → A → ℕ
nothing x = 0

-- no more is left than there was
abbrev pub Shrinks : {A : Type 0} → Reading A → Type 0
Shrinks {A} read = Takes nothing read

pub shrinks : {A : Type 0} (w : A → ℕ) (f : Reading A) → Takes w f → Shrinks f
shrinks w f h bytes x e = let t = h bytes x e in omega (arith, t)

both_shrink : {A B : Type 0} (f : Reading A) (g : Reading B) → Shrinks f → Shrinks g → Shrinks (both_at f g)
both_shrink f g first second = both_take nothing f nothing g first second

seen_shrinks : {A B : Type 0} (to : A → B) (f : Reading A) → Shrinks f → Shrinks (seen_at to f)
seen_shrinks to f h = seen_takes to nothing f h

counted_shrinks : {A : Type 0} (admits : List A → A → Bool) (item : Reading A) (k : ℕ) (count : Reading ℕ) → Takes (λ (n : ℕ). k) count → Shrinks item
    → Shrinks (counted_at count admits item)
counted_shrinks {A} admits item k count first each =
    shrinks (λ (xs : List A). k + sum_of nothing xs) (counted_at count admits item) (counted_takes nothing admits item each k count first)

small_count_takes : (limit : ℕ) → Takes (λ (n : ℕ). 1) (small_count_at limit)
unfolding small_count_at
small_count_takes limit [] x e = absurd cc
small_count_takes limit (b ∷ rest) x e =
    let g = test_ok (nat_le b limit) (length (b ∷ rest)) (Ok (b, rest)) x e in
    let least : 1 + length rest ≤ suc (length rest) = omega arith in
    subst (λ (y : ℕ × List ℕ). 1 + length y.1 ≤ suc (length rest)) (ok_is (b, rest) x g.1) least

name_shrinks : Shrinks name_at
unfolding name_at
name_shrinks [] x e = absurd cc
name_shrinks (len ∷ rest) x e =
    let g = guard_ok (ltb (length rest) len) (length (len ∷ rest)) (cond (is_name (take len rest)) (Ok (take len rest, drop len rest)) (Err (length (len ∷ rest)))) x e in
    let t = test_ok (is_name (take len rest)) (length (len ∷ rest)) (Ok (take len rest, drop len rest)) x g.1 in
    let d = length-drop len rest in
    let all : 0 + length (drop len rest) ≤ suc (length rest) = omega (arith, d) in
    subst (λ (y : List ℕ × List ℕ). 0 + length y.1 ≤ suc (length rest)) (ok_is (take len rest, drop len rest) x t.1) all

truth_shrinks : Shrinks truth_at
unfolding truth_at
truth_shrinks [] x e = absurd cc
truth_shrinks (zero ∷ rest) x e =
    let all : 0 + length rest ≤ suc (length rest) = omega arith in
    subst (λ (y : Bool × List ℕ). 0 + length y.1 ≤ suc (length rest)) (ok_is _ x e) all
truth_shrinks (suc zero ∷ rest) x e =
    let all : 0 + length rest ≤ suc (length rest) = omega arith in
    subst (λ (y : Bool × List ℕ). 0 + length y.1 ≤ suc (length rest)) (ok_is _ x e) all
truth_shrinks (suc (suc b) ∷ rest) x e = absurd cc

text_shrinks : Shrinks text_at
unfolding text_at
text_shrinks bytes x e =
    let b = bind_ok (count_at 256 bytes) (λ len. bytes_at len.0 len.1 >>= λ text. cond (is_utf8 text.0) (Ok text) (Err (length len.1))) x e in
    let d = bind_ok (bytes_at b.0.0 b.0.1) (λ text. cond (is_utf8 text.0) (Ok text) (Err (length b.0.1))) x b.2 in
    let g = test_ok (is_utf8 d.0.0) (length b.0.1) (Ok d.0) x d.2 in
    let one = count_takes 256 bytes b.0 b.1 in
    let two = bytes_take b.0.0 b.0.1 d.0 d.1 in
    let all : 0 + length d.0.1 ≤ length bytes = omega (arith, one, two) in
    subst (λ (y : List ℕ × List ℕ). 0 + length y.1 ≤ length bytes) (ok_is d.0 x g.1) all

int_shrinks : Shrinks int_at
unfolding int_at
int_shrinks bytes x e =
    let b = bind_ok (bytes_at 8 bytes) (λ n. Ok (cast_signed w64 (from_be_bytes w64 n.0), n.1)) x e in
    let t = bytes_take 8 bytes b.0 b.1 in
    let all : 0 + length b.0.1 ≤ length bytes = omega (arith, t) in
    subst (λ (y : _ × List ℕ). 0 + length y.1 ≤ length bytes) (ok_is (cast_signed w64 (from_be_bytes w64 b.0.0), b.0.1) x b.2) all

-- ---- sets, values, instances and actions

hash_shrinks : Shrinks hash_at
hash_shrinks = shrinks (λ (h : List ℕ). 32) hash_at hash_takes

set_takes : Takes (λ (s : List (List ℕ)). 2) set_at
unfolding set_at
set_takes =
    less_takes (λ (s : List (List ℕ)). 2 + sum_of nothing s) (λ (s : List (List ℕ)). 2) set_at (λ s. omega arith)
    (counted_takes nothing stands_above name_at name_shrinks 2 (count_at 128) (count_takes 128))

set_shrinks : Shrinks set_at
set_shrinks = shrinks (λ (s : List (List ℕ)). 2) set_at set_takes

-- behind a tag
behind : {A : Type 0} (tag : ℕ) (rest : List ℕ) (x : A × List ℕ) → 0 + length x.1 ≤ length rest → 0 + length x.1 ≤ suc (length rest)
behind tag rest x h = omega (arith, h)

value_shrinks : Shrinks value_at
unfolding value_at tagged_value_at
value_shrinks [] x e = absurd cc
value_shrinks (zero ∷ rest) x e =
    let all : 0 + length rest ≤ suc (length rest) = omega arith in
    subst (λ (y : Value × List ℕ). 0 + length y.1 ≤ suc (length rest)) (ok_is (UnitValue, rest) x e) all
value_shrinks (suc zero ∷ rest) x e = behind 1 rest x (seen_shrinks Int int_at int_shrinks rest x e)
value_shrinks (suc (suc zero) ∷ rest) x e = behind 2 rest x (seen_shrinks BoolValue truth_at truth_shrinks rest x e)
value_shrinks (suc (suc (suc zero)) ∷ rest) x e = behind 3 rest x (seen_shrinks Text text_at text_shrinks rest x e)
value_shrinks (suc (suc (suc (suc zero))) ∷ rest) x e = behind 4 rest x (seen_shrinks Party name_at name_shrinks rest x e)
value_shrinks (suc (suc (suc (suc (suc zero)))) ∷ rest) x e = behind 5 rest x (seen_shrinks Contract hash_at hash_shrinks rest x e)
value_shrinks (suc (suc (suc (suc (suc (suc zero))))) ∷ rest) x e = behind 6 rest x (seen_shrinks Parties set_at set_shrinks rest x e)
value_shrinks (suc (suc (suc (suc (suc (suc (suc n)))))) ∷ rest) x e = absurd cc

values_shrink : Shrinks values_at
unfolding values_at
values_shrink = counted_shrinks any_item value_at 1 (small_count_at 12) (small_count_takes 12) value_shrinks

instance_shrinks : Shrinks instance_at
unfolding instance_at
instance_shrinks =
    seen_shrinks instance_of (both_at (both_at name_at name_at) values_at)
    (both_shrink (both_at name_at name_at) values_at (both_shrink name_at name_at name_shrinks name_shrinks) values_shrink)

input_shrinks : Shrinks input_at
unfolding input_at
input_shrinks = both_shrink (both_at hash_at hash_at) instance_at (both_shrink hash_at hash_at hash_shrinks hash_shrinks) instance_shrinks

create_shrinks : Shrinks create_at
unfolding create_at
create_shrinks = seen_shrinks create_of (both_at hash_at instance_at) (both_shrink hash_at instance_at hash_shrinks instance_shrinks)

exercise_shrinks : Shrinks exercise_at
unfolding exercise_at
exercise_shrinks =
    let choice = both_shrink input_at name_at input_shrinks name_shrinks in
    let args = both_shrink (both_at input_at name_at) values_at choice values_shrink in
    let actors = both_shrink (both_at (both_at input_at name_at) values_at) set_at args set_shrinks in
    let call = both_shrink (both_at (both_at (both_at input_at name_at) values_at) set_at) truth_at actors truth_shrinks in
    seen_shrinks exercise_of (both_at (both_at (both_at (both_at (both_at input_at name_at) values_at) set_at) truth_at) value_at)
    (both_shrink (both_at (both_at (both_at (both_at input_at name_at) values_at) set_at) truth_at) value_at call value_shrinks)

fetch_shrinks : Shrinks fetch_at
unfolding fetch_at
fetch_shrinks = seen_shrinks fetch_of (both_at input_at set_at) (both_shrink input_at set_at input_shrinks set_shrinks)

pub action_shrinks : Shrinks action_at
unfolding action_at tagged_action_at
action_shrinks [] x e = absurd cc
action_shrinks (zero ∷ rest) x e = absurd cc
action_shrinks (suc zero ∷ rest) x e = behind 1 rest x (create_shrinks rest x e)
action_shrinks (suc (suc zero) ∷ rest) x e = behind 2 rest x (exercise_shrinks rest x e)
action_shrinks (suc (suc (suc zero)) ∷ rest) x e = behind 3 rest x (fetch_shrinks rest x e)
action_shrinks (suc (suc (suc (suc n))) ∷ rest) x e = absurd cc
