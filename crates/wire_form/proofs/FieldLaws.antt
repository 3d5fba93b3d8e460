-- The formats of single fields.
use Rattle.std.proofs.Common.{◌≡◌, ℕ, zero, suc, ◌^◌, ◌<◌, ◌≤◌, Bool, true, false, cond, ltb, List, [], ◌∷◌, ◌++◌, length, take, drop, Result, Ok, Err, refl, sym, ap, lit<, Fits, rules, subst, ◌∙◌, append_assoc, arith, ℤ}
use Rattle.std.specs.Int.{w16, w32, w64, from_be_bytes, to_be_bytes, cast_signed, cast_unsigned}
use Rattle.std.specs.Prelude.{nat_le, FitsSigned}
use Rattle.std.specs.Str.{is_utf8}
use Rattle.std.proofs.lemmas.Int.{of_z-to_z, to_z-of_z, ints}
use Rattle.std.proofs.Math.Facts.{sfits_to_z}
use Rattle.std.proofs.lemmas.Bool.{ltb-false, le-ltb, leb-true, le-leb}
use Rattle.std.proofs.lemmas.List.{take_at, drop_at, take-append-drop, length-append, length-take-le}
use Rattle.std.proofs.lemmas.Nat.{be_bytes_2, be_bytes_4, be_bytes_8, from_be_bytes-to_be_bytes_2, from_be_bytes-to_be_bytes_4, from_be_bytes-to_be_bytes_8}
use Rattle.ledger_terms.specs.Names.{is_name, IsName}
use Rattle.wire_form.specs.Formats.{◌>>=◌}
use Rattle.wire_form.specs.Fields.{bytes_at, number_at, count_at, small_count_at, hash_at, name_at, text_at, int_at, truth_at}
use Rattle.wire_form.specs.Spelling.{spell_name, spell_text, spell_truth}
use Rattle.wire_form.specs.InRange.{IsHash, IsShortText}
use Rattle.wire_form.proofs.FormatLaws.{IsBytes, IsBytes-drop, IsBytes-take, IsBytes-rest, Takes, Takes-then, Reads, bind_ok, ok_is, guard_ok, test_ok}

-- ---- bytes

pub bytes_take : (n : ℕ) (bytes : List ℕ) (x : List ℕ × List ℕ) → IsBytes bytes → bytes_at n bytes ≡ Ok x → Takes bytes x.0 x.1 × (length x.0 ≡ n) × IsBytes x.0
bytes_take n bytes x fits e =
    let g = guard_ok (ltb (length bytes) n) (length bytes) (Ok (take n bytes, drop n bytes)) x e in
    let long : n ≤ length bytes = ltb-false _ _ g.0 in
    subst (λ (y : List ℕ × List ℕ). Takes bytes y.0 y.1 × (length y.0 ≡ n) × IsBytes y.0) (ok_is (take n bytes, drop n bytes) x g.1)
    (record { parts = sym (take-append-drop n bytes); rest_fits = IsBytes-drop n bytes fits }, length-take-le n bytes long, IsBytes-take n bytes fits)

pub bytes_again : (n : ℕ) (a rest : List ℕ) → length a ≡ n → bytes_at n (a ++ rest) ≡ Ok (a, rest)
bytes_again n a rest len =
    let long : ltb (length (a ++ rest)) n ≡ false = le-ltb _ _ (omega (arith, length-append a rest)) in
    rw (long, take_at a rest n len, drop_at a rest n len) refl

-- ---- numbers

pub u32_reads : Reads (λ n. to_be_bytes w32 n) (λ n. n < 2 ^ 32) (number_at w32)
unfolding number_at
u32_reads = record {
  takes = λ bytes x fits e.
      let b = bind_ok (bytes_at 4 bytes) (λ n. Ok (from_be_bytes w32 n.0, n.1)) x e in
      let t = bytes_take 4 bytes b.0 fits b.1 in
      let below : from_be_bytes w32 b.0.0 < 2 ^ 32 = omega (arith, t.2 0, t.2 1, t.2 2, t.2 3) in
      let same : to_be_bytes w32 (from_be_bytes w32 b.0.0) ≡ b.0.0 = be_bytes_4 b.0.0 _ t.1 t.2 refl in
      subst (λ (y : ℕ × List ℕ). Takes bytes (to_be_bytes w32 y.0) y.1 × (y.0 < 2 ^ 32)) (ok_is (from_be_bytes w32 b.0.0, b.0.1) x b.2) (rw same t.0, below);
  again = λ n rest h.
      let first = bytes_again 4 (to_be_bytes w32 n) rest refl in
      ap (λ (r : Result (List ℕ × List ℕ) ℕ). r >>= λ n. Ok (from_be_bytes w32 n.0, n.1)) first ∙ rw (from_be_bytes-to_be_bytes_4 n h) refl;
}

pub u64_reads : Reads (λ n. to_be_bytes w64 n) (λ n. n < 2 ^ 64) (number_at w64)
unfolding number_at
u64_reads = record {
  takes = λ bytes x fits e.
      let b = bind_ok (bytes_at 8 bytes) (λ n. Ok (from_be_bytes w64 n.0, n.1)) x e in
      let t = bytes_take 8 bytes b.0 fits b.1 in
      let below : from_be_bytes w64 b.0.0 < 2 ^ 64 = omega (arith, t.2 0, t.2 1, t.2 2, t.2 3, t.2 4, t.2 5, t.2 6, t.2 7) in
      let same : to_be_bytes w64 (from_be_bytes w64 b.0.0) ≡ b.0.0 = be_bytes_8 b.0.0 _ t.1 t.2 refl in
      subst (λ (y : ℕ × List ℕ). Takes bytes (to_be_bytes w64 y.0) y.1 × (y.0 < 2 ^ 64)) (ok_is (from_be_bytes w64 b.0.0, b.0.1) x b.2) (rw same t.0, below);
  again = λ n rest h.
      let first = bytes_again 8 (to_be_bytes w64 n) rest refl in
      ap (λ (r : Result (List ℕ × List ℕ) ℕ). r >>= λ n. Ok (from_be_bytes w64 n.0, n.1)) first ∙ rw (from_be_bytes-to_be_bytes_8 n h) refl;
}

fits64 : (n : ℕ) → n < 2 ^ 64 → Fits w64 n
fits64 n h = search rules

pub int_reads : Reads (λ z. to_be_bytes w64 (cast_unsigned w64 z)) (λ z. FitsSigned w64 z) int_at
unfolding int_at
int_reads = record {
  takes = λ bytes x fits e.
      let b = bind_ok (bytes_at 8 bytes) (λ n. Ok (cast_signed w64 (from_be_bytes w64 n.0), n.1)) x e in
      let t = bytes_take 8 bytes b.0 fits b.1 in
      let below : from_be_bytes w64 b.0.0 < 2 ^ 64 = omega (arith, t.2 0, t.2 1, t.2 2, t.2 3, t.2 4, t.2 5, t.2 6, t.2 7) in
      let same : to_be_bytes w64 (cast_unsigned w64 (cast_signed w64 (from_be_bytes w64 b.0.0))) ≡ b.0.0 =
      ap (λ (n : ℕ). to_be_bytes w64 n) (of_z-to_z w64 _ below) ∙ be_bytes_8 b.0.0 _ t.1 t.2 refl in
      subst (λ (y : ℤ × List ℕ). Takes bytes (to_be_bytes w64 (cast_unsigned w64 y.0)) y.1 × FitsSigned w64 y.0) (ok_is (cast_signed w64 (from_be_bytes w64 b.0.0), b.0.1) x b.2) (rw same t.0, sfits_to_z (fits64 _ below));
  again = λ z rest h.
      let below : cast_unsigned w64 z < 2 ^ 64 = omega (arith, ints) in
      let first = bytes_again 8 (to_be_bytes w64 (cast_unsigned w64 z)) rest refl in
      ap (λ (r : Result (List ℕ × List ℕ) ℕ). r >>= λ n. Ok (cast_signed w64 (from_be_bytes w64 n.0), n.1)) first ∙ rw (from_be_bytes-to_be_bytes_8 (cast_unsigned w64 z) below, to_z-of_z w64 z h) refl;
}

-- ---- counts

pub count_reads : (limit : ℕ) → limit < 2 ^ 16 → Reads (λ k. to_be_bytes w16 k) (λ k. k ≤ limit) (count_at limit)
unfolding count_at
count_reads limit small = record {
  takes = λ bytes x fits e.
      let b = bind_ok (bytes_at 2 bytes) (λ n. cond (nat_le (from_be_bytes w16 n.0) limit) (Ok (from_be_bytes w16 n.0, n.1)) (Err (length bytes))) x e in
      let t = bytes_take 2 bytes b.0 fits b.1 in
      let g = test_ok (nat_le (from_be_bytes w16 b.0.0) limit) (length bytes) (Ok (from_be_bytes w16 b.0.0, b.0.1)) x b.2 in
      let same : to_be_bytes w16 (from_be_bytes w16 b.0.0) ≡ b.0.0 = be_bytes_2 b.0.0 _ t.1 t.2 refl in
      subst (λ (y : ℕ × List ℕ). Takes bytes (to_be_bytes w16 y.0) y.1 × (y.0 ≤ limit)) (ok_is (from_be_bytes w16 b.0.0, b.0.1) x g.1) (rw same t.0, leb-true _ _ g.0);
  again = λ k rest h. rw (bytes_again 2 (to_be_bytes w16 k) rest refl, from_be_bytes-to_be_bytes_2 k (omega arith), le-leb k limit h) refl;
}

small_count_takes : (limit : ℕ) (bytes : List ℕ) (x : ℕ × List ℕ) → IsBytes bytes → small_count_at limit bytes ≡ Ok x → Takes bytes (x.0 ∷ []) x.1 × (x.0 ≤ limit)
unfolding small_count_at
small_count_takes limit [] x fits e = absurd cc
small_count_takes limit (b ∷ rest) x fits e =
    let g = test_ok (nat_le b limit) (length (b ∷ rest)) (Ok (b, rest)) x e in
    subst (λ (y : ℕ × List ℕ). Takes (b ∷ rest) (y.0 ∷ []) y.1 × (y.0 ≤ limit)) (ok_is (b, rest) x g.1) (record { parts = refl; rest_fits = IsBytes-rest b rest fits }, leb-true _ _ g.0)

pub small_count_reads : (limit : ℕ) → Reads (λ k. k ∷ []) (λ k. k ≤ limit) (small_count_at limit)
unfolding small_count_at
small_count_reads limit = record {
  takes = small_count_takes limit;
  again = λ k rest h. rw (le-leb k limit h) refl;
}

-- ---- hashes, names, texts and truth values

pub hash_reads : Reads (λ h. h) IsHash hash_at
unfolding hash_at
hash_reads = record {
  takes = λ bytes x fits e. let t = bytes_take 32 bytes x fits e in (t.0, t.1);
  again = λ h rest len. bytes_again 32 h rest len;
}

name_takes : (bytes : List ℕ) (x : List ℕ × List ℕ) → IsBytes bytes → name_at bytes ≡ Ok x → Takes bytes (spell_name x.0) x.1 × IsName x.0
unfolding name_at
name_takes [] x fits e = absurd cc
name_takes (len ∷ rest) x fits e =
    let g = guard_ok (ltb (length rest) len) (length (len ∷ rest)) (cond (is_name (take len rest)) (Ok (take len rest, drop len rest)) (Err (length (len ∷ rest)))) x e in
    let h = test_ok (is_name (take len rest)) (length (len ∷ rest)) (Ok (take len rest, drop len rest)) x g.1 in
    let long : len ≤ length rest = ltb-false _ _ g.0 in
    subst (λ (y : List ℕ × List ℕ). Takes (len ∷ rest) (spell_name y.0) y.1 × IsName y.0) (ok_is (take len rest, drop len rest) x h.1)
    (record { parts = rw (length-take-le len rest long) (ap (λ (k : List ℕ). len ∷ k) (sym (take-append-drop len rest))); rest_fits = IsBytes-drop len rest (IsBytes-rest len rest fits) }, h.0)

pub name_reads : Reads spell_name IsName name_at
unfolding name_at
name_reads = record {
  takes = name_takes;
  again = λ a rest h.
      let long : ltb (length (a ++ rest)) (length a) ≡ false = le-ltb _ _ (omega (arith, length-append a rest)) in
      rw (long, take_at a rest (length a) refl, drop_at a rest (length a) refl, h) refl;
}

pub text_reads : Reads spell_text IsShortText text_at
unfolding text_at
text_reads = record {
  takes = λ bytes x fits e.
      let c = count_reads 256 (lit< tt) in
      let b = bind_ok (count_at 256 bytes) (λ len. bytes_at len.0 len.1 >>= λ text. cond (is_utf8 text.0) (Ok text) (Err (length len.1))) x e in
      let t = c.takes bytes b.0 fits b.1 in
      let d = bind_ok (bytes_at b.0.0 b.0.1) (λ text. cond (is_utf8 text.0) (Ok text) (Err (length b.0.1))) x b.2 in
      let u = bytes_take b.0.0 b.0.1 d.0 t.0.rest_fits d.1 in
      let g = test_ok (is_utf8 d.0.0) (length b.0.1) (Ok d.0) x d.2 in
      let both = Takes-then bytes (to_be_bytes w16 b.0.0) b.0.1 d.0.0 d.0.1 t.0 u.0 in
      let whole : Takes bytes (spell_text d.0.0) d.0.1 = subst (λ (k : ℕ). Takes bytes (to_be_bytes w16 k ++ d.0.0) d.0.1) (sym u.1) both in
      let short : length d.0.0 ≤ 256 = omega (arith, u.1, t.1) in
      subst (λ (y : List ℕ × List ℕ). Takes bytes (spell_text y.0) y.1 × IsShortText y.0) (ok_is d.0 x g.1) (whole, record { few = short; utf8 = g.0 });
  again = λ t rest h.
      let first = (count_reads 256 (lit< tt)).again (length t) (t ++ rest) h.few in
      ap text_at (append_assoc (to_be_bytes w16 (length t)) t rest) ∙ rw (first, bytes_again (length t) t rest refl, h.utf8) refl;
}

truth_takes : (bytes : List ℕ) (x : Bool × List ℕ) → IsBytes bytes → truth_at bytes ≡ Ok x → Takes bytes (spell_truth x.0) x.1 × Unit {0}
unfolding truth_at
truth_takes [] x fits e = absurd cc
truth_takes (zero ∷ rest) x fits e =
    subst (λ (y : Bool × List ℕ). Takes (0 ∷ rest) (spell_truth y.0) y.1 × Unit {0}) (ok_is (false, rest) x e) (record { parts = refl; rest_fits = IsBytes-rest 0 rest fits }, tt)
truth_takes (suc zero ∷ rest) x fits e =
    subst (λ (y : Bool × List ℕ). Takes (1 ∷ rest) (spell_truth y.0) y.1 × Unit {0}) (ok_is (true, rest) x e) (record { parts = refl; rest_fits = IsBytes-rest 1 rest fits }, tt)
truth_takes (suc (suc b) ∷ rest) x fits e = absurd cc

truth_again : (b : Bool) (rest : List ℕ) → Unit {0} → truth_at (spell_truth b ++ rest) ≡ Ok (b, rest)
unfolding truth_at
truth_again true rest h = refl
truth_again false rest h = refl

pub truth_reads : Reads spell_truth (λ _. Unit {0}) truth_at
truth_reads = record { takes = truth_takes; again = truth_again }
