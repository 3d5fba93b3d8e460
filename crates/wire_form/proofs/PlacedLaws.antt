-- What a decoder answers, from what is read at its place.
use Rattle.std.proofs.Common.{◌≡◌, ◌≢◌, ℕ, ◌+◌, ◌-◌, ◌<◌, ◌≤◌, List, ◌++◌, length, take, drop, Result, Ok, Err, refl, sym, ap, subst, ◌∙◌, append_assoc, arith}
use Rattle.std.specs.Prelude.{All}
use Rattle.std.proofs.lemmas.List.{take-append-drop, length-append, length-drop, length-take-le, drop_at, get_or_past, take_all}
use Rattle.std.proofs.lemmas.List.Elements.{All-get_or}
use Rattle.std.proofs.lemmas.Bool.{cases_lt}
use Rattle.std.proofs.Common.{inl, inr}
use Rattle.wire_form.specs.declared.decoded.Decoded.{Decoded}
use Rattle.wire_form.specs.declared.reader_fault.ReaderFault.{ReaderFault}
use Rattle.wire_form.specs.declared.reader_fault.ReaderFault.TheVariants as faults
use Rattle.wire_form.specs.declared.wire_fault.WireFault.{WireFault}
use Rattle.wire_form.specs.declared.wire_fault.WireFault.TheVariants.{Memory}
use Rattle.wire_form.specs.Formats.{Reading, Gives}
use Rattle.wire_form.specs.Placed.{placed, answer_of, IsRead, StandsAt, IsFound, FindsAll}
use Rattle.wire_form.specs.Laws.{NoneBeginsAnother, HasOneSpelling}
use Rattle.wire_form.proofs.FormatLaws.{IsBytes, IsBytes-drop, Reads, ok_is}

-- what a reader gave, with places
pub given_is_read : {A : Type 0} (read : Reading A) (bytes : List ℕ) (at : ℕ) (r : Result A ReaderFault) (rest : List ℕ) → Gives (λ x. (x, rest)) r (read (drop at bytes))
    → IsRead read bytes at (answer_of (length bytes) (length rest) r)
given_is_read read bytes at (Ok x) rest h other = ap (placed (length bytes)) (sym h)
given_is_read read bytes at (Err (faults.Left n)) rest h other = ap (placed (length bytes)) (sym h)
given_is_read read bytes at (Err faults.Memory) rest h other = absurd (other refl)

module _ {A : Type 0} (s : A → List ℕ) (F : A → Type 0) (read : Reading A) (r : Reads s F read) where
  abbrev Answer : Type 0
  Answer = Result (Decoded A) WireFault

  abbrev answer : Decoded A → Answer
  answer d = Ok d

  placed_ok : (len : ℕ) (q : Result (A × List ℕ) ℕ) (d : Decoded A) → answer d ≡ placed len q → (x : A × List ℕ) × (q ≡ Ok x) × (d ≡ record { value = x.0; next = len - length x.1 })
  placed_ok len (Ok x) d e = (x, refl, cc)
  placed_ok len (Err n) d e = absurd cc

  not_memory : (d : Decoded A) → answer d ≢ Err Memory
  not_memory d e = cc

  -- where what follows a spelling begins
  after : (bytes text rest : List ℕ) (at : ℕ) → at ≤ length bytes → drop at bytes ≡ text ++ rest → length bytes - length rest ≡ at + length text
  after bytes text rest at within e = omega (arith, length-drop at bytes, ap length e, length-append text rest)

  after_is : (bytes text rest : List ℕ) (at : ℕ) → at ≤ length bytes → drop at bytes ≡ text ++ rest → drop (length bytes - length rest) bytes ≡ rest
  after_is bytes text rest at within e =
      let whole : bytes ≡ (take at bytes ++ text) ++ rest = sym (take-append-drop at bytes) ∙ ap (λ (k : List ℕ). take at bytes ++ k) e ∙ sym (append_assoc (take at bytes) text rest) in
      let long : length (take at bytes ++ text) ≡ length bytes - length rest = omega (arith, length-append (take at bytes) text, length-take-le at bytes within, after bytes text rest at within e) in
      ap (drop (length bytes - length rest)) whole ∙ drop_at (take at bytes ++ text) rest _ long

  stands : (bytes : List ℕ) (at : ℕ) (x : A) (rest : List ℕ) (d : Decoded A) → at ≤ length bytes → drop at bytes ≡ s x ++ rest → F x → d ≡ record { value = x; next = length bytes - length rest }
      → StandsAt s F bytes at d
  stands bytes at x rest d within parts range same =
      let there : StandsAt s F bytes at (record { value = x; next = length bytes - length rest }) =
      record { range = range; spelling = rw (after_is bytes (s x) rest at within parts) parts; within = omega arith } in
      subst (StandsAt s F bytes at) (sym same) there

  -- What a decoder answers stands there.
  pub is_found : (bytes : List ℕ) (at : ℕ) (a : Answer) → IsBytes bytes → at ≤ length bytes → IsRead read bytes at a → IsFound s F bytes at a
  is_found bytes at (Ok d) fits within h =
      let p = placed_ok (length bytes) (read (drop at bytes)) d (h (not_memory d)) in
      let t = r.takes (drop at bytes) p.0 (IsBytes-drop at bytes fits) p.1 in
      stands bytes at p.0.0 p.0.1 d within t.0.parts t.1 p.2
  is_found bytes at (Err e) fits within h = tt

  -- What stands there is what a decoder answers.
  pub is_read : (bytes : List ℕ) (at : ℕ) (a : Answer) → at ≤ length bytes → IsRead read bytes at a → FindsAll s F bytes at a
  is_read bytes at a within h x rest range there other =
      h other ∙ rw (there, r.again x rest range, after bytes (s x) rest at within there) refl

  -- all that a decoder says of its answer
  pub record Decodes (bytes : List ℕ) (at : ℕ) (a : Answer) : Type 0 where
    pub exact : IsRead read bytes at a
    pub found : IsFound s F bytes at a
    pub only : FindsAll s F bytes at a

  -- a decoder that reads from its place on
  pub decodes : (bytes : List ℕ) (at : ℕ) (from : List ℕ) (got : Result A ReaderFault) (rest : List ℕ) (left : ℕ) (a : Answer) → IsBytes bytes → at ≤ length bytes
      → from ≡ take (length bytes - at) (drop at bytes) → Gives (λ x. (x, rest)) got (read from) → left ≡ length rest → a ≡ answer_of (length bytes) left got → Decodes bytes at a
  decodes bytes at from got rest left a fits within begins h at_left is =
      let whole : a ≡ answer_of (length bytes) (length rest) got = is ∙ ap (λ (k : ℕ). answer_of (length bytes) k got) at_left in
      let start : from ≡ drop at bytes = begins ∙ take_all (length bytes - at) (drop at bytes) (omega (arith, length-drop at bytes)) in
      let exact = subst (IsRead read bytes at) (sym whole) (given_is_read read bytes at got rest (subst (λ (k : List ℕ). Gives (λ x. (x, rest)) got (read k)) start h)) in
      record { exact = exact; found = is_found bytes at a fits within exact; only = is_read bytes at a within exact }

  -- ---- laws of a format

  pub none_begins_another : NoneBeginsAnother s F
  none_begins_another x y after_x after_y fx fy same =
      let e : (x, after_x) ≡ (y, after_y) = ok_is (x, after_x) (y, after_y) (sym (r.again x after_x fx) ∙ ap read same ∙ r.again y after_y fy) in
      (ap (λ (p : A × List ℕ). p.0) e, ap (λ (p : A × List ℕ). p.1) e)

  bytes_from_all : (bytes : List ℕ) → All (λ b. b < 256) bytes → IsBytes bytes
  bytes_from_all bytes h i =
      elim (cases_lt i (length bytes)) [
        | inl lt ↦ All-get_or (λ b. b < 256) bytes i 0 lt h
        | inr le ↦ rw (get_or_past bytes i 0 le) (omega arith)
      ]

  pub has_one_spelling : HasOneSpelling s F read
  has_one_spelling = record {
    read_is_spelled = λ bytes x rest fits e. let t = r.takes bytes (x, rest) (bytes_from_all bytes fits) e in (t.1, t.0.parts);
    spelled_is_read = r.again;
  }
