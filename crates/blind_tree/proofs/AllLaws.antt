-- What is read of all the bytes.
use Rattle.std.proofs.Common.{◌≡◌, ◌≢◌, ℕ, List, [], ◌∷◌, length, Result, Ok, Err, refl, sym, ap, subst, ◌∙◌, append-nil}
use Rattle.std.specs.Prelude.{IfOk}
use Rattle.ledger_terms.specs.Answers.{UnlessMemory}
use Rattle.wire_form.specs.declared.reader_fault.ReaderFault.{ReaderFault}
use Rattle.wire_form.specs.declared.reader_fault.ReaderFault.TheVariants as faults
use Rattle.wire_form.specs.declared.wire_fault.WireFault.{WireFault}
use Rattle.wire_form.specs.declared.wire_fault.WireFault.TheVariants.{Memory}
use Rattle.wire_form.specs.Formats.{◌>>=◌, Reading, Gives}
use Rattle.wire_form.proofs.FormatLaws.{IsBytes, Reads}
use Rattle.blind_tree.specs.Reading.{ended, with_place, read_all, reader_answer}

-- what a reader gave, with nothing left after it
pub given_all : {A : Type 0} (read : Reading A) (bytes rest : List ℕ) (got : Result A ReaderFault) → Gives (λ x. (x, rest)) got (read bytes)
    → UnlessMemory Memory (reader_answer got (length bytes) (length rest)) (read_all read bytes)
given_all read bytes [] (Ok x) h other = ap (λ r. with_place (length bytes) (r >>= λ y. ended y.0 y.1)) (sym h)
given_all read bytes (b ∷ more) (Ok x) h other = ap (λ r. with_place (length bytes) (r >>= λ y. ended y.0 y.1)) (sym h)
given_all read bytes rest (Err (faults.Left n)) h other = ap (λ r. with_place (length bytes) (r >>= λ y. ended y.0 y.1)) (sym h)
given_all read bytes rest (Err faults.Memory) h other = absurd (other refl)

module _ {A : Type 0} (s : A → List ℕ) (F : A → Type 0) (read : Reading A) (r : Reads s F read) where
  abbrev Answer : Type 0
  Answer = Result A WireFault

  abbrev answer : A → Answer
  answer x = Ok x

  all_ok : (len : ℕ) (q : Result (A × List ℕ) ℕ) (x : A) → answer x ≡ with_place len (q >>= λ y. ended y.0 y.1) → q ≡ Ok (x, [])
  all_ok len (Ok (y, [])) x e = cc
  all_ok len (Ok (y, b ∷ more)) x e = absurd cc
  all_ok len (Err n) x e = absurd cc

  not_memory : (x : A) → answer x ≢ Err Memory
  not_memory x e = cc

  -- what is read is spelled so
  pub all_found : (bytes : List ℕ) (a : Answer) → IsBytes bytes → UnlessMemory Memory a (read_all read bytes) → IfOk a (λ x. F x × (bytes ≡ s x))
  all_found bytes (Ok x) fits h =
      let t = r.takes bytes (x, []) fits (all_ok (length bytes) (read bytes) x (h (not_memory x))) in
      (t.1, t.0.parts ∙ append-nil (s x))
  all_found bytes (Err e) fits h = tt

  -- what is spelled so is read
  pub all_read : (bytes : List ℕ) (a : Answer) → UnlessMemory Memory a (read_all read bytes) → (x : A) → F x → bytes ≡ s x → UnlessMemory Memory a (Ok x)
  all_read bytes a h x range same other =
      let whole : read bytes ≡ Ok (x, []) = ap read (same ∙ sym (append-nil (s x))) ∙ r.again x [] range in
      h other ∙ rw whole refl

  -- all that a decoder says of its answer
  pub record DecodesAll (bytes : List ℕ) (a : Answer) : Type 0 where
    pub exact : UnlessMemory Memory a (read_all read bytes)
    pub found : IfOk a (λ x. F x × (bytes ≡ s x))
    pub only : (x : A) → F x → bytes ≡ s x → UnlessMemory Memory a (Ok x)

  pub decodes_all : (bytes from rest : List ℕ) (got : Result A ReaderFault) (left : ℕ) (a : Answer) → IsBytes bytes → from ≡ bytes → Gives (λ x. (x, rest)) got (read from) → left ≡ length rest
      → a ≡ reader_answer got (length bytes) left → DecodesAll bytes a
  decodes_all bytes from rest got left a fits begins h at_left is =
      let whole : a ≡ reader_answer got (length bytes) (length rest) = is ∙ ap (reader_answer got (length bytes)) at_left in
      let exact = subst (λ (b : Answer). UnlessMemory Memory b (read_all read bytes)) (sym whole) (given_all read bytes rest got (subst (λ (k : List ℕ). Gives (λ x. (x, rest)) got (read k)) begins h)) in
      record { exact = exact; found = all_found bytes a fits exact; only = all_read bytes a exact }
