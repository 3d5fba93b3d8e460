-- What a decoder answers at a place in bytes.
use Rattle.std.specs.Prelude.{◌≡◌, ℕ, ◌+◌, ◌-◌, ◌≤◌, List, ◌++◌, length, drop, Result, Ok, Err, IfOk}
use Rattle.ledger_terms.specs.Answers.{UnlessMemory}
use Rattle.wire_form.specs.declared.decoded.Decoded.{Decoded}
use Rattle.wire_form.specs.declared.reader_fault.ReaderFault.{ReaderFault}
use Rattle.wire_form.specs.declared.reader_fault.ReaderFault.TheVariants as faults
use Rattle.wire_form.specs.declared.wire_fault.WireFault.{WireFault}
use Rattle.wire_form.specs.declared.wire_fault.WireFault.TheVariants.{Bad, Memory}
use Rattle.wire_form.specs.Formats.{Reading}

-- What a reading gives as a decoder answers it, with places from the front in place of bytes left. len is how many bytes there are in all; `next` is
-- the place after the value, and Bad names the place of the field that can't be read.
abbrev pub placed : {A : Type 0} → ℕ → Result (A × List ℕ) ℕ → Result (Decoded A) WireFault
placed len (Ok x) = Ok (record { value = x.0; next = len - length x.1 })
placed len (Err left) = Err (Bad (len - left))

-- The answer of a decoder for what a reader gave: len is how many bytes there are in all, left how many the reader had left at its end. `next` is the
-- place after the value; Bad names the place of the field that can't be read, and want of memory stays that.
abbrev pub answer_of : {A : Type 0} → ℕ → ℕ → Result A ReaderFault → Result (Decoded A) WireFault
answer_of len left (Ok x) = Ok (record { value = x; next = len - left })
answer_of len left (Err (faults.Left n)) = Err (Bad (len - n))
answer_of len left (Err faults.Memory) = Err Memory

-- The decoder's answer is what the reading gives from the place `at` on, unless it is want of memory. Its places count from the front of all bytes.
abbrev pub IsRead : {A : Type 0} → Reading A → List ℕ → ℕ → Result (Decoded A) WireFault → Type 0
IsRead read bytes at result = UnlessMemory Memory result (placed (length bytes) (read (drop at bytes)))

-- What was found at the place `at`: it is in range, its spelling stands there, and `next` is the place after it.
pub record StandsAt {A : Type 0} (spell : A → List ℕ) (InRange : A → Type 0) (bytes : List ℕ) (at : ℕ) (d : Decoded A) : Type 0 where
  pub range : InRange d.value
  pub spelling : drop at bytes ≡ spell d.value ++ drop d.next bytes
  pub within : d.next ≤ length bytes

-- Where the decoder's answer is a value, that value is in range (`InRange`) and its spelling (`spell`) stands at the place `at`.
abbrev pub IsFound : {A : Type 0} → (A → List ℕ) → (A → Type 0) → List ℕ → ℕ → Result (Decoded A) WireFault → Type 0
IsFound spell InRange bytes at result = IfOk result (λ d. StandsAt spell InRange bytes at d)

-- Where the spelling (`spell`) of a value in range (`InRange`) stands at the place `at`, the answer is that value with the place after it, unless it is
-- want of memory.
abbrev pub FindsAll : {A : Type 0} → (A → List ℕ) → (A → Type 0) → List ℕ → ℕ → Result (Decoded A) WireFault → Type 0
FindsAll {A} spell InRange bytes at result =
    (x : A) (rest : List ℕ) → InRange x → drop at bytes ≡ spell x ++ rest
    → UnlessMemory Memory result (Ok (record { value = x; next = at + length (spell x) }))
