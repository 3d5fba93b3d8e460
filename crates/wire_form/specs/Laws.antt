-- What holds of each format: no spelling begins another, and what is read was spelled so.
use Rattle.std.specs.Prelude.{◌≡◌, ℕ, ◌<◌, List, ◌++◌, Ok, All}
use Rattle.wire_form.specs.Formats.{Reading}

-- No spelling of a value in range begins that of another: where the spellings of two values, each with some bytes behind it, are the same bytes, the
-- values are one, and so are the bytes behind them.
abbrev pub NoneBeginsAnother : {A : Type 0} → (A → List ℕ) → (A → Type 0) → Type 0
NoneBeginsAnother {A} spell InRange =
    (x y : A) (after_x after_y : List ℕ) → InRange x → InRange y → spell x ++ after_x ≡ spell y ++ after_y → (x ≡ y) × (after_x ≡ after_y)

-- Each value in range has one spelling. Bytes that are read as a value are its spelling with the rest behind it, and the value is in range; and the
-- spelling of a value in range is read as it, whatever follows.
pub record HasOneSpelling {A : Type 0} (spell : A → List ℕ) (InRange : A → Type 0) (read : Reading A) : Type 0 where
  pub read_is_spelled : (bytes : List ℕ) (x : A) (rest : List ℕ) → All (λ b. b < 256) bytes → read bytes ≡ Ok (x, rest) → InRange x × (bytes ≡ spell x ++ rest)
  pub spelled_is_read : (x : A) (rest : List ℕ) → InRange x → read (spell x ++ rest) ≡ Ok (x, rest)

-- The statement of the second argument holds of each value of which that of the first does. The laws say by it that what is in range (first) is
-- spellable (second), so that it can be encoded.
abbrev pub IsEnoughFor : {A : Type 0} → (A → Type 0) → (A → Type 0) → Type 0
IsEnoughFor {A} First Second = (x : A) → First x → Second x

-- The statement Is holds of each value that the reading gives, of any bytes. The laws say by it that what is read is spellable, so that it can be
-- encoded again.
abbrev pub IsGivenBy : {A : Type 0} → Reading A → (A → Type 0) → Type 0
IsGivenBy {A} read Is = (bytes : List ℕ) (x : A) (rest : List ℕ) → read bytes ≡ Ok (x, rest) → Is x
