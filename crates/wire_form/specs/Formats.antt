-- Reading from left to right. A reading of bytes answers what was read and the bytes after it, or a fault: how many bytes
-- are left at the first field that can't be read. Readings compose: one after another, seen through a function, and a
-- count with so many items.
use Rattle.std.specs.Prelude.{◌≡◌, ℕ, zero, suc, Bool, true, List, [], ◌∷◌, ◌++◌, length, Result, Ok, Err, if◌then◌else◌}
use Rattle.wire_form.specs.declared.reader_fault.ReaderFault.{ReaderFault}
use Rattle.wire_form.specs.declared.reader_fault.ReaderFault.TheVariants as faults

infixl 10 ◌>>=◌
-- The first reads; where it is Ok the second goes on with what it gave, and an Err stays as it is. The number of an Err is how many bytes are left.
abbrev pub ◌>>=◌ : {A B : Type 0} → Result A ℕ → (A → Result B ℕ) → Result B ℕ
(Ok x) >>= f = f x
(Err e) >>= f = Err e

-- The first is an error that a function returned, the second what the definition reads: for Left n that is Err n, and of Memory nothing is said.
abbrev pub Fails : {Y : Type 0} → ReaderFault → Result Y ℕ → Type 0
Fails faults.Memory read = Unit {0}
Fails (faults.Left n) read = read ≡ Err n

-- What a function returned is what the definition reads: where it is Ok x, that is Ok (view x); an Err is as Fails says, so of want of memory nothing
-- is said. view makes of the returned value what the definition has, the value with the bytes that are left.
abbrev pub Gives : {X Y : Type 0} → (X → Y) → Result X ReaderFault → Result Y ℕ → Type 0
Gives view (Ok x) read = read ≡ Ok (view x)
Gives view (Err e) read = Fails e read

-- A reading takes bytes and answers a value that stands at their front with the bytes after it, or Err with how many bytes are left where the first
-- field begins that can't be read.
abbrev pub Reading : Type 0 → Type 0
Reading A = List ℕ → Result (A × List ℕ) ℕ

-- reads two values one after another, as a pair; the Err is that of the first that can't be read
abbrev pub both_at : {A B : Type 0} → Reading A → Reading B → Reading (A × B)
both_at f g bytes = f bytes >>= λ x. g x.1 >>= λ y. Ok ((x.0, y.0), y.1)

-- reads as f does and gives the function `to` of what was read
abbrev pub seen_at : {A B : Type 0} → (A → B) → Reading A → Reading B
seen_at to f bytes = f bytes >>= λ x. Ok (to x.0, x.1)

-- Reads one more item of a list, behind those of so_far. admits gets these and the item; where it is false the item is a field that can't be read, so
-- Err says how many bytes are left where it begins.
abbrev pub one_more : {A : Type 0} → (List A → A → Bool) → Reading A → List A → Reading (List A)
one_more admits item so_far bytes =
    item bytes >>= λ x. if admits so_far x.0 then Ok (so_far ++ x.0 ∷ [], x.1) else Err (length bytes)

-- Reads so many more items of a list, whose first ones are so_far, and gives the whole list. Of each item admits tells whether it may stand behind
-- those before it.
unfoldable pub items_at : {A : Type 0} → (List A → A → Bool) → Reading A → ℕ → List A → Reading (List A)
items_at admits item zero so_far bytes = Ok (so_far, bytes)
items_at admits item (suc n) so_far bytes =
    one_more admits item so_far bytes >>= λ x. items_at admits item n x.0 x.1

-- reads a count and then so many items, of each of which admits tells whether it may stand behind those before it
abbrev pub counted_at : {A : Type 0} → Reading ℕ → (List A → A → Bool) → Reading A → Reading (List A)
counted_at count admits item bytes = count bytes >>= λ n. items_at admits item n.0 [] n.1

-- the test that admits every item, for lists in which any item may stand behind any others
abbrev pub any_item : {A : Type 0} → List A → A → Bool
any_item so_far x = true
