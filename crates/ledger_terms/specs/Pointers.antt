-- Places in JSON values, as RFC 6901 writes them.
use Rattle.std.specs.Prelude.{ℕ, Bool, ◌||◌, ◌==◌, List, [], ◌∷◌, ◌++◌, if◌then◌else◌, codes}
use Rattle.std.specs.List.{flat_map}
use Rattle.std.specs.Prelude.{decimal}

-- whether a byte is `~` or `/`, which have a meaning in a pointer and are escaped in a member's name
abbrev pub is_reserved : ℕ → Bool
is_reserved b = b == 126 || b == 47

-- how a reserved byte is escaped: `~` as `~0`, and any other, which is `/`, as `~1`
abbrev pub escape_of : ℕ → List ℕ
escape_of b = if b == 126 then codes "~0" else codes "~1"

-- what a pointer has for one byte of a member's name: its escape where it is reserved, else the byte
abbrev pub token_byte : ℕ → List ℕ
token_byte b = if is_reserved b then escape_of b else b ∷ []

-- the pointer to the member of this name (second argument) of the object at this pointer (first argument)
unfoldable pub at_member : List ℕ → List ℕ → List ℕ
at_member at name = at ++ 47 ∷ flat_map token_byte name

-- the pointer to the item of this index, counted from 0, of the list at this pointer (first argument)
unfoldable pub at_item : List ℕ → ℕ → List ℕ
at_item at i = at ++ 47 ∷ decimal i
