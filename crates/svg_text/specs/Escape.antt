-- How a text stands in XML: the bytes that XML keeps for itself are written as entities.
use Rattle.std.specs.Prelude.{ℕ, ◌==◌, ◌||◌, Bool, if◌then◌else◌, List, [], ◌∷◌, codes}
use Rattle.std.specs.List.{flat_map}

-- whether XML keeps a byte for itself: & < > and both quotes
abbrev pub is_kept : ℕ → Bool
is_kept byte = byte == 38 || (byte == 60 || (byte == 62 || (byte == 34 || byte == 39)))

-- the entity that stands in XML for a byte which XML keeps for itself; any byte but & < > and `"` is taken for an apostrophe
abbrev pub entity : ℕ → List ℕ
entity byte =
    if byte == 38 then codes "&amp;" else (if byte == 60 then codes "&lt;" else (if byte == 62 then codes "&gt;"
    else (if byte == 34 then codes "&quot;" else codes "&apos;")))

-- how a byte is written in XML: as its entity where XML keeps it for itself, and else as it is
abbrev pub escaped_byte : ℕ → List ℕ
escaped_byte byte = if is_kept byte then entity byte else byte ∷ []

-- the text with each byte that XML keeps for itself replaced by its entity
abbrev pub escaped : List ℕ → List ℕ
escaped text = flat_map escaped_byte text
