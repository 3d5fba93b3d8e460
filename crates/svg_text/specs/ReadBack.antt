-- What an XML reader makes of a text that has entities.
use Rattle.std.specs.Prelude.{ℕ, ◌==◌, ◌&&◌, ◌||◌, Bool, true, false, if◌then◌else◌, List, [], ◌∷◌, ◌++◌, codes, Option, Some, None}

-- whether both lists have the same items in the same order
abbrev pub is_same : List ℕ → List ℕ → Bool
is_same [] [] = true
is_same [] (b ∷ others) = false
is_same (a ∷ more) [] = false
is_same (a ∷ more) (b ∷ others) = a == b && is_same more others

-- what the entity of this name stands for: one byte of the five. An unknown name stays, with its ampersand and its semicolon.
abbrev pub meaning : List ℕ → List ℕ
meaning name =
    if is_same name (codes "amp") then 38 ∷ [] else (if is_same name (codes "lt") then 60 ∷ [] else (if is_same name (codes "gt") then 62 ∷ []
    else (if is_same name (codes "quot") then 34 ∷ [] else (if is_same name (codes "apos") then 39 ∷ [] else 38 ∷ name ++ 59 ∷ []))))

-- What the rest of a text is read as. With `Some name`, an ampersand and this part of an entity's name stand before it; with None, no
-- entity is begun.
abbrev pub read_on : Option (List ℕ) → List ℕ → List ℕ
read_on None [] = []
read_on None (byte ∷ bytes) = if byte == 38 then read_on (Some []) bytes else byte ∷ read_on None bytes
read_on (Some name) [] = 38 ∷ name
read_on (Some name) (byte ∷ bytes) = if byte == 59 then meaning name ++ read_on None bytes else read_on (Some (name ++ byte ∷ [])) bytes

-- the text with each entity replaced by what it stands for
abbrev pub unescaped : List ℕ → List ℕ
unescaped text = read_on None text

-- whether the first list stands at the front of the second
abbrev pub is_front : List ℕ → List ℕ → Bool
is_front [] text = true
is_front (a ∷ front) [] = false
is_front (a ∷ front) (b ∷ text) = a == b && is_front front text

-- whether the text, which stands behind an ampersand, begins with the name and the semicolon of one of the five entities of XML
abbrev pub begins_name : List ℕ → Bool
begins_name text =
    is_front (codes "amp;") text || (is_front (codes "lt;") text || (is_front (codes "gt;") text
    || (is_front (codes "quot;") text || is_front (codes "apos;") text)))

-- whether each ampersand of the text begins one of the five entities of XML
abbrev pub ampersands_begin_entities : List ℕ → Bool
ampersands_begin_entities [] = true
ampersands_begin_entities (byte ∷ bytes) = (if byte == 38 then begins_name bytes else true) && ampersands_begin_entities bytes

-- whether a byte opens or closes a tag, or is a quote: < > and both quotes
abbrev pub is_markup : ℕ → Bool
is_markup byte = byte == 60 || (byte == 62 || (byte == 34 || byte == 39))
