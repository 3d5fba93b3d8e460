-- The readings of single fields. Each takes bytes and answers the field at their front with the bytes after it, or Err with how many bytes are left
-- where the field begins that can't be read. For all but texts that is how many there are.
use Rattle.std.specs.Prelude.{ℕ, zero, suc, ◌+◌, Bool, true, false, List, [], ◌∷◌, length, take, drop, Ok, Err, nat_lt, nat_le, if◌then◌else◌, ℤ}
use Rattle.std.specs.Int.{Width, w16, w64, byte_len, from_be_bytes, cast_signed}
use Rattle.std.specs.Str.{is_utf8}
use Rattle.ledger_terms.specs.Names.{is_name}
use Rattle.ledger_terms.specs.declared.limits.TheConstants.{MOST_TEXT_BYTES}
use Rattle.wire_form.specs.Formats.{◌>>=◌, Reading}

-- the next byte; Err 0 where there is none
abbrev pub byte_at : Reading ℕ
byte_at [] = Err 0
byte_at (b ∷ rest) = Ok (b, rest)

-- the next n bytes, as one field; Err where there are fewer
abbrev pub bytes_at : ℕ → Reading (List ℕ)
bytes_at n bytes = if nat_lt (length bytes) n then Err (length bytes) else Ok (take n bytes, drop n bytes)

-- a number of that width (w16, w32 or w64: 2, 4 or 8 bytes), high byte first; Err where fewer bytes are left
unfoldable pub number_at : Width → Reading ℕ
number_at w bytes = do
  n ← bytes_at (byte_len w) bytes
  Ok (from_be_bytes w n.0, n.1)

-- a whole number of eight bytes in two's complement, high byte first; Err where fewer bytes are left
unfoldable pub int_at : Reading ℤ
int_at bytes = do
  n ← bytes_at 8 bytes
  Ok (cast_signed w64 (from_be_bytes w64 n.0), n.1)

-- a count of two bytes; Err where it is above the limit, the first argument, or fewer bytes are left
unfoldable pub count_at : ℕ → Reading ℕ
count_at limit bytes = do
  n ← bytes_at 2 bytes
  if nat_le (from_be_bytes w16 n.0) limit then Ok (from_be_bytes w16 n.0, n.1) else Err (length bytes)

-- a count of one byte; Err where it is above the limit, the first argument, or no byte is left
unfoldable pub small_count_at : ℕ → Reading ℕ
small_count_at limit bytes = do
  n ← byte_at bytes
  if nat_le n.0 limit then Ok n else Err (length bytes)

-- the 32 bytes of a hash; Err where fewer bytes are left
unfoldable pub hash_at : Reading (List ℕ)
hash_at bytes = bytes_at 32 bytes

-- A name with its byte of length, as one field; Err where bytes lack or where these bytes aren't a name.
unfoldable pub name_at : Reading (List ℕ)
name_at [] = Err 0
name_at (len ∷ rest) =
    if nat_lt (length rest) len then Err (length (len ∷ rest))
    else if is_name (take len rest) then Ok (take len rest, drop len rest) else Err (length (len ∷ rest))

-- a truth value: one byte, 0 for false and 1 for true; Err where it is another or there is none
unfoldable pub truth_at : Reading Bool
truth_at [] = Err 0
truth_at (zero ∷ rest) = Ok (false, rest)
truth_at (suc zero ∷ rest) = Ok (true, rest)
truth_at (suc (suc b) ∷ rest) = Err (length rest + 1)

-- Two bytes of length, at most 256, and a text of that length. Err at the length where it is too great or lacks, and at the text where bytes of it
-- lack or aren't UTF-8.
unfoldable pub text_at : Reading (List ℕ)
text_at bytes = do
  len ← count_at MOST_TEXT_BYTES bytes
  text ← bytes_at len.0 len.1
  if is_utf8 text.0 then Ok text else Err (length len.1)
