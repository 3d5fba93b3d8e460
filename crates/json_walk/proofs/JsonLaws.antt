-- What bytes are JSON of.
use Rattle.std.proofs.Common.{◌≡◌, ℕ, List, Bool, true, false, cond, Some, None, Ok, Err, refl, ok_or, Option, Result}
use Rattle.std.specs.Str.{IsUtf8, is_utf8}
use Rattle.std.proofs.lemmas.Str.{IsUtf8-from_is_utf8, is_utf8-from_IsUtf8}
use Rattle.serde_json.specs.Data.{Data}
use Rattle.serde_json.specs.Read.{read}
use Rattle.json_walk.specs.declared.walk_fault.WalkFault.{WalkFault}
use Rattle.json_walk.specs.declared.walk_fault.WalkFault.TheVariants.{NotJson}
use Rattle.json_walk.specs.Walk.{json_of}

pub json_of-read : (bytes : List ℕ) (d : Data) → IsUtf8 bytes → read bytes ≡ Some d → json_of bytes ≡ Ok d
unfolding json_of
json_of-read bytes d u e = rw (is_utf8-from_IsUtf8 bytes u, e) refl

refused : (b : Bool) (o : Option Data) → (b ≡ true → o ≡ None) → cond {A = Result Data WalkFault} b (ok_or o NotJson) (Err NotJson) ≡ Err NotJson
refused true o h = rw (h refl) refl
refused false o h = refl

pub json_of-refused : (bytes : List ℕ) → (IsUtf8 bytes → read bytes ≡ None) → json_of bytes ≡ Err NotJson
unfolding json_of
json_of-refused bytes h = refused (is_utf8 bytes) (read bytes) (λ e. h (IsUtf8-from_is_utf8 bytes e))
