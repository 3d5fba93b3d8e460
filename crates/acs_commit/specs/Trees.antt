-- The tree of hashes over a set of ids, by a function of strings. Nothing in it hangs on how the set came about.
use Rattle.std.specs.Prelude.{◌≡◌, ◌≢◌, ◌<◌, ℕ, zero, suc, ◌+◌, ◌*◌, Bool, List, [], ◌∷◌, ◌++◌, filter, length, not, nat_eq, Option, None, Some, if◌then◌else◌}
use Rattle.std.specs.Str.{bytes_eq}
use Rattle.sha2.specs.Sha256.{sha256}
use Rattle.ledger_terms.specs.Parties.{IsRising, has_party, same_name, with_party}
use Rattle.blind_tree.specs.TreeHashes.{Hashing}
use Rattle.acs_commit.specs.Strings.{bucket_string, node_string}

-- how many levels of nodes stand above the buckets
abbrev pub levels : ℕ
levels = 8

-- the first byte of an id, and 0 of no bytes
abbrev pub first_byte : List ℕ → ℕ
first_byte [] = 0
first_byte (byte ∷ rest) = byte

-- the ids of a set that begin with the byte b
abbrev pub bucket : List (List ℕ) → ℕ → List (List ℕ)
bucket ids b = filter (λ id. nat_eq (first_byte id) b) ids

-- an id has 32 bytes, of which the first, by which it has its bucket, is below 256
pub record IsId (id : List ℕ) : Type 0 where
  pub long : length id ≡ 32
  pub first : first_byte id < 256

-- each of these is an id
abbrev pub AreIds : List (List ℕ) → Type 0
AreIds [] = Unit {0}
AreIds (id ∷ ids) = IsId id × AreIds ids

-- ids in strictly rising order of their bytes, which is how a set of ids is kept
pub record IsIdSet (ids : List (List ℕ)) : Type 0 where
  pub rising : IsRising ids
  pub ids_are : AreIds ids

-- The set has the id. Sets of ids are kept as sets of names are: in strictly rising order of their bytes.
abbrev pub has_id : List (List ℕ) → List ℕ → Bool
has_id = has_party

-- The set with this id, put where it belongs by its bytes; the set as it is where it has the id.
abbrev pub with_id : List ℕ → List (List ℕ) → List (List ℕ)
with_id = with_party

-- the set without this id; the set as it is where it doesn't have the id
abbrev pub without_id : List ℕ → List (List ℕ) → List (List ℕ)
without_id id ids = filter (λ other. not (same_name other id)) ids

module _ (sha : Hashing) where
  -- The hash at a height above the buckets, the one number `at` from the left, counted from 0. At height 0 stand the buckets.
  unfoldable pub hash_at : List (List ℕ) → (height at : ℕ) → List ℕ
  hash_at ids zero at = sha (bucket_string (bucket ids at))
  hash_at ids (suc height) at = sha (node_string (hash_at ids height (2 * at)) (hash_at ids height (2 * at + 1)))

  -- the strings that are hashed for the hash at a height above the buckets, the one number `at` from the left, with those of all hashes below it
  unfoldable pub strings_at : List (List ℕ) → (height at : ℕ) → List (List ℕ)
  strings_at ids zero at = bucket_string (bucket ids at) ∷ []
  strings_at ids (suc height) at =
      node_string (hash_at ids height (2 * at)) (hash_at ids height (2 * at + 1))
      ∷ (strings_at ids height (2 * at) ++ strings_at ids height (2 * at + 1))

-- the hash of the bucket of the byte b
abbrev pub bucket_hash : List (List ℕ) → ℕ → List ℕ
bucket_hash ids b = sha256 (bucket_string (bucket ids b))

-- the root of the tree of a set, to which a participant commits
unfoldable pub root_of : List (List ℕ) → List ℕ
root_of ids = hash_at sha256 ids levels 0

-- all strings that are hashed for the root of a set
unfoldable pub tree_strings : List (List ℕ) → List (List ℕ)
tree_strings ids = strings_at sha256 ids levels 0

-- whether the hashes of the two sets' buckets of the byte b differ
abbrev pub is_other_bucket : (mine theirs : List (List ℕ)) → ℕ → Bool
is_other_bucket mine theirs b = not (bytes_eq (bucket_hash mine b) (bucket_hash theirs b))

-- The first number that passes a test, of the `count` numbers from `start` on; None where none passes.
unfoldable pub first_where : (ℕ → Bool) → (start count : ℕ) → Option ℕ
first_where test start zero = None
first_where test start (suc count) = if test start then Some start else first_where test (suc start) count

-- The first byte whose buckets' hashes differ, where the roots of the two sets do; None where the roots are equal.
unfoldable pub first_difference : (mine theirs : List (List ℕ)) → Option ℕ
first_difference mine theirs = if bytes_eq (root_of mine) (root_of theirs) then None else first_where (is_other_bucket mine theirs) 0 256

-- Two sets have different roots, and b is the first byte whose buckets' hashes differ in them; so these buckets' ids differ.
pub record FirstDiffers (mine theirs : List (List ℕ)) (b : ℕ) : Type 0 where
  pub within : b < 256
  pub roots : root_of mine ≢ root_of theirs
  pub hashes : bucket_hash mine b ≢ bucket_hash theirs b
  pub ids : bucket mine b ≢ bucket theirs b
  pub before : (a : ℕ) → a < b → bucket_hash mine a ≡ bucket_hash theirs a
