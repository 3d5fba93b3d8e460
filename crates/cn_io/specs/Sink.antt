-- What a sink takes. A name with a stroke is of the sink after a call, one without of the sink before it: `held` are the bytes that it holds, None
-- where nobody can say that, `faults` is its count of faults, `room` how many bytes it takes for sure.
use Rattle.std.specs.Prelude.{◌≡◌, ℕ, ◌+◌, ◌≤◌, ◌<◌, List, [], ◌∷◌, take, drop, length, sum, Option, Result, Ok, Err, MatchResult}
use Rattle.std.specs.Io.KnownBytes.{Keeps, Appends}
use Rattle.cn_io.specs.Faults.{counted}

-- What a call of `put` does, offered the bytes `from`: it adds the first n of them to those held, one or more, and the count of faults stays; or it
-- refuses, adds none, and counts one fault.
abbrev pub Puts : {E : Type 0} → Option (List ℕ) → Option (List ℕ) → ℕ → ℕ → Result ℕ E → List ℕ → Type 0
Puts held held' faults faults' result from = MatchResult result
    (λ n. (0 < n) × (n ≤ length from) × Appends held held' (take n from) × (faults' ≡ faults))
    (λ _. Keeps held held' × (faults' ≡ counted faults))

-- A call of `put`, offered the bytes `from`, didn't fail: it added all of them and counted no fault, and the room was lowered by no more than it added.
abbrev pub TakesAll : {E : Type 0} → ℕ → ℕ → ℕ → ℕ → Result ℕ E → List ℕ → Type 0
TakesAll faults faults' room room' result from = MatchResult result
    (λ n. (n ≡ length from) × (faults' ≡ faults) × (room ≤ room' + n))
    (λ _. ⊥)

-- Calls of `put` one after another lead from `sink` to sink'. Each was offered all of `bytes` that remained, at least one, and `taken` lists how
-- many each took. `may_put` says of a sink, bytes, an answer and a sink whether a call with these bytes may have this answer and leave that sink.
abbrev pub Offered : {S E : Type 0} → (S → List ℕ → Result ℕ E → S → Type 0) → S → S → List ℕ → (taken : List ℕ) → Type 0
Offered may_put sink sink' bytes [] = sink ≡ sink'
Offered may_put sink sink' bytes (n ∷ taken) =
    (next : _) × (0 < length bytes) × may_put sink bytes (Ok n) next × Offered may_put next sink' (drop n bytes) taken

-- The result of writing `bytes` to `sink`, which leaves sink', comes of calls of `put` as `Offered` has them: an Ok where all bytes were taken; an
-- Err where a call after them, offered all that remained, at least one, took none.
abbrev pub OffersAll : {S R E : Type 0} → (S → List ℕ → Result ℕ E → S → Type 0) → S → S → List ℕ → Result R E → Type 0
OffersAll may_put sink sink' bytes result = MatchResult result
    (λ _. (taken : List ℕ) × (sum taken ≡ length bytes) × Offered may_put sink sink' bytes taken)
    (λ e. (taken : List ℕ) × (last : _) × (sum taken < length bytes) × Offered may_put sink last bytes taken
    × may_put last (drop (sum taken) bytes) (Err e) sink')
