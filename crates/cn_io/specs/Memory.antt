-- What contracts see of the sources and sinks in memory.
use Rattle.std.specs.Prelude.{ℕ, Bool, List, Result, MatchResult, IfOk, ◌≡◌, ◌<◌, ◌==◌, min, length}
use Rattle.std.specs.List.{list_any}
use Rattle.cn_io.specs.Faults.{counted}

-- What contracts see of a `MemSource`: the bytes left, how many a call moves at most, the numbers of the calls that fail, counted from 1, and the
-- counts of calls and of faults so far.
pub record Supply : Type 0 where
  pub left : List ℕ
  pub piece : ℕ
  pub fails : List ℕ
  pub calls : ℕ
  pub faults : ℕ

-- What contracts see of a `MemSink`: the bytes held, how many more it takes without asking for memory, how many a call takes at most, the numbers,
-- counted from 1, of the calls that are made to fail, and the counts of calls and of faults so far. A fault is a call that failed, listed or for want
-- of memory.
pub record Store : Type 0 where
  pub held : List ℕ
  pub room : ℕ
  pub piece : ℕ
  pub fails : List ℕ
  pub calls : ℕ
  pub faults : ℕ

-- What contracts see of a `SureSink`, which has its room taken ahead: the bytes held, how many more it takes for sure, and the count of faults so
-- far.
pub record Roomy : Type 0 where
  pub held : List ℕ
  pub room : ℕ
  pub faults : ℕ

-- whether `call`, the number of a call, is among `calls`, the numbers of calls that are made to fail
abbrev pub is_listed : ℕ → List ℕ → Bool
is_listed call calls = list_any (λ c. c == call) calls

-- What is said of a call of `put`, offered the bytes `from`, on the sink `store` in memory, which is store' afterwards, besides what becomes of the
-- bytes held: it counts as one call more and leaves the most that a call takes; an Ok says that it took that many bytes, or all of `from` where these
-- are fewer. Of an Err nothing more is said.
abbrev pub PutsPiece : {E : Type 0} → Store → List ℕ → Result ℕ E → Store → Type 0
PutsPiece store from result store' =
    (store'.calls ≡ counted store.calls) × (store'.piece ≡ store.piece) × IfOk result (λ n. n ≡ min (length from) store.piece)

-- What the result of a call of `put`, offered the bytes `from`, says of the sink `roomy` before it: an Ok that it took all of them, an Err that it had
-- no room for all. What the sink is afterwards, roomy', plays no part.
abbrev pub PutsWhole : {E : Type 0} → Roomy → List ℕ → Result ℕ E → Roomy → Type 0
PutsWhole roomy from result roomy' = MatchResult result (λ n. n ≡ length from) (λ _. roomy.room < length from)
