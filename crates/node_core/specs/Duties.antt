-- What a participant keeps of claims and responses.
use Rattle.std.specs.Prelude.{◌≡◌, ◌≤◌, ℕ, Bool, false, List, [], ◌∷◌, ◌++◌, Option, Some, None, length, take, not, nat_le, ◌&&◌, if◌then◌else◌, map, nat_eq}
use Rattle.std.specs.List.{IsDistinct, list_any}
use Rattle.canton_model.specs.declared.response.Response.{Response}
use Rattle.canton_model.specs.Inbox.{Item}
use Rattle.world_model.specs.Places.{has_place, without_place}
use Rattle.world_model.specs.Node.{NodeState, without}

-- What contracts see of the duties of a participant: the places where it owes verdicts; those that it claimed, and the ones among these whose job isn't
-- finished; and the responses that wait to be sent.
pub record Kept : Type 0 where
  pub owed : List ℕ  -- the places of the requests that it owes verdicts to, rising
  pub room : ℕ  -- so many more of these take no memory
  pub passed : ℕ  -- of so many of these, from the first on, none can be claimed
  pub claimed : List ℕ
  pub unfinished : List ℕ
  pub outbox : List Response

-- The state of a participant that has read these items, is paused or not, and has these duties.
abbrev pub state_of : List Item → (is_paused : Bool) → Kept → NodeState
state_of items is_paused kept =
    record { items = items; is_paused = is_paused; claimed = kept.claimed; unfinished = kept.unfinished; outbox = kept.outbox }

-- The duties of a participant that has read nothing.
abbrev pub nothing_kept : Kept
nothing_kept = record { owed = []; room = 0; passed = 0; claimed = []; unfinished = []; outbox = [] }

-- The duties with another number of passed places: of the first n owed ones none can be claimed.
abbrev pub with_passed : Kept → ℕ → Kept
with_passed kept n = record { owed = kept.owed; room = kept.room; passed = n; claimed = kept.claimed; unfinished = kept.unfinished; outbox = kept.outbox }

-- The duties with room for n more owed places.
abbrev pub with_room : Kept → ℕ → Kept
with_room kept n =
    record { owed = kept.owed; room = n; passed = kept.passed; claimed = kept.claimed; unfinished = kept.unfinished; outbox = kept.outbox }

-- The duties with one more place k, behind the others, where the participant owes verdicts.
abbrev pub with_owed : Kept → ℕ → Kept
with_owed kept k =
    record { owed = kept.owed ++ k ∷ []; room = kept.room; passed = kept.passed; claimed = kept.claimed; unfinished = kept.unfinished; outbox = kept.outbox }

-- The duties after place k is claimed, whose job isn't finished yet.
abbrev pub with_claim : Kept → ℕ → Kept
with_claim kept k =
    record {
      owed = kept.owed;
      room = kept.room;
      passed = kept.passed;
      claimed = kept.claimed ++ k ∷ [];
      unfinished = kept.unfinished ++ k ∷ [];
      outbox = kept.outbox;
    }

-- The duties after the job of a response's request is finished: the place isn't unfinished any more, and the response waits to be sent.
abbrev pub with_response : Kept → Response → Kept
with_response kept response =
    record {
      owed = kept.owed;
      room = kept.room;
      passed = kept.passed;
      claimed = kept.claimed;
      unfinished = without_place response.request kept.unfinished;
      outbox = kept.outbox ++ response ∷ [];
    }

-- The duties without a response to the request at place k, since it is sent.
abbrev pub without_response : Kept → ℕ → Kept
without_response kept k =
    record { owed = kept.owed; room = kept.room; passed = kept.passed; claimed = kept.claimed; unfinished = kept.unfinished; outbox = without k kept.outbox }

-- The duties after the job of place k is put back: neither a claim of it is left nor a response to it. `passed` is how many of the owed
-- places are passed then.
abbrev pub without_claim : Kept → ℕ → (passed : ℕ) → Kept
without_claim kept k passed =
    record {
      owed = kept.owed;
      room = kept.room;
      passed = passed;
      claimed = without_place k kept.claimed;
      unfinished = without_place k kept.unfinished;
      outbox = without k kept.outbox;
    }

-- The duties with one more claimed place k whose job is finished, as a participant that begins again takes it up.
abbrev pub with_done : Kept → ℕ → Kept
with_done kept k =
    record {
      owed = kept.owed;
      room = kept.room;
      passed = kept.passed;
      claimed = kept.claimed ++ k ∷ [];
      unfinished = kept.unfinished;
      outbox = kept.outbox;
    }

-- The duties with one more response that waits, and no job changed, as a participant that begins again takes it up.
abbrev pub with_waiting : Kept → Response → Kept
with_waiting kept response =
    record {
      owed = kept.owed;
      room = kept.room;
      passed = kept.passed;
      claimed = kept.claimed;
      unfinished = kept.unfinished;
      outbox = kept.outbox ++ response ∷ [];
    }

-- Whether place k is at or after `from` and its job is finished: k is claimed and isn't unfinished. It is false of each place below `from`.
abbrev pub is_done : (from : ℕ) → Kept → ℕ → Bool
is_done from kept k = (nat_le from k && has_place kept.claimed k) && not (has_place kept.unfinished k)

-- Whether the request at place k can be claimed: it is neither decided, by the test `decided`, nor among the claimed places.
abbrev pub is_free : (decided : ℕ → Bool) → (claimed : List ℕ) → ℕ → Bool
is_free decided claimed k = not (decided k) && not (has_place claimed k)

-- None of the owed places that are passed can be claimed: each is decided or claimed. So a search for the next claim begins behind them.
abbrev pub IsPassed : (decided : ℕ → Bool) → Kept → Type 0
IsPassed decided kept =
    (kept.passed ≤ length kept.owed) × (list_any (is_free decided kept.claimed) (take kept.passed kept.owed) ≡ false)

-- No two of the responses are to one request.
abbrev pub AreToDistinct : List Response → Type 0
AreToDistinct responses = IsDistinct nat_eq (map (λ (response : Response). response.request) responses)

-- Of two responses, each of which may be absent, the one to the earlier place, and the first where both are to one place. Where only one is there it is
-- that one, and None where neither is.
abbrev pub earlier : Option Response → Option Response → Option Response
earlier None later = later
earlier (Some a) None = Some a
earlier (Some a) (Some b) = if nat_le a.request b.request then Some a else Some b

-- The response, and None where its request is decided by the test.
abbrev pub unless_decided : (decided : ℕ → Bool) → Response → Option Response
unless_decided decided response = if decided response.request then None else Some response

-- Of these responses, without those whose request is decided by the test, the one to the least place. None where none is left.
abbrev pub first_waiting : (decided : ℕ → Bool) → List Response → Option Response
first_waiting decided [] = None
first_waiting decided (response ∷ rest) = earlier (unless_decided decided response) (first_waiting decided rest)
