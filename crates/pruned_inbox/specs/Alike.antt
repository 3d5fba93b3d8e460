-- A participant that keeps its inbox from a base on, and one that keeps all of it.
use Rattle.std.specs.Prelude.{◌≡◌, ℕ, ◌<◌, ◌≤◌, true, false, List, None, length, filter, nat_le}
use Rattle.ledger_terms.specs.declared.params.Params.{Params}
use Rattle.ledger_model.specs.Terms.{Hash, ParticipantId}
use Rattle.ledger_model.specs.declared.commit.Commit.{Commit}
use Rattle.canton_model.specs.Reading.{Reading}
use Rattle.canton_model.specs.Inbox.{Item, clean, clean_time, is_decided_in, is_locked_in_inbox, node_active, node_log, notice_at, outcome_in}
use Rattle.canton_model.specs.Inbox.{shown_at, status_in_inbox, withheld}
use Rattle.canton_model.specs.Checks.{verdicts_owed}
use Rattle.pruned_inbox.specs.Start.{Start, active_kept, status_kept, verdicts_kept}
use Rattle.pruned_inbox.specs.Received.{is_received_at}

-- Participant p that keeps the inbox `kept`, from place b on, beside what it started with there, answers whatever is asked of places from b on as
-- the one with the inbox `whole`. Of places below b it knows no request.
pub record AnswersAlike (reading : Reading) (params : Params) (p : ParticipantId) (whole kept : List Item) (b : ℕ) (start : Start) : Type 0 where
  -- both have read as many entries
  pub cursor : length kept ≡ length whole
  pub clean_place : clean params kept ≡ clean params whole
  pub time_there : clean_time params kept ≡ clean_time params whole
  pub base_is_clean : b ≤ clean params whole
  -- the log of the one that is kept is the whole's from b on
  pub applied : node_log params kept ≡ filter (λ (part : Commit). nat_le b part.place) (node_log params whole)
  pub withheld_from : withheld params kept ≡ filter (nat_le b) (withheld params whole)
  -- what was learnt of the request at a place, and what was shown of it, is the same from b on, and nothing below
  pub noticed : (k : ℕ) → b ≤ k → notice_at kept k ≡ notice_at whole k
  pub unnoticed : (k : ℕ) → k < b → notice_at kept k ≡ None
  pub shown : (k : ℕ) → b ≤ k → shown_at kept k ≡ shown_at whole k
  pub forgotten : (k : ℕ) → k < b → shown_at kept k ≡ None
  pub received : (k : ℕ) → b ≤ k → is_received_at kept k ≡ is_received_at whole k
  pub unreceived : (k : ℕ) → k < b → is_received_at kept k ≡ false
  -- a request that was received at b or behind it is decided alike, and one from below b is decided at each place from b on
  pub decided : (m k : ℕ) → b ≤ m → is_received_at whole m ≡ true → is_decided_in params kept m k ≡ is_decided_in params whole m k
  pub decided_below : (m k : ℕ) → m < b → b ≤ k → is_received_at whole m ≡ true → is_decided_in params whole m k ≡ true
  pub outcome : (m : ℕ) → b ≤ m → is_received_at whole m ≡ true → outcome_in params kept m ≡ outcome_in params whole m
  -- what the one that is kept concludes with its start (`status_kept` and the like) is what the whole gives
  pub status : (k : ℕ) (c : Hash) → b ≤ k → status_in_inbox reading whole k c ≡ status_kept reading start kept k c
  pub locked : (k : ℕ) (c : Hash) → b ≤ k → is_locked_in_inbox reading params whole k c ≡ is_locked_in_inbox reading params kept k c
  pub owed : (k : ℕ) → b ≤ k → verdicts_owed reading params p whole k ≡ verdicts_kept reading params p start kept k
  pub active : (n : ℕ) → b ≤ n → node_active reading p whole n ≡ active_kept reading p start kept n
