-- What a participant answers that doesn't hang on its outbox nor on its unfinished jobs, as one value.
use Rattle.std.specs.Prelude.{◌≡◌, ℕ, Bool, true, List, Option, Result, length}
use Rattle.ledger_terms.specs.declared.submission.Submission.{Submission}
use Rattle.ledger_model.specs.Terms.{ActiveRow}
use Rattle.ledger_model.specs.declared.commit.Commit.{Commit}
use Rattle.canton_model.specs.Inbox.{clean, clean_time, node_log, outcome_in, withheld}
use Rattle.canton_model.specs.Timeline.{Outcome}
use Rattle.world_model.specs.Machine.{Machine}
use Rattle.world_model.specs.Messages.{Request, ViewVerdict}
use Rattle.world_model.specs.Places.{has_place}
use Rattle.pruned_inbox.specs.Start.{active_kept}
use Rattle.node_inbox.specs.InboxState.{decided_since}
use Rattle.prepare_request.specs.declared.submit_fault.SubmitFault.{SubmitFault}
use Rattle.node_core.specs.Preparing.{prepare_answer}
use Rattle.node_core.specs.Participant.{Participant, is_decided_there, items_of, next_place, owed_there, owes_there, params_of, reading_of}

-- What a participant answers to each question whose answer hangs neither on its outbox nor on its unfinished jobs. Participants that are alike
-- (`AreAlike`) have equal answers. What takes a place k is asked about the request there.
pub record Answers : Type 0 where
  -- how many entries it has read
  pub cursor : ℕ
  -- its clean place
  pub clean : ℕ
  -- the time of the entry before that, in microseconds, or 0
  pub clean_time : ℕ
  -- the places below the clean place that are withheld from it
  pub withheld : List ℕ
  -- the approved requests below the clean place, as they are opened
  pub applied : List Commit
  -- its active contracts at the clean place
  pub active : List ActiveRow
  pub is_paused : Bool
  -- the place that it claims next, and None where there is nothing to claim
  pub next_place : Option ℕ
  -- whether it owes verdicts there
  pub owes : (k : ℕ) → Bool
  -- the verdicts that it owes there
  pub owed : (k : ℕ) → List ViewVerdict
  -- whether that request is decided at the cursor
  pub is_decided : (k : ℕ) → Bool
  -- the least place at which that request is decided, and the cursor where it is undecided
  pub decided_since : (k : ℕ) → ℕ
  -- what became of that request by all that was read
  pub outcome : (k : ℕ) → Outcome
  -- the request that a submission wants at the time `now`, or the first fault
  pub prepare : Submission → (now : ℕ) → Result Request SubmitFault

-- The answers of a participant.
abbrev pub answers_of : Participant → Answers
answers_of p =
    record {
      cursor = length (items_of p);
      clean = clean (params_of p) (items_of p);
      clean_time = clean_time (params_of p) (items_of p);
      withheld = withheld (params_of p) (items_of p);
      applied = node_log (params_of p) (items_of p);
      active = active_kept (reading_of p) p.me p.start (items_of p) (clean (params_of p) (items_of p));
      is_paused = p.state.is_paused;
      next_place = next_place p;
      owes = owes_there p;
      owed = owed_there p;
      is_decided = is_decided_there p;
      decided_since = decided_since (params_of p) (items_of p);
      outcome = outcome_in (params_of p) (items_of p);
      prepare = prepare_answer p;
    }

-- Two values a and b are of one participant, which has read the same: setup, start and items are equal, both are paused or neither is, and of the
-- places where it owes verdicts both have claimed the same. Base, outbox and unfinished jobs may differ.
pub record AreAlike (a b : Participant) : Type 0 where
  pub topology : a.topology ≡ b.topology
  pub packages : a.packages ≡ b.packages
  pub me : a.me ≡ b.me
  pub start : a.start ≡ b.start
  pub items : items_of a ≡ items_of b
  pub claimed : (k : ℕ) → owes_there a k ≡ true → has_place a.state.claimed k ≡ has_place b.state.claimed k
  pub is_paused : a.state.is_paused ≡ b.state.is_paused

-- The participant reads requests as the machine does, and has the machine's times.
pub record IsOf (m : Machine) (p : Participant) : Type 0 where
  pub reading : m.reading ≡ reading_of p
  pub params : m.params ≡ params_of p
