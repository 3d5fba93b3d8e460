-- Participants beside a log of which they have read a beginning.
use Rattle.std.specs.Prelude.{◌≡◌, ◌++◌, ℕ, true, List, drop, length, take}
use Rattle.canton_model.specs.Inbox.{Item, inbox}
use Rattle.world_model.specs.Messages.{Entry}
use Rattle.world_model.specs.Node.{NodeState, waits_at}
use Rattle.pruned_inbox.specs.Forgotten.{silent_front}
use Rattle.node_core.specs.Participant.{IsPrunedTo, Participant, items_of, owes_there, reading_of, whole_state}

-- The whole inbox of a participant, as the log gives it for the entries that the participant has read.
abbrev pub inbox_over : List Entry → Participant → List Item
inbox_over log p = inbox (reading_of p) p.me (take (length (items_of p)) log)

-- The participant's state, had it kept all items of the entries of the log that it has read.
abbrev pub state_over : List Entry → Participant → NodeState
state_over log p = whole_state p (inbox_over log p)

-- The items that a participant keeps of its whole inbox: silent ones below its base, and those from there on.
abbrev pub kept_of : Participant → List Item → List Item
kept_of p whole = silent_front p.base p.base_time ++ drop p.base whole

-- The participant keeps this whole inbox, pruned to its base, and owes verdicts to each request to which a response waits.
pub record HasInbox (whole : List Item) (p : Participant) : Type 0 where
  pub pruned : IsPrunedTo whole p
  pub waits : (k : ℕ) → waits_at p.state.outbox k ≡ true → owes_there p k ≡ true
