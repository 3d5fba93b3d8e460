-- What a participant has read of a log.
use Rattle.std.specs.Prelude.{◌≡◌, ◌≤◌, ℕ, List, length, take}
use Rattle.canton_model.specs.Genuine.{Genuine}
use Rattle.canton_model.specs.Inbox.{inbox}
use Rattle.world_model.specs.Messages.{Entry}
use Rattle.world_model.specs.Node.{with_items}
use Rattle.node_core.specs.OverLog.{HasInbox, inbox_over, kept_of}
use Rattle.node_core.specs.Participant.{Participant as NodeValue, reading_of, with_state}

-- The participant once it has read just these entries, the first of a log, and nothing else of it is changed: its items are what it keeps of their
-- inbox. It is what `read_to_end` makes of it with all entries of the log.
abbrev pub has_read : NodeValue → List Entry → NodeValue
has_read node read = with_state node (with_items node.state (kept_of node (inbox (reading_of node) node.me read)))

-- The log is genuine, and the participant has read a beginning of it: what `read_to_end` asks.
pub record Reads (node : NodeValue) (log : List Entry) : Type 0 where
  pub genuine : Genuine (reading_of node) (node.topology).params log
  pub inbox : HasInbox (inbox_over log node) node

-- The node is what `first` becomes when it reads on to some place of the log, `read`, which may be where it was. `read_to_end` leaves no other, after
-- want of memory either.
pub record IsReader (first : NodeValue) (log : List Entry) (node : NodeValue) : Type 0 where
  pub read : ℕ
  pub from : length (first.state).items ≤ read
  pub within : read ≤ length log
  pub is : node ≡ has_read first (take read log)
