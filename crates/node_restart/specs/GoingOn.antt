-- A participant that has restarted goes on, beside one that never stopped.
use Rattle.std.specs.Prelude.{ℕ, ◌++◌, List, [], filter, not}
use Rattle.canton_model.specs.Inbox.{Item, items_after}
use Rattle.world_model.specs.Machine.{GenuineLog, Machine}
use Rattle.world_model.specs.Messages.{Entry}
use Rattle.world_model.specs.Node.{NodeState, with_items}
use Rattle.world_model.specs.Places.{has_place}
use Rattle.node_core.specs.Answers.{IsOf}
use Rattle.node_core.specs.Participant.{HasRead, Participant, items_of, reading_of, with_state}
use Rattle.node_restart.specs.Restarted.{HasRestarted}

-- The participant p, which has read the entries `read`, after it has read `more` behind them.
abbrev pub having_read : (read more : List Entry) → Participant → Participant
having_read read more p = with_state p (with_items p.state (items_of p ++ items_after (reading_of p) p.me read more))

-- The state of p with the inbox `whole`, had it never stopped and had it put back the jobs that it hadn't finished.
abbrev pub never_stopped : Participant → List Item → NodeState
never_stopped p whole =
    record {
      items = whole;
      is_paused = (p.state).is_paused;
      claimed = filter (λ (k : ℕ). not (has_place (p.state).unfinished k)) (p.state).claimed;
      unfinished = [];
      outbox = (p.state).outbox;
    }

-- The participant `before` of the machine had read all of `log` and has restarted as `after`, and the log goes on with `more`, genuine as a whole.
pub record CanGoOn (m : Machine) (log more : List Entry) (before after : Participant) : Type 0 where
  pub is_of : IsOf m before
  pub genuine : GenuineLog m (log ++ more)
  pub was : HasRead m log before
  pub restarted : HasRestarted m log before after
