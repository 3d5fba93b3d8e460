-- What rules see of the participants of a synchroniser.
use Rattle.std.specs.Prelude.{◌≡◌, ℕ, ◌+◌, ◌<◌, ◌≤◌, List, [], Option, None, Some, length, slice_get}
use Rattle.ledger_model.specs.Terms.{ParticipantId}
use Rattle.ledger_terms.specs.declared.active_row.ActiveRow.{ActiveRow}
use Rattle.ledger_terms.specs.declared.limits.TheConstants.{MOST_RULES}
use Rattle.node_core.specs.Participant.{Participant}
use Rattle.trigger_model.specs.CausedRun.{active_at_clean}
use Rattle.trigger_rules.specs.declared.limits.TheConstants.{MOST_FIRES}
use Rattle.trigger_rules.specs.declared.rule.Rule.{Rule}
use Rattle.world_model.specs.Machine.{Machine}
use Rattle.world_play.specs.declared.world.World.{World}
use Rattle.canton_run.specs.Actives.{own_active}

-- the active contracts of a participant that was looked up, at its clean place; none where there is no participant
abbrev pub active_if : Option Participant → List ActiveRow
active_if None = []
active_if (Some participant) = own_active participant

-- Of the participants, which stand in the order of the topology, the active contracts of participant p at its clean place, by what it has read; none
-- where there is no p.
abbrev pub rows_at : List Participant → ParticipantId → List ActiveRow
rows_at participants p = active_if (slice_get participants p)

-- What has to hold where `ask_rules` is called: the rules are at most 16, and of participants that there are. `fired_by k` has the ids of the contracts
-- on which the rule with index k has fired. These are so few, and so few are active wherever its participant has read to, that there are ids for its
-- commands.
pub record CanBeAsked (m : Machine) (world : World) (rules : List Rule) (fired_by : ℕ → List (List ℕ)) : Type 0 where
  pub few : length rules ≤ MOST_RULES
  pub there : (k : ℕ) (rule : Rule) → slice_get rules k ≡ Some rule → rule.participant < length (world.nodes).items
  pub room : (k : ℕ) (rule : Rule) (read : ℕ) → slice_get rules k ≡ Some rule → read ≤ length (world.sequencer).list
      → length (fired_by k) + length (active_at_clean m.reading m.params rule.participant read (world.sequencer).list) < MOST_FIRES
