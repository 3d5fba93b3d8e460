-- The active contracts of participants.
use Rattle.std.specs.Prelude.{false, List}
use Rattle.ledger_terms.specs.declared.active_row.ActiveRow.{ActiveRow}
use Rattle.node_core.specs.Participant.{Participant}
use Rattle.node_core.specs.Views.{view_of}

-- the active contracts of a participant at its clean place, by what it has read
abbrev pub own_active : Participant → List ActiveRow
own_active participant = (view_of false participant).active
