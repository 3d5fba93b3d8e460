-- The active contracts of participants are those in what they know.
use Rattle.std.proofs.Common.{◌≡◌, List, [], ◌∷◌, map, refl, ap}
use Rattle.ledger_terms.specs.declared.active_row.ActiveRow.{ActiveRow}
use Rattle.node_core.specs.Participant.{Participant}
use Rattle.node_core.specs.Views.{actives_in}
use Rattle.script_read.specs.declared.round.Round.{Round}
use Rattle.canton_run.specs.Actives.{own_active}
use Rattle.canton_run.specs.Restarts.{view_in}

pub actives_are : (rounds : List Round) (nodes : List Participant) → map own_active nodes ≡ actives_in (map (view_in rounds) nodes)
actives_are rounds [] = refl
actives_are rounds (node ∷ nodes) = ap (λ (rest : List (List ActiveRow)). own_active node ∷ rest) (actives_are rounds nodes)
