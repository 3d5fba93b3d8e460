-- Participants as they are to each other.
use Rattle.std.specs.Prelude.{ℕ, ◌+◌, List, [], ◌∷◌}
use Rattle.ledger_terms.specs.declared.host.Host.{Host}
use Rattle.ledger_model.specs.Terms.{ParticipantId}
use Rattle.canton_model.specs.Inbox.{inbox}
use Rattle.canton_model.specs.Log.{Params}
use Rattle.canton_model.specs.Reading.{Reading}
use Rattle.canton_model.specs.declared.entry.Entry.{Entry}
use Rattle.commitment_text.specs.Knowledge.{Knowledge, knowledge_over}

-- a participant as another one sees it: its index in the topology, its name, and what it knows of active contracts
pub record Counterparty : Type 0 where
  pub number : ParticipantId
  pub name : List ℕ
  pub knowledge : Knowledge

-- Participant p with its name, its base, and what it knows over a whole log.
abbrev pub counterparty_over : Reading → Params → List Entry → ParticipantId → (name : List ℕ) → (base : ℕ) → Counterparty
counterparty_over reading params log p name base =
    record { number = p; name = name; knowledge = knowledge_over reading params p base (inbox reading p log) }

-- Each of these participants, the first of which has index p, with the name of its host and what it knows. Where one list is longer, the
-- rest of it is left out.
abbrev pub counterparties_from : ParticipantId → List Host → List Knowledge → List Counterparty
counterparties_from p [] known = []
counterparties_from p (host ∷ hosts) [] = []
counterparties_from p (host ∷ hosts) (knowledge ∷ known) =
    record { number = p; name = host.name; knowledge = knowledge } ∷ counterparties_from (p + 1) hosts known
