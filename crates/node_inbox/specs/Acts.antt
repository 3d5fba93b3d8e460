-- Actions as they are walked.
use Rattle.std.specs.Prelude.{Bool, false, ◌&&◌}
use Rattle.ledger_terms.specs.declared.act.Act.{Act}
use Rattle.ledger_model.specs.Terms.{id_of}
use Rattle.ledger_model.specs.declared.status.Status.TheVariants.{Unknown}
use Rattle.contract_store.specs.Stored.{is_held}
use Rattle.contract_store.specs.Written.{is_change}
use Rattle.interpret.specs.Ids.{is_authentic}
use Rattle.confirm_reply.specs.declared.id_facts.IdFacts.{IdFacts}
use Rattle.inbox_registry.specs.Registry.{Registered, known_status}

-- Whether an action is a change, so that it creates or consumes its contract, and is authentic.
abbrev pub is_authentic_change : Act → Bool
is_authentic_change act = is_change act && is_authentic act

-- A fact on the contract of an action as long as nothing is known of the contract: it counts as unknown and as not held.
abbrev pub blank_fact : Act → IdFacts
blank_fact act = record { id = id_of act.action; status = Unknown; locked = false }

-- What a registry says of the contract that a fact is on: its status, and whether an undecided request holds it. Of the given fact only the id is used.
abbrev pub fact_in : Registered → IdFacts → IdFacts
fact_in stands fact =
    record { id = fact.id; status = known_status stands.start (stands.store).rows fact.id; locked = is_held (stands.store).holds fact.id }
