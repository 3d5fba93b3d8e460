-- What a participant knows of contracts, as it is handed to a check.
use Rattle.std.specs.Prelude.{◌≡◌, ℕ, Bool, true, false, List, Option, Some, None, find, Contains}
use Rattle.std.specs.Str.{bytes_eq}
use Rattle.ledger_model.specs.Terms.{Act, Hash, ParticipantId, id_of}
use Rattle.ledger_model.specs.declared.status.Status.{Status}
use Rattle.ledger_model.specs.declared.status.Status.TheVariants.{Unknown}
use Rattle.canton_model.specs.Reading.{Reading}
use Rattle.canton_model.specs.Inbox.{has_hosted_stakeholder}
use Rattle.confirm_reply.specs.declared.id_facts.IdFacts.{IdFacts}

-- the first fact on the contract with this id, and None where there is none
abbrev pub fact_on : List IdFacts → Hash → Option IdFacts
fact_on facts c = find (λ (fact : IdFacts). bytes_eq fact.id c) facts

-- the status that a fact says, and Unknown where there is no fact
abbrev pub status_of : Option IdFacts → Status
status_of None = Unknown
status_of (Some fact) = fact.status

-- whether a fact says that its contract is locked; false where there is no fact
abbrev pub lock_of : Option IdFacts → Bool
lock_of None = false
lock_of (Some fact) = fact.locked

-- the status of a contract by these facts; one without a fact is unknown
abbrev pub known_status : List IdFacts → Hash → Status
known_status facts c = status_of (fact_on facts c)

-- whether a contract is locked by these facts; one without a fact isn't
abbrev pub is_known_locked : List IdFacts → Hash → Bool
is_known_locked facts c = lock_of (fact_on facts c)

-- The fact says of its contract what `known` has as its status and `held` as whether a request holds it.
pub record IsFactOf (known : Hash → Status) (held : Hash → Bool) (fact : IdFacts) : Type 0 where
  pub status : fact.status ≡ known fact.id
  pub locked : fact.locked ≡ held fact.id

-- Of each contract on which an action of the core is that has roles, and of which participant p hosts a stakeholder, the facts say the status that
-- `known` has and the lock that `held` has.
pub record AreKnown (reading : Reading) (p : ParticipantId) (known : Hash → Status) (held : Hash → Bool) (facts : List IdFacts)
    (core : List (ℕ × Act)) : Type 0 where
  pub status : (a : ℕ × Act) → Contains core a → (reading.language).has_roles (a.1).action ≡ true → has_hosted_stakeholder reading p a.1 ≡ true
      → known_status facts (id_of (a.1).action) ≡ known (id_of (a.1).action)
  pub locked : (a : ℕ × Act) → Contains core a → (reading.language).has_roles (a.1).action ≡ true → has_hosted_stakeholder reading p a.1 ≡ true
      → is_known_locked facts (id_of (a.1).action) ≡ held (id_of (a.1).action)
