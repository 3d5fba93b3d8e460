-- What the requests of a rule have to be: each one Exercise by the rule's party, and each of another contract.
use Rattle.std.specs.Prelude.{Bool, true, false, List, [], ◌∷◌, Option, Some, None, nat_eq, ◌&&◌}
use Rattle.std.specs.List.{list_any}
use Rattle.std.specs.Str.{bytes_eq}
use Rattle.ledger_model.specs.Terms.{Name, PartySet, Hash, Action, Create, Exercise, Fetch, Act}
use Rattle.ledger_model.specs.Forest.{Forest, NoRoots, Root}
use Rattle.ledger_model.specs.Opening.{Transaction}
use Rattle.world_model.specs.Messages.{Entry, Message, RequestMessage, ResponseMessage, VerdictMessage, Tick, Request}
use Rattle.canton_model.specs.Reading.{Reading}
use Rattle.audit_model.specs.Standard.{Rule, Standard}

-- the request has a command that is kept for the rule, and the rule's participant is its sender
abbrev pub is_caused_by : Rule → Request → Bool
is_caused_by rule request = nat_eq rule.participant request.sender && rule.has_command request.command

-- whether the party is the one member of this set
abbrev pub is_just : Name → PartySet → Bool
is_just party [] = false
is_just party (one ∷ []) = bytes_eq one party
is_just party (one ∷ other ∷ rest) = false

-- the id of the contract that the action exercises, None of a Create or a Fetch
abbrev pub exercised_by : Action → Option Hash
exercised_by (Create id instance) = None
exercised_by (Exercise id salt instance choice args actors consuming result) = Some id
exercised_by (Fetch id salt instance actors) = None

-- The id of the contract that the one root of the forest exercises. None where there is no root or more than one, or it isn't an Exercise.
abbrev pub exercised_in : Forest Act → Option Hash
exercised_in NoRoots = None
exercised_in (Root act below NoRoots) = exercised_by act.action
exercised_in (Root act below (Root other more others)) = None

-- the second argument where the truth value is true, else None
abbrev pub if_true : {X : Type 0} → Bool → Option X → Option X
if_true true x = x
if_true false x = None

-- The id of the contract that a transaction exercises for the rule: its one root does, and its requesters are the rule's party alone. None of any
-- other transaction, and where there is none.
abbrev pub exercised_for : Rule → Option Transaction → Option Hash
exercised_for rule None = None
exercised_for rule (Some transaction) = if_true (is_just rule.party transaction.requesters) (exercised_in transaction.roots)

-- whether there is an id (first argument) and it is that of the contract (second argument)
abbrev pub is_contract : Option Hash → Hash → Bool
is_contract None contract = false
is_contract (Some id) contract = bytes_eq contract id

-- whether the message is a request with a command of the rule that exercises this contract for it
abbrev pub has_exercised : Reading → Rule → Hash → Message → Bool
has_exercised reading rule contract (RequestMessage request) =
    is_caused_by rule request && is_contract (exercised_for rule (reading.whole request)) contract
has_exercised reading rule contract (ResponseMessage response) = false
has_exercised reading rule contract (VerdictMessage verdict) = false
has_exercised reading rule contract Tick = false

-- Whether a request of the rule may not exercise this contract for it, since an earlier request of the rule, in the log `before`, exercises it. True
-- as well where the request exercises nothing for the rule (None).
abbrev pub is_wrong_use : Reading → Rule → (before : List Entry) → Option Hash → Bool
is_wrong_use reading rule before None = true
is_wrong_use reading rule before (Some contract) = list_any (λ (entry : Entry). has_exercised reading rule contract entry.message) before

-- the request has a command of the rule, and isn't what the rule may cause after the log `before`
abbrev pub is_wrongly_caused_by : Reading → (before : List Entry) → Request → Rule → Bool
is_wrongly_caused_by reading before request rule =
    is_caused_by rule request && is_wrong_use reading rule before (exercised_for rule (reading.whole request))

-- the message is a request with a command of a rule of its sender, and isn't what that rule may cause after the log `before`
abbrev pub is_wrong_trigger : Standard → (before : List Entry) → Message → Bool
is_wrong_trigger s before (RequestMessage request) = list_any (is_wrongly_caused_by s.reading before request) s.rules
is_wrong_trigger s before (ResponseMessage response) = false
is_wrong_trigger s before (VerdictMessage verdict) = false
is_wrong_trigger s before Tick = false
