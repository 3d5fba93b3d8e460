-- Worked examples, over three participants that host Bank, Alice and Carol, and contracts whose id is 9 and the salt.
use Rattle.std.specs.Prelude.{ℕ, zero, suc, ◌+◌, Bool, true, false, List, [], ◌∷◌, ◌++◌, Option, Some, None, option_map, map, flat_map, take, drop}
use Rattle.std.specs.Prelude.{nat_eq, nat_lt, not, if◌then◌else◌, ◌&&◌, ◌||◌}
use Rattle.std.specs.Str.{bytes_eq}
use Rattle.std.specs.Cmp.Lexicographic.{pointwise}
use Rattle.ledger_terms.specs.contracts.value.ValuePartialEq.TheImpl as value_eq
use Rattle.ledger_terms.specs.contracts.template_name.TemplateNamePartialEq.TheImpl as template_eq
use Rattle.ledger_terms.specs.declared.value.Value.TheVariants.{Party as PartyValue, Unit as UnitValue}
use Rattle.ledger_model.specs.Terms.{Name, PartySet, Value, Instance, Action, Act, Create, Exercise, Fetch, Hash, id_of, instance_of, ParticipantId, Path}
use Rattle.ledger_model.specs.Forest.{Forest, NoRoots, Root, paths_from}
use Rattle.ledger_model.specs.Language.{Language, roles_of}
use Rattle.ledger_model.specs.Views.{View, views, confirmers_of}
use Rattle.ledger_model.specs.declared.step.ChoiceCall.{ChoiceCall}
use Rattle.ledger_model.specs.declared.step.ChildResult.{ChildResult}
use Rattle.ledger_model.specs.declared.step.Step.{Step}
use Rattle.ledger_model.specs.declared.step.Step.TheVariants.{Create as CreateNext, Done}
use Rattle.canton_model.specs.Log.{Params, Entry, Request, ViewVerdict, LocalVerdict, Approve, Reject, Locked, Decision, Approved, Rejected}
use Rattle.canton_model.specs.Log.{ViewMissing, TimedOut, RequestMessage, ResponseMessage, VerdictMessage, Tick}
use Rattle.ledger_model.specs.Opening.{Transaction, OpenedView, Shown, shown_of, confirming_of}
use Rattle.canton_model.specs.Reading.{Reading, Outlined, Offer, Mismatch, Missing, Open}

-- Alice's name, "A"
abbrev pub alice : Name
alice = 65 ∷ []

-- Bank's name, "B"; Bank issues the contracts that are transferred
abbrev pub bank : Name
bank = 66 ∷ []

-- Carol's name, "C", to whom contracts are transferred
abbrev pub carol : Name
carol = 67 ∷ []

-- whether the participant of this number hosts and confirms for the party: 0 is Bank's, 1 Alice's and 2 Carol's
abbrev pub hosts : ℕ → Name → Bool
hosts zero name = bytes_eq name bank
hosts (suc zero) name = bytes_eq name alice
hosts (suc (suc zero)) name = bytes_eq name carol
hosts (suc (suc (suc p))) name = false

-- whether a list is empty
abbrev pub is_empty : {X : Type 0} → List X → Bool
is_empty [] = true
is_empty (x ∷ xs) = false

-- the instance of a contract, with the issuer's and the owner's names as its fields
abbrev pub contract : Name → Name → Instance
contract issuer owner = record { template = record { «package» = []; name = [] }; fields = PartyValue issuer ∷ PartyValue owner ∷ [] }

-- the party that a value is, in a list of one; no party where it is of another kind
abbrev pub party_in : Value → PartySet
party_in (PartyValue name) = name ∷ []
party_in _ = []

-- the party of the first field, the issuer, in a list; none where there is no such field or it is no party
abbrev pub first_field : List Value → PartySet
first_field [] = []
first_field (v ∷ vs) = party_in v

-- the party of the second field, the owner, in a list; none where there is no such field or it is no party
abbrev pub second_field : List Value → PartySet
second_field [] = []
second_field (v ∷ vs) = first_field vs

-- The fields of the contract that a transfer creates: the issuer of the one that is transferred, and the transfer's argument as the owner.
abbrev pub transferred : ChoiceCall → List Value
transferred call = take 1 call.instance.fields ++ call.args

-- the transfer's body, after what its children so far gave: it creates one contract, and then ends with unit
abbrev pub next : ChoiceCall → List ChildResult → Option Step
next call [] = Some (CreateNext (call.instance).template (transferred call))
next call (seen ∷ more) = Some (Done UnitValue)

-- A contract language in which the issuer signs a contract, the owner observes it, and every choice is the transfer, which anybody may exercise.
abbrev pub language : Language
language =
    record {
      signatories = λ i. first_field i.fields;
      observers = λ i. second_field i.fields;
      choice_observers = λ call. [];
      has_roles = λ a. not (is_empty (first_field (instance_of a).fields));
      has_kinds = λ i. true;
      is_creatable = λ i. true;
      is_exercisable = λ call actors consuming result. true;
      next = next;
    }

-- whether the action is the Create of the contract that this transfer creates
abbrev pub is_transferred : ChoiceCall → Action → Bool
is_transferred call (Create id instance) =
    template_eq.ghosts.eq instance.template (call.instance).template && pointwise value_eq.ghosts.eq instance.fields (transferred call)
is_transferred call (Exercise id salt instance choice args actors consuming result) = false
is_transferred call (Fetch id salt instance actors) = false

-- whether the consequences and the result are what the transfer's body makes: one Create, that of the contract that it creates (`is_transferred`), and
-- unit
abbrev pub follows_body : ChoiceCall → (result : Value) → Forest Act → Bool
follows_body call result NoRoots = false
follows_body call result (Root act NoRoots NoRoots) = is_transferred call act.action && value_eq.ghosts.eq UnitValue result
follows_body call result (Root act (Root child below next) others) = false
follows_body call result (Root act NoRoots (Root other below next)) = false

-- whether the forest of an action's consequences is empty
abbrev pub is_alone : Forest Act → Bool
is_alone NoRoots = true
is_alone (Root act below others) = false

-- whether an action's consequences are possible: those of a transfer's body below an Exercise, and none below a Create or a Fetch
abbrev pub is_followed : Action → Forest Act → Bool
is_followed (Create id instance) consequences = is_alone consequences
is_followed (Exercise id salt instance choice args actors consuming result) consequences =
    follows_body (record { id = id; instance = instance; choice = choice; args = args }) result consequences
is_followed (Fetch id salt instance actors) consequences = is_alone consequences

-- The test of conformance in this language: each root has possible consequences.
abbrev pub conforms : Forest Act → Bool
conforms NoRoots = true
conforms (Root act consequences others) = is_followed act.action consequences && conforms others

-- the Create of a contract with this instance, whose id is 9 and the seed
abbrev pub create : (seed : ℕ) → Instance → Act
create seed instance = record { seed = seed ∷ []; action = Create (9 ∷ seed ∷ []) instance }

-- Alice's transfer to Carol of the contract of seed 1, without its consequences; the seed of the transfer itself is 100 + `seed`
abbrev pub transfer_act : (seed : ℕ) → Act
transfer_act seed =
    record {
      seed = (100 + seed) ∷ [];
      action = Exercise (9 ∷ 1 ∷ []) (1 ∷ []) (contract bank alice) (84 ∷ []) (PartyValue carol ∷ []) (alice ∷ []) true UnitValue;
    }

-- The transfer of the contract of seed 1 to Carol, with the Create below it, whose seed is the number; the last argument are the roots after it.
abbrev pub transfer : (seed : ℕ) → Forest Act → Forest Act
transfer seed others = Root (transfer_act seed) (Root (create seed (contract bank carol)) NoRoots NoRoots) others

-- Alice's Fetch of a contract that Bank issued to her, which the Fetch says to have this id and salt
abbrev pub fetch : (id salt : Hash) → Act
fetch id salt = record { seed = 50 ∷ []; action = Fetch id salt (contract bank alice) (alice ∷ []) }

-- the transaction with these roots that Alice requests at ledger time 0
abbrev pub of_alice : Forest Act → Transaction
of_alice roots = record { requesters = alice ∷ []; ledger_time = 0; roots = roots }

-- the transaction by which Bank issues a contract of seed 1 to Alice
abbrev pub issue : Transaction
issue = record { requesters = bank ∷ []; ledger_time = 0; roots = Root (create 1 (contract bank alice)) NoRoots NoRoots }

-- the transaction of one Create of a contract of Alice's own, at this ledger time
abbrev pub alone_at : (ledger_time : ℕ) → Transaction
alone_at ledger_time = record { requesters = alice ∷ []; ledger_time = ledger_time; roots = Root (create 5 (contract alice alice)) NoRoots NoRoots }

-- the instance of a contract of Alice's own, of a package that nobody has vetted
abbrev pub foreign : Instance
foreign = record { template = record { «package» = 88 ∷ []; name = [] }; fields = PartyValue alice ∷ PartyValue alice ∷ [] }

-- the instance of a contract without fields, which has no signatory
abbrev pub unsigned : Instance
unsigned = record { template = record { «package» = []; name = [] }; fields = [] }

-- The transaction of each number (its request's command): 1 the issue, 4 a fetch, 5 a create, 6 a forged and 7 an invented fetch, 8 a transfer and a
-- fetch, 9 a create that Bank didn't ask for, 11 and 12 creates ahead of time, 13 one of an unvetted package, 14 a transfer that creates nothing, 28
-- one that creates Alice a contract, 29 one that creates an unsigned one, 2, 3 and others above 19 transfers to Carol, any other two creates.
abbrev pub transaction_of : ℕ → Transaction
transaction_of n =
    if nat_eq n 1 then issue
    else if nat_eq n 2 then of_alice (transfer 2 NoRoots)
    else if nat_eq n 3 then of_alice (transfer 3 NoRoots)
    else if nat_eq n 4 then of_alice (Root (fetch (9 ∷ 1 ∷ []) (1 ∷ [])) NoRoots NoRoots)
    else if nat_eq n 5 then of_alice (Root (create 5 (contract alice alice)) NoRoots NoRoots)
    else if nat_eq n 6 then of_alice (Root (fetch (9 ∷ 1 ∷ []) (0 ∷ [])) NoRoots NoRoots)
    else if nat_eq n 7 then of_alice (Root (fetch (9 ∷ 0 ∷ []) (0 ∷ [])) NoRoots NoRoots)
    else if nat_eq n 8 then of_alice (transfer 8 (Root (fetch (9 ∷ 1 ∷ []) (1 ∷ [])) NoRoots NoRoots))
    else if nat_eq n 9 then of_alice (Root (create 9 (contract bank alice)) NoRoots NoRoots)
    else if nat_eq n 11 then alone_at 60000001
    else if nat_eq n 12 then alone_at 60000002
    else if nat_eq n 13 then of_alice (Root (create 13 foreign) NoRoots NoRoots)
    else if nat_eq n 14 then of_alice (Root (transfer_act 14) NoRoots NoRoots)
    else if nat_eq n 28 then of_alice (Root (transfer_act 28) (Root (create 28 (contract bank alice)) NoRoots NoRoots) NoRoots)
    else if nat_eq n 29 then of_alice (Root (transfer_act 29) (Root (create 29 unsigned) NoRoots NoRoots) NoRoots)
    else if nat_lt 19 n then of_alice (transfer n NoRoots)
    else of_alice (Root (create 10 (contract alice alice)) NoRoots (Root (create 11 (contract bank alice)) NoRoots NoRoots))

-- the number of a transaction, which its request has as its command; 0 of an empty command
abbrev pub number_of : Name → ℕ
number_of [] = 0
number_of (n ∷ ns) = n

-- the salt of the contract that an action is on, where the first argument is the action's seed, which is the salt of what it creates
abbrev pub salt_in : Hash → Action → Hash
salt_in seed (Create id instance) = seed
salt_in seed (Exercise id salt instance choice args actors consuming result) = salt
salt_in seed (Fetch id salt instance actors) = salt

-- the salt of the contract that an action is on
abbrev pub salt_of : Act → Hash
salt_of act = salt_in act.seed act.action

-- The request of the transaction of number n by this sender. It asks those who confirm one of the transaction's views, and has no bytes.
abbrev pub request_for : (sender n : ℕ) → Request
request_for sender n =
    record {
      sender = sender;
      command = n ∷ [];
      confirming = confirming_of language hosts (0 ∷ 1 ∷ 2 ∷ []) (transaction_of n).roots;
      mediator = [];
      envelopes = [];
    }

-- whether the request q is the request `this`, which has no bytes
abbrev pub is_that : Request → Request → Bool
is_that this q =
    nat_eq q.sender this.sender
    && (bytes_eq q.command this.command && (bytes_eq q.confirming this.confirming && (is_empty q.mediator && is_empty q.envelopes)))

-- Whether the request is framed: true just of the three requests of the log `two_spends`, and of the one that is kept from Carol's participant (24).
abbrev pub is_framed : Request → Bool
is_framed q = is_that (request_for 0 1) q || (is_that (request_for 1 2) q || (is_that (request_for 1 3) q || is_that (request_for 1 24) q))

-- the name of a participant: P1 of participant 0, P2 of 1 and so on
abbrev pub name_of : ParticipantId → Name
name_of p = 80 ∷ (49 + p) ∷ []

-- The name of the sender that is shown of request n. In 22 it is P1, whoever the sender is, and in all others the true sender's.
abbrev pub said : (n sender : ℕ) → Name
said n sender = name_of (if nat_eq n 22 then 0 else sender)

-- The requesters that are shown of request n, where `names` are the true ones. In 25 Bank is said to be one too.
abbrev pub said_requesters : (n : ℕ) → PartySet → PartySet
said_requesters n names = if nat_eq n 25 then names ++ bank ∷ [] else names

-- whether the path is that of the view 0.0
abbrev pub is_second : Path → Bool
is_second path = bytes_eq path (0 ∷ 0 ∷ [])

-- The informees that are told of the view of request n with this path, where the last argument is the true ones. In 23 the view 0.0 is said to be
-- Bank's alone.
abbrev pub said_informees : (n : ℕ) → Path → PartySet → PartySet
said_informees n path informees = if nat_eq n 23 && is_second path then bank ∷ [] else informees

-- The confirmers that are told of the view of request n with this path, where the last argument is the true ones. In 26 the view 0.0 is said to be
-- confirmed by Carol too.
abbrev pub said_confirmers : (n : ℕ) → Path → PartySet → PartySet
said_confirmers n path confirmers = if nat_eq n 26 && is_second path then bank ∷ carol ∷ [] else confirmers

-- the outline of the first view alone, without any other, which is told of request 27
abbrev pub merged : Forest Outlined → Forest Outlined
merged NoRoots = NoRoots
merged (Root view below others) = Root view NoRoots NoRoots

-- the outline with a view that Bank confirms below the first one, which is told of request 28, whose one view is said to be two
abbrev pub parted : Forest Outlined → Forest Outlined
parted NoRoots = NoRoots
parted (Root view below others) = Root view (Root (record { informees = view.informees; confirmers = bank ∷ [] }) NoRoots NoRoots) NoRoots

-- the true views of request n, given with their paths, as an outline with the informees and confirmers that the mediator is told of each
abbrev pub outlined : (n : ℕ) → Forest (Path × View) → Forest Outlined
outlined n NoRoots = NoRoots
outlined n (Root view below others) =
    Root (record {
      informees = said_informees n view.0 (view.1).informees;
      confirmers = said_confirmers n view.0 (confirmers_of (roles_of language) view.1);
    })
    (outlined n below) (outlined n others)

-- the outline that is told of request n, where `views` is that of its true views: in 27 the two are one, and in 28 the one is two
abbrev pub said_outline : (n : ℕ) → Forest Outlined → Forest Outlined
said_outline n views = if nat_eq n 27 then merged views else if nat_eq n 28 then parted views else views

-- the outline that the mediator is told of request n, which is of transaction t
abbrev pub outline_of : (n : ℕ) → Transaction → Forest Outlined
outline_of n t = said_outline n (outlined n (paths_from [] 0 (views (roles_of language) t.roots)))

-- A view of request n, given as it truly is, with the informees and confirmers that are told of it. So views are shown, but for those of the requests
-- 27 and 28 (`said_views`).
abbrev pub said_view : (n : ℕ) → OpenedView → OpenedView
said_view n view =
    record {
      path = view.path;
      informees = said_informees n view.path view.informees;
      confirmers = said_confirmers n view.path view.confirmers;
      core = view.core;
    }

-- the views as request 27 shows them: the first one, with all actions of the others in its core
abbrev pub merged_views : List OpenedView → List OpenedView
merged_views [] = []
merged_views (view ∷ more) =
    record {
      path = view.path;
      informees = view.informees;
      confirmers = view.confirmers;
      core = view.core ++ flat_map (λ (other : OpenedView). other.core) more;
    }
    ∷ []

-- the views as request 28 shows them: the first one with its first action alone, and a view below it with the rest of its core
abbrev pub parted_views : List OpenedView → List OpenedView
parted_views [] = []
parted_views (view ∷ more) =
    record { path = view.path; informees = view.informees; confirmers = view.confirmers; core = take 1 view.core }
    ∷ record { path = view.path ++ 0 ∷ []; informees = view.informees; confirmers = bank ∷ []; core = drop 1 view.core }
    ∷ []

-- the views that an envelope of request n shows, where `views` are the true ones
abbrev pub said_views : (n : ℕ) → List OpenedView → List OpenedView
said_views n views = if nat_eq n 27 then merged_views views else if nat_eq n 28 then parted_views views else map (said_view n) views

-- what an envelope of request n shows, where `shown` is what is true: the requesters and the views are those that the request claims
abbrev pub misstated : (n : ℕ) → Shown → Shown
misstated n shown =
    record {
      sender = shown.sender;
      ledger_time = shown.ledger_time;
      requesters = option_map (said_requesters n) shown.requesters;
      roots = shown.roots;
      views = said_views n shown.views;
    }

-- Whether the envelopes of request n go through `misstated`: 23 and all above 24. Those above 28 come out of it as they are.
abbrev pub is_misstated : (n : ℕ) → Bool
is_misstated n = nat_eq n 23 || nat_lt 24 n

-- What a complete envelope of request n offers, where the second argument is what an honest sender would show in it. Missing where that is nothing
-- (None).
abbrev pub opening : (n : ℕ) → Option Shown → Offer
opening n None = Missing
opening n (Some shown) = Open (if is_misstated n then misstated n shown else shown)

-- What the envelope of request n offers participant p, where `shown` is what an honest sender would show it. Request 20 has no envelope to P1, 24
-- none to P3, and that of 21 to P1 is another tree.
abbrev pub offer_of : (n p : ℕ) → Option Shown → Offer
offer_of n p shown =
    if (nat_eq n 20 && nat_eq p 0) || (nat_eq n 24 && nat_eq p 2) then Missing
    else if nat_eq n 21 && nat_eq p 0 then Mismatch
    else opening n shown

-- The reading of these requests: what each says follows from its command, which is the number of its transaction.
abbrev pub reading : Reading
reading =
    record {
      outline = λ q. outline_of (number_of q.command) (transaction_of (number_of q.command));
      offered = λ p q. offer_of (number_of q.command) p
          (shown_of language (hosts p) (nat_eq p q.sender) (said (number_of q.command) q.sender) (transaction_of (number_of q.command)));
      whole = λ q. Some (transaction_of (number_of q.command));
      is_framed = is_framed;
      is_authentic = λ a. bytes_eq (id_of a.action) (9 ∷ salt_of a);
      language = language;
      conforms = conforms;
      is_named = λ p name. bytes_eq name (name_of p);
      hosts = hosts;
      confirms = hosts;
      has_vetted = λ p name. is_empty name;
    }

-- timeouts of 30 seconds each, and a skew of 60 seconds, in microseconds
abbrev pub params : Params
params = record { response_timeout = 30000000; reaction_timeout = 30000000; skew = 60000000 }

-- the entry at this time of the request of transaction n by this sender
abbrev pub request : (time sender n : ℕ) → Entry
request time sender n = record { time = time; message = RequestMessage (request_for sender n) }

-- the entry at this time of the response with these verdicts of participant `from` to the request at place k
abbrev pub response : (time from k : ℕ) → List ViewVerdict → Entry
response time from k verdicts =
    record { time = time; message = ResponseMessage (record { from = from; request = k; verdicts = verdicts }) }

-- the entry at this time of the mediator's verdict on the request at place k
abbrev pub verdict : (time k : ℕ) → Decision → Entry
verdict time k decision = record { time = time; message = VerdictMessage (record { request = k; decision = decision }) }

-- the entry of a Tick at this time
abbrev pub tick : ℕ → Entry
tick time = record { time = time; message = Tick }

-- the verdict v on the view with this path, as a response has it
abbrev pub on : List ℕ → LocalVerdict → ViewVerdict
on path v = record { view = path; verdict = v }

-- the verdict v on the view 0, as a response has it
abbrev pub v0 : LocalVerdict → ViewVerdict
v0 v = on (0 ∷ []) v

-- the verdict v on the view 0.0, as a response has it
abbrev pub v00 : LocalVerdict → ViewVerdict
v00 v = on (0 ∷ 0 ∷ []) v

-- the verdict v on the view 1, as a response has it
abbrev pub v1 : LocalVerdict → ViewVerdict
v1 v = on (1 ∷ []) v

-- the log of the issue of a contract to Alice, which is approved at place 2, with `rest` as the entries after it
abbrev pub after_b : List Entry → List Entry
after_b rest =
    request 1 0 1
    ∷ response 2 0 0 (v0 Approve ∷ [])
    ∷ verdict 3 0 Approved
    ∷ rest

-- The log of two transfers of one contract that are both requested before one is decided. The first is approved, and the second rejected as Locked.
abbrev pub two_spends : List Entry
two_spends =
    after_b (
    request 4 1 2
    ∷ request 5 1 3
    ∷ response 6 0 3 (v0 Approve ∷ v00 Approve ∷ [])
    ∷ response 7 0 4 (v0 (Reject Locked 0) ∷ v00 Approve ∷ [])
    ∷ response 8 1 3 (v0 Approve ∷ [])
    ∷ response 9 1 4 (v0 (Reject Locked 0) ∷ [])
    ∷ verdict 10 3 Approved
    ∷ verdict 11 4 (Rejected 0 (0 ∷ []) Locked)
    ∷ []
    )

-- the log in which a Fetch of the contract is requested after a transfer of it that isn't decided
abbrev pub fetch_of_locked : List Entry
fetch_of_locked = after_b (request 4 1 2 ∷ request 5 1 4 ∷ [])

-- The log in which a transfer times out, since Bank's participant doesn't respond by the deadline, and a later one is approved.
abbrev pub timeout : List Entry
timeout =
    after_b (
    request 4 1 2
    ∷ response 5 1 3 (v0 Approve ∷ [])
    ∷ tick 30000005
    ∷ verdict 30000006 3 (TimedOut (0 ∷ []))
    ∷ request 30000007 1 3
    ∷ response 30000008 0 7 (v0 Approve ∷ v00 Approve ∷ [])
    ∷ response 30000009 1 7 (v0 Approve ∷ [])
    ∷ verdict 30000010 7 Approved
    ∷ []
    )

-- the log in which a Tick stands on the deadline and not past it, so that the transfer isn't timed out
abbrev pub early_tick : List Entry
early_tick = after_b (request 4 1 2 ∷ response 5 1 3 (v0 Approve ∷ []) ∷ tick 30000004 ∷ [])

-- the log of a request without a verdict, with one Tick on its decision time and one past it
abbrev pub past_decision_time : List Entry
past_decision_time = request 1 1 5 ∷ response 2 1 0 (v0 Approve ∷ []) ∷ tick 60000001 ∷ tick 60000002 ∷ []

-- The log in which the request at place 4 is decided and the one at place 3 isn't, so that the clean place of Alice's participant is 3.
abbrev pub clean_behind : List Entry
clean_behind =
    after_b (
    request 4 1 2
    ∷ request 5 1 5
    ∷ response 6 1 3 (v0 Approve ∷ [])
    ∷ response 7 1 4 (v0 Approve ∷ [])
    ∷ verdict 8 4 Approved
    ∷ []
    )

-- the log of the issue, and behind it at place 3 Alice's request of transaction n
abbrev pub asked : ℕ → List Entry
asked n = after_b (request 4 1 n ∷ [])

-- the log of Alice's request of transaction n alone
abbrev pub alone : ℕ → List Entry
alone n = request 1 1 n ∷ []

-- the log in which Bank's issue of the contract is requested once more, at place 3
abbrev pub issued_again : List Entry
issued_again = after_b (request 4 0 1 ∷ [])

-- the log of a Tick at this time, and behind it Alice's request of transaction 5, whose ledger time is 0
abbrev pub late : (time : ℕ) → List Entry
late time = tick time ∷ request (time + 1) 1 5 ∷ []

-- the log in which a transfer has no envelope to Bank's participant, which rejects each view of it
abbrev pub missing_at_bank : List Entry
missing_at_bank = after_b (request 4 1 20 ∷ response 5 0 3 (v0 (Reject ViewMissing 0) ∷ v00 (Reject ViewMissing 0) ∷ []) ∷ [])

-- The log of a transfer that has no envelope to Carol's participant and is approved all the same, since that one confirms no view of it. Place 3 is
-- withheld from it.
abbrev pub kept_from_carol : List Entry
kept_from_carol =
    after_b (
    request 4 1 24
    ∷ response 5 0 3 (v0 Approve ∷ v00 Approve ∷ [])
    ∷ response 6 1 3 (v0 Approve ∷ [])
    ∷ verdict 7 3 Approved
    ∷ []
    )
