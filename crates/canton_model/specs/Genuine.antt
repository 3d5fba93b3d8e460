-- When a log is what the parts of a synchroniser make, over a reading of its requests.
use Rattle.std.specs.Prelude.{◌↔◌, ◌≡◌, ℕ, suc, ◌≤◌, ◌<◌, Bool, true, false, take, map, ◌&&◌, nat_eq, length, List, Some, slice_get, Contains}
use Rattle.std.specs.List.Sorted.{IsStrictlyIncreasing}
use Rattle.ledger_terms.specs.Parties.{IsRising}
use Rattle.std.specs.List.{list_any}
use Rattle.std.specs.Str.{bytes_eq}
use Rattle.ledger_model.specs.Terms.{Name, PartySet, Act, id_of, instance_of, ParticipantId, Path}
use Rattle.ledger_model.specs.Forest.{Forest, NoRoots, Root, acts, project, below_at, trees_of, root_trees}
use Rattle.canton_model.specs.Log.{Params, Entry, Message, RequestMessage, ResponseMessage, VerdictMessage, Tick, Request, Response}
use Rattle.canton_model.specs.Log.{request_at, decision_time_of, FollowsTime, time_at_end}
use Rattle.canton_model.specs.Mediation.{has_responded}
use Rattle.ledger_model.specs.Conformance.{Conforms}
use Rattle.ledger_model.specs.Opening.{OpenedView, Shown, Transaction}
use Rattle.canton_model.specs.Reading.{Reading, shown_to, view_paths, paths_seen, paths_confirmed, sees_some_view}
use Rattle.canton_model.specs.Inbox.{inbox, confirms_signatory, is_informed}
use Rattle.canton_model.specs.Checks.{verdicts_owed, is_first, is_root_view, first_tree, is_from, is_well_split}
use Rattle.canton_model.specs.Ledger.{Timely, FitsIfVerdict, opened_to}

-- The response fits, with this time, at place k behind the first k entries of the log: its request stands before k and names its sender as confirming,
-- it is the first response of that sender, it holds exactly the verdicts owed, and it isn't past the request's decision time.
pub record ResponseFits (reading : Reading) (params : Params) (log : List Entry) (k time : ℕ) (response : Response) : Type 0 where
  pub request : Request
  pub earlier : response.request < k
  pub there : request_at log response.request ≡ Some request
  pub confirming : Contains request.confirming response.from
  pub first : has_responded response.request (take k log) response.from ≡ false
  pub owed : response.verdicts ≡ verdicts_owed reading params response.from (inbox reading response.from (take (suc response.request) log)) response.request
  pub in_time : time ≤ decision_time_of params log response.request

-- the message, with this time at place k of the log, fits as a response if it is one; of any other message nothing is said
abbrev pub FitsIfResponse : Reading → Params → List Entry → (k time : ℕ) → Message → Type 0
FitsIfResponse reading params log k time (ResponseMessage response) = ResponseFits reading params log k time response
FitsIfResponse reading params log k time (RequestMessage request) = Unit {0}
FitsIfResponse reading params log k time (VerdictMessage verdict) = Unit {0}
FitsIfResponse reading params log k time Tick = Unit {0}

-- What is shown to who sees the views with the paths `seen` is in its place: each of these views is there, a core's actions have their numbers among
-- all that is opened, and the views stand in order of path.
pub record IsPlaced (seen : List Path) (shown : Shown) : Type 0 where
  pub all_seen : (path : Path) → Contains seen path → (view : OpenedView) × Contains shown.views view × (view.path ≡ path)
  pub numbered : (view : OpenedView) (i : ℕ) (a : Act) → Contains shown.views view → Contains view.core (i, a) → slice_get (acts shown.roots) i ≡ Some a
  pub path_order : IsRising (map (λ (view : OpenedView). view.path) shown.views)

-- What every reading has to say of a framed request, whoever sent it.
pub record FramedFacts (reading : Reading) (request : Request) : Type 0 where
  -- there is a view; each is confirmed by somebody, who sees it
  pub some_view : (path : Path) × Contains (view_paths reading request) path
  pub confirmed : (path : Path) → Contains (view_paths reading request) path → (p : ParticipantId) × Contains (paths_confirmed reading p request) path
  pub sees : (p : ParticipantId) (path : Path) → Contains (paths_confirmed reading p request) path → Contains (paths_seen reading p request) path
  -- who confirms a view is asked, and nobody else is; each is named once, in the order of the participants
  pub confirming_order : IsStrictlyIncreasing request.confirming
  pub asked : (p : ParticipantId) (path : Path) → Contains (paths_confirmed reading p request) path → Contains request.confirming p
  pub answers : (p : ParticipantId) → Contains request.confirming p → (path : Path) × Contains (paths_confirmed reading p request) path
  -- what a complete envelope shows is in its place
  pub placed : (p : ParticipantId) (shown : Shown) → shown_to reading p request ≡ Some shown → IsPlaced (paths_seen reading p request) shown

-- The view with this path is vouched for: somebody confirms it, is shown it by a complete envelope, and found it to be from the sender and well
-- split (checks 12 and 13).
pub record IsVouched (reading : Reading) (request : Request) (path : Path) : Type 0 where
  pub participant : ParticipantId
  pub is_confirmed : Contains (paths_confirmed reading participant request) path
  pub shown : Shown
  pub is_shown : shown_to reading participant request ≡ Some shown
  pub view : OpenedView
  pub is_opened : Contains shown.views view
  pub has_path : view.path ≡ path
  pub from_sender : is_from reading request.sender shown ≡ true
  pub split_well : is_well_split reading shown view ≡ true

-- Participant p, which is shown this of the request, confirms a view whose core has the action, and is shown all that is below it. `tree` is the
-- action with the forest below it in the whole.
pub record IsCovered (reading : Reading) (request : Request) (p : ParticipantId) (shown : Shown) (tree : Act × Forest Act) : Type 0 where
  pub view : OpenedView
  pub is_opened : Contains shown.views view
  pub is_confirmed : Contains (paths_confirmed reading p request) view.path
  pub number : ℕ
  pub in_core : Contains view.core (number, tree.0)
  pub below : below_at number shown.roots ≡ tree.1

-- Participant p confirms the view that this root of the whole starts, is shown the root with all that is below it, and is told these requesters.
-- `tree` is the root with the forest below it in the whole.
pub record IsRootCovered (reading : Reading) (request : Request) (p : ParticipantId) (shown : Shown) (requesters : PartySet)
    (tree : Act × Forest Act) : Type 0 where
  pub covered : IsCovered reading request p shown tree
  pub is_first : is_first (covered.view).core covered.number ≡ true
  pub first : first_tree shown (covered.view).core ≡ Root tree.0 tree.1 NoRoots
  pub is_root : is_root_view covered.view ≡ true
  pub known : shown.requesters ≡ Some requesters

-- The ledger time that is shown, and the requesters where they are shown, are the transaction's.
pub record TellsOf (transaction : Transaction) (shown : Shown) : Type 0 where
  pub ledger_time : shown.ledger_time ≡ transaction.ledger_time
  pub requesters : (names : PartySet) → shown.requesters ≡ Some names → names ≡ transaction.requesters

-- The request is as good as one of a sender that keeps the rules, to each whose envelope is complete: all that these open is of one transaction.
-- `NoCollision` promises it of requests whose views are all vouched for.
pub record IsSound (reading : Reading) (request : Request) : Type 0 where
  pub transaction : Transaction
  pub is_whole : reading.whole request ≡ Some transaction
  -- each action has roles: its signatories, observers and choice observers have values, and it has a signatory
  pub has_roles : (a : Act) → Contains (acts transaction.roots) a → (reading.language).has_roles a.action ≡ true
  -- what is opened to a participant is the projection to its hosted parties, which is empty for who sees no view
  pub opens : (p : ParticipantId) (shown : Shown) → shown_to reading p request ≡ Some shown → shown.roots ≡ project (is_informed reading p) transaction.roots
  pub hidden : (p : ParticipantId) → sees_some_view reading p request ≡ false → project (is_informed reading p) transaction.roots ≡ NoRoots
  -- somebody confirms a signatory of each action, and whoever does confirms a view
  pub confirmed : (a : Act) → Contains (acts transaction.roots) a → (p : ParticipantId) × (confirms_signatory reading p a ≡ true)
  pub guarded : (a : Act) (p : ParticipantId) → Contains (acts transaction.roots) a → confirms_signatory reading p a ≡ true
      → (path : Path) × Contains (paths_confirmed reading p request) path
  -- Who confirms a signatory of an action that is opened to it confirms a view in whose core the action stands.
  pub viewed : (p : ParticipantId) (shown : Shown) (i : ℕ) (a : Act) → shown_to reading p request ≡ Some shown
      → slice_get (acts shown.roots) i ≡ Some a → confirms_signatory reading p a ≡ true
      → (view : OpenedView) × Contains shown.views view × Contains view.core (i, a) × Contains (paths_confirmed reading p request) view.path
  -- what is shown of ledger time and requesters is the transaction's
  pub tells : (p : ParticipantId) (shown : Shown) → shown_to reading p request ≡ Some shown → TellsOf transaction shown
  -- each action and each root is covered at who confirms a signatory of it
  pub covers : (p : ParticipantId) (shown : Shown) (tree : Act × Forest Act) → shown_to reading p request ≡ Some shown
      → Contains (trees_of transaction.roots) tree → confirms_signatory reading p tree.0 ≡ true → IsCovered reading request p shown tree
  pub roots : (p : ParticipantId) (shown : Shown) (tree : Act × Forest Act) → shown_to reading p request ≡ Some shown
      → Contains (root_trees transaction.roots) tree → confirms_signatory reading p tree.0 ≡ true
      → IsRootCovered reading request p shown transaction.requesters tree

-- whether the message is a request of participant p with this command
abbrev pub is_request_of : ParticipantId → Name → Message → Bool
is_request_of p command (RequestMessage request) = nat_eq request.sender p && bytes_eq request.command command
is_request_of p command (ResponseMessage response) = false
is_request_of p command (VerdictMessage verdict) = false
is_request_of p command Tick = false

-- The request fits at place k behind the first k entries of the log: it is framed, and the first with its sender and command.
pub record RequestFits (reading : Reading) (log : List Entry) (k : ℕ) (request : Request) : Type 0 where
  pub is_framed : reading.is_framed request ≡ true
  pub first : list_any (λ (entry : Entry). is_request_of request.sender request.command entry.message) (take k log) ≡ false

-- the message fits at place k of the log as a request if it is one; of any other message nothing is said
abbrev pub FitsIfRequest : Reading → List Entry → (k : ℕ) → Message → Type 0
FitsIfRequest reading log k (RequestMessage request) = RequestFits reading log k request
FitsIfRequest reading log k (ResponseMessage response) = Unit {0}
FitsIfRequest reading log k (VerdictMessage verdict) = Unit {0}
FitsIfRequest reading log k Tick = Unit {0}

-- A log is genuine, over a reading of its requests: its times follow one another, and each verdict, request and response fits the entries before it.
-- Its fields for requests and responses speak of each entry, and say nothing of one with another message.
pub record Genuine (reading : Reading) (params : Params) (log : List Entry) : Type 0 where
  pub timely : Timely params log
  pub requests : (k : ℕ) (entry : Entry) → slice_get log k ≡ Some entry → FitsIfRequest reading log k entry.message
  pub responses : (k : ℕ) (entry : Entry) → slice_get log k ≡ Some entry → FitsIfResponse reading params log k entry.time entry.message

-- An entry fits behind the log: its time follows that of the last entry there, and its message fits. So the log with it is genuine again (law
-- `genuine_logs_grow`).
pub record EntryFits (reading : Reading) (params : Params) (log : List Entry) (entry : Entry) : Type 0 where
  pub time : FollowsTime entry.message (time_at_end log) entry.time
  pub verdict : FitsIfVerdict params log (length log) entry.time entry.message
  pub request : FitsIfRequest reading log (length log) entry.message
  pub response : FitsIfResponse reading params log (length log) entry.time entry.message

-- What every reading has to have; who gives requests a form has to show it. Who confirms for a party hosts it, `conforms` is the conformance of the
-- ledger's rules, and of framed requests it says what `FramedFacts` asks.
pub record IsReading (reading : Reading) : Type 0 where
  pub confirms_hosted : (p : ParticipantId) (name : Name) → reading.confirms p name ≡ true → reading.hosts p name ≡ true
  pub conforms_is : (roots : Forest Act) → (reading.conforms roots ≡ true) ↔ Conforms reading.language roots
  pub framed_facts : (request : Request) → reading.is_framed request ≡ true → FramedFacts reading request

-- What hashes that don't collide give a log. No two authentic actions that complete envelopes open are on one contract and carry
-- different instances. (Of all actions that there could be this is false, whatever the hash.) And the trees of one request agree,
-- so that a framed request of which each view is vouched for is sound.
pub record NoCollision (reading : Reading) (log : List Entry) : Type 0 where
  pub one_instance : (p k q m : ℕ) (a b : Act)
      → Contains (acts (opened_to reading p (request_at log k))) a → Contains (acts (opened_to reading q (request_at log m))) b
      → reading.is_authentic a ≡ true → reading.is_authentic b ≡ true
      → id_of a.action ≡ id_of b.action
      → instance_of a.action ≡ instance_of b.action
  pub sound : (k : ℕ) (request : Request) → request_at log k ≡ Some request → reading.is_framed request ≡ true
      → ((path : Path) → Contains (view_paths reading request) path → IsVouched reading request path)
      → IsSound reading request
