-- The local checks of a participant on a view. Their numbers are those of docs/PROTOCOL.md.
use Rattle.std.specs.Prelude.{ℕ, suc, ◌+◌, Bool, true, false, List, [], ◌∷◌, ◌++◌, Option, Some, None, take, filter, find, flat_map, map, length}
use Rattle.std.specs.Prelude.{not, ◌&&◌, ◌||◌, if◌then◌else◌, slice_get, nat_eq, nat_le}
use Rattle.std.specs.List.{list_any, list_all}
use Rattle.std.specs.Str.{bytes_eq}
use Rattle.std.specs.Cmp.Lexicographic.{pointwise}
use Rattle.ledger_model.specs.Terms.{Name, PartySet, Hash, Action, Act, instance_of, ParticipantId, Path}
use Rattle.ledger_model.specs.Forest.{Forest, NoRoots, Root, acts, roots_of, below_at}
use Rattle.ledger_model.specs.declared.status.Status.{Status}
use Rattle.ledger_model.specs.Status.{shows_locked, shows_inactive, shows_not_fresh, shows_unordered}
use Rattle.ledger_model.specs.Language.{Language, roles_of}
use Rattle.ledger_model.specs.Views.{confirmers_of, its_informees, starts}
use Rattle.ledger_model.specs.declared.roles.Roles.{Roles}
use Rattle.ledger_model.specs.Authority.{is_authorised, authorisers_below}
use Rattle.canton_model.specs.Log.{Params, ViewVerdict, LocalVerdict, Approve, Reject, Reason, IdMismatch, NotVetted, TimeSkew, Locked}
use Rattle.canton_model.specs.Log.{Inactive, NotFresh, Unordered, NotConformant, NotAuthorised}
use Rattle.canton_model.specs.Log.{RootMismatch, ViewMissing, WrongSender, WrongCommon}
use Rattle.ledger_model.specs.Opening.{Shown, OpenedView}
use Rattle.canton_model.specs.Reading.{Reading, Offer, Mismatch, Missing, Open}
use Rattle.canton_model.specs.Inbox.{Item, Notice, item_time, notice_at, status_in_inbox, is_locked_in_inbox, has_hosted_stakeholder}

-- the place, counted from 0, of the first item that passes the test, and the list's length where none does
abbrev pub first_place : {X : Type 0} → (X → Bool) → List X → ℕ
first_place test [] = 0
first_place test (x ∷ xs) = if test x then 0 else suc (first_place test xs)

-- A reason, and the test by which an action of a core shows it. The test takes the action with its number among all that is opened.
pub record Check : Type 0 where
  pub reason : Reason
  pub is_shown_by : ℕ × Act → Bool

-- The local verdict by these checks on a core, the actions of a view with their numbers: a rejection with the first reason that some action shows,
-- and the place in the core of the first such action. Approve where no check is shown.
abbrev pub first_shown : List Check → List (ℕ × Act) → LocalVerdict
first_shown [] core = Approve
first_shown (check ∷ rest) core =
    if list_any check.is_shown_by core
    then Reject check.reason (first_place check.is_shown_by core)
    else first_shown rest core

-- the times a and b differ by at most `skew`
abbrev pub is_within : (skew a b : ℕ) → Bool
is_within skew a b = nat_le a (b + skew) && nat_le b (a + skew)

-- participant p has vetted the package of the template that the action's contract is of
abbrev pub has_vetted : Reading → ParticipantId → Act → Bool
has_vetted reading p act = reading.has_vetted p ((instance_of act.action).template).«package»

-- a view's first action with all that is opened below it, as a forest of one root; the empty forest where the core is empty
abbrev pub first_tree : Shown → (core : List (ℕ × Act)) → Forest Act
first_tree shown [] = NoRoots
first_tree shown (first ∷ rest) = Root first.1 (below_at first.0 shown.roots) NoRoots

-- whether n is the number of the core's first action; false of an empty core
abbrev pub is_first : (core : List (ℕ × Act)) → ℕ → Bool
is_first [] n = false
is_first (first ∷ rest) n = nat_eq first.0 n

-- the view is a root's: its path has one step
abbrev pub is_root_view : OpenedView → Bool
is_root_view view = nat_eq (length view.path) 1

-- Each child of the action, given with its number among all that is shown, is authorised by the action's actors and signatories. The first argument
-- gives an action's roles.
abbrev pub authorises_children : (Action → Roles) → Shown → ℕ × Act → Bool
authorises_children roles shown a =
    list_all (λ (child : Act). is_authorised roles (authorisers_below roles (a.1).action) child.action) (roots_of (below_at a.0 shown.roots))

-- the action is authorised by the requesters; false where these aren't told (None)
abbrev pub is_authorised_by_known : (Action → Roles) → Option PartySet → Action → Bool
is_authorised_by_known roles None action = false
is_authorised_by_known roles (Some requesters) action = is_authorised roles requesters action

-- Where this action of the view's core is the first of a root view, the requesters are told and authorise it. True of any other action. The first
-- argument gives an action's roles.
abbrev pub is_requested : (Action → Roles) → Shown → OpenedView → ℕ × Act → Bool
is_requested roles shown view a =
    not (is_root_view view && is_first view.core a.0) || is_authorised_by_known roles shown.requesters (a.1).action

-- Check 9 is passed by this action of the view's core: it authorises its children, and if it is the first of a root view it is authorised by the
-- requesters.
abbrev pub is_authorised_in : Reading → Shown → OpenedView → ℕ × Act → Bool
is_authorised_in reading shown view a =
    authorises_children (roles_of reading.language) shown a && is_requested (roles_of reading.language) shown view a

-- Each of these names passes the test, which tells whether the sender confirms for a party. True where no names are told (None).
abbrev pub are_confirmed : (Name → Bool) → Option PartySet → Bool
are_confirmed confirms None = true
are_confirmed confirms (Some names) = list_all confirms names

-- Check 12 is passed: the name that is shown is the sender's, and the sender confirms for all requesters, where they are told.
abbrev pub is_from : Reading → (sender : ParticipantId) → Shown → Bool
is_from reading sender shown = reading.is_named sender shown.sender && are_confirmed (reading.confirms sender) shown.requesters

-- whether two sets of parties are the same, name by name; a set has its names in ascending order
abbrev pub same_names : PartySet → PartySet → Bool
same_names a b = pointwise bytes_eq a b

-- whether `other` is the path of a view directly below the view with the path `path`
abbrev pub is_directly_below : Path → Path → Bool
is_directly_below path other = nat_eq (length other) (suc (length path)) && bytes_eq (take (length path) other) path

-- the first action of a core, without its number, as a list of one; the empty list of an empty core
abbrev pub first_act : List (ℕ × Act) → List Act
first_act [] = []
first_act (first ∷ rest) = first.1 ∷ []

-- the first actions of the views directly below the given view, of those that are shown
abbrev pub subview_starts : Shown → OpenedView → List Act
subview_starts shown view =
    flat_map (λ (other : OpenedView). first_act other.core)
    (filter (λ (other : OpenedView). is_directly_below view.path other.path) shown.views)

-- Whether a core with its numbers is split by the rules: the informees are those of its first action, the confirmers those of all its actions, no
-- action behind the first starts a view, and each of `below`, the first actions of the views directly below, does. All of them have roles. False of the
-- empty core.
abbrev pub is_split_core : Language → (informees confirmers : PartySet) → List (ℕ × Act) → (below : List Act) → Bool
is_split_core language informees confirmers [] below = false
is_split_core language informees confirmers (first ∷ rest) below =
    list_all (λ (a : Act). language.has_roles a.action) (map (λ (a : ℕ × Act). a.1) (first ∷ rest) ++ below)
    && (same_names informees (its_informees (roles_of language) first.1)
    && (same_names confirmers (confirmers_of (roles_of language) (record { informees = informees; core = first ∷ rest }))
    && (list_all (λ (a : ℕ × Act). not (starts (roles_of language) (its_informees (roles_of language) first.1) a.1)) rest
    && list_all (starts (roles_of language) (its_informees (roles_of language) first.1)) below)))

-- Check 13 is passed: the view's informees and confirmers are those of its core, and views start in it and directly below it just where the rules say
-- (`is_split_core`).
abbrev pub is_well_split : Reading → Shown → OpenedView → Bool
is_well_split reading shown view = is_split_core reading.language view.informees view.confirmers view.core (subview_starts shown view)

-- The checks 1 to 9, in order, of a view that participant p is shown, where `time` is that of the request's entry. `status` and `locked` are what p
-- knows of contracts at the request's place.
abbrev pub checks : Reading → Params → ParticipantId → (time : ℕ) → Shown → OpenedView → (status : Hash → Status) → (locked : Hash → Bool) → List Check
checks reading params p time shown view status locked =
    record { reason = IdMismatch; is_shown_by = λ a. not (reading.is_authentic a.1) }
    ∷ record { reason = NotVetted; is_shown_by = λ a. not (has_vetted reading p a.1) }
    ∷ record { reason = TimeSkew; is_shown_by = λ a. not (is_within params.skew shown.ledger_time time) }
    ∷ record { reason = Locked; is_shown_by = λ a. has_hosted_stakeholder reading p a.1 && shows_locked locked a.1 }
    ∷ record { reason = Inactive; is_shown_by = λ a. has_hosted_stakeholder reading p a.1 && shows_inactive status (take a.0 (acts shown.roots)) a.1 }
    ∷ record { reason = NotFresh; is_shown_by = λ a. has_hosted_stakeholder reading p a.1 && shows_not_fresh status a.1 }
    ∷ record { reason = Unordered; is_shown_by = λ a. has_hosted_stakeholder reading p a.1 && shows_unordered (take a.0 (acts shown.roots)) a.1 }
    ∷ record { reason = NotConformant; is_shown_by = λ a. not (reading.conforms (first_tree shown view.core)) }
    ∷ record { reason = NotAuthorised; is_shown_by = λ a. not (is_authorised_in reading shown view a) }
    ∷ []

-- The local verdict of participant p on a view of a complete envelope, where `time` is that of the request's entry, and `status` and `locked` are what
-- p knows of contracts there. Checks 12 (`is_from`) and 13 (`is_well_split`) are tried before the nine, and name action 0.
abbrev pub verdict_by : Reading → Params → ParticipantId → (sender : ParticipantId) → (time : ℕ) → Shown → OpenedView → (status : Hash → Status)
    → (locked : Hash → Bool) → LocalVerdict
verdict_by reading params p sender time shown view status locked =
    if not (is_from reading sender shown) then Reject WrongSender 0
    else if not (is_well_split reading shown view) then Reject WrongCommon 0
    else first_shown (checks reading params p time shown view status locked) view.core

-- The local verdict of participant p on a view that it is shown of the request at place k. What p knows of contracts there is what the first k + 1 of
-- the items, its inbox, say.
abbrev pub verdict_on_view : Reading → Params → ParticipantId → List Item → (k : ℕ) → (sender : ParticipantId) → Shown → OpenedView → LocalVerdict
verdict_on_view reading params p items k sender shown view =
    verdict_by reading params p sender (item_time (slice_get items k)) shown view
    (status_in_inbox reading items k) (is_locked_in_inbox reading params items k)

-- the first of these views that has this path, None where none has it
abbrev pub view_at : Path → List OpenedView → Option OpenedView
view_at path views = find (λ (view : OpenedView). bytes_eq path view.path) views

-- The local verdict of participant p on a view of a complete envelope to the request at place k, where the last argument is the view that was found
-- by its path. A view that wasn't found (None) is rejected as ViewMissing.
abbrev pub verdict_on_found : Reading → Params → ParticipantId → List Item → (k : ℕ) → (sender : ParticipantId) → Shown → Option OpenedView → LocalVerdict
verdict_on_found reading params p items k sender shown None = Reject ViewMissing 0
verdict_on_found reading params p items k sender shown (Some view) = verdict_on_view reading params p items k sender shown view

-- The local verdict of participant p on the view with this path of the request at place k, by what its envelope gives it. Where that is a Mismatch each
-- view is rejected as RootMismatch, and where it is Missing as ViewMissing.
abbrev pub verdict_on_offer : Reading → Params → ParticipantId → List Item → (k : ℕ) → (sender : ParticipantId) → Path → Offer → LocalVerdict
verdict_on_offer reading params p items k sender path Mismatch = Reject RootMismatch 0
verdict_on_offer reading params p items k sender path Missing = Reject ViewMissing 0
verdict_on_offer reading params p items k sender path (Open shown) =
    verdict_on_found reading params p items k sender shown (view_at path shown.views)

-- The verdicts that participant p owes to the request at place k with this notice, one for each view that it confirms, in order of path. None are
-- owed where there is no notice, since p received no request there.
abbrev pub verdicts_on : Reading → Params → ParticipantId → List Item → (k : ℕ) → Option Notice → List ViewVerdict
verdicts_on reading params p items k None = []
verdicts_on reading params p items k (Some notice) =
    map (λ (path : Path). record { view = path; verdict = verdict_on_offer reading params p items k notice.sender path notice.offer }) notice.confirmed

-- The verdicts that participant p owes to the request at place k, one for each view that it confirms, in order of path. They depend on the first k +
-- 1 items of its inbox alone, and are [] where it received no request there.
abbrev pub verdicts_owed : Reading → Params → ParticipantId → List Item → (k : ℕ) → List ViewVerdict
verdicts_owed reading params p items k = verdicts_on reading params p items k (notice_at items k)
