-- Whether a view is split as the roles of its actions ask. An action's number is where it stands in pre-order among all that is opened.
use Rattle.std.specs.Prelude.{ℕ, Bool, true, false, List, [], ◌∷◌, ◌++◌, Option, Some, None, option_map, if◌then◌else◌, not, ◌&&◌, slice_get, map, flat_map}
use Rattle.std.specs.List.{list_all}
use Rattle.ledger_terms.specs.Parties.{is_subset, set_of}
use Rattle.ledger_terms.specs.declared.act.Act.{Act}
use Rattle.ledger_terms.specs.Trees.{Actions}
use Rattle.ledger_model.specs.Terms.{Action, PartySet}
use Rattle.ledger_model.specs.declared.roles.Roles.{Roles}
use Rattle.canton_model.specs.Checks.{same_names}
use Rattle.lang_eval.specs.Found.{Packages}
use Rattle.lang_eval.specs.Language.{has_roles, roles_in}
use Rattle.confirm_reply.specs.Opened.{acts_of_core}

-- the action of a tree with the number n, in a list; none where there is no tree
abbrev pub taken_at : ℕ → Option (Act × Actions) → List (ℕ × Act)
taken_at n None = []
taken_at n (Some tree) = (n, tree.0) ∷ []

-- the actions at these numbers of all that is opened (first argument), each with its number; a number at which nothing stands is left out
abbrev pub taken : List (Act × Actions) → List ℕ → List (ℕ × Act)
taken trees [] = []
taken trees (n ∷ ns) = taken_at n (slice_get trees n) ++ taken trees ns

-- The action of a tree as a list of one, and the empty list where there is no tree: what `actions_taken` gives of one number. The result doesn't hang
-- on the number n, which `taken_at` puts beside the action.
abbrev pub action_taken : ℕ → Option (Act × Actions) → List Action
action_taken n tree = map (λ (act : Act). act.action) (acts_of_core (taken_at n tree))

-- the actions at these numbers of all that is opened (first argument), without their numbers
abbrev pub actions_taken : List (Act × Actions) → List ℕ → List Action
actions_taken trees ns = map (λ (act : Act). act.action) (acts_of_core (taken trees ns))

-- the roles of an action by the packages, and None where it has none
abbrev pub role_where_there : Packages → Action → Option Roles
role_where_there packages action = if has_roles packages action then Some (roles_in packages action) else None

-- the list with the first roles in front, and None where one of the two isn't there
abbrev pub with_first : Option Roles → Option (List Roles) → Option (List Roles)
with_first None rest = None
with_first (Some roles) rest = option_map (λ (more : List Roles). roles ∷ more) rest

-- the roles of these actions, in order, and None where one of them has none
abbrev pub roles_where_there : Packages → List Action → Option (List Roles)
roles_where_there packages [] = Some []
roles_where_there packages (action ∷ actions) = with_first (role_where_there packages action) (roles_where_there packages actions)

-- the confirmers of a core, by the roles of its actions: the parties that confirm one of them
abbrev pub confirmers_by : List Roles → PartySet
confirmers_by core = set_of (flat_map (λ (roles : Roles). roles.confirmers) core)

-- whether an action with these roles stays in the core of a view with these informees, so that it starts no view of its own: its informees are among
-- them
abbrev pub stays_in : PartySet → Roles → Bool
stays_in informees roles = is_subset roles.informees informees

-- Whether actions with the roles `core` make up a core of a view with these informees and confirmers, and those with the roles `below` begin views
-- directly below it. False of an empty core.
abbrev pub is_split_by : (informees confirmers : PartySet) → (core below : List Roles) → Bool
is_split_by informees confirmers [] below = false
is_split_by informees confirmers (first ∷ rest) below =
    same_names informees first.informees
    && (same_names confirmers (confirmers_by (first ∷ rest))
    && (list_all (stays_in first.informees) rest
    && list_all (λ (roles : Roles). not (stays_in first.informees roles)) below))

-- what `is_split_by` says of the roles of a core and of the first actions of the views below it; false where one of them is None, since an action has
-- no roles
abbrev pub is_split_where_there : (informees confirmers : PartySet) → (core below : Option (List Roles)) → Bool
is_split_where_there informees confirmers None below = false
is_split_where_there informees confirmers (Some core) None = false
is_split_where_there informees confirmers (Some core) (Some below) = is_split_by informees confirmers core below

-- whether the actions at the numbers `core` of all that is opened make up the core of a view with these informees and confirmers, and those at the
-- numbers `below` begin the views directly below it, by the roles that the packages give
abbrev pub is_split_at : Packages → (informees confirmers : PartySet) → List (Act × Actions) → (core below : List ℕ) → Bool
is_split_at packages informees confirmers trees core below =
    is_split_where_there informees confirmers (roles_where_there packages (actions_taken trees core))
    (roles_where_there packages (actions_taken trees below))
