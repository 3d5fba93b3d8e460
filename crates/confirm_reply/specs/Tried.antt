-- The reasons as they are tried, by what stands at an action's number, which is where it stands in pre-order among all that is opened.
use Rattle.std.specs.Prelude.{ℕ, suc, Bool, false, List, [], ◌∷◌, Option, Some, None, option_map, if◌then◌else◌, not, ◌&&◌, ◌||◌, nat_eq, slice_get, take, map}
use Rattle.ledger_terms.specs.declared.act.Act.{Act}
use Rattle.ledger_terms.specs.Trees.{Actions}
use Rattle.ledger_terms.specs.Vetting.{vets}
use Rattle.ledger_model.specs.Terms.{instance_of}
use Rattle.ledger_model.specs.Status.{shows_locked, shows_inactive, shows_not_fresh, shows_unordered}
use Rattle.canton_model.specs.declared.reason.Reason.{Reason}
use Rattle.canton_model.specs.declared.reason.Reason.TheVariants.{IdMismatch, NotVetted, TimeSkew, Locked, Inactive}
use Rattle.canton_model.specs.declared.reason.Reason.TheVariants.{NotFresh, Unordered, NotConformant, NotAuthorised}
use Rattle.canton_model.specs.declared.local_verdict.LocalVerdict.{LocalVerdict}
use Rattle.canton_model.specs.declared.local_verdict.LocalVerdict.TheVariants.{Approve, Reject}
use Rattle.canton_model.specs.Inbox.{has_hosted_stakeholder}
use Rattle.canton_model.specs.Checks.{is_within, is_authorised_by_known}
use Rattle.lang_eval.specs.Language.{roles_in}
use Rattle.interpret.specs.Ids.{is_authentic}
use Rattle.interpret.specs.Tries.{is_tree_possible}
use Rattle.authorise.specs.Below.{are_authorised_below}
use Rattle.confirm_reply.specs.Facts.{known_status, is_known_locked}
use Rattle.confirm_reply.specs.LocalReading.{local_reading}
use Rattle.confirm_reply.specs.declared.opened_input.OpenedInput.{OpenedInput}

-- whether the participant that checks hosts a stakeholder of the action's contract
abbrev pub is_hosted : OpenedInput → Act → Bool
is_hosted input act = has_hosted_stakeholder (local_reading input.setup.now.topology input.setup.now.checked) input.me act

-- whether the requesters authorise the action; false where they aren't told
abbrev pub is_requested : OpenedInput → Act → Bool
is_requested input act = is_authorised_by_known (roles_in input.setup.now.checked) input.tree.now.requesters act.action

-- Whether an action shows a reason to reject its view, by what stands below it and the opened actions before it. `asks` tells whether the requesters
-- have to authorise it. No action shows a reason that isn't one of these nine.
abbrev pub shows : OpenedInput → Reason → Act → (below : Actions) → (earlier : List Act) → (asks : Bool) → Bool
shows input IdMismatch act below earlier asks = not (is_authentic act)
shows input NotVetted act below earlier asks =
    not (vets (slice_get input.setup.now.topology.hosts input.me) (instance_of act.action).template.«package»)
shows input TimeSkew act below earlier asks = not (is_within input.setup.now.topology.params.skew input.tree.now.ledger_time input.time)
shows input Locked act below earlier asks = shows_locked (is_known_locked input.facts.now) act && is_hosted input act
shows input Inactive act below earlier asks = shows_inactive (known_status input.facts.now) earlier act && is_hosted input act
shows input NotFresh act below earlier asks = shows_not_fresh (known_status input.facts.now) act && is_hosted input act
shows input Unordered act below earlier asks = shows_unordered earlier act && is_hosted input act
shows input NotConformant act below earlier asks = not (is_tree_possible input.setup.now.checked act.action below)
shows input NotAuthorised act below earlier asks =
    not (are_authorised_below (roles_in input.setup.now.checked) act.action below && (not asks || is_requested input act))
shows input reason act below earlier asks = false

-- What a core is tried by: all that is opened in pre-order, each action with what stands below it, the numbers of the core's actions, and whether its
-- view is a root view.
pub record Matter : Type 0 where
  pub trees : List (Act × Actions)
  pub core : List ℕ
  pub is_root : Bool

-- the actions of these trees, without what stands below each
abbrev pub acts_in : List (Act × Actions) → List Act
acts_in trees = map (λ (tree : Act × Actions). tree.0) trees

-- whether the number n (second argument) is that of the core's first action; false of the empty core. Of a root view's first action the requesters'
-- authority is tried.
abbrev pub is_first : List ℕ → ℕ → Bool
is_first [] n = false
is_first (first ∷ rest) n = nat_eq first n

-- whether the action at number n, with what stands below it (last argument), shows the reason; false where none stands there
abbrev pub tree_shows : OpenedInput → Matter → Reason → ℕ → Option (Act × Actions) → Bool
tree_shows input matter reason n None = false
tree_shows input matter reason n (Some tree) =
    shows input reason tree.0 tree.1 (take n (acts_in matter.trees)) (matter.is_root && is_first matter.core n)

-- whether the action at number n of all that is opened shows the reason; false where none stands there
abbrev pub shows_at : OpenedInput → Matter → Reason → ℕ → Bool
shows_at input matter reason n = tree_shows input matter reason n (slice_get matter.trees n)

-- the index in the core of the first number that passes the test, counted from 0, and None where none does
abbrev pub place_shown : (ℕ → Bool) → List ℕ → Option ℕ
place_shown test [] = None
place_shown test (n ∷ ns) = if test n then Some 0 else option_map suc (place_shown test ns)

-- Some 0 where the core's first number passes the test, else None; the other numbers aren't tried. For the reasons that hang on the core's first action
-- alone.
abbrev pub first_alone : (ℕ → Bool) → List ℕ → Option ℕ
first_alone test [] = None
first_alone test (n ∷ ns) = if test n then Some 0 else None

-- The index in the core of the first action that shows the reason, and None where none does. Time and conformance are tried of the core's first
-- action alone.
abbrev pub place_of : OpenedInput → Matter → Reason → Option ℕ
place_of input matter TimeSkew = first_alone (shows_at input matter TimeSkew) matter.core
place_of input matter NotConformant = first_alone (shows_at input matter NotConformant) matter.core
place_of input matter reason = place_shown (shows_at input matter reason) matter.core

-- the nine reasons that an action may show, in the order in which they are tried
abbrev pub all_reasons : List Reason
all_reasons = IdMismatch ∷ NotVetted ∷ TimeSkew ∷ Locked ∷ Inactive ∷ NotFresh ∷ Unordered ∷ NotConformant ∷ NotAuthorised ∷ []

-- the rejection for this reason where an action at this index of the core shows it, else the verdict that the other reasons give
abbrev pub rejected_or : Reason → Option ℕ → LocalVerdict → LocalVerdict
rejected_or reason None rest = rest
rejected_or reason (Some place) rest = Reject reason place

-- the verdict on a core where these reasons are tried one after another: the first that an action shows rejects, and Approve where none is shown
abbrev pub verdict_after : OpenedInput → Matter → List Reason → LocalVerdict
verdict_after input matter [] = Approve
verdict_after input matter (reason ∷ rest) = rejected_or reason (place_of input matter reason) (verdict_after input matter rest)
