-- Where a transaction has an action without roles.
use Rattle.std.specs.Prelude.{◌≡◌, ℕ, suc, ◌%◌, ◌^◌, Bool, not, List, [], ◌∷◌, ◌++◌, map, find, Option, Some, None, option_map, Result, Ok, Err, if◌then◌else◌}
use Rattle.ledger_terms.specs.declared.act.Act.{Act}
use Rattle.ledger_terms.specs.Trees.{Actions}
use Rattle.ledger_terms.specs.Forest.{NoRoots, Root, preorder, paths_from}
use Rattle.ledger_terms.specs.declared.action.Action.{Action}
use Rattle.ledger_terms.specs.declared.tx.Tx.{Tx}
use Rattle.lang_eval.specs.Found.{Packages}
use Rattle.lang_eval.specs.Language.{has_roles, roles_in}
use Rattle.view_split.specs.Split.{split}
use Rattle.view_split.specs.declared.split_fault.SplitFault.{SplitFault}
use Rattle.view_split.specs.declared.split_fault.SplitFault.TheVariants.{NoRoles, Memory}
use Rattle.view_split.specs.declared.views.Views.{Views}

-- A path as the code keeps it: its steps have 16 bits, so a step of 2 ^ 16 or more is kept by its remainder.
abbrev pub kept_path : List ℕ → List ℕ
kept_path path = map (λ step. step % 2 ^ 16) path

-- Whether this action, given with its path, has no roles in these packages: its contract's template or its choice isn't there, a field or an argument
-- has another kind than declared, its parties have no value, or nobody signs. The path isn't looked at.
abbrev pub is_roleless : Packages → List ℕ × Act → Bool
is_roleless packages placed = not (has_roles packages (placed.1).action)

-- The path, as it is kept, of the first action in pre-order that has no roles; None where all have roles.
abbrev pub first_roleless : Packages → Actions → Option (List ℕ)
first_roleless packages roots =
    option_map (λ (placed : List ℕ × Act). kept_path placed.0) (find (is_roleless packages) (preorder (paths_from [] 0 roots)))

-- These views where there is no fault (None), else the fault that the action at the path has no roles.
abbrev pub unless_fault : Option (List ℕ) → Views → Result Views SplitFault
unless_fault None views = Ok views
unless_fault (Some path) views = Err (NoRoles path)

-- The views of a transaction with its requesters, time and seed; or the fault that names its first action without roles.
abbrev pub views_of_tx : Packages → Tx → Result Views SplitFault
views_of_tx packages tx =
    unless_fault (first_roleless packages tx.roots) (record {
      act_as = tx.act_as;
      ledger_time = tx.ledger_time;
      seed = tx.seed;
      roots = split (roles_in packages) tx.roots;
    })

-- This path where the action has no roles, else None.
abbrev pub roleless_at : Packages → List ℕ → Action → Option (List ℕ)
roleless_at packages path action = if has_roles packages action then None else Some path

-- the first of the two that isn't None
abbrev pub or_else : Option (List ℕ) → Option (List ℕ) → Option (List ℕ)
or_else None later = later
or_else (Some path) later = Some path

-- The path, as it is kept, of the first action without roles among these trees; None where all have roles. The trees stand below the action with the
-- given path, and the first of them is number k there.
abbrev pub fault_from : Packages → List ℕ → ℕ → Actions → Option (List ℕ)
fault_from packages above k NoRoots = None
fault_from packages above k (Root act below others) =
    if has_roles packages act.action
    then or_else (fault_from packages (above ++ k % 2 ^ 16 ∷ []) 0 below) (fault_from packages above (suc k) others)
    else Some (above ++ k % 2 ^ 16 ∷ [])

-- The path, as it is kept, of the first action without roles of one tree, whose first action has this path; None where all have roles.
abbrev pub fault_at : Packages → List ℕ → Act → Actions → Option (List ℕ)
fault_at packages path act below = if has_roles packages act.action then fault_from packages path 0 below else Some path

-- The code's fault agrees with `fault`, the path that the definitions give of the first action without roles, if there is one: it names that path, or
-- it is want of memory, of which nothing is said.
abbrev pub IsFault : Option (List ℕ) → SplitFault → Type 0
IsFault fault (NoRoles path) = fault ≡ Some path
IsFault fault Memory = Unit {0}
