-- What can be tried.
use Rattle.std.specs.Prelude.{◌≡◌, ◌≤◌, ℕ, All, List, Some, length, slice_get}
use Rattle.ledger_terms.specs.declared.act.Act.{Act}
use Rattle.ledger_terms.specs.Trees.{Actions}
use Rattle.lang_eval.specs.Found.{Packages}
use Rattle.confirm_reply.specs.Nodes.{acts_of, trees_in}
use Rattle.confirm_reply.specs.Opened.{IsCheckable}
use Rattle.confirm_reply.specs.Tried.{Matter}
use Rattle.confirm_reply.specs.declared.trial.Trial.{Trial}

-- the action at the number n of these trees, which are all that is opened in pre-order, can be checked, if there is one
abbrev pub IsCheckableAt : Packages → List (Act × Actions) → ℕ → Type 0
IsCheckableAt packages trees n = (tree : Act × Actions) → slice_get trees n ≡ Some tree → IsCheckable packages tree.0 tree.1

-- What the definitions take of a trial, which is all that the check of a view's core has at hand: the opened actions in pre-order, each with what
-- stands below it, the numbers of the core's actions among these, and whether the view is a root view. N and T are parameters of the trial's type
-- alone.
abbrev pub matter_of : {N : Type 0} {T : N → Type 0} → Trial N T → Matter
matter_of trial = record { trees = trees_in trial.nodes.now; core = trial.core.now; is_root = trial.is_root }

-- What is asked of a trial: the actions at the numbers of its core can be checked, `earlier` has the actions of its nodes, and its core has no more
-- actions than a verdict can number.
pub record IsFit {N : Type 0} {T : N → Type 0} (trial : Trial N T) : Type 0 where
  pub checkable : All (IsCheckableAt trial.input.now.setup.now.checked (trees_in trial.nodes.now)) trial.core.now
  pub earlier : trial.earlier.now ≡ acts_of trial.nodes.now
  pub few : length trial.core.now ≤ 65536
