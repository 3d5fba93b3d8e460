-- The lines of actions.
use Rattle.std.specs.Prelude.{ℕ, zero, suc, ◌+◌, if◌then◌else◌, List, [], ◌∷◌, ◌++◌, codes}
use Rattle.ledger_terms.specs.Forest.{NoRoots, Root}
use Rattle.ledger_terms.specs.Trees.{Actions}
use Rattle.ledger_terms.specs.declared.action.Action.{Action}
use Rattle.ledger_terms.specs.declared.action.Action.TheVariants.{Create, Exercise, Fetch}
use Rattle.report_text.specs.Values.{instance_text, names_text, value_text, values_text}

-- An action in the report: its kind (`consume` is a consuming Exercise, `exercise` another one), the instance of its contract, of an Exercise the
-- choice, the arguments, the actors and the result, of a Fetch the actors. Ids and salts aren't told.
abbrev pub action_text : Action → List ℕ
action_text (Create id instance) = codes "create " ++ instance_text instance
action_text (Exercise id salt instance choice args actors consuming result) =
    (if consuming then codes "consume " else codes "exercise ") ++ instance_text instance ++ codes " " ++ choice
    ++ values_text args ++ codes " by " ++ names_text actors ++ codes " = " ++ value_text result
action_text (Fetch id salt instance actors) = codes "fetch " ++ instance_text instance ++ codes " by " ++ names_text actors

-- the blanks in front of an action at this level: two (bytes 32) for each level
abbrev pub indent : ℕ → List ℕ
indent zero = []
indent (suc level) = 32 ∷ 32 ∷ indent level

-- a line for each action of a forest in pre-order; roots are indented by this level, and what is below an action by one more than it
abbrev pub tree_lines : ℕ → Actions → List ℕ
tree_lines level NoRoots = []
tree_lines level (Root root below others) =
    (indent level ++ action_text root.action ++ codes "\n") ++ tree_lines (level + 1) below ++ tree_lines level others
