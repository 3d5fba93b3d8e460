-- The lines of what rules caused.
use Rattle.std.specs.Prelude.{ℕ, List, ◌++◌, codes, decimal}
use Rattle.std.specs.List.{flat_map}
use Rattle.trigger_rules.specs.declared.caused.Caused.{Caused}
use Rattle.report_text.specs.Values.{instance_text}

-- the line of one firing: the round in which the rule fired, the rule, the contract by its instance, and the id of the command that it submitted
abbrev pub fired_line : Caused → List ℕ
fired_line one =
    codes "fired " ++ decimal one.round ++ codes " " ++ one.rule ++ codes " " ++ instance_text one.instance ++ codes " as "
    ++ (one.submission).command ++ codes "\n"

-- a line for each of what rules caused, in order
abbrev pub fired_lines : List Caused → List ℕ
fired_lines caused = flat_map fired_line caused
