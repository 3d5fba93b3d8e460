-- Who is informed of an action.
use Rattle.std.specs.Prelude.{Bool}
use Rattle.ledger_terms.specs.Parties.{meets_set}
use Rattle.ledger_terms.specs.declared.act.Act.{Act}
use Rattle.ledger_terms.specs.Trees.{Actions}
use Rattle.ledger_terms.specs.Forest as forest
use Rattle.lang_eval.specs.Found.{Packages}
use Rattle.lang_eval.specs.Parts.{PartyNames}
use Rattle.lang_eval.specs.Language.{roles_in}

-- whether one of the parties is an informee of the action, by the packages' roles
abbrev pub is_informed : Packages → PartyNames → Act → Bool
is_informed packages parties act = meets_set (roles_in packages act.action).informees parties

-- What the parties are told of a forest of actions: an action of which one of the parties is informed stays whole, with all below it, and any other
-- gives way to the projection of what is below it.
abbrev pub projection : Packages → PartyNames → Actions → Actions
projection packages parties roots = forest.project (is_informed packages parties) roots
