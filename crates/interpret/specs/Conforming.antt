-- Whether whole transactions are possible in the model.
use Rattle.std.specs.Prelude.{Bool, true, ◌&&◌}
use Rattle.ledger_terms.specs.declared.act.Act.{Act}
use Rattle.ledger_terms.specs.Forest.{Forest, NoRoots, Root}
use Rattle.lang_eval.specs.Found.{Packages}
use Rattle.interpret.specs.Tries.{is_tree_possible}

-- Whether each root of these trees is possible with all that stands below it, whatever the seeds are: a test that is true exactly where the ledger's
-- `Conforms` holds. It is the field `conforms` of the readings of requests.
abbrev pub conforms : Packages → Forest Act → Bool
conforms packages NoRoots = true
conforms packages (Root act consequences others) = is_tree_possible packages act.action consequences && conforms packages others
