use Rattle.std.proofs.Common.{◌≡◌, [], take}
use Rattle.std.specs.Prelude.{None}
use Rattle.ledger_terms.specs.Grown.{forest_of}
use Rattle.lang_eval.specs.Language.{roles_in}
use Rattle.view_split.specs.Split.{split}
use Rattle.view_split.specs.Faults.{fault_from}
use Rattle.view_split.proofs.splitting.split_roots.Given as goal

abbrev pub invariant-loop-at : goal.invariant-loop-at
invariant-loop-at l =
    (l.views ≡ split (roles_in l.checked) (forest_of (take l.at l.nodes)))
    × (fault_from l.checked [] 0 (forest_of (take l.at l.nodes)) ≡ None)
