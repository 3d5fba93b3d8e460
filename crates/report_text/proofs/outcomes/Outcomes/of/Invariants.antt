use Rattle.std.specs.Prelude.{take, nat_eq}
use Rattle.indexmap.specs.IndexMap.{get}
use Rattle.report_text.specs.Decided.{Decides}
use Rattle.report_text.proofs.outcomes.Outcomes.of.Given as goal

abbrev pub invariant-entries : goal.invariant-entries
invariant-entries l = Decides (λ request. get nat_eq l.verdicts request) l.latest (take l.entry-index l.log)
