use Rattle.std.proofs.Common.{◌≡◌, ◌++◌, drop}
use Rattle.canton_model.specs.Mediation.{missing_of}
use Rattle.page_data.proofs.waiting.missing_of.Given as goal

abbrev pub invariant-loop-p : goal.invariant-loop-p
invariant-loop-p l = l.missing ++ missing_of l.place (drop l.p-index l.confirming) l.log ≡ missing_of l.place l.confirming l.log
