-- What the code that runs statements answers, as how they end.
use Rattle.std.specs.Prelude.{Result, Ok, Err}
use Rattle.lang_eval.specs.declared.eval_fault.EvalFault.{EvalFault}
use Rattle.lang_eval.specs.declared.run.Run.{Run}
use Rattle.lang_eval.specs.declared.run.Run.TheVariants.{Stopped as StoppedAt, Went as WentTo}
use Rattle.lang_eval.specs.Names.{Names}
use Rattle.lang_eval.specs.Next.{Ran, Stopped, Went}

-- How the statements ended that the code ran, put as `Ran`: by the code's answer, and the names that are bound after it, which count only where it went
-- to the end. Of a want of memory, which comes as a fault here, contracts say nothing.
abbrev pub shown : Result Run EvalFault → Names → Ran
shown (Ok (StoppedAt step)) names = Stopped (Ok step)
shown (Ok (WentTo seen)) names = Went names seen.now
shown (Err e) names = Stopped (Err e)
