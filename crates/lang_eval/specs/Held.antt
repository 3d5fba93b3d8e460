-- The values that the code holds, borrowed or made.
use Rattle.ledger_terms.specs.declared.value.Value.{Value}
use Rattle.lang_eval.specs.declared.holding.Holding.{Holding}
use Rattle.lang_eval.specs.declared.holding.Holding.TheVariants.{Given, Made}

-- the value that is held, be it borrowed from where it stands (Given) or made by an evaluation (Made)
abbrev pub held : Holding → Value
held (Given v) = v.now
held (Made v) = v
