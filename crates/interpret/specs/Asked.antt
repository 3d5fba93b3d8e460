-- What the body of a choice asks for, and what commands do, as the code has both in one type (`Asking`). The definitions say the same in
-- `body_source` and `commands_source`.
use Rattle.std.specs.Prelude.{ℕ, List, [], ◌∷◌, ◌++◌, slice_get}
use Rattle.ledger_terms.specs.declared.known.Known.{Known}
use Rattle.ledger_terms.specs.declared.action.Action.{Action}
use Rattle.ledger_model.specs.Conformance.{result_of_child}
use Rattle.ledger_model.specs.declared.step.ChildResult.{ChildResult}
use Rattle.lang_eval.specs.Found.{Packages}
use Rattle.lang_eval.specs.Next.{next}
use Rattle.interpret.specs.declared.asking.Asking.{Asking}
use Rattle.interpret.specs.declared.asking.Asking.TheVariants.{Body, Commands}
use Rattle.interpret.specs.Act.{Source, Turn, turn_of}
use Rattle.interpret.specs.Commands.{command_turn}

-- What is asked for at an index, after what was learnt of the children before. In order: the packages, the known contracts, the path of the Exercise
-- whose body asks, who asks, the index from 0, what was learnt (`seen`). A body doesn't look at known contracts and index, and commands not at path and
-- `seen`.
abbrev pub asked_turn : Packages → List Known → List ℕ → Asking → ℕ → List ChildResult → Turn
asked_turn packages known path (Body call) index seen = turn_of path (next packages call.now seen)
asked_turn packages known path (Commands commands) index seen = command_turn packages known index (slice_get commands.now index)

-- what was learnt after one more action: a body learns what the action gives, and commands learn nothing, so that none knows of those before it
abbrev pub learnt : Asking → List ChildResult → Action → List ChildResult
learnt (Body call) seen a = seen ++ result_of_child a ∷ []
learnt (Commands commands) seen a = []

-- What a body or commands ask for, as a source over these packages and known contracts. The path is that of the Exercise whose body asks; with commands
-- it has no effect.
abbrev pub source_of : Packages → List Known → List ℕ → Asking → Source
source_of packages known path asking =
    record {
      turn = λ index seen. asked_turn packages known path asking index seen;
      learn = λ seen a. learnt asking seen a;
    }
