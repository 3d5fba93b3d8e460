-- What may be answered for a rule about a contract: an exercise of it (a command), None, by which nothing is done, or want of memory.
use Rattle.std.specs.Prelude.{◌≡◌, ℕ, ◌≤◌, List, Result, Option, Ok, Some, All, length}
use Rattle.std.specs.declared.alloc.AllocError.{AllocError}
use Rattle.ledger_terms.specs.Parties.{has_party}
use Rattle.ledger_terms.specs.declared.limits.TheConstants.{MOST_PARAMETERS, MOST_TEXT_BYTES}
use Rattle.ledger_terms.specs.declared.arg.Arg.{Arg}
use Rattle.ledger_terms.specs.declared.arg.Arg.TheVariants.{Plain, Contract}
use Rattle.ledger_terms.specs.declared.command.Command.{Command}
use Rattle.ledger_terms.specs.declared.command.Command.TheVariants.{Exercise}
use Rattle.ledger_terms.specs.declared.contract_ref.ContractRef.TheVariants.{Id}
use Rattle.ledger_terms.specs.declared.known.Known.{Known}
use Rattle.ledger_terms.specs.declared.value.Value.{Value}
use Rattle.ledger_terms.specs.declared.value.Value.TheVariants.{Text}
use Rattle.lang_eval.specs.HandedIn.{parties_in_args}
use Rattle.lang_eval.specs.Named.{AreKnown, parties_in_instance}
use denote.Ref.{Bor}

-- A statement of who answers for rules: for a rule's name, a contract and an answer, that this answer may be given.
abbrev pub Answers : Type 1
Answers = List ℕ → Known → Result (Option Command) AllocError → Type 0

-- The closure whose condition for a call is `pre` may be called on every rule's name and every reference to a contract (`Bor`).
abbrev pub CanAsk : (List ℕ → Bor Known → Type 0) → Type 0
CanAsk pre = (name : List ℕ) (p : Bor Known) → pre name p

-- A call of the closure that ensures `post`, at this name and a reference to this contract, may give the answer.
abbrev pub MayAnswer : (List ℕ → Bor Known → Result (Option Command) AllocError → Type 0) → Answers
MayAnswer post name known answer = (p : Bor Known) × post name p answer × (p.now ≡ known)

-- a value that is a text has few bytes; of other values this says nothing
abbrev pub IsShort : Value → Type 0
IsShort (Text s) = length s ≤ MOST_TEXT_BYTES
IsShort v = Unit {0}

-- an argument is a value, of few bytes where it is a text, and no reference to a contract
abbrev pub IsPlain : Arg → Type 0
IsPlain (Plain v) = IsShort v
IsPlain (Contract r) = ⊥

-- The command exercises that known contract, with plain arguments that keep the limits of scripts and name only parties that the contract's
-- fields name.
pub record IsExerciseOf (known : Known) (command : Command) : Type 0 where
  pub choice : List ℕ
  pub args : List Arg
  pub exercises : command ≡ Exercise (known.instance).template (Id known.id) choice args
  pub few : length args ≤ MOST_PARAMETERS
  pub plain : All IsPlain args
  pub named : AreKnown (has_party (parties_in_instance known.instance)) (parties_in_args args)

-- each command that may be answered about a contract, for whatever rule, exercises that contract
abbrev pub GivesExercises : Answers → Type 0
GivesExercises may = (name : List ℕ) (known : Known) (command : Command) → may name known (Ok (Some command)) → IsExerciseOf known command
