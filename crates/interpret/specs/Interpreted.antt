-- Commands run in order, and the whole transaction or the first fault.
use Rattle.std.specs.Prelude.{List, [], cond, nat_le, Result, Ok, Err}
use Rattle.ledger_terms.specs.declared.known.Known.{Known}
use Rattle.ledger_terms.specs.declared.command.Command.{Command}
use Rattle.ledger_terms.specs.Forest.{NoRoots}
use Rattle.ledger_terms.specs.Trees.{Actions}
use Rattle.ledger_terms.specs.declared.limits.TheConstants.{MOST_ACTION_DEPTH, MOST_ACTION_BYTES}
use Rattle.wire_form.specs.Lengths.{capped}
use Rattle.lang_eval.specs.Found.{Packages}
use Rattle.lang_eval.specs.Parts.{PartyNames}
use Rattle.interpret.specs.declared.command_fault.CommandFault.{CommandFault}
use Rattle.interpret.specs.declared.command_fault.CommandFault.TheVariants.{TooBig}
use Rattle.interpret.specs.declared.progress.Progress.{Progress}
use Rattle.interpret.specs.Ids.{Hash}
use Rattle.interpret.specs.Act.{BodyRun, act, follow, most_children, on}
use Rattle.interpret.specs.Commands.{commands_source}
use Rattle.wire_form.specs.Encoded.{encoded_bytes}

-- the progress of a transaction that has done nothing yet
abbrev pub nothing_done : Progress
nothing_done = record { created = []; consumed = []; count = 0 }

-- What commands come to: the root actions with all below them, 16 levels deep at most, or the first fault. `known` are the contracts that
-- they may use, `seed` is the transaction's, and `by` are the requesters, who authorise the roots.
abbrev pub run_commands : Packages → List Known → Hash → PartyNames → List Command → Result BodyRun CommandFault
run_commands packages known seed by commands =
    follow most_children (commands_source packages known commands) (act MOST_ACTION_DEPTH packages known) seed [] by nothing_done [] NoRoots 0

-- the root actions of what commands come to, with all below them, or the first fault
abbrev pub run_roots : Packages → List Known → Hash → PartyNames → List Command → Result Actions CommandFault
run_roots packages known seed by commands = on (run_commands packages known seed by commands) (λ f. Ok f.children)

-- The last test of a transaction: the actions as they are, or TooBig where their encoded bytes exceed the limit.
abbrev pub if_small : Actions → Result Actions CommandFault
if_small forest = cond (nat_le (encoded_bytes forest) MOST_ACTION_BYTES) (Ok forest) (Err (TooBig (capped (encoded_bytes forest))))

-- The transaction that commands ask for, or the first fault: what `interpret` answers. `seed` is the transaction's, and `by` are its requesters.
unfoldable pub interp : Packages → List Known → Hash → PartyNames → List Command → Result Actions CommandFault
interp packages known seed by commands = on (run_roots packages known seed by commands) if_small
