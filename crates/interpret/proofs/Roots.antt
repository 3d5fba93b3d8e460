-- Commands, as what stands over the roots asks for them.
use Rattle.std.proofs.Common.{◌≡◌, ℕ, ◌-◌, List, [], Result, ap, ◌∙◌}
use Rattle.ledger_terms.specs.declared.known.Known.{Known}
use Rattle.ledger_terms.specs.declared.command.Command.{Command}
use Rattle.ledger_terms.specs.Forest.{NoRoots}
use Rattle.ledger_terms.specs.Trees.{Actions}
use Rattle.lang_eval.specs.Found.{Packages}
use Rattle.lang_eval.specs.Parts.{PartyNames}
use Rattle.interpret.specs.declared.asking.Asking.{Asking}
use Rattle.interpret.specs.declared.command_fault.CommandFault.{CommandFault}
use Rattle.interpret.specs.declared.progress.Progress.{Progress}
use Rattle.interpret.specs.Ids.{Hash}
use Rattle.interpret.specs.Act.{BodyRun, Source, act, follow, most_children}
use Rattle.interpret.specs.Asked.{source_of}
use Rattle.interpret.specs.Commands.{commands_source}
use Rattle.interpret.specs.Interpreted.{nothing_done, run_commands}

pub roots_run : (packages : Packages) (known : List Known) (seed sd : Hash) (by : PartyNames) (commands : List Command) (asking : Asking)
    (path : List ℕ) (left : ℕ) (progress : Progress) (roots : Actions) (r : Result BodyRun CommandFault)
    → source_of packages known [] asking ≡ commands_source packages known commands → path ≡ [] → sd ≡ seed → left ≡ 17 → progress ≡ nothing_done
    → roots ≡ NoRoots
    → r ≡ follow most_children (source_of packages known path asking) (act (left - 1) packages known) sd path by progress [] roots 0
    → r ≡ run_commands packages known seed by commands
roots_run packages known seed sd by commands asking path left progress roots r is at same room new none h =
    h
    ∙ (ap (λ (q : List ℕ). follow most_children (source_of packages known q asking) (act (left - 1) packages known) sd q by progress [] roots 0) at
    ∙ (ap (λ (n : ℕ). follow most_children (source_of packages known [] asking) (act (n - 1) packages known) sd [] by progress [] roots 0) room
    ∙ (ap (λ (s : Hash). follow most_children (source_of packages known [] asking) (act 16 packages known) s [] by progress [] roots 0) same
    ∙ (ap (λ (p : Progress). follow most_children (source_of packages known [] asking) (act 16 packages known) seed [] by p [] roots 0) new
    ∙ (ap (λ (f : Actions). follow most_children (source_of packages known [] asking) (act 16 packages known) seed [] by nothing_done [] f 0) none
    ∙ ap (λ (source : Source). follow most_children source (act 16 packages known) seed [] by nothing_done [] NoRoots 0) is)))))
