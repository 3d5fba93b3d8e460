-- A fault is given for commands exactly where they stop with it.
use Rattle.std.proofs.Common.{◌≡◌, ◌≢◌, ◌<◌, false, List, [], Result, Ok, Err, refl, sym, ap, subst, ◌∙◌, inl, inr, arith}
use Rattle.std.specs.Prelude.{nat_le, IfOk, IfErr}
use Rattle.ledger_terms.specs.Answers.{UnlessMemory}
use Rattle.std.proofs.lemmas.Bool.{cases_Bool}
use Rattle.std.proofs.lemmas.Bool.Decides.{nat_tests}
use Rattle.ledger_terms.specs.declared.value.Value.{Value}
use Rattle.ledger_terms.specs.declared.value.Value.TheVariants.{Unit as UnitValue}
use Rattle.ledger_terms.specs.declared.known.Known.{Known}
use Rattle.ledger_terms.specs.declared.command.Command.{Command}
use Rattle.ledger_terms.specs.Forest.{NoRoots}
use Rattle.ledger_terms.specs.Trees.{Actions}
use Rattle.lang_eval.specs.Found.{Packages}
use Rattle.lang_eval.specs.Parts.{PartyNames}
use Rattle.wire_form.specs.Lengths.{capped}
use Rattle.interpret.specs.declared.command_fault.CommandFault.{CommandFault}
use Rattle.interpret.specs.declared.command_fault.CommandFault.TheVariants.{TooBig, Memory}
use Rattle.interpret.specs.Ids.{Hash}
use Rattle.interpret.specs.Act.{BodyRun, on, act, most_children}
use Rattle.interpret.specs.Commands.{commands_source}
use Rattle.wire_form.specs.Encoded.{encoded_bytes}
use Rattle.interpret.specs.Interpreted.{interp, run_commands, if_small, nothing_done}
use Rattle.interpret.specs.Wanted.{Wanted, IsWanted}
use Rattle.interpret.specs.Stops.{StopsWith}
use Rattle.interpret.proofs.Steps.{most_is}
use Rattle.interpret.proofs.Completeness.{act_done, follow_done}
use Rattle.interpret.proofs.Law.{act_law, follow_law}
use Rattle.interpret.proofs.StopLaw.{act_stop, act_halts, follow_stop, follow_halts}
use Rattle.interpret.proofs.Wholes.{roots_end, given_is_wanted}

module _ (packages : Packages) (known : List Known) (seed : Hash) (by : PartyNames) (commands : List Command) (fault : CommandFault) where
  err_is : (x y : CommandFault) → (let r : Result Actions CommandFault = Err x in r ≡ Err y) → x ≡ y
  err_is x y h = cc

  big : (forest : Actions) → Wanted packages known 16 (commands_source packages known commands) UnitValue by [] seed [] 0 nothing_done forest
      → if_small forest ≡ Err fault → StopsWith packages known seed by commands fault
  big forest w h =
      elim (cases_Bool (nat_le (encoded_bytes forest) 32768)) [
        | inl b ↦ let no : Ok forest ≡ Err fault = rw b at h in absurd cc
        | inr b ↦
            let e : Err (TooBig (capped (encoded_bytes forest))) ≡ Err fault = rw b at h in
            let more : 32768 < encoded_bytes forest = grind (arith, nat_tests) in
            inr (forest, w, more, sym (err_is (TooBig (capped (encoded_bytes forest))) fault e))
      ]

  whole : (f : BodyRun) → run_commands packages known seed by commands ≡ Ok f → if_small f.children ≡ Err fault
      → StopsWith packages known seed by commands fault
  whole f ran h =
      let rest = follow_law packages known 16 (act 16 packages known) (act_law packages known 16) (commands_source packages known commands) by seed
      [] f most_children nothing_done [] NoRoots 0 ran in
      let unit : f.result ≡ UnitValue = roots_end packages known commands 16 f.result by [] seed [] 0 nothing_done rest.rest rest.wanted in
      big rest.rest (subst (λ (v : Value). Wanted packages known 16 (commands_source packages known commands) v by [] seed [] 0 nothing_done
      rest.rest) unit rest.wanted)
      (subst (λ (g : Actions). if_small g ≡ Err fault) rest.joins h)

  ran_case : (r : Result BodyRun CommandFault) → run_commands packages known seed by commands ≡ r
      → on (on r (λ f. Ok f.children)) if_small ≡ Err fault → StopsWith packages known seed by commands fault
  ran_case (Ok f) ran h = whole f ran h
  ran_case (Err e) ran h =
      inl (follow_stop packages known 16 (act 16 packages known) (commands_source packages known commands) by seed [] fault
      (act_law packages known 16) (act_stop packages known 16) most_children nothing_done [] NoRoots 0 (omega (arith, most_is)) (omega arith)
      (ran ∙ ap (λ (e : CommandFault). Err e) (err_is e fault h)))

  pub given_stops : interp packages known seed by commands ≡ Err fault → StopsWith packages known seed by commands fault
  unfolding interp
  given_stops h = ran_case _ refl h

  pub stop_is_given : StopsWith packages known seed by commands fault → interp packages known seed by commands ≡ Err fault
  unfolding interp
  stop_is_given (inl s) =
      let ran = follow_halts packages known 16 (act 16 packages known) (commands_source packages known commands) by seed [] fault
      (act_done packages known 16) (act_halts packages known 16) s.0 most_children nothing_done [] NoRoots 0 (omega (arith, most_is)) (omega arith) s.1 in
      rw ran refl
  stop_is_given (inr s) =
      let ran = follow_done packages known 16 (act 16 packages known) (act_done packages known 16) (commands_source packages known commands)
      UnitValue by seed [] s.0 most_children nothing_done [] NoRoots 0 (omega (arith, most_is)) (omega arith) s.1 in
      let many : nat_le (encoded_bytes s.0) 32768 ≡ false = grind (arith, nat_tests, s.2) in
      rw (ran, many) (ap (λ (f : CommandFault). Err f) (sym s.3))

module _ (packages : Packages) (known : List Known) (seed : Hash) (by : PartyNames) (commands : List Command) where
  pub wanted_answer : (r : Result Actions CommandFault) → UnlessMemory Memory r (interp packages known seed by commands)
      → IfOk r (λ forest. IsWanted packages known seed by commands forest)
  wanted_answer (Ok forest) h = given_is_wanted packages known seed by commands forest (sym (h (λ e. cc)))
  wanted_answer (Err e) h = tt

  pub stop_answer : (r : Result Actions CommandFault) → UnlessMemory Memory r (interp packages known seed by commands)
      → IfErr r (λ fault. fault ≢ Memory → StopsWith packages known seed by commands fault)
  stop_answer (Ok forest) h = tt
  stop_answer (Err e) h = λ fresh. given_stops packages known seed by commands e (sym (h (λ m. fresh cc)))
