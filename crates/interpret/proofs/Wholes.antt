-- What is given for commands is the wanted transaction.
use Rattle.std.proofs.Common.{◌≡◌, ℕ, ◌+◌, ◌≤◌, true, List, [], Option, Some, None, Result, Ok, Err, refl, sym, subst, ◌∙◌, inl, inr, arith}
use Rattle.std.specs.Prelude.{nat_le, slice_get}
use Rattle.std.proofs.lemmas.Bool.{cases_Bool}
use Rattle.std.proofs.lemmas.Bool.Decides.{nat_tests}
use Rattle.ledger_terms.specs.declared.value.Value.{Value}
use Rattle.ledger_terms.specs.declared.value.Value.TheVariants.{Unit as UnitValue}
use Rattle.ledger_terms.specs.declared.known.Known.{Known}
use Rattle.ledger_terms.specs.declared.command.Command.{Command}
use Rattle.ledger_terms.specs.Forest.{NoRoots, Root, preorder}
use Rattle.ledger_terms.specs.Trees.{Actions}
use Rattle.ledger_model.specs.declared.step.ChildResult.{ChildResult}
use Rattle.lang_eval.specs.Found.{Packages}
use Rattle.lang_eval.specs.Parts.{PartyNames}
use Rattle.wire_form.specs.Lengths.{capped}
use Rattle.interpret.specs.declared.command_fault.CommandFault.{CommandFault}
use Rattle.interpret.specs.declared.command_fault.CommandFault.TheVariants.{TooBig}
use Rattle.interpret.specs.declared.progress.Progress.{Progress}
use Rattle.interpret.specs.declared.demand.Demand.{Demand}
use Rattle.interpret.specs.Ids.{Hash}
use Rattle.interpret.specs.Act.{BodyRun, End, on, act, most_children}
use Rattle.interpret.specs.Commands.{commands_source, command_demand, command_turn, demand_turn}
use Rattle.wire_form.specs.Encoded.{encoded_bytes}
use Rattle.interpret.specs.Interpreted.{interp, run_commands, if_small, nothing_done}
use Rattle.interpret.specs.Wanted.{Wanted, IsWanted, after, after_all}
use Rattle.interpret.proofs.Steps.{most_is}
use Rattle.interpret.proofs.Completeness.{act_done, follow_done}
use Rattle.interpret.proofs.Law.{act_law, follow_law}

module _ (packages : Packages) (known : List Known) where
  asked_ends : (r : Result Demand CommandFault) (v : Value) → demand_turn r ≡ End v → v ≡ UnitValue
  asked_ends (Ok s) v h = cc
  asked_ends (Err e) v h = cc

  command_ends : (root : ℕ) (o : Option Command) (v : Value) → command_turn packages known root o ≡ End v → v ≡ UnitValue
  command_ends root None v h = cc
  command_ends root (Some c) v h = asked_ends (command_demand packages known root c) v h

  pub roots_end : (commands : List Command) (left : ℕ) (result : Value) (by : PartyNames) (seen : List ChildResult) (seed : Hash) (path : List ℕ)
      (index : ℕ) (progress : Progress) (forest : Actions)
      → Wanted packages known left (commands_source packages known commands) result by seen seed path index progress forest → result ≡ UnitValue
  roots_end commands left result by seen seed path index progress NoRoots w = command_ends index (slice_get commands index) result w
  roots_end commands left result by seen seed path index progress (Root a consequences others) w =
      roots_end commands left result by [] seed path (index + 1) (after_all (after progress a) (preorder consequences)) others w.6

  small_case : (g forest : Actions) → if_small g ≡ Ok forest → (g ≡ forest) × (encoded_bytes forest ≤ 32768)
  small_case g forest h =
      elim (cases_Bool (nat_le (encoded_bytes g) 32768)) [
        | inl b ↦
            let same : g ≡ forest = let e : Ok g ≡ Ok forest = rw b at h in cc in
            let few : encoded_bytes g ≤ 32768 = grind (arith, nat_tests) in
            (same, subst (λ (f : Actions). encoded_bytes f ≤ 32768) same few)
        | inr b ↦ let no : Err (TooBig (capped (encoded_bytes g))) ≡ Ok forest = rw b at h in absurd cc
      ]

  module _ (seed : Hash) (by : PartyNames) (commands : List Command) (forest : Actions) where
    whole : (f : BodyRun) → run_commands packages known seed by commands ≡ Ok f → if_small f.children ≡ Ok forest
        → IsWanted packages known seed by commands forest
    whole f ran h =
        let rest = follow_law packages known 16 (act 16 packages known) (act_law packages known 16) (commands_source packages known commands) by seed
        [] f most_children nothing_done [] NoRoots 0 ran in
        let parts = small_case f.children forest h in
        let all : rest.rest ≡ forest = sym rest.joins ∙ parts.0 in
        let unit : f.result ≡ UnitValue = roots_end commands 16 f.result by [] seed [] 0 nothing_done rest.rest rest.wanted in
        record {
          roots = subst (λ (g : Actions). Wanted packages known 16 (commands_source packages known commands) UnitValue by [] seed [] 0 nothing_done g) all
              (subst (λ (v : Value). Wanted packages known 16 (commands_source packages known commands) v by [] seed [] 0 nothing_done rest.rest)
              unit rest.wanted);
          small = parts.1;
        }

    ran_case : (r : Result BodyRun CommandFault) → run_commands packages known seed by commands ≡ r
        → on (on r (λ f. Ok f.children)) if_small ≡ Ok forest → IsWanted packages known seed by commands forest
    ran_case (Ok f) ran h = whole f ran h
    ran_case (Err e) ran h = absurd (let no : Err e ≡ Ok forest = h in cc)

    pub given_is_wanted : interp packages known seed by commands ≡ Ok forest → IsWanted packages known seed by commands forest
    unfolding interp
    given_is_wanted h = ran_case _ refl h

  module _ (seed : Hash) (by : PartyNames) (commands : List Command) (forest : Actions) where
    -- the wanted transaction is what is given
    pub wanted_is_given : IsWanted packages known seed by commands forest → interp packages known seed by commands ≡ Ok forest
    unfolding interp
    wanted_is_given h =
        let ran = follow_done packages known 16 (act 16 packages known) (act_done packages known 16) (commands_source packages known commands)
        UnitValue by seed [] forest most_children nothing_done [] NoRoots 0 (omega (arith, most_is)) (omega arith) h.roots in
        let few : nat_le (encoded_bytes forest) 32768 ≡ true = grind (arith, nat_tests, h.small) in
        rw (ran, few) refl
