-- What a run's dump is judged to be.
use Rattle.std.proofs.Common.{◌≡◌, ℕ, ◌<◌, ◌≤◌, ◌^◌, List, [], ◌∷◌, length, Ok, All, refl, inl, inr, lit<, arith}
use Rattle.canton_model.specs.declared.entry.Entry.{Entry}
use Rattle.audit_model.specs.Judged.{approved_in}
use Rattle.ledger_model.proofs.Lists.{In, contains_from_In, in_from_Contains}
use Rattle.log_audit.specs.Audits.{IsAudit}
use Rattle.log_audit.specs.RuleRuns.{AreOpened}
use Rattle.log_audit.specs.Scripts.{most_of, script_of, standard_of}
use Rattle.log_audit.specs.declared.answer.Audit.TheVariants.{Yes}
use Rattle.log_audit.proofs.Reach.{dump_is_yes}
use Rattle.log_bounds.proofs.Room.{can_be_dumped}
use Rattle.log_audit.proofs.RuleRuns.{rules_are_used_rightly}
use Rattle.log_dump.specs.InRange.{IsBlock, IsTyped}
use Rattle.log_dump.specs.Spellable.{IsSpellableLog}
use Rattle.log_dump.specs.Spelling.{spell_dump}
use Rattle.node_core.specs.declared.submit_result.SubmitResult.{SubmitResult}
use Rattle.script_read.specs.Kept.{IsAccepted}
use Rattle.script_read.specs.Script.{script_in}
use Rattle.script_read.specs.declared.script.Script.{Script}
use Rattle.trigger_model.specs.TwoParts.{RoundParts, parts_of, second_round}
use Rattle.trigger_rules.specs.Answers.{Answers}
use Rattle.trigger_rules.specs.declared.caused.Caused.{Caused}
use Rattle.world_model.specs.Machine.{IsMachine}
use Rattle.world_model.specs.Rounds.{RoundAnswers}
use Rattle.canton_run.specs.Run.{IsRun, machine_for, parts_of_run, why_for}
use Rattle.canton_run.proofs.LogLength.{log_is_short}
use Rattle.canton_run.proofs.OwnIds.{own_ids}

-- the second part of a round, with its results
abbrev second_answers : {F : Type 0} → RoundParts F → RoundAnswers F
second_answers x = record { round = second_round x.round x.caused; results = x.caused_results; end = x.caused_end }

second_in : {F : Type 0} (rounds : List (RoundParts F)) (x : RoundParts F) → In x rounds → In (second_answers x) (parts_of rounds)
second_in [] x i = absurd i
second_in (y ∷ rounds) x (inl same) = inr (inl (rw (← same) refl))
second_in (y ∷ rounds) x (inr i) = inr (inr (second_in rounds x i))

module _ (may : Answers) (script : Script) (capacity workers : ℕ) (log : List Entry) (results : List SubmitResult) (ends : List ℕ) (caused : List Caused)
    (run : IsRun may script capacity workers log results ends caused) where
  opened : AreOpened script log (parts_of_run script results ends caused)
  opened x what place read_to i sent =
      let second =
      contains_from_In (parts_of (parts_of_run script results ends caused)) (second_answers x)
      (second_in (parts_of_run script results ends caused) x (in_from_Contains (parts_of_run script results ends caused) x i)) in
      let own = run.own (second_answers x) what place read_to second sent in
      (own.0, own.1, own.2, record { known = _; wanted = (own.3).wanted; whole = (own.3).whole })

  -- its log has a spelling
  pub is_spellable : IsAccepted script → capacity ≤ 20480 → IsSpellableLog log
  is_spellable accepted room =
      let few = log_is_short may script capacity workers log results ends caused run accepted room in
      let most : 24576 < 2 ^ 32 = lit< tt in
      let hosts : length (script.topology).hosts ≤ 8 = (accepted.topology).few_hosts in
      can_be_dumped script.topology script.checked log (omega (arith, hosts)) ((run.cut).run).genuine (omega (arith, few, most))

  pub dump_is_judged : (bytes : List ℕ) → IsMachine (machine_for script capacity) → IsAccepted script → capacity ≤ 20480 → script_in bytes ≡ Ok script
      → IsBlock bytes → All IsTyped log → IsAudit script_of most_of standard_of (spell_dump bytes log) (Yes (length log) (approved_in log))
  dump_is_judged bytes machine accepted room is block typed =
      let few = log_is_short may script capacity workers log results ends caused run accepted room in
      let most : 24576 < 2 ^ 32 = lit< tt in
      dump_is_yes bytes script log is accepted block ((run.cut).run).genuine (omega (arith, few, most)) typed
      (rules_are_used_rightly (machine_for script capacity) (why_for script) may script log (parts_of_run script results ends caused) run.fired machine
      refl accepted (record { run = run.cut; same = run.same; causes = run.causes })
      (own_ids (script.topology).hosts script.triggers 0 script.rounds caused results ends (accepted.rounds).each) opened)
