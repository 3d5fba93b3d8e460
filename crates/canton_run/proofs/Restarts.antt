-- Participants restart where a round begins, and are pruned to their bases there.
use Rattle.std.proofs.Common.{◌≡◌, ℕ, ◌+◌, ◌*◌, ◌≤◌, List, [], ◌∷◌, ◌++◌, drop, length, map, take, sym, ap, ◌∙◌, subst, arith, append_assoc}
use Rattle.std.proofs.lemmas.List.{length-map, map-append}
use Rattle.ledger_model.specs.Terms.{ParticipantId}
use Rattle.ledger_terms.specs.declared.topology.Topology.{Topology}
use Rattle.lang_eval.specs.Found.{Packages}
use Rattle.node_core.specs.Bases.{AreBases, Bases}
use Rattle.node_core.specs.declared.submit_result.SubmitResult.{SubmitResult}
use Rattle.prepare_request.specs.declared.submit_fault.SubmitFault.{SubmitFault}
use Rattle.run_model.specs.Restarts.{RoundBegin, begins_of, last_end}
use Rattle.run_model.specs.Workers.{RoundsBy}
use Rattle.run_model.proofs.Ends.{run_is_short}
use Rattle.run_model.proofs.Restarts.{base_moves_at_end, one_begin_more}
use Rattle.run_model.proofs.Workers.{rounds_are_shared}
use Rattle.script_read.specs.declared.round.Round.{Round}
use Rattle.script_read.specs.declared.script.Script.{Script}
use Rattle.seq_log.specs.Sequenced.{Sequenced}
use Rattle.threads_model.proofs.RunShared.{run_holds}
use Rattle.trigger_model.specs.CausedRun.{RoundsFire}
use Rattle.trigger_rules.specs.Answers.{Answers}
use Rattle.trigger_rules.specs.declared.caused.Caused.{Caused}
use Rattle.world_model.specs.Lawful.{Lawful}
use Rattle.world_model.specs.Machine.{Machine}
use Rattle.world_model.specs.Mediator.{MediatorState}
use Rattle.world_model.specs.Messages.{Entry}
use Rattle.world_model.specs.Rounds.{Why}
use Rattle.world_model.proofs.Steps.{new_lawful}
use Rattle.world_play.specs.Submitting.{AreSetUp}
use Rattle.world_play.specs.WorldOf.{IsWorldOf, world_of}
use Rattle.world_play.specs.declared.world.World.{World}
use Rattle.world_restart.specs.Restarting.{bases_after}
use Rattle.canton_run.specs.Answered.{answered}
use Rattle.canton_run.specs.Between.{ArePlayed}
use Rattle.canton_run.specs.Parts.{parts_in}
use Rattle.canton_run.specs.Restarts.{ArePrunedBy, begins_in, bases_in}
use Rattle.canton_run.specs.RoundsPlayed.{RoundsArePlayed, first_rounds}
use Rattle.canton_run.specs.Run.{SecondPartsArePlain, machine_for, params_of, reading_for, why_for}
use Rattle.canton_run.proofs.OneMore.{answers_are_as_many}
use Rattle.canton_run.proofs.PartsMore.{length_parts}

-- ---- what restarts keep

-- the log and time are the same in the second of these worlds, and its participants are the same and lawful
module _ (script : Script) (capacity workers : ℕ) (before after : World) (same : after.sequencer ≡ before.sequencer) (now : after.now ≡ before.now)
    (lawful : (m : Machine) (state : MediatorState) → IsWorldOf m state before → Lawful m (world_of state before)
    → IsWorldOf m state after × Lawful m (world_of state after))
    (set_up : (topology : Topology) (packages : Packages) → AreSetUp topology packages (before.nodes).items
    → AreSetUp topology packages (after.nodes).items) where
  parts_stay : (parts : List Round) (results : List SubmitResult) (ends : List ℕ) → ArePlayed script capacity workers parts before results ends
      → ArePlayed script capacity workers parts after results ends
  parts_stay parts results ends p =
      let is = lawful (machine_for script capacity) p.state p.is p.lawful in
      record {
        machine = p.machine;
        state = p.state;
        is = is.0;
        lawful = is.1;
        set_up = set_up script.topology script.checked p.set_up;
        now = now ∙ p.now;
        each_result = p.each_result;
        each_end = p.each_end;
        plain = p.plain;
        played =
            subst (λ (s : Sequenced). RoundsBy workers (machine_for script capacity) (why_for script) 0 [] (answered parts results ends) s.list) (sym same)
            p.played;
      }

  pub rounds_stay : (may : Answers) (count : ℕ) (fired_by : ℕ → List (List ℕ)) (results : List SubmitResult) (ends : List ℕ) (caused : List Caused)
      → RoundsArePlayed may script capacity workers count before fired_by results ends caused
      → RoundsArePlayed may script capacity workers count after fired_by results ends caused
  rounds_stay may count fired_by results ends caused p =
      record {
        parts = parts_stay (parts_in 0 (take count script.rounds) caused) results ends p.parts;
        each_result = p.each_result;
        before = p.before;
        fired = p.fired;
        same = p.same;
        whole = p.whole;
        first = p.first;
        second = λ more.
            subst
            (λ (s : Sequenced). SecondPartsArePlain (machine_for script capacity) (why_for script) 0 (s.list ++ more) (first_rounds script count results ends caused))
            (sym same) (p.second more);
        fires = λ more.
            subst (λ (s : Sequenced). RoundsFire may (reading_for script) (params_of script) (s.list ++ more) script.triggers [] p.fired) (sym same)
            (p.fires more);
        noted = p.noted;
      }

-- ---- how long the log is where a round begins

module _ (script : Script) (capacity workers : ℕ) (parts : List Round) (world : World) (results : List SubmitResult) (ends : List ℕ)
    (p : ArePlayed script capacity workers parts world results ends) where
  -- it has no more entries than are reserved, and one for each part
  pub played_is_short : length (world.sequencer).list ≤ capacity + length parts
  played_is_short =
      let m = machine_for script capacity in
      let new = new_lawful m in
      let answers = answered parts results ends in
      let shared = rounds_are_shared m (why_for script) workers p.machine 0 [] answers (world.sequencer).list (new.genuine, new.within_capacity) p.played in
      let bound = run_is_short m (why_for script) (world.sequencer).list answers (run_holds m (why_for script) p.machine answers (world.sequencer).list shared) in
      let many = answers_are_as_many parts results ends in omega (arith, bound, many)

ends_last : (workers : ℕ) (m : Machine) (why : Why SubmitFault) (now : ℕ) (before : List Entry) (parts : List Round) (results : List SubmitResult)
    (ends : List ℕ) (after : List Entry) → length ends ≡ length parts → RoundsBy workers m why now before (answered parts results ends) after
    → last_end (length before) ends ≡ length after
ends_last workers m why now before [] results [] after many h = ap length (sym h)
ends_last workers m why now before [] results (e ∷ ends) after many h = absurd (omega (arith, many))
ends_last workers m why now before (part ∷ parts) results [] after many h = absurd (omega (arith, many))
ends_last workers m why now before (part ∷ parts) results (e ∷ ends) after many h =
    ap (λ (n : ℕ). last_end n ends) h.3
    ∙ ends_last workers m why (now + part.advance) h.0 parts (drop (length part.submits) results) ends after (omega (arith, many)) h.4

-- ---- one round more

-- The round was played behind others from the first of these worlds to the second. Its participants restarted at the end of the first log, and
-- no base was moved since.
module _ (script : Script) (capacity workers count : ℕ) (round : Round) (next : take (count + 1) script.rounds ≡ take count script.rounds ++ round ∷ [])
    (caused : List Caused) (before after : World) (results : List SubmitResult) (ends : List ℕ)
    (p : ArePlayed script capacity workers (parts_in 0 (take count script.rounds) caused) before results ends) (more : List Entry)
    (is_more : (after.sequencer).list ≡ (before.sequencer).list ++ more)
    (moved : (bases : Bases) → AreBases bases (before.nodes).items
    → AreBases (bases_after (reading_for script) (params_of script) (before.sequencer).list round.restarts bases) (after.nodes).items)
    (pruned : ArePrunedBy script (take count script.rounds) ends before) where
  abbrev rounds : List Round
  rounds = take count script.rounds

  abbrev log : List Entry
  log = (before.sequencer).list

  abbrev begin : RoundBegin
  begin = record { at = length log; restarts = round.restarts }

  abbrev names : List (List ParticipantId)
  names = map (λ (one : Round). one.restarts) rounds

  two_ends : length ends ≡ 2 * length names
  two_ends =
      p.each_end
      ∙ (length_parts 0 rounds caused ∙ ap (λ (n : ℕ). 2 * n) (sym (length-map rounds (λ (one : Round). one.restarts))))

  begins_there : last_end 0 ends ≡ length log
  begins_there =
      ends_last workers (machine_for script capacity) (why_for script) 0 [] (parts_in 0 rounds caused) results ends log p.each_end p.played

  begins_are : (end second_end : ℕ) → begins_in (take (count + 1) script.rounds) (ends ++ end ∷ second_end ∷ []) ≡ begins_in rounds ends ++ begin ∷ []
  begins_are end second_end =
      ap (λ (rs : List Round). begins_in rs (ends ++ end ∷ second_end ∷ [])) next
      ∙ (ap (λ (lists : List (List ParticipantId)). begins_of 0 lists (ends ++ end ∷ second_end ∷ [])) (map-append (λ (one : Round). one.restarts) rounds (round ∷ []))
      ∙ (one_begin_more 0 names ends round.restarts end second_end two_ends
      ∙ ap (λ (n : ℕ). begins_in rounds ends ++ record { at = n; restarts = round.restarts } ∷ []) begins_there))

  goes_on : (rest : List Entry) → (after.sequencer).list ++ rest ≡ log ++ (more ++ rest)
  goes_on rest = ap (λ (xs : List Entry). xs ++ rest) is_more ∙ append_assoc log more rest

  pub one_round_more : (end second_end : ℕ) → ArePrunedBy script (take (count + 1) script.rounds) (ends ++ end ∷ second_end ∷ []) after
  one_round_more end second_end rest k node at =
      moved (bases_in script (log ++ (more ++ rest)) (begins_in rounds ends)) (pruned (more ++ rest)) k node at
      ∙ sym (ap (λ (begins : List RoundBegin). bases_in script ((after.sequencer).list ++ rest) begins k) (begins_are end second_end)
      ∙ (ap (λ (xs : List Entry). bases_in script xs (begins_in rounds ends ++ begin ∷ []) k) (goes_on rest)
      ∙ base_moves_at_end (reading_for script) (params_of script) log (more ++ rest) k (begins_in rounds ends) round.restarts))
