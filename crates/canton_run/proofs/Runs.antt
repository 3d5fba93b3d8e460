-- What was played is a run of its script.
use Rattle.std.proofs.Common.{◌≡◌, ℕ, ◌+◌, ◌*◌, ◌≤◌, List, [], ◌∷◌, ◌++◌, length, take, refl, sym, ap, ◌∙◌, subst, inl, inr, arith, append-nil, le_refl}
use Rattle.std.proofs.lemmas.List.{take_all}
use Rattle.ledger_model.proofs.Lists.{In, contains_from_In, in_append_left, in_append_right, in_from_Contains}
use Rattle.canton_model.specs.declared.entry.Entry.{Entry}
use Rattle.node_core.specs.declared.submit_result.SubmitResult.{SubmitResult}
use Rattle.prepare_request.specs.declared.submit_fault.SubmitFault.{SubmitFault}
use Rattle.run_model.proofs.Ends.{run_approves_all}
use Rattle.script_read.specs.Kept.{IsAccepted}
use Rattle.script_read.specs.declared.round.Round.{Round}
use Rattle.script_read.specs.declared.script.Script.{Script}
use Rattle.framed_form.proofs.Lawful.{are_framed}
use Rattle.framed_form.proofs.NoCollision.{no_collision}
use Rattle.run_model.specs.Workers.{RoundsBy}
use Rattle.run_model.proofs.Workers.{rounds_are_plain, rounds_are_shared}
use Rattle.threads_model.proofs.RunShared.{run_holds}
use Rattle.trigger_model.specs.CausedRequests.{AreRounds}
use Rattle.trigger_model.specs.CausedRun.{FiredRound, RoundsFire, all_caused}
use Rattle.trigger_model.specs.TwoParts.{CausedStandFirst, RoundParts, RunInParts, parts_of}
use Rattle.trigger_model.proofs.CausedFacts.{caused_holds}
use Rattle.trigger_model.proofs.RequestFacts.{request_is_caused}
use Rattle.trigger_rules.specs.Answers.{Answers}
use Rattle.trigger_rules.specs.declared.caused.Caused.{Caused}
use Rattle.world_model.specs.Machine.{Machine, IsMachine}
use Rattle.world_model.specs.Mediator.{new_mediator}
use Rattle.world_model.specs.Rounds.{RoundAnswers}
use Rattle.world_model.specs.World as w
use Rattle.world_model.specs.Lawful.{Lawful}
use Rattle.world_model.proofs.HeadlineFacts.{headline}
use Rattle.world_model.proofs.Steps.{new_lawful}
use Rattle.world_play.specs.Submitting.{AreSetUp}
use Rattle.world_play.specs.WorldOf.{IsWorldOf, world_of}
use Rattle.world_play.specs.declared.world.World.{World}
use Rattle.canton_run.specs.Answered.{answered}
use Rattle.canton_run.specs.Between.{ArePlayed}
use Rattle.canton_run.specs.Parts.{parts_in, round_parts}
use Rattle.canton_run.specs.RoundsPlayed.{RoundsArePlayed}
use Rattle.canton_run.specs.Run.{IsRun, SecondPartsArePlain, machine_for, params_of, parts_of_run, reading_for, submissions_in, why_for}
use Rattle.canton_run.proofs.OneMore.{answers_are_as_many}
use Rattle.canton_run.proofs.Own.{SentLaw, sent_is_own}
use Rattle.canton_run.proofs.OwnIds.{own_ids}
use Rattle.canton_run.proofs.Parts.{parts_are_rounds}
use Rattle.canton_run.proofs.PartsMore.{length_parts}

in_all : (fired : List FiredRound) (round : FiredRound) (one : Caused) → In round fired → In one round.caused → In one (all_caused fired)
in_all [] round one i j = absurd i
in_all (x ∷ fired) round one (inl same) j =
    in_append_left x.caused (all_caused fired) one (subst (λ (r : FiredRound). In one r.caused) (sym same) j)
in_all (x ∷ fired) round one (inr i) j = in_append_right x.caused (all_caused fired) one (in_all fired round one i j)

module _ (may : Answers) (script : Script) (capacity workers : ℕ) where
  abbrev m : Machine
  m = machine_for script capacity

  -- on a new synchroniser no rounds were played
  none_played : IsMachine m → (world : World) → IsWorldOf m new_mediator world → world_of new_mediator world ≡ w.new_world m
      → AreSetUp script.topology script.checked (world.nodes).items → ArePlayed script capacity workers [] world [] []
  none_played machine world is new set_up =
      record {
        machine = machine;
        state = new_mediator;
        is = is;
        lawful = subst (Lawful m) (sym new) (new_lawful m);
        set_up = set_up;
        now = ap (λ (x : w.World). x.now) new;
        each_result = refl;
        each_end = refl;
        plain = λ k d lt. absurd (omega (arith, lt));
        played = ap (λ (x : w.World). x.log) new;
      }

  pub no_rounds_played : IsMachine m → (world : World) → IsWorldOf m new_mediator world → world_of new_mediator world ≡ w.new_world m
      → AreSetUp script.topology script.checked (world.nodes).items → (fired_by : ℕ → List (List ℕ)) → ((k : ℕ) → fired_by k ≡ [])
      → RoundsArePlayed may script capacity workers 0 world fired_by [] [] []
  no_rounds_played machine world is new set_up fired_by none =
      record {
        parts = none_played machine world is new set_up;
        each_result = refl;
        before = λ one i. absurd (in_from_Contains [] one i);
        fired = [];
        same = tt;
        whole = refl;
        first = tt;
        second = λ more. tt;
        fires = λ more. tt;
        noted = λ k rule at. none k;
      }

  module _ (machine : IsMachine m) (law : SentLaw) (accepted : IsAccepted script) (room : capacity ≤ 20480) (results : List SubmitResult) (ends : List ℕ)
      (caused : List Caused) (world : World) (fired_by : ℕ → List (List ℕ)) (log : List Entry) (same_log : log ≡ (world.sequencer).list)
      (p : RoundsArePlayed may script capacity workers (length script.rounds) world fired_by results ends caused) where
    all : take (length script.rounds) script.rounds ≡ script.rounds
    all = take_all (length script.rounds) script.rounds (le_refl (length script.rounds))

    abbrev parts : List (RoundParts SubmitFault)
    parts = parts_of_run script results ends caused

    played : ArePlayed script capacity workers (parts_in 0 script.rounds caused) world results ends
    played = subst (λ (rs : List Round). ArePlayed script capacity workers (parts_in 0 rs caused) world results ends) all p.parts

    each_end : length ends ≡ 2 * length script.rounds
    each_end = played.each_end ∙ length_parts 0 script.rounds caused

    are : parts_of parts ≡ answered (parts_in 0 script.rounds caused) results ends
    are = parts_are_rounds 0 script.rounds caused results ends each_end

    by_workers : RoundsBy workers m (why_for script) 0 [] (parts_of parts) log
    by_workers =
        subst (λ (xs : List Entry). RoundsBy workers m (why_for script) 0 [] (parts_of parts) xs) (sym same_log)
        (subst (λ (rs : List (RoundAnswers SubmitFault)). RoundsBy workers m (why_for script) 0 [] rs (world.sequencer).list) (sym are) played.played)

    few_parts : length (parts_of parts) ≤ 4096
    few_parts =
        let many = answers_are_as_many (parts_in 0 script.rounds caused) results ends in
        let same = ap length are in
        let long = length_parts 0 script.rounds caused in
        let few : length script.rounds ≤ 2048 = (accepted.rounds).few in omega (arith, many, same, long, few)

    -- what is said of logs that go on holds of this one
    no_more : (world.sequencer).list ++ [] ≡ log
    no_more = append-nil (world.sequencer).list ∙ sym same_log

    same_rounds : AreRounds 0 0 parts p.fired
    same_rounds = subst (λ (rs : List Round). AreRounds 0 0 (round_parts 0 rs caused results ends) p.fired) all p.same

    pub is_run : IsRun may script capacity workers log results ends caused
    is_run =
        let new = new_lawful m in
        let shared = rounds_are_shared m (why_for script) workers machine 0 [] (parts_of parts) log (new.genuine, new.within_capacity) by_workers in
        let holds = run_holds m (why_for script) machine (parts_of parts) log shared in
        let cut : RunInParts m (why_for script) log parts = record { run = holds; first = subst (λ (rs : List Round). CausedStandFirst (round_parts 0 rs caused results ends)) all p.first } in
        let heads = headline m.reading m.params log machine.is_reading holds.genuine in
        let wait : 100000 ≤ (m.params).response_timeout = ((accepted.topology).response_timeout).least in
        let few = few_parts in
        let ids = own_ids (script.topology).hosts script.triggers 0 script.rounds caused results ends (accepted.rounds).each in
        let fires =
        subst (λ (xs : List Entry). RoundsFire may (reading_for script) (params_of script) xs script.triggers [] p.fired) no_more (p.fires []) in
        record {
          cut = cut;
          alone = λ none.
              rounds_are_plain m (why_for script) 0 [] (parts_of parts) log
              (subst (λ (n : ℕ). RoundsBy n m (why_for script) 0 [] (parts_of parts) log) none by_workers);
          second =
              subst (λ (xs : List Entry). SecondPartsArePlain m (why_for script) 0 xs parts) no_more
              (subst
              (λ (rs : List Round). SecondPartsArePlain m (why_for script) 0 ((world.sequencer).list ++ []) (round_parts 0 rs caused results ends)) all
              (p.second []));
          each_result = p.each_result ∙ ap (λ (rs : List Round). submissions_in rs + length caused) all;
          each_end = each_end;
          plain = played.plain;
          approved = run_approves_all m (why_for script) log (parts_of parts) machine.is_reading holds (omega (arith, room, few, wait));
          own = sent_is_own law script capacity log (parts_of parts) holds;
          fired = p.fired;
          same = same_rounds;
          whole = p.whole;
          causes = caused_holds may script.triggers (reading_for script) (params_of script) log (accepted.triggers).named p.fired fires;
          rules = λ k request at kept.
              let r = request_is_caused m (why_for script) machine script.triggers log parts p.fired cut same_rounds ids k request at kept in
              let one = r.2 in
              let among =
              in_all p.fired r.0 one (in_from_Contains p.fired r.0 r.1) (in_from_Contains (r.0).caused one r.3) in
              (one, contains_from_In caused one (subst (In one) (sym p.whole) among), r.4, r.5, r.6, r.7);
          headline = heads;
          one_ledger = λ apart.
              heads.one_ledger
              (no_collision script.topology script.checked log (are_framed script.topology script.checked log holds.genuine) apart);
        }
