-- A round in both its parts is played after those before it.
use Rattle.std.proofs.Common.{◌≡◌, ℕ, ◌+◌, ◌*◌, ◌<◌, ◌≤◌, List, [], ◌∷◌, ◌++◌, Some, length, map, take, refl, sym, ap, ◌∙◌, subst, inl, inr, arith, append_assoc, append-nil, le_refl, length-take, lit<}
use Rattle.std.specs.Prelude.{◌^◌, All, slice_get}
use Rattle.std.proofs.Math.Seq.{take-append_seam}
use Rattle.std.proofs.lemmas.Grind.{flat_map-append}
use Rattle.std.proofs.lemmas.List.{length-append, length-map, take_all}
use Rattle.std.proofs.lemmas.List.Elements.{All-cons, All-nil}
use Rattle.std.proofs.lemmas.List.Sums.{sum_by_push}
use Rattle.std.proofs.lemmas.Option.{slice_get_within}
use Rattle.ledger_model.proofs.Lists.{In, contains_from_In, in_append_cases, in_append_right, in_from_Contains}
use Rattle.ledger_terms.specs.declared.submission.Submission.{Submission}
use Rattle.framed_form.specs.Collisions.{AreFramed}
use Rattle.framed_form.proofs.Lawful.{are_framed}
use Rattle.node_core.specs.declared.submit_result.SubmitResult.{SubmitResult}
use Rattle.prepare_request.specs.declared.submit_fault.SubmitFault.{SubmitFault}
use Rattle.script_read.specs.Kept.{IsAccepted, IsRule}
use Rattle.script_read.specs.declared.round.Round.{Round}
use Rattle.script_read.specs.declared.script.Script.{Script}
use Rattle.trigger_model.specs.CausedRequests.{AreRounds, fired_round, submissions_in as submissions_of}
use Rattle.trigger_model.specs.CausedRun.{AreAskedSo, CausedHolds, FiredRound, IsCausedIn, RoundsFire, RulesFire, all_caused, fired_on}
use Rattle.trigger_model.specs.TwoParts.{CausedStandFirst, RoundParts, second_round}
use Rattle.trigger_model.proofs.CausedFacts.{caused_holds}
use Rattle.trigger_model.proofs.CausedSteps.{round_more, rules_stay}
use Rattle.trigger_model.proofs.PartsFacts.{stand_in_order}
use Rattle.trigger_rules.specs.Answers.{Answers}
use Rattle.trigger_rules.specs.declared.caused.Caused.{Caused}
use Rattle.trigger_rules.specs.declared.rule.Rule.{Rule}
use Rattle.world_model.specs.Lawful.{Lawful}
use Rattle.world_model.specs.Machine.{Machine}
use Rattle.world_model.specs.Mediator.{MediatorState}
use Rattle.world_model.specs.Messages.{Entry}
use Rattle.world_model.specs.Plain.{PlainPart}
use Rattle.world_play.specs.Results.{IsPlainResult, results_of}
use Rattle.world_play.specs.Submitting.{AreSetUp, CanSubmit}
use Rattle.world_play.specs.WorldOf.{IsWorldOf, world_of}
use Rattle.world_play.specs.declared.world.World.{World}
use Rattle.world_play.proofs.Plays.{each_of}
use Rattle.canton_run.specs.Answered.{round_of}
use Rattle.canton_run.specs.Between.{ArePlayed, IsPartOf, IsPlayedOn, IsRoundOf, time_in}
use Rattle.canton_run.specs.Parts.{parts_in, round_parts, second_of}
use Rattle.canton_run.specs.RoundsPlayed.{RoundsArePlayed, first_rounds}
use Rattle.canton_run.specs.Run.{SecondPartsArePlain, machine_for, params_of, reading_for, submissions_in, why_for}
use Rattle.canton_run.specs.Seen.{CanBeAsked}
use Rattle.canton_run.proofs.AnyWorkers.{plain_by_any}
use Rattle.canton_run.proofs.PartsMore.{length_parts, length_round_parts, parts_more, parts_with, round_parts_more, time_from, time_in_parts, time_of_parts}
use Rattle.canton_run.proofs.PlaysOn.{next, part_plays_on, round_is_part, time_fits}
use Rattle.canton_run.proofs.Room.{caused_can, few_fires, few_rows}
use Rattle.canton_run.proofs.Restarts.{played_is_short}
use Rattle.canton_run.proofs.RoundsMore.{first_more, same_more, second_more}

-- what holds of each of a list holds of all
all_of_map : {X Y : Type 0} (P : Y → Type 0) (f : X → Y) (xs : List X) → ((x : X) → In x xs → P (f x)) → All P (map f xs)
all_of_map P f [] h = All-nil P
all_of_map P f (x ∷ xs) h = All-cons P (f x) (map f xs) (h x (inl refl)) (all_of_map P f xs (λ y i. h y (inr i)))

module _ (may : Answers) (script : Script) (accepted : IsAccepted script) (capacity workers count : ℕ) (few_places : capacity ≤ 20480) (round : Round)
    (there : slice_get script.rounds count ≡ Some round) where
  abbrev m : Machine
  m = machine_for script capacity

  abbrev rounds : List Round
  rounds = take count script.rounds

  is_round : IsRoundOf script count round
  is_round = record { accepted = accepted; there = there }

  pub is_part : IsPartOf script round
  is_part = round_is_part script count round is_round

  many_rounds : length rounds ≡ count
  many_rounds = let within = slice_get_within script.rounds count round there in length-take count script.rounds ∙ omega (arith, within)

  few_rounds : count < 2048
  few_rounds = let within = slice_get_within script.rounds count round there in let few = (accepted.rounds).few in omega (arith, within, few)

  module _ (caused : List Caused) where
    abbrev parts : List Round
    parts = parts_in 0 rounds caused

    pub in_time : time_in parts + round.advance ≤ 10 ^ 16
    in_time = let same = time_in_parts 0 rounds caused in let fits = time_fits script count round is_round in omega (arith, same, fits)

    pub begins_short : (world : World) (results : List SubmitResult) (ends : List ℕ) → ArePlayed script capacity workers parts world results ends
        → length (world.sequencer).list < 2 ^ 15
    begins_short world results ends p =
        let bound = played_is_short script capacity workers parts world results ends p in
        let each = length_parts 0 rounds caused in
        let most : 24576 < 2 ^ 15 = lit< tt in
        let few = few_rounds in let counted = many_rounds in omega (arith, bound, each, few, counted, few_places, most)

    -- the first part of the round was played from the first world to the second
    module _ (w0 w1 : World) (fired_by : ℕ → List (List ℕ)) (had results1 : List SubmitResult) (had_ends ends1 : List ℕ)
        (p : RoundsArePlayed may script capacity workers count w0 fired_by had had_ends caused)
        (f : IsPlayedOn script capacity workers parts round w0 w1 had results1 had_ends ends1) where
      abbrev list1 : List Entry
      list1 = (w1.sequencer).list

      time1 : w1.now ≡ time_in rounds + round.advance
      time1 =
          let sum = sum_by_push (λ (r : Round). r.advance) parts round in
          let same = time_in_parts 0 rounds caused in
          let at = (f.played).now in omega (arith, at, sum, same)

      pub first_in_time : w1.now ≤ 10 ^ 16
      first_in_time = let at = time1 in let fits = time_fits script count round is_round in omega (arith, at, fits)

      framed : AreFramed script.topology list1
      framed = are_framed script.topology script.checked list1 ((f.played).lawful).genuine

      short : length list1 ≤ 24577
      short =
          let bound = played_is_short script capacity workers (parts ++ round ∷ []) w1 results1 ends1 f.played in
          let long = length-append parts (round ∷ []) in
          let each = length_parts 0 rounds caused in
          let few = few_rounds in let counted = many_rounds in omega (arith, bound, long, each, few, counted, few_places)

      -- what was caused in earlier rounds, over this log
      fires_here : RoundsFire may (reading_for script) (params_of script) list1 script.triggers [] p.fired
      fires_here =
          subst (λ (xs : List Entry). RoundsFire may (reading_for script) (params_of script) xs script.triggers [] p.fired) (sym f.is_more)
          (p.fires f.more)

      earlier_hold : CausedHolds may script.triggers (reading_for script) (params_of script) list1 p.fired
      earlier_hold = caused_holds may script.triggers (reading_for script) (params_of script) list1 (accepted.triggers).named p.fired fires_here

      pub can_ask : CanBeAsked m w1 script.triggers fired_by
      can_ask =
          record {
            few = (accepted.triggers).few;
            there = λ k rule at.
                let host = (each_of (IsRule (script.topology).hosts) script.triggers k rule (accepted.triggers).each at).participant in
                let many = ((f.played).set_up).many in omega (arith, host, many);
            room = λ k rule read at le.
                let few = few_fires script accepted list1 framed may p.fired earlier_hold k rule at in
                let same : fired_by k ≡ fired_on rule.name (all_caused p.fired) = p.noted k rule at ∙ ap (fired_on rule.name) p.whole in
                let long = ap length same in
                let rows = few_rows script accepted list1 framed rule.participant read le in
                let bound = short in omega (arith, few, long, rows, bound);
          }

      abbrev pub fired_now : List Caused → FiredRound
      fired_now more = record { number = count; now = w1.now; paused = round.paused; end = length list1; caused = more }

      pub none_asked : (more : List Caused)
          → AreAskedSo may (reading_for script) (params_of script) list1 (fired_now more) caused script.triggers fired_by 0 []
      none_asked more =
          record { fires = refl; noted = λ k rule at. p.noted k rule at ∙ ap (fired_on rule.name) (sym (append-nil caused)) }

      -- its rules were asked, and caused this
      module _ (more : List Caused) (fired_by' : ℕ → List (List ℕ))
          (asked : AreAskedSo may (reading_for script) (params_of script) list1 (fired_now more) caused script.triggers fired_by'
          (length script.triggers) more) where
        all_fire : RulesFire may (reading_for script) (params_of script) list1 (fired_now more) (all_caused p.fired) script.triggers more
        all_fire =
            subst (λ (xs : List Caused). RulesFire may (reading_for script) (params_of script) list1 (fired_now more) xs script.triggers more) p.whole
            (subst (λ (rs : List Rule). RulesFire may (reading_for script) (params_of script) list1 (fired_now more) caused rs more)
            (take_all (length script.triggers) script.triggers (le_refl (length script.triggers))) asked.fires)

        each_caused : (one : Caused) → In one more
            → IsCausedIn may script.triggers (reading_for script) (params_of script) list1 (fired_now more) one
        each_caused one i =
            let all : RoundsFire may (reading_for script) (params_of script) list1 script.triggers [] (p.fired ++ fired_now more ∷ []) =
            round_more may (reading_for script) (params_of script) list1 script.triggers [] p.fired (fired_now more) fires_here all_fire in
            let hold =
            caused_holds may script.triggers (reading_for script) (params_of script) list1 (accepted.triggers).named (p.fired ++ fired_now more ∷ []) all in
            hold.each (fired_now more) one
            (contains_from_In (p.fired ++ fired_now more ∷ []) (fired_now more) (in_append_right p.fired (fired_now more ∷ []) (fired_now more) (inl refl)))
            (contains_from_In more one i)

        pub caused_within : All (CanSubmit script.topology script.checked) (submissions_of more)
        caused_within =
            all_of_map (CanSubmit script.topology script.checked) (λ (one : Caused). one.submission) more
            (λ one i. (caused_can script accepted list1 framed may (fired_now more) one (each_caused one i)).0)

        pub caused_there : (nodes : ℕ) → nodes ≡ length (script.topology).hosts → All (λ (what : Submission). what.participant < nodes) (submissions_of more)
        caused_there nodes many =
            all_of_map (λ (what : Submission). what.participant < nodes) (λ (one : Caused). one.submission) more
            (λ one i. let host = (caused_can script accepted list1 framed may (fired_now more) one (each_caused one i)).1 in omega (arith, host, many))

        of_this_round : (one : Caused) → In one more → one.round ≡ count
        of_this_round one i = ap (λ (x : Caused). x.round) (each_caused one i).is

        second_is_part : IsPartOf script (second_of round (submissions_of more))
        second_is_part = record { accepted = accepted; within = caused_within; there = caused_there (length (script.topology).hosts) refl }

        -- what was caused is submitted in the third of these worlds, and settles in the fourth
        module _ (w2 w3 : World) (others : List SubmitResult) (now2 : w2.now ≡ w1.now) (list2 : (w2.sequencer).list ≡ list1) (now3 : w3.now ≡ w2.now)
            (many : length others ≡ length (submissions_of more)) (plain : All IsPlainResult others)
            (plain_part : PlainPart m (why_for script) w2.now (round_of (second_of round (submissions_of more))) (results_of (submissions_of more) others)
            (w2.sequencer).list (w3.sequencer).list)
            (s : (state : MediatorState) × IsWorldOf m state w3 × Lawful m (world_of state w3))
            (set_up : AreSetUp script.topology script.checked (w3.nodes).items) where
          abbrev second : Round
          second = second_of round (submissions_of more)

          abbrev list3 : List Entry
          list3 = (w3.sequencer).list

          -- the second part as one thread's, from the end of the first on
          as_plain : (time : ℕ) → time ≡ w1.now
              → PlainPart m (why_for script) time (round_of second) (results_of (submissions_of more) others) list1 list3
          as_plain time same =
              subst
              (λ (n : ℕ). PlainPart m (why_for script) n (round_of second) (results_of (submissions_of more) others) list1 list3) (now2 ∙ sym same)
              (subst
              (λ (xs : List Entry). PlainPart m (why_for script) w2.now (round_of second) (results_of (submissions_of more) others) xs list3) list2
              plain_part)

          second_fits : time_in (parts ++ round ∷ []) + second.advance ≤ 10 ^ 16
          second_fits = let at = first_in_time in let now = (f.played).now in omega (arith, at, now)

          played_on : IsPlayedOn script capacity workers (parts ++ round ∷ []) second w1 w3 results1 (results1 ++ others) ends1
              (ends1 ++ length list3 ∷ [])
          played_on =
              part_plays_on script (parts ++ round ∷ []) second second_is_part second_fits capacity workers w1 w3 results1 others ends1 (length list3)
              f.played (omega (arith, now2, now3)) many plain refl
              (plain_by_any m (why_for script) workers (w1.now + second.advance) (round_of second) (f.played).machine
              (results_of (submissions_of more) others) list1 list3 (((f.played).lawful).genuine, ((f.played).lawful).within_capacity)
              (as_plain (w1.now + second.advance) (omega arith)))
              s set_up

          abbrev results3 : List SubmitResult
          results3 = had ++ (f.own ++ others)

          abbrev ends3 : List ℕ
          ends3 = had_ends ++ length list1 ∷ length list3 ∷ []

          abbrev one : RoundParts SubmitFault
          one = parts_with round f.own (length list1) (submissions_of more) others (length list3)

          results_are : results1 ++ others ≡ results3
          results_are = ap (λ (xs : List SubmitResult). xs ++ others) f.results_are ∙ append_assoc had f.own others

          pub ends_are : ends1 ++ length list3 ∷ [] ≡ ends3
          ends_are = ap (λ (xs : List ℕ). xs ++ length list3 ∷ []) f.ends_are ∙ append_assoc had_ends (length list1 ∷ []) (length list3 ∷ [])

          pub rounds_are : take (count + 1) script.rounds ≡ rounds ++ round ∷ []
          rounds_are = next script count round is_round

          were_before : (x : Caused) → In x caused → x.round < 0 + length rounds
          were_before x i = let lt = p.before x (contains_from_In caused x i) in let many = many_rounds in omega (arith, lt, many)

          are_of_this : (x : Caused) → In x more → x.round ≡ 0 + length rounds
          are_of_this x i = let is = of_this_round x i in let many = many_rounds in omega (arith, is, many)

          each_end : length had_ends ≡ 2 * length rounds
          each_end = (p.parts).each_end ∙ length_parts 0 rounds caused

          parts_are : (parts ++ round ∷ []) ++ second ∷ [] ≡ parts_in 0 (take (count + 1) script.rounds) (caused ++ more)
          parts_are =
              append_assoc parts (round ∷ []) (second ∷ [])
              ∙ (sym (parts_more round caused more 0 rounds were_before are_of_this)
              ∙ ap (λ (rs : List Round). parts_in 0 rs (caused ++ more)) (sym rounds_are))

          round_parts_are : first_rounds script count had had_ends caused ++ one ∷ []
              ≡ first_rounds script (count + 1) results3 ends3 (caused ++ more)
          round_parts_are =
              sym (round_parts_more round caused more f.own others (length list1) (length list3) f.many many 0 rounds had had_ends were_before are_of_this
              (p.parts).each_result each_end)
              ∙ ap (λ (rs : List Round). round_parts 0 rs (caused ++ more) results3 ends3) (sym rounds_are)

          time_here : time_from 0 (first_rounds script count had had_ends caused) + round.advance ≡ w1.now
          time_here =
              let now = time_of_parts 0 0 rounds caused had had_ends each_end in let at = time1 in omega (arith, now, at)

          played_parts : ArePlayed script capacity workers (parts_in 0 (take (count + 1) script.rounds) (caused ++ more)) w3 results3 ends3
          played_parts =
              subst (λ (ps : List Round). ArePlayed script capacity workers ps w3 results3 ends3) parts_are
              (subst (λ (xs : List SubmitResult). ArePlayed script capacity workers ((parts ++ round ∷ []) ++ second ∷ []) w3 xs ends3) results_are
              (subst (λ (xs : List ℕ). ArePlayed script capacity workers ((parts ++ round ∷ []) ++ second ∷ []) w3 (results1 ++ others) xs) ends_are
              played_on.played))

          same_rounds : AreRounds 0 0 (first_rounds script (count + 1) results3 ends3 (caused ++ more)) (p.fired ++ fired_now more ∷ [])
          same_rounds =
              let before = first_rounds script count had had_ends caused in
              let number : count ≡ 0 + length before = let n = length_round_parts 0 rounds caused had had_ends each_end in let many = many_rounds in omega (arith, n, many) in
              subst (λ (xs : List (RoundParts SubmitFault)). AreRounds 0 0 xs (p.fired ++ fired_now more ∷ [])) round_parts_are
              (same_more one 0 0 before p.fired (fired_now more) p.same
              (ap (λ (n : ℕ). fired_round n w1.now one more) number
              ∙ ap (λ (t : ℕ). fired_round (0 + length before) t one more) (sym time_here)) refl)

          stand_first : CausedStandFirst (first_rounds script (count + 1) results3 ends3 (caused ++ more))
          stand_first =
              let part = as_plain w1.now refl in
              subst CausedStandFirst round_parts_are
              (first_more one (first_rounds script count had had_ends caused) p.first
              (stand_in_order m (why_for script) w1.now (round_of second) list1 (results_of (submissions_of more) others) part.0 part.1))

          -- the log went on twice, and may go on
          goes_on : (rest : List Entry) → (w0.sequencer).list ++ (f.more ++ (played_on.more ++ rest)) ≡ list3 ++ rest
          goes_on rest =
              sym (append_assoc (w0.sequencer).list f.more (played_on.more ++ rest))
              ∙ (ap (λ (xs : List Entry). xs ++ (played_on.more ++ rest)) (sym f.is_more)
              ∙ (sym (append_assoc list1 played_on.more rest) ∙ ap (λ (xs : List Entry). xs ++ rest) (sym played_on.is_more)))

          pub log_is_more : (rest : List Entry) × (list3 ≡ (w0.sequencer).list ++ rest)
          log_is_more = (
            f.more ++ played_on.more,
            played_on.is_more
                ∙ (ap (λ (xs : List Entry). xs ++ played_on.more) f.is_more ∙ append_assoc (w0.sequencer).list f.more played_on.more),
          )

          from_first : (rest : List Entry) → list1 ++ (played_on.more ++ rest) ≡ list3 ++ rest
          from_first rest = sym (append_assoc list1 played_on.more rest) ∙ ap (λ (xs : List Entry). xs ++ rest) (sym played_on.is_more)

          seconds_are_plain : (rest : List Entry)
              → SecondPartsArePlain m (why_for script) 0 (list3 ++ rest) (first_rounds script (count + 1) results3 ends3 (caused ++ more))
          seconds_are_plain rest =
              let before = first_rounds script count had had_ends caused in
              let log = list3 ++ rest in
              let begins : list1 ≡ take (length list1) log =
              sym (ap (take (length list1)) (sym (from_first rest)) ∙ take-append_seam list1 (played_on.more ++ rest)) in
              let ends : list3 ≡ take (length list3) log = sym (take-append_seam list3 rest) in
              let part : PlainPart m (why_for script) (time_from 0 before + round.advance) (second_round (round_of round) (submissions_of more))
              (results_of (submissions_of more) others) (take (length list1) log) (take (length list3) log) =
              subst
              (λ (xs : List Entry). PlainPart m (why_for script) (time_from 0 before + round.advance) (round_of second)
              (results_of (submissions_of more) others) xs (take (length list3) log)) begins
              (subst
              (λ (xs : List Entry). PlainPart m (why_for script) (time_from 0 before + round.advance) (round_of second)
              (results_of (submissions_of more) others) list1 xs) ends
              (as_plain (time_from 0 before + round.advance) time_here)) in
              subst (SecondPartsArePlain m (why_for script) 0 log) round_parts_are
              (second_more one m (why_for script) log 0 before
              (subst (λ (xs : List Entry). SecondPartsArePlain m (why_for script) 0 xs before) (goes_on rest) (p.second (f.more ++ (played_on.more ++ rest))))
              part)

          all_fires : (rest : List Entry)
              → RoundsFire may (reading_for script) (params_of script) (list3 ++ rest) script.triggers [] (p.fired ++ fired_now more ∷ [])
          all_fires rest =
              let earlier =
              subst (λ (xs : List Entry). RoundsFire may (reading_for script) (params_of script) xs script.triggers [] p.fired) (goes_on rest)
              (p.fires (f.more ++ (played_on.more ++ rest))) in
              let here =
              subst
              (λ (xs : List Entry). RulesFire may (reading_for script) (params_of script) xs (fired_now more) (all_caused p.fired) script.triggers more)
              (from_first rest)
              (rules_stay may (reading_for script) (params_of script) list1 (played_on.more ++ rest) (fired_now more) (all_caused p.fired)
              script.triggers more (le_refl (length list1)) all_fire) in
              round_more may (reading_for script) (params_of script) (list3 ++ rest) script.triggers [] p.fired (fired_now more) earlier here

          pub both_are_played : (results' : List SubmitResult) (ends' : List ℕ) (caused' : List Caused) → results' ≡ results1 ++ others
              → ends' ≡ ends1 ++ length list3 ∷ [] → caused' ≡ caused ++ more
              → RoundsArePlayed may script capacity workers (count + 1) w3 fired_by' results' ends' caused'
          both_are_played results' ends' caused' results_same ends_same caused_same =
              subst (λ (xs : List SubmitResult). RoundsArePlayed may script capacity workers (count + 1) w3 fired_by' xs ends' caused')
              (sym (results_same ∙ results_are))
              (subst (λ (xs : List ℕ). RoundsArePlayed may script capacity workers (count + 1) w3 fired_by' results3 xs caused')
              (sym (ends_same ∙ ends_are))
              (subst (λ (xs : List Caused). RoundsArePlayed may script capacity workers (count + 1) w3 fired_by' results3 ends3 xs) (sym caused_same)
              (record {
                parts = played_parts;
                each_result =
                    let a = length-append had (f.own ++ others) in
                    let b = length-append f.own others in
                    let c = length-append caused more in
                    let d = p.each_result in
                    let e = f.many in
                    let g = length-map more (λ (x : Caused). x.submission) in
                    let h : submissions_in (take (count + 1) script.rounds) ≡ submissions_in rounds + length round.submits =
                    ap submissions_in rounds_are ∙ sum_by_push (λ (r : Round). length r.submits) rounds round in
                    omega (arith, a, b, c, d, e, g, h, many);
                before = λ x i. elim (in_append_cases caused more x (in_from_Contains (caused ++ more) x i)) [
                  | inl old ↦ let lt = p.before x (contains_from_In caused x old) in omega (arith, lt)
                  | inr new ↦ let is = of_this_round x new in omega (arith, is)
                ];
                fired = p.fired ++ fired_now more ∷ [];
                same = same_rounds;
                whole =
                    ap (λ (xs : List Caused). xs ++ more) p.whole
                    ∙ (ap (λ (xs : List Caused). all_caused p.fired ++ xs) (sym (append-nil more))
                    ∙ sym (flat_map-append (λ (r : FiredRound). r.caused) p.fired (fired_now more ∷ [])));
                first = stand_first;
                second = seconds_are_plain;
                fires = all_fires;
                noted = asked.noted;
              })))
