-- A round is played after those before it.
use Rattle.std.proofs.Common.{◌≡◌, ℕ, suc, ◌+◌, ◌*◌, ◌≤◌, List, [], ◌∷◌, ◌++◌, length, take, refl, sym, ap, ◌∙◌, subst, arith, length-take}
use Rattle.std.specs.Prelude.{◌^◌, All}
use Rattle.std.proofs.lemmas.List.{length-append}
use Rattle.std.proofs.lemmas.List.Elements.{All-append, All-take}
use Rattle.std.proofs.lemmas.List.Sums.{sum_by_push, sum_by-le}
use Rattle.node_core.specs.declared.submit_result.SubmitResult.{SubmitResult}
use Rattle.script_read.specs.Kept.{IsRound}
use Rattle.script_read.specs.declared.round.Round.{Round}
use Rattle.script_read.specs.declared.script.Script.{Script}
use Rattle.run_model.specs.Workers.{PartBy}
use Rattle.world_model.specs.Machine.{Machine}
use Rattle.world_model.specs.Mediator.{MediatorState}
use Rattle.world_model.specs.Lawful.{Lawful}
use Rattle.world_model.specs.Rounds.{begun}
use Rattle.world_model.specs.Settled.{left, passes}
use Rattle.world_model.proofs.Steps.{take_next}
use Rattle.world_play.specs.Flags.{ArePaused}
use Rattle.world_play.specs.Results.{IsPlainResult, results_of}
use Rattle.world_play.specs.Submitting.{AreSetUp}
use Rattle.world_play.specs.WorldOf.{IsWorldOf, world_of}
use Rattle.world_play.specs.declared.world.World.{World}
use Rattle.world_play.proofs.Plays.{each_of}
use Rattle.canton_run.specs.Answered.{round_of}
use Rattle.canton_run.specs.Between.{ArePlayed, CanBeAnswered, IsPartOf, IsPlayedOn, IsRoundOf, SettlesAsPart, time_in}
use Rattle.canton_run.specs.Run.{machine_for, submissions_in, why_for}
use Rattle.canton_run.proofs.AnyWorkers.{part_goes_on}
use Rattle.canton_run.proofs.Hosted.{can_submit, hosted}
use Rattle.canton_run.proofs.OneMore.{one_more}

-- a round of an accepted script is a part of its run
module _ (script : Script) (count : ℕ) (round : Round) (is : IsRoundOf script count round) where
  is_round : IsRound (script.topology).hosts script.triggers round
  is_round = each_of (IsRound (script.topology).hosts script.triggers) script.rounds count round ((is.accepted).rounds).each is.there

  pub next : take (count + 1) script.rounds ≡ take count script.rounds ++ round ∷ []
  next = let one : count + 1 ≡ suc count = omega arith in ap (λ (n : ℕ). take n script.rounds) one ∙ take_next count script.rounds round is.there

  next_time : time_in (take (count + 1) script.rounds) ≡ time_in (take count script.rounds) + round.advance
  next_time = ap time_in next ∙ sum_by_push (λ (r : Round). r.advance) (take count script.rounds) round

  -- the rounds of a script move time by no more than it can hold
  pub time_fits : time_in (take count script.rounds) + round.advance ≤ 10 ^ 16
  time_fits =
      let most : ℕ = 1000000000000 in
      let each : All (λ (r : Round). r.advance ≤ most) (take (count + 1) script.rounds) =
      All-take (λ (r : Round). r.advance ≤ most) (count + 1) script.rounds (λ k d lt. (((is.accepted).rounds).each k d lt).advance) in
      let sum : time_in (take (count + 1) script.rounds) ≤ length (take (count + 1) script.rounds) * 1000000000000 =
      sum_by-le (λ (r : Round). r.advance) most (take (count + 1) script.rounds) each in
      let few : length script.rounds ≤ 2048 = ((is.accepted).rounds).few in
      let time = next_time in let taken = length-take (count + 1) script.rounds in omega (arith, sum, few, time, taken)

  pub round_is_part : IsPartOf script round
  round_is_part =
      record {
        accepted = is.accepted;
        within = λ k d lt. can_submit script is.accepted _ (is_round.submits k d lt);
        there = λ k d lt. (is_round.submits k d lt).participant;
      }

module _ (script : Script) (parts : List Round) (round : Round) (is : IsPartOf script round) (fits : time_in parts + round.advance ≤ 10 ^ 16) where
  next_time_of : time_in (parts ++ round ∷ []) ≡ time_in parts + round.advance
  next_time_of = sum_by_push (λ (r : Round). r.advance) parts round

  next_submissions : submissions_in (parts ++ round ∷ []) ≡ submissions_in parts + length round.submits
  next_submissions = sum_by_push (λ (r : Round). length r.submits) parts round

  next_length : length (parts ++ round ∷ []) ≡ length parts + 1
  next_length = length-append parts (round ∷ [])

  pub begins_in_time : (now : ℕ) → now ≡ time_in parts → now + round.advance ≤ 10 ^ 16
  begins_in_time now at = omega (arith, at, fits)

  -- it has begun in the second of these worlds
  pub can_be_answered : (capacity workers : ℕ) (world w1 : World) (results : List SubmitResult) (ends : List ℕ)
      (p : ArePlayed script capacity workers parts world results ends) → w1.now ≡ world.now + round.advance
      → IsWorldOf (machine_for script capacity) p.state w1 × Lawful (machine_for script capacity) (world_of p.state w1)
      → AreSetUp script.topology script.checked (w1.nodes).items → ArePaused round.paused (w1.nodes).items → CanBeAnswered script capacity round w1
  can_be_answered capacity workers world w1 results ends p now1 is1 set_up paused =
      record {
        machine = p.machine;
        state = p.state;
        is = is1.0;
        lawful = is1.1;
        set_up = set_up;
        now = let inside = begins_in_time world.now p.now in omega (arith, now1, inside);
        paused = paused;
        valid = (is.accepted).topology;
        named = hosted script.topology _ ((is.accepted).packages).hosted;
        within = is.within;
        there = is.there;
      }

  -- it is a part of the run from the first of these worlds to the second
  module _ (capacity workers : ℕ) (world after : World) (results answers : List SubmitResult) (ends : List ℕ) (end : ℕ)
      (p : ArePlayed script capacity workers parts world results ends) (now : after.now ≡ world.now + round.advance)
      (many : length answers ≡ length round.submits) (plain : All IsPlainResult answers) (ends_at : end ≡ length (after.sequencer).list) where
    abbrev own : Machine
    own = machine_for script capacity

    pub part_plays_on : PartBy workers own (why_for script) (world.now + round.advance) (round_of round) (results_of round.submits answers)
        (world.sequencer).list (after.sequencer).list
        → (state : MediatorState) × IsWorldOf own state after × Lawful own (world_of state after)
        → AreSetUp script.topology script.checked (after.nodes).items
        → IsPlayedOn script capacity workers parts round world after results (results ++ answers) ends (ends ++ end ∷ [])
    part_plays_on part s set_up =
        let on =
        part_goes_on own (why_for script) workers (world.now + round.advance) (round_of round) p.machine (results_of round.submits answers)
        (world.sequencer).list (after.sequencer).list ((p.lawful).genuine, (p.lawful).within_capacity) part in
        record {
          own = answers;
          results_are = refl;
          many = many;
          ends_are = ap (λ (n : ℕ). ends ++ n ∷ []) ends_at;
          more = on.0;
          is_more = on.1;
          played = record {
            machine = p.machine;
            state = s.0;
            is = s.1;
            lawful = s.2;
            set_up = set_up;
            now = let n = next_time_of in let at = p.now in omega (arith, now, n, at);
            each_result = let n = next_submissions in let at = p.each_result in length-append results answers ∙ omega (arith, n, at, many);
            each_end = let n = next_length in let at = p.each_end in length-append ends (end ∷ []) ∙ omega (arith, n, at);
            plain = All-append IsPlainResult results answers p.plain plain;
            played =
                one_more workers own (why_for script) round answers many end (world.sequencer).list (after.sequencer).list ends_at world.now part
                parts results ends 0 [] p.each_result p.each_end (let at = p.now in omega (arith, at)) p.played;
          };
        }

  -- it begins in the first of these worlds, is answered in the second and settles in the third
  module _ (capacity workers : ℕ) (world w1 w2 w3 : World) (results answers : List SubmitResult) (ends : List ℕ) (end : ℕ)
      (p : ArePlayed script capacity workers parts world results ends)
      (now1 : w1.now ≡ world.now + round.advance) (now2 : w2.now ≡ w1.now) (now3 : w3.now ≡ w2.now)
      (begins : (w1.sequencer).list ≡ begun (machine_for script capacity) (world.now + round.advance) (round_of round) (world.sequencer).list)
      (many : length answers ≡ length round.submits) (plain : All IsPlainResult answers)
      (settles_as : SettlesAsPart script capacity workers round w1 w2 answers)
      (settles : (w3.sequencer).list ≡ passes (machine_for script capacity) w2.now round.paused round.hold_verdicts
      (left (machine_for script capacity).hosts (w2.sequencer).list) (w2.sequencer).list)
      (ends_at : end ≡ length (w3.sequencer).list) where
    abbrev m : Machine
    m = machine_for script capacity

    part : PartBy workers m (why_for script) (world.now + round.advance) (round_of round) (results_of round.submits answers)
        (world.sequencer).list (w3.sequencer).list
    part =
        subst
        (λ (n : ℕ).
        PartBy workers m (why_for script) n (round_of round) (results_of round.submits answers) (world.sequencer).list (w3.sequencer).list)
        now1
        (settles_as (world.sequencer).list (w3.sequencer).list ((p.lawful).genuine, (p.lawful).within_capacity)
        (begins ∙ ap (λ (n : ℕ). begun m n (round_of round) (world.sequencer).list) (sym now1))
        (settles ∙ ap (λ (n : ℕ). passes m n round.paused round.hold_verdicts (left m.hosts (w2.sequencer).list) (w2.sequencer).list) now2))

    pub plays_on : (state : MediatorState) × IsWorldOf m state w3 × Lawful m (world_of state w3) → AreSetUp script.topology script.checked (w3.nodes).items
        → IsPlayedOn script capacity workers parts round world w3 results (results ++ answers) ends (ends ++ end ∷ [])
    plays_on s set_up =
        part_plays_on capacity workers world w3 results answers ends end p (now3 ∙ (now2 ∙ now1)) many plain ends_at part s set_up
