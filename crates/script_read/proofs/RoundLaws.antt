-- The rounds of a script that is read are within their limits, and name the participants and parties that there are.
use Rattle.std.proofs.Common.{◌≡◌, ℕ, ◌+◌, ◌<◌, ◌≤◌, ◌^◌, List, [], ◌∷◌, ◌++◌, length, Option, Some, None, Ok, refl, arith}
use Rattle.std.specs.Prelude.{sum_by, codes}
use Rattle.std.specs.List.{AllByRecursion}
use Rattle.std.proofs.lemmas.List.{length_push}
use Rattle.std.proofs.lemmas.List.Sums.{sum_by-append}
use Rattle.serde_json.specs.Data.{Data}
use Rattle.serde_json.specs.Find.{get}
use Rattle.ledger_terms.specs.Answers.{check}
use Rattle.ledger_terms.specs.Pointers.{at_item, at_member}
use Rattle.ledger_terms.specs.declared.host.Host.{Host}
use Rattle.ledger_terms.specs.declared.submission.Submission.{Submission}
use Rattle.json_walk.specs.declared.limits.TheConstants.{ADVANCE, ROUNDS, SUBMISSIONS}
use Rattle.json_walk.specs.Lists.{item_step, counted_step, counted_of}
use Rattle.json_walk.specs.Walk.{Place, within_limit, items_of, few_items_of, walk_items, item_count, member_of}
use Rattle.json_walk.specs.declared.walk_fault.WalkFault.TheVariants.{Shape}
use Rattle.json_walk.proofs.Kept.{after, given, walk_keeps, limit_kept, items_kept, list_kept, all_push}
use Rattle.script_read.specs.Kept.{AreRules, IsSubmission, IsRaw, IsRound, AreRounds}
use Rattle.script_read.specs.Participants.{participant_of}
use Rattle.script_read.specs.Raws.{raws_in}
use Rattle.script_read.specs.Rounds.{submission_of, submits_of, submits_if, submits_in, advance_if, advance_in, participants_if, participants_in, paused_in}
use Rattle.script_read.specs.Rounds.{restarts_in, hold_in, has_round_members, round_of, rounds_in}
use Rattle.script_read.specs.declared.round.Round.{Round}
use Rattle.script_read.specs.declared.script.Script.{Script}
use Rattle.script_read.proofs.Lists.{all_of}
use Rattle.script_read.proofs.RawLaws.{raws_read}
use Rattle.script_read.proofs.RoundWalks.{few_read}
use Rattle.script_read.proofs.RuleWalk.{rules_kept}
use Rattle.script_read.proofs.SameHosts.{AreSame}
use Rattle.script_read.proofs.Participating.{participant_within}
use Rattle.script_read.proofs.Submissions.{submission_read}
use Rattle.trigger_rules.specs.declared.rule.Rule.{Rule}
use Rattle.script_read.proofs.Topologies.{IsRead, integer_range, same_hosts}

-- ---- submissions

-- the submissions of a round, and how many there are with those before
record AreGiven (hosts : List Host) (rules : List Rule) (before : ℕ) (s : List Submission × ℕ) : Type 0 where
  counted : length s.0 + before ≡ s.1
  few : s.1 ≤ 2048
  each : AllByRecursion (IsSubmission hosts rules) s.0

submits_read : (read kept : List Host) (same : AreSame read kept) (rules : List Rule) (before : ℕ) (at : Place) (o : Option Data) (s : List Submission × ℕ) → before ≤ 2048 → submits_if read rules before at o ≡ Ok s → AreGiven kept rules before s
unfolding submits_of
submits_read read kept same rules before at None s p h = rw (given ([], before) s h) (record { counted = omega arith; few = p; each = tt })
submits_read read kept same rules before at (Some d) s p h =
    let i = after (items_of at d) _ s h in
    let c = after (within_limit at SUBMISSIONS (before + item_count i.0)) _ s i.2 in
    let few : before + item_count i.0 ≤ 2048 = (limit_kept at SUBMISSIONS (before + item_count i.0) c.0 c.1).1 in
    let w = after (walk_items (item_step (submission_of read rules) at) 0 [] i.0) _ s c.2 in
    let kept = items_kept (submission_of read rules) (IsSubmission kept rules) (submission_read read kept same rules) at i.0 w.0 w.1 in
    rw (given (w.0, before + item_count i.0) s w.2) (record { counted = omega (arith, kept.many); few = few; each = kept.each })

-- ---- rounds

advance_read : (at : Place) (o : Option Data) (n : ℕ) → advance_if at o ≡ Ok n → n ≤ 10 ^ 12
advance_read at None n h = let none : n ≡ 0 = given 0 n h in omega arith
advance_read at (Some d) n h = let r = integer_range at ADVANCE d n h in omega (arith, r.1)

participants_read : (read kept : List Host) (same : AreSame read kept) (at : Place) (o : Option Data) (a : List ℕ) → participants_if read at o ≡ Ok a → AllByRecursion (λ p. p < length kept) a
participants_read read kept same at None a h = rw (given [] a h) tt
participants_read read kept same at (Some d) a h = list_kept (participant_of read) (λ p. p < length kept) (participant_within read kept same) at d a h

record AreSoFar (hosts : List Host) (rules : List Rule) (i : ℕ) (a : List Round × ℕ) : Type 0 where
  many : length a.0 ≡ i
  counted : sum_by (λ (r : Round). length r.submits) a.0 ≡ a.1
  few : a.1 ≤ 2048
  each : AllByRecursion (IsRound hosts rules) a.0

record IsRoundRead (hosts : List Host) (rules : List Rule) (before : ℕ) (r : Round × ℕ) : Type 0 where
  round : IsRound hosts rules r.0
  counted : length (r.0).submits + before ≡ r.1
  few : r.1 ≤ 2048

round_read : (read kept : List Host) (same : AreSame read kept) (rules : List Rule) (before : ℕ) (at : Place) (d : Data) (r : Round × ℕ) → before ≤ 2048 → round_of read rules before at d ≡ Ok r → IsRoundRead kept rules before r
unfolding round_of advance_in participants_in paused_in restarts_in submits_in raws_in
round_read read kept same rules before at d r p h =
    let a = after (check (has_round_members d) (Shape at)) _ r h in
    let v = after (advance_in at d) _ r a.2 in
    let w = after (paused_in read at d) _ r v.2 in
    let x = after (hold_in at d) _ r w.2 in
    let s = after (submits_in read rules before at d) _ r x.2 in
    let y = after (raws_in read rules at d) _ r s.2 in
    let z = after (restarts_in read at d) _ r y.2 in
    let raws = raws_read read kept same rules (at_member at (codes "raw")) (get (codes "raw") d) y.0 y.1 in
    let given_ = submits_read read kept same rules before (at_member at (codes "submits")) (get (codes "submits") d) s.0 p s.1 in
    rw (given (record { advance = v.0; paused = w.0; hold_verdicts = x.0; submits = s.0.0; raws = y.0; restarts = z.0 }, s.0.1) r z.2) (record {
      round = record {
        advance = advance_read (at_member at (codes "advance")) (get (codes "advance") d) v.0 v.1;
        paused = all_of (λ p. p < length kept) w.0 (participants_read read kept same (at_member at (codes "paused")) (get (codes "paused") d) w.0 w.1);
        submits = all_of (IsSubmission kept rules) s.0.0 given_.each;
        few_raws = raws.few;
        raws = all_of (IsRaw kept rules) y.0 raws.each;
        restarts = all_of (λ p. p < length kept) z.0 (participants_read read kept same (at_member at (codes "restart")) (get (codes "restart") d) z.0 z.1);
      };
      counted = given_.counted;
      few = given_.few;
    })

round_kept : (read kept : List Host) (same : AreSame read kept) (rules : List Rule) (at : Place) (i : ℕ) (a b : List Round × ℕ) (d : Data) → AreSoFar kept rules i a → counted_step (round_of read rules) at i a d ≡ Ok b → AreSoFar kept rules (i + 1) b
round_kept read kept same rules at i a b d p h =
    let s = after (round_of read rules a.1 (at_item at i) d) _ b h in
    let r = round_read read kept same rules a.1 (at_item at i) d s.0 p.few s.1 in
    let grown = length_push a.0 s.0.0 in
    let sum = sum_by-append (λ (r : Round). length r.submits) a.0 (s.0.0 ∷ []) in
    rw (given (a.0 ++ s.0.0 ∷ [], s.0.1) b s.2) (record {
      many = omega (arith, grown, p.many);
      counted = omega (arith, sum, p.counted, r.counted);
      few = r.few;
      each = all_push (IsRound kept rules) a.0 s.0.0 p.each r.round;
    })

record AreWithin (hosts : List Host) (rules : List Rule) (rounds : List Round) : Type 0 where
  few : length rounds ≤ 2048
  submits : sum_by (λ (r : Round). length r.submits) rounds ≤ 2048
  each : AllByRecursion (IsRound hosts rules) rounds

rounds_read : (read kept : List Host) (same : AreSame read kept) (rules : List Rule) (d : Data) (rounds : List Round) → rounds_in read rules d ≡ Ok rounds → AreWithin kept rules rounds
unfolding rounds_in counted_of
rounds_read read kept same rules d rounds h =
    let m = after (member_of [] (codes "rounds") d) _ rounds h in
    let r = after (counted_of (round_of read rules) (at_member [] (codes "rounds")) ROUNDS m.0) _ rounds m.2 in
    let f = after (few_items_of (at_member [] (codes "rounds")) ROUNDS m.0) _ r.0 r.1 in
    let few = few_read (at_member [] (codes "rounds")) ROUNDS m.0 f.0 f.1 in
    let kept = walk_keeps (counted_step (round_of read rules) (at_member [] (codes "rounds"))) (AreSoFar kept rules) (round_kept read kept same rules (at_member [] (codes "rounds"))) 0 ([], 0) r.0 f.0 (record { many = refl; counted = refl; few = omega arith; each = tt }) f.2 in
    rw (given r.0.0 rounds r.2) (record { few = omega (arith, kept.many, few.2); submits = omega (arith, kept.counted, kept.few); each = kept.each })

pub triggers_kept : (s : Script) → IsRead s → AreRules (s.topology).hosts s.triggers
triggers_kept s r = rw r.whole (rules_kept r.known.hosts r.hosts (same_hosts s r) r.d r.triggers r.triggers_are)

pub rounds_kept : (s : Script) → IsRead s → AreRounds s
rounds_kept s r =
    let are = rounds_read r.known.hosts r.hosts (same_hosts s r) r.triggers r.d r.rounds r.rounds_are in
    rw r.whole (record { few = are.few; submits = are.submits; each = all_of (IsRound r.hosts r.triggers) r.rounds are.each })
