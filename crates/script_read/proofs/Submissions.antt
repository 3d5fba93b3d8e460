-- The walk of a submission keeps its limits, and the participants and parties that it names.
use Rattle.std.proofs.Common.{◌≡◌, ℕ, suc, ◌<◌, ◌≤◌, ◌^◌, Bool, true, false, List, [], ◌∷◌, length, Option, Some, None, Ok, option_map, refl, sym, ap, subst, arith}
use Rattle.std.specs.Prelude.{◌||◌, codes, MatchOption, if◌then◌else◌}
use Rattle.serde_json.specs.Data.{Data, Items, null, boolean, number, string, array, object}
use Rattle.serde_json.specs.Find.{get}
use Rattle.ledger_terms.specs.Answers.{check}
use Rattle.ledger_terms.specs.Drafts.{Drafts}
use Rattle.ledger_terms.specs.Forest.{preorder}
use Rattle.ledger_terms.specs.Parties.{same_name, set_of}
use Rattle.ledger_terms.specs.Pointers.{at_item, at_member}
use Rattle.ledger_terms.specs.declared.host.Host.{Host}
use Rattle.ledger_terms.specs.declared.seed_of.SeedOf.{SeedOf}
use Rattle.ledger_terms.specs.declared.what.What.{What}
use Rattle.ledger_terms.specs.declared.what.What.TheVariants as what
use Rattle.ledger_terms.specs.declared.submission.Submission.{Submission}
use Rattle.ledger_terms.proofs.SetsOf.{all_set_of}
use Rattle.json_walk.specs.declared.limits.TheConstants.{ACT_AS, COMMANDS, LEDGER_TIME}
use Rattle.json_walk.specs.Lists.{few_of}
use Rattle.json_walk.specs.Walk.{Place, name_of, name_in, integer_of, items_of, few_items_of, two_of, member_of}
use Rattle.json_walk.specs.declared.walk_fault.WalkFault.TheVariants.{Shape, Unknown}
use Rattle.json_walk.proofs.Kept.{after, passed, given, few_kept}
use Rattle.lang_eval.specs.HandedIn.{parties_in_command, parties_in_draft}
use Rattle.lang_eval.specs.Named.{AreKnown}
use Rattle.lang_read.specs.Parties.{is_hosted, party_of}
use Rattle.script_read.specs.Accepted.{IsSeed, IsCommand, IsDraft, AreDrafts, IsWhat}
use Rattle.script_read.specs.Commands.{command_of}
use Rattle.script_read.specs.Drafts.{tree_of}
use Rattle.script_read.specs.Hosts.{is_participant}
use Rattle.script_read.specs.Kept.{IsSubmission}
use Rattle.script_read.specs.Participants.{participant_member, participant_in}
use Rattle.script_read.specs.Triggers.{own_command_in}
use Rattle.trigger_rules.specs.declared.rule.Rule.{Rule}
use Rattle.script_read.specs.Rounds.{act_as_in, time_of, time_if, time_in, ledger_time_in, commands_in, seed_of_of, some_seed_of, seed_of_if, seed_of_in, trees_in, prepared_in, are_commands, is_prepared, what_in, submission_of}
use Rattle.script_read.proofs.Actions.{IsDraftRead}
use Rattle.script_read.proofs.Arguments.{IsCommandRead, command_read, party_hosted}
use Rattle.script_read.proofs.Cases.{by_test}
use Rattle.script_read.proofs.Lists.{all_of, each_weaker, tests_all, flat_known, some_read}
use Rattle.script_read.proofs.NewHosts.{set_length}
use Rattle.script_read.proofs.Participating.{participant_within}
use Rattle.script_read.proofs.References.{name_read}
use Rattle.script_read.proofs.RuleWalk.{own_command}
use Rattle.script_read.proofs.RoundWalks.{few_read, set_some}
use Rattle.script_read.proofs.SameHosts.{AreSame}
use Rattle.script_read.proofs.Topologies.{integer_range}
use Rattle.script_read.proofs.TreeSizes.{trees_read}

-- ---- when

abbrev IsTime : Option ℕ → Type 0
IsTime o = MatchOption o Unit (λ t. t ≤ 10 ^ 16)

time_read : (at : Place) (o : Option Data) (t : Option ℕ) → time_if at o ≡ Ok t → IsTime t
unfolding time_of
time_read at None t h = rw (given None t h) tt
time_read at (Some d) t h =
    let s = after (integer_of at LEDGER_TIME d) _ t h in
    let r = integer_range at LEDGER_TIME d s.0 s.1 in
    rw (given (Some s.0) t s.2) (omega (arith, r.1))

-- a list is read from an array
list_read : (at : Place) (d : Data) (items : Items) → items_of at d ≡ Ok items → d ≡ array items
unfolding items_of
list_read at null items h = absurd (cc)
list_read at (boolean b) items h = absurd (cc)
list_read at (number n) items h = absurd (cc)
list_read at (string s) items h = absurd (cc)
list_read at (array ds) items h = ap array (sym (given ds items h))
list_read at (object ms) items h = absurd (cc)

module _ (read kept : List Host) (same : AreSame read kept) where
  -- ---- as whom

  record IsActing (set : List (List ℕ)) : Type 0 where
    someone : 1 ≤ length set
    few : length set ≤ 128
    hosted : AreKnown (is_hosted kept) set

  acting_read : (at : Place) (d : Data) (set : List (List ℕ)) → act_as_in read at d ≡ Ok set → IsActing set
  unfolding act_as_in
  acting_read at d set h =
      let m = after (member_of at (codes "act_as") d) _ set h in
      let n = after (few_of (party_of read) (at_member at (codes "act_as")) ACT_AS m.0) _ set m.2 in
      let few = few_kept (party_of read) (λ a. is_hosted kept a ≡ true) (party_hosted read kept same) (at_member at (codes "act_as")) ACT_AS m.0 n.0 n.1 in
      rw (given (set_of n.0) set n.2) (record {
        someone = set_some n.0 few.0;
        few = omega (arith, set_length n.0, few.1);
        hosted = all_set_of (is_hosted kept) n.0 (tests_all (is_hosted kept) n.0 few.2);
      })

  -- ---- what

  commands_read : (at : Place) (d : Data) (w : What) → commands_in read at d ≡ Ok w → IsWhat kept w
  unfolding commands_in
  commands_read at d w h =
      let m = after (member_of at (codes "commands") d) _ w h in
      let c = after (few_of (command_of read) (at_member at (codes "commands")) COMMANDS m.0) _ w m.2 in
      let few = few_kept (command_of read) (IsCommandRead read kept same) (command_read read kept same) (at_member at (codes "commands")) COMMANDS m.0 c.0 c.1 in
      rw (given (what.Commands c.0) w c.2) (record {
        some = few.0;
        few = few.1;
        each = all_of (IsCommand kept) c.0 (each_weaker (IsCommandRead read kept same) (IsCommand kept) c.0 (λ a is. is.accepted) few.2);
        hosted = flat_known (is_hosted kept) parties_in_command c.0 (each_weaker (IsCommandRead read kept same) (λ a. AreKnown (is_hosted kept) (parties_in_command a)) c.0 (λ a is. is.hosted) few.2);
      })

  seed_read : (at : Place) (d : Data) (s : SeedOf) → seed_of_of read at d ≡ Ok s → IsSeed kept s
  unfolding seed_of_of
  seed_read at d s h =
      let i = after (items_of at d) _ s h in
      let t = after (two_of at i.0) _ s i.2 in
      let p = after (name_of (at_item at 0) t.0.0) _ s t.2 in
      let c = after (check (is_participant read p.0) (Unknown (at_item at 0) p.0)) _ s p.2 in
      let n = after (name_of (at_item at 1) t.0.1) _ s c.2 in
      rw (given (record { participant = p.0; command = n.0 }) s n.2) (record {
        participant = same.named p.0 (passed (is_participant read p.0) _ c.0 c.1);
        command = name_read (at_item at 1) t.0.1 n.0 n.1;
      })

  seed_if_read : (at : Place) (o : Option Data) (s : Option SeedOf) → seed_of_if read at o ≡ Ok s → MatchOption s Unit (IsSeed kept)
  unfolding some_seed_of
  seed_if_read at None s h = rw (given None s h) tt
  seed_if_read at (Some d) s h =
      let t = after (seed_of_of read at d) _ s h in
      rw (given (Some t.0) s t.2) (seed_read at d t.0 t.1)

  roots_read : (at : Place) (d : Data) (f : Drafts) → trees_in read at d ≡ Ok f → AreDrafts kept f
  unfolding trees_in
  roots_read at d f h =
      let m = after (member_of at (codes "prepared") d) _ f h in
      let i = after (few_items_of (at_member at (codes "prepared")) COMMANDS m.0) _ f m.2 in
      let r = after (tree_of read (at_member at (codes "prepared")) 1 0 m.0) _ f i.2 in
      let few = few_read (at_member at (codes "prepared")) COMMANDS m.0 i.0 i.1 in
      let is : tree_of read (at_member at (codes "prepared")) 1 0 (array i.0) ≡ Ok r.0 = subst (λ d. tree_of read (at_member at (codes "prepared")) 1 0 d ≡ Ok r.0) (list_read (at_member at (codes "prepared")) m.0 i.0 few.0) r.1 in
      let trees = trees_read read kept same (at_member at (codes "prepared")) 1 0 i.0 r.0 (omega arith) is in
      let drafts = preorder r.0.0 in
      rw (given r.0.0 f r.2) (record {
        some = omega (arith, trees.many, few.1);
        few_roots = omega (arith, trees.many, few.2);
        few = omega (arith, trees.sized, trees.few);
        shallow = omega (arith, trees.low);
        each = all_of (IsDraft kept) drafts (each_weaker (IsDraftRead read kept same) (IsDraft kept) drafts (λ a is. is.accepted) trees.each);
        hosted = flat_known (is_hosted kept) parties_in_draft drafts (each_weaker (IsDraftRead read kept same) (λ a. AreKnown (is_hosted kept) (parties_in_draft a)) drafts (λ a is. is.hosted) trees.each);
      })

  prepared_read : (at : Place) (d : Data) (w : What) → prepared_in read at d ≡ Ok w → IsWhat kept w
  unfolding prepared_in seed_of_in
  prepared_read at d w h =
      let t = after (trees_in read at d) _ w h in
      let s = after (seed_of_in read at d) _ w t.2 in
      let seed = seed_if_read (at_member at (codes "seed_of")) (get (codes "seed_of") d) s.0 s.1 in
      rw (given (what.Prepared s.0 t.0) w s.2) (seed, roots_read at d t.0 t.1)

  what_read : (at : Place) (d : Data) (w : What) → what_in read at d ≡ Ok w → IsWhat kept w
  unfolding what_in
  what_read at d w h = by_test w (are_commands d) (commands_in read at d) (prepared_in read at d) (commands_read at d w) (prepared_read at d w) h

  -- ---- the whole

  pub submission_read : (rules : List Rule) (at : Place) (d : Data) (s : Submission) → submission_of read rules at d ≡ Ok s → IsSubmission kept rules s
  unfolding submission_of participant_in participant_member ledger_time_in time_in
  submission_read rules at d s h =
      let a = after (check (are_commands d || is_prepared d) (Shape at)) _ s h in
      let p = after (participant_in read at d) _ s a.2 in
      let c = after (own_command_in rules p.0 at d) _ s p.2 in
      let own = own_command rules p.0 at d c.0 c.1 in
      let x = after (act_as_in read at d) _ s c.2 in
      let t = after (ledger_time_in at d) _ s x.2 in
      let w = after (what_in read at d) _ s t.2 in
      let m = after (member_of at (codes "participant") d) _ p.0 p.1 in
      let acting = acting_read at d x.0 x.1 in
      rw (given (record { participant = p.0; command = c.0; act_as = x.0; ledger_time = t.0; what = w.0 }) s w.2) (record {
        participant = participant_within read kept same (at_member at (codes "participant")) m.0 p.0 m.2;
        command = own.0;
        own = own.1;
        someone = acting.someone;
        few = acting.few;
        hosted = acting.hosted;
        time = time_read (at_member at (codes "ledger_time")) (get (codes "ledger_time") d) t.0 t.1;
        what = what_read at d w.0 w.1;
      })
