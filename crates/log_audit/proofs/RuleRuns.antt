-- In the log of a run with rules, each request with a command of a rule is what that rule may cause.
use Rattle.std.proofs.Common.{◌≡◌, ℕ, Bool, true, false, List, [], ◌∷◌, map, take, Some, refl, sym, ap, ◌∙◌, subst, inl, inr}
use Rattle.std.specs.Prelude.{All, nat_eq, slice_get, ◌&&◌}
use Rattle.std.specs.List.{list_any}
use Rattle.std.specs.Str.{bytes_eq}
use Rattle.std.proofs.lemmas.Bool.{and_from, and_parts, both_ways, cases_Bool, eq-eqb}
use Rattle.std.proofs.lemmas.Option.{same_Some}
use Rattle.std.proofs.lemmas.Slice.Eq.{bytes_eq-Decides}
use Rattle.ledger_terms.specs.declared.command.Command.{Command}
use Rattle.ledger_terms.specs.declared.command.Command.TheVariants.{Exercise}
use Rattle.ledger_terms.specs.declared.contract_ref.ContractRef.TheVariants.{Id}
use Rattle.ledger_terms.specs.declared.known.Known.{Known}
use Rattle.ledger_terms.specs.declared.submission.Submission.{Submission}
use Rattle.ledger_model.proofs.Lists.{In, in_any, in_append_left, in_append_right, in_at, in_from_Contains, in_take_at}
use Rattle.canton_model.specs.Genuine.{FitsIfRequest, Genuine, RequestFits, is_request_of}
use Rattle.canton_model.specs.Log.{request_at, request_in, request_of}
use Rattle.canton_model.specs.Reading.{Reading}
use Rattle.world_model.specs.Machine.{IsMachine, Machine}
use Rattle.world_model.specs.Messages.{Entry, Message, RequestMessage, ResponseMessage, VerdictMessage, Tick, Request}
use Rattle.world_model.specs.Rounds.{Why}
use Rattle.framed_form.specs.FramedReading.{framed_reading}
use Rattle.audit_model.specs.Rules.{exercised_for, has_exercised, is_caused_by, is_wrong_trigger, is_wrong_use, is_wrongly_caused_by}
use Rattle.audit_model.specs.Standard as standard
use Rattle.interpret.specs.Wanted.{IsWanted}
use Rattle.prepare_request.specs.Prepared.{seed_for}
use Rattle.script_read.specs.Kept.{IsAccepted}
use Rattle.script_read.specs.declared.script.Script.{Script}
use Rattle.trigger_rules.specs.Answers.{Answers, IsExerciseOf}
use Rattle.trigger_rules.specs.Firing.{command_id, submission_by}
use Rattle.trigger_rules.specs.Ids.{is_numbered, is_rule_command}
use Rattle.trigger_rules.specs.declared.caused.Caused.{Caused}
use Rattle.trigger_rules.specs.declared.rule.Rule.{Rule}
use Rattle.trigger_model.specs.CausedRequests.{HasOwnIds, RunWithRules}
use Rattle.trigger_model.specs.CausedRun.{FiredRound, IsCausedIn, all_caused}
use Rattle.trigger_model.specs.TwoParts.{RoundParts}
use Rattle.trigger_model.proofs.RequestFacts.{request_is_caused}
use Rattle.log_judge.specs.RuleUses.{rule_of}
use Rattle.log_audit.specs.RuleRuns.{AreOpened, IsPreparedFor, UsesRulesRightly}
use Rattle.log_audit.specs.Scripts.{standard_of}
use Rattle.log_audit.proofs.OneExercise.{one_exercise}
use Rattle.log_audit.proofs.RuleNames.{same_name, same_rule}

none_passes : {X : Type 0} (test : X → Bool) (xs : List X) → ((x : X) → In x xs → test x ≡ false) → list_any test xs ≡ false
none_passes test [] h = refl
none_passes test (x ∷ xs) h = rw (h x (inl refl)) (none_passes test xs (λ y i. h y (inr i)))

in_mapped : {X Y : Type 0} (f : X → Y) (xs : List X) (y : Y) → In y (map f xs) → (x : X) × In x xs × (f x ≡ y)
in_mapped f [] y i = absurd i
in_mapped f (x ∷ xs) y (inl same) = (x, inl refl, same)
in_mapped f (x ∷ xs) y (inr i) = let r = in_mapped f xs y i in (r.0, inr r.1, r.2)

-- what was caused in a round was caused in the run
in_all : (rounds : List FiredRound) (round : FiredRound) (one : Caused) → In round rounds → In one round.caused → In one (all_caused rounds)
in_all [] round one i c = absurd i
in_all (x ∷ rounds) round one (inl same) c = in_append_left x.caused (all_caused rounds) one (subst (λ (r : FiredRound). In one r.caused) (sym same) c)
in_all (x ∷ rounds) round one (inr i) c = in_append_right x.caused (all_caused rounds) one (in_all rounds round one i c)

-- A request of a rule: something that was caused, of that rule, whose contract it exercises.
pub record IsOfRule (reading : Reading) (caused : List Caused) (rule : Rule) (request : Request) : Type 0 where
  pub one : Caused
  pub among : In one caused
  pub of_rule : one.rule ≡ rule.name
  pub sender : request.sender ≡ (one.submission).participant
  pub command : request.command ≡ (one.submission).command
  pub exercises : exercised_for (rule_of rule) (reading.whole request) ≡ Some one.contract

just_one : (party : List ℕ) → bytes_eq party party ≡ true
just_one party = (bytes_eq-Decides party party).1 refl

-- what a rule submits with an exercise of a contract exercises it for the rule
prepared_exercises : (script : Script) (now time before : ℕ) (rule : Rule) (known : Known) (command : Command) (request : Request) → IsExerciseOf known command
    → IsPreparedFor script now (submission_by rule time before command) request
    → exercised_for (rule_of rule) ((framed_reading script.topology script.checked).whole request) ≡ Some known.id
prepared_exercises script now time before rule known command request exercise prepared =
    let what = submission_by rule time before command in
    let wanted = prepared.wanted in
    let seed = seed_for script.topology rule.participant what in
    let by = rule.party ∷ [] in
    let one : IsWanted script.checked prepared.known seed by (command ∷ []) wanted.roots = wanted.wanted in
    let template = (known.instance).template in
    let same : IsWanted script.checked prepared.known seed by (Exercise template (Id known.id) exercise.choice exercise.args ∷ []) wanted.roots =
    subst (λ (c : Command). IsWanted script.checked prepared.known seed by (c ∷ []) wanted.roots) exercise.exercises one in
    ap (exercised_for (rule_of rule)) prepared.whole
    ∙ rw (just_one rule.party)
    (one_exercise script.checked prepared.known seed by template known.id exercise.choice exercise.args wanted.roots wanted.some_root same)

module _ {F : Type 0} (m : Machine) (why : Why F) (may : Answers) (script : Script) (log : List Entry) (rounds : List (RoundParts F))
    (fired : List FiredRound) (machine : IsMachine m) (same_reading : m.reading ≡ framed_reading script.topology script.checked)
    (accepted : IsAccepted script) (run : RunWithRules m why may script.triggers log rounds fired) (own : All (HasOwnIds script.triggers) rounds)
    (opened : AreOpened script log rounds) where
  abbrev reads : Reading
  reads = framed_reading script.topology script.checked

  genuine : Genuine reads m.params log
  genuine = subst (λ (r : Reading). Genuine r m.params log) same_reading ((run.run).run).genuine

  module _ (k : ℕ) (request : Request) (at : request_at log k ≡ Some request) (rule : Rule) (listed : In rule script.triggers)
      (kept : is_caused_by (rule_of rule) request ≡ true) where
    sender_is : nat_eq rule.participant request.sender ≡ true
    sender_is = (and_parts (nat_eq rule.participant request.sender) (is_numbered rule.name request.command) kept).0

    named : is_numbered rule.name request.command ≡ true
    named = (and_parts (nat_eq rule.participant request.sender) (is_numbered rule.name request.command) kept).1

    is_rules : is_rule_command script.triggers request.sender request.command ≡ true
    is_rules =
        in_any (λ (r : Rule). nat_eq r.participant request.sender && is_numbered r.name request.command) script.triggers rule listed
        (and_from _ _ sender_is named)

    by_cause : (one : Caused) (round : FiredRound) → IsCausedIn may script.triggers m.reading m.params log round one → (now : ℕ)
        → IsPreparedFor script now one.submission request → In one (all_caused fired) → IsOfRule reads (all_caused fired) rule request
    by_cause one round is now prepared among =
        let its = is.rule in
        let caused = is.is in
        let what = one.submission in
        let sent : what ≡ submission_by its round.now is.before is.command = ap (λ (c : Caused). c.submission) caused in
        let sender : request.sender ≡ what.participant = ap (λ (q : Request). q.sender) (prepared.wanted).request_is in
        let command : request.command ≡ what.command = ap (λ (q : Request). q.command) (prepared.wanted).request_is in
        let id : request.command ≡ command_id its.name is.before = command ∙ ap (λ (w : Submission). w.command) sent in
        let alike : rule.name ≡ its.name = same_name rule.name its.name is.before (ap (is_numbered rule.name) (sym id) ∙ named) in
        let that : rule ≡ its =
        same_rule script.triggers rule its (accepted.triggers).named listed (in_from_Contains script.triggers its is.is_rule) alike in
        record {
          one = one;
          among = among;
          of_rule = ap (λ (c : Caused). c.rule) caused ∙ ap (λ (r : Rule). r.name) (sym that);
          sender = sender;
          command = command;
          exercises = subst (λ (r : Rule). exercised_for (rule_of r) (reads.whole request) ≡ Some one.contract) (sym that)
              (prepared_exercises script now round.now is.before its (is.row).known is.command request is.exercises
              (subst (λ (w : Submission). IsPreparedFor script now w request) sent prepared)
              ∙ ap (λ (c : Caused). Some c.contract) (sym caused));
        }

    of_rule_is : IsOfRule reads (all_caused fired) rule request
    of_rule_is =
        let found = request_is_caused m why machine script.triggers log rounds fired run.run run.same own k request at is_rules in
        let one = found.2 in
        let cause = (run.causes).each found.0 one found.1 found.3 in
        let made = opened found.4 one.submission k found.6 found.5 found.7 in
        let same : made.1 ≡ request = same_Some made.1 request (sym made.2 ∙ at) in
        by_cause one found.0 cause made.0 (subst (IsPreparedFor script made.0 one.submission) same made.3)
        (in_all fired found.0 one (in_from_Contains fired found.0 found.1) (in_from_Contains (found.0).caused one found.3))

  -- another request of the rule that exercises the same contract is the same request
  module _ (k : ℕ) (request : Request) (rule : Rule) (listed : In rule script.triggers) (mine : IsOfRule reads (all_caused fired) rule request)
      (first : list_any (λ (entry : Entry). is_request_of request.sender request.command entry.message) (take k log) ≡ false) where
    abbrev test : Entry → Bool
    test entry = is_request_of request.sender request.command entry.message

    same_cause : (other : Request) (theirs : IsOfRule reads (all_caused fired) rule other) → (theirs.one).contract ≡ (mine.one).contract
        → theirs.one ≡ mine.one
    same_cause other theirs same =
        let i = in_at (all_caused fired) theirs.one theirs.among in
        let j = in_at (all_caused fired) mine.one mine.among in
        let places : i.0 ≡ j.0 =
        (run.causes).once i.0 j.0 theirs.one mine.one i.1 j.1 (theirs.of_rule ∙ sym mine.of_rule) same in
        same_Some theirs.one mine.one (sym i.1 ∙ (ap (slice_get (all_caused fired)) places ∙ j.1))

    repeats : (other : Request) (theirs : IsOfRule reads (all_caused fired) rule other) → (theirs.one).contract ≡ (mine.one).contract
        → is_request_of request.sender request.command (RequestMessage other) ≡ true
    repeats other theirs same =
        let cause = same_cause other theirs same in
        let sender : other.sender ≡ request.sender =
        theirs.sender ∙ (ap (λ (c : Caused). (c.submission).participant) cause ∙ sym mine.sender) in
        let command : other.command ≡ request.command =
        theirs.command ∙ (ap (λ (c : Caused). (c.submission).command) cause ∙ sym mine.command) in
        and_from _ _ (eq-eqb other.sender request.sender sender) ((bytes_eq-Decides other.command request.command).1 command)

    unused : (entry : Entry) → In entry (take k log) → (message : Message) → entry.message ≡ message
        → has_exercised reads (rule_of rule) (mine.one).contract message ≡ false
    unused entry i (ResponseMessage response) is = refl
    unused entry i (VerdictMessage verdict) is = refl
    unused entry i Tick is = refl
    unused entry i (RequestMessage other) is =
        elim (cases_Bool (is_caused_by (rule_of rule) other)) [
          | inr b ↦ rw b refl
          | inl b ↦
              let at = in_take_at log k entry i in
              let there : request_at log at.0 ≡ Some other = ap request_in at.2 ∙ ap request_of is in
              let theirs = of_rule_is at.0 other there rule listed b in
              elim (cases_Bool (bytes_eq (mine.one).contract (theirs.one).contract)) [
                | inr c ↦ rw (b, theirs.exercises) c
                | inl c ↦
                    let same = sym ((bytes_eq-Decides (mine.one).contract (theirs.one).contract).0 c) in
                    let again : test entry ≡ true =
                    ap (is_request_of request.sender request.command) is ∙ repeats other theirs same in
                    absurd (both_ways _ first (in_any test (take k log) entry i again))
              ]
        ]

    used_once : is_wrong_use reads (rule_of rule) (take k log) (exercised_for (rule_of rule) (reads.whole request)) ≡ false
    used_once =
        rw mine.exercises
        (none_passes (λ (entry : Entry). has_exercised reads (rule_of rule) (mine.one).contract entry.message) (take k log)
        (λ entry i. unused entry i entry.message refl))

  by_rule : (k : ℕ) (request : Request) → request_at log k ≡ Some request → RequestFits reads log k request → (rule : Rule) → In rule script.triggers
      → is_wrongly_caused_by reads (take k log) request (rule_of rule) ≡ false
  by_rule k request at fit rule listed =
      elim (cases_Bool (is_caused_by (rule_of rule) request)) [
        | inr b ↦ rw b refl
        | inl b ↦ rw b (used_once k request rule listed (of_rule_is k request at rule listed b) fit.first)
      ]

  by_message : (k : ℕ) (entry : Entry) → slice_get log k ≡ Some entry → (message : Message) → entry.message ≡ message
      → is_wrong_trigger (standard_of script) (take k log) message ≡ false
  by_message k entry at (ResponseMessage response) is = refl
  by_message k entry at (VerdictMessage verdict) is = refl
  by_message k entry at Tick is = refl
  by_message k entry at (RequestMessage request) is =
      let there : request_at log k ≡ Some request = ap request_in at ∙ ap request_of is in
      let fit : RequestFits reads log k request = subst (FitsIfRequest reads log k) is (genuine.requests k entry at) in
      none_passes (is_wrongly_caused_by reads (take k log) request) (map rule_of script.triggers) (λ r i.
      let rule = in_mapped rule_of script.triggers r i in
      subst (λ (x : standard.Rule). is_wrongly_caused_by reads (take k log) request x ≡ false) rule.2
      (by_rule k request there fit rule.0 rule.1))

  pub rules_are_used_rightly : UsesRulesRightly script log
  rules_are_used_rightly k entry at = by_message k entry at entry.message refl
