-- Rounds and their submissions. `hosts` is the topology, `rules` are the rules of the script, `at` is the place of the JSON value `d` that is read.
-- Participants are indices in the topology. An Err is the first fault: Shape says that a value has another form than it should or that a member is
-- absent, NotInteger that a number isn't whole, Limit that a count or a number is outside its limit, Unknown that a name is that of no party or
-- participant.
use Rattle.std.specs.Prelude.{ℕ, ◌+◌, Bool, ◌||◌, List, [], ◌∷◌, Option, Some, None, if◌then◌else◌, Result, Ok, codes}
use Rattle.serde_json.specs.Data.{Data}
use Rattle.serde_json.specs.Find.{get}
use Rattle.ledger_terms.specs.Drafts.{Drafts}
use Rattle.ledger_terms.specs.Parties.{set_of}
use Rattle.ledger_terms.specs.Pointers.{at_item, at_member}
use Rattle.ledger_terms.specs.declared.host.Host.{Host}
use Rattle.ledger_terms.specs.declared.seed_of.SeedOf.{SeedOf}
use Rattle.ledger_terms.specs.declared.what.What.{What}
use Rattle.ledger_terms.specs.declared.what.What.TheVariants as what
use Rattle.ledger_terms.specs.declared.submission.Submission.{Submission}
use Rattle.ledger_terms.specs.Answers.{◌>>=◌, check}
use Rattle.json_walk.specs.declared.limits.TheConstants.{ACT_AS, ADVANCE, COMMANDS, LEDGER_TIME, ROUNDS, SUBMISSIONS}
use Rattle.json_walk.specs.Walk.{Place, within_limit, name_of, truth_or, integer_of, has_members}
use Rattle.json_walk.specs.Walk.{items_of, few_items_of, walk_items, item_count, two_of, member_of}
use Rattle.json_walk.specs.Lists.{item_step, list_of, few_of, counted_of}
use Rattle.lang_read.specs.Parties.{party_of}
use Rattle.json_walk.specs.declared.walk_fault.WalkFault.{WalkFault}
use Rattle.json_walk.specs.declared.walk_fault.WalkFault.TheVariants.{Shape, Unknown}
use Rattle.script_read.specs.Hosts.{is_participant}
use Rattle.script_read.specs.Commands.{command_of}
use Rattle.script_read.specs.Drafts.{tree_of}
use Rattle.script_read.specs.Participants.{participant_of, participant_in}
use Rattle.script_read.specs.Raws.{raws_in}
use Rattle.script_read.specs.Triggers.{own_command_in}
use Rattle.script_read.specs.declared.round.Round.{Round}
use Rattle.trigger_rules.specs.declared.rule.Rule.{Rule}

-- ---- submissions

-- the set of the parties in the member `act_as` of a submission, a list that may name one more than once; Limit where the list is empty or too long
unfoldable pub act_as_in : List Host → Place → Data → Result (List (List ℕ)) WalkFault
act_as_in hosts at d = do
  m ← member_of at (codes "act_as") d
  names ← few_of (party_of hosts) (at_member at (codes "act_as")) ACT_AS m
  Ok (set_of names)

-- the ledger time that a value spells, in microseconds, as a Some
unfoldable pub time_of : Place → Data → Result (Option ℕ) WalkFault
time_of at d = do
  time ← integer_of at LEDGER_TIME d
  Ok (Some time)

-- the ledger time of a member at the place `at`, in microseconds; None, where the member is absent, gives None
abbrev pub time_if : Place → Option Data → Result (Option ℕ) WalkFault
time_if at None = Ok None
time_if at (Some d) = time_of at d

-- the ledger time in the member `k` of an object, None where that is absent
unfoldable pub time_in : Place → List ℕ → Data → Result (Option ℕ) WalkFault
time_in at k d = time_if (at_member at k) (get k d)

-- the ledger time in the member `ledger_time` of a submission; None, where that is absent, stands for the time of the round
unfoldable pub ledger_time_in : Place → Data → Result (Option ℕ) WalkFault
ledger_time_in at d = time_in at (codes "ledger_time") d

-- the commands in the member `commands` of a submission, in order; Limit where there is none or too many
unfoldable pub commands_in : List Host → Place → Data → Result What WalkFault
commands_in hosts at d = do
  m ← member_of at (codes "commands") d
  commands ← few_of (command_of hosts) (at_member at (codes "commands")) COMMANDS m
  Ok (what.Commands commands)

-- the seed that a list of a participant's name and a command's id names; Unknown where no participant has the name
unfoldable pub seed_of_of : List Host → Place → Data → Result SeedOf WalkFault
seed_of_of hosts at d = do
  items ← items_of at d
  two ← two_of at items
  participant ← name_of (at_item at 0) two.0
  _ ← check (is_participant hosts participant) (Unknown (at_item at 0) participant)
  command ← name_of (at_item at 1) two.1
  Ok (record { participant = participant; command = command })

-- the seed that a value names, as a Some
unfoldable pub some_seed_of : List Host → Place → Data → Result (Option SeedOf) WalkFault
some_seed_of hosts at d = do
  seed ← seed_of_of hosts at d
  Ok (Some seed)

-- the seed of a member at the place `at`, which a prepared tree borrows; None, where the member is absent, gives None
abbrev pub seed_of_if : List Host → Place → Option Data → Result (Option SeedOf) WalkFault
seed_of_if hosts at None = Ok None
seed_of_if hosts at (Some d) = some_seed_of hosts at d

-- the seed in the member `seed_of` of a submission of a prepared tree; None, where that is absent, stands for the seed of its own command
unfoldable pub seed_of_in : List Host → Place → Data → Result (Option SeedOf) WalkFault
seed_of_in hosts at d = seed_of_if hosts (at_member at (codes "seed_of")) (get (codes "seed_of") d)

-- the drafts in the member `prepared` of a submission; Limit where there is no root or more than 16
unfoldable pub trees_in : List Host → Place → Data → Result Drafts WalkFault
trees_in hosts at d = do
  m ← member_of at (codes "prepared") d
  _ ← few_items_of (at_member at (codes "prepared")) COMMANDS m
  trees ← tree_of hosts (at_member at (codes "prepared")) 1 0 m
  Ok trees.0

-- what a submission asks for that has a prepared tree: the tree, with the seed that it borrows or None
unfoldable pub prepared_in : List Host → Place → Data → Result What WalkFault
prepared_in hosts at d = do
  trees ← trees_in hosts at d
  seed ← seed_of_in hosts at d
  Ok (what.Prepared seed trees)

-- whether a value is an object with the members of a submission of commands
unfoldable pub are_commands : Data → Bool
are_commands d = has_members (codes "participant" ∷ codes "command" ∷ codes "act_as" ∷ codes "commands" ∷ []) (codes "ledger_time" ∷ []) d

-- whether a value is an object with the members of a submission of a prepared tree
unfoldable pub is_prepared : Data → Bool
is_prepared d = has_members (codes "participant" ∷ codes "command" ∷ codes "act_as" ∷ codes "prepared" ∷ []) (codes "ledger_time" ∷ codes "seed_of" ∷ []) d

-- what a submission asks for: its commands where it has the members of such a submission, and else its prepared tree
unfoldable pub what_in : List Host → Place → Data → Result What WalkFault
what_in hosts at d = if are_commands d then commands_in hosts at d else prepared_in hosts at d

-- the submission that a value spells, or the first fault; Repeated where its command's id is the name of a rule of its participant with a hyphen and
-- digits behind it
unfoldable pub submission_of : List Host → List Rule → Place → Data → Result Submission WalkFault
submission_of hosts rules at d = do
  _ ← check (are_commands d || is_prepared d) (Shape at)
  participant ← participant_in hosts at d
  command ← own_command_in rules participant at d
  act_as ← act_as_in hosts at d
  time ← ledger_time_in at d
  what ← what_in hosts at d
  Ok (record { participant = participant; command = command; act_as = act_as; ledger_time = time; what = what })

-- the submissions of a list, in order, and `before`, the number of submissions in the rounds before, with their number added; Limit where that sum is
-- above 2,048
unfoldable pub submits_of : List Host → List Rule → ℕ → Place → Data → Result (List Submission × ℕ) WalkFault
submits_of hosts rules before at d = do
  items ← items_of at d
  _ ← within_limit at SUBMISSIONS (before + item_count items)
  submits ← walk_items (item_step (submission_of hosts rules) at) 0 [] items
  Ok (submits, before + item_count items)

-- the submissions of a member at the place `at`, and `before`, the number of submissions in the rounds before, with their number added; None, where the
-- member is absent, gives no submission and `before` itself
abbrev pub submits_if : List Host → List Rule → ℕ → Place → Option Data → Result (List Submission × ℕ) WalkFault
submits_if hosts rules before at None = Ok ([], before)
submits_if hosts rules before at (Some d) = submits_of hosts rules before at d

-- the submissions in the member `submits` of a round, none where it is absent, and `before`, the number of submissions in the rounds before, with their
-- number added
unfoldable pub submits_in : List Host → List Rule → ℕ → Place → Data → Result (List Submission × ℕ) WalkFault
submits_in hosts rules before at d = submits_if hosts rules before (at_member at (codes "submits")) (get (codes "submits") d)

-- ---- rounds

-- how far a round moves the time, in microseconds, as its member at the place `at` says; None, where that is absent, gives 0
abbrev pub advance_if : Place → Option Data → Result ℕ WalkFault
advance_if at None = Ok 0
advance_if at (Some d) = integer_of at ADVANCE d

-- how far a round moves the time, in microseconds: its member `advance`, 0 where that is absent
unfoldable pub advance_in : Place → Data → Result ℕ WalkFault
advance_in at d = advance_if (at_member at (codes "advance")) (get (codes "advance") d)

-- the participants that a list at the place `at` names, in any order; one may stand more than once. None, where the member is absent, gives none
abbrev pub participants_if : List Host → Place → Option Data → Result (List ℕ) WalkFault
participants_if hosts at None = Ok []
participants_if hosts at (Some d) = list_of (participant_of hosts) at d

-- the participants in the member `k` of a round, none where that is absent
unfoldable pub participants_in : List Host → Place → List ℕ → Data → Result (List ℕ) WalkFault
participants_in hosts at k d = participants_if hosts (at_member at k) (get k d)

-- the participants in the member `paused` of a round, who are paused in it
unfoldable pub paused_in : List Host → Place → Data → Result (List ℕ) WalkFault
paused_in hosts at d = participants_in hosts at (codes "paused") d

-- the participants in the member `restart` of a round, who restart where it begins
unfoldable pub restarts_in : List Host → Place → Data → Result (List ℕ) WalkFault
restarts_in hosts at d = participants_in hosts at (codes "restart") d

-- whether the mediator holds its verdicts back in a round: its member `hold_verdicts`, false where that is absent
unfoldable pub hold_in : Place → Data → Result Bool WalkFault
hold_in at d = truth_or at (codes "hold_verdicts") d

-- whether a value is an object with no other members than a round may have
unfoldable pub has_round_members : Data → Bool
has_round_members d =
    has_members [] (codes "advance" ∷ codes "paused" ∷ codes "hold_verdicts" ∷ codes "submits" ∷ codes "raw" ∷ codes "restart" ∷ []) d

-- the round that a value spells, and `before`, the number of submissions in the rounds before, with the number of its own added; or the first fault
unfoldable pub round_of : List Host → List Rule → ℕ → Place → Data → Result (Round × ℕ) WalkFault
round_of hosts rules before at d = do
  _ ← check (has_round_members d) (Shape at)
  advance ← advance_in at d
  paused ← paused_in hosts at d
  hold ← hold_in at d
  submits ← submits_in hosts rules before at d
  raws ← raws_in hosts rules at d
  restarts ← restarts_in hosts at d
  Ok (
    record { advance = advance; paused = paused; hold_verdicts = hold; submits = submits.0; raws = raws; restarts = restarts },
    submits.1,
  )

-- the rounds in the member `rounds` of the script `d`, in order, or the first fault: Limit where there are more than 2,048 rounds, or more than 2,048
-- submissions in all
unfoldable pub rounds_in : List Host → List Rule → Data → Result (List Round) WalkFault
rounds_in hosts rules d = do
  m ← member_of [] (codes "rounds") d
  rounds ← counted_of (round_of hosts rules) (at_member [] (codes "rounds")) ROUNDS m
  Ok rounds.0
