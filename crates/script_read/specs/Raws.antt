-- Raw requests, as a client hands them in. `hosts` is the topology, `rules` are the rules of the script, `at` is the place of the JSON value `d` that
-- is read. Participants are indices in the topology. An Err is the first fault: Shape says that a value has another form than it should or that a
-- member is absent, Unknown that no participant has a name, Limit that there are too many bytes or requests.
use Rattle.std.specs.Prelude.{ℕ, Bool, List, [], ◌∷◌, length, Option, Some, None, Result, Ok, ok_or, codes}
use Rattle.std.specs.Result.{result_ok}
use Rattle.hex.specs.Hex.{decode_of}
use Rattle.serde_json.specs.Data.{Data}
use Rattle.serde_json.specs.Find.{as_str, get}
use Rattle.ledger_terms.specs.Pointers.{at_item, at_member}
use Rattle.ledger_terms.specs.declared.host.Host.{Host}
use Rattle.ledger_terms.specs.declared.raw_envelope.RawEnvelope.{RawEnvelope}
use Rattle.ledger_terms.specs.declared.raw_request.RawRequest.{RawRequest}
use Rattle.ledger_terms.specs.Answers.{◌>>=◌, check}
use Rattle.json_walk.specs.declared.limits.TheConstants.{RAW_BYTES, RAWS}
use Rattle.json_walk.specs.Lists.{list_of, few_of}
use Rattle.json_walk.specs.Walk.{Place, within_limit, has_members, items_of, two_of, member_of}
use Rattle.json_walk.specs.declared.walk_fault.WalkFault.{WalkFault}
use Rattle.json_walk.specs.declared.walk_fault.WalkFault.TheVariants.{Shape}
use Rattle.script_read.specs.Participants.{participant_of, participant_in}
use Rattle.script_read.specs.Triggers.{own_command_in}
use Rattle.trigger_rules.specs.declared.rule.Rule.{Rule}

-- ---- bytes

-- the bytes that a text spells, two hexadecimal digits of either case for each; None where it has another character or an odd number of them
abbrev pub bytes_named : List ℕ → Option (List ℕ)
bytes_named s = result_ok (decode_of s)

-- the bytes that a text spells: Shape where it is no text of pairs of hexadecimal digits, Limit where there are more than 65,536 bytes
unfoldable pub bytes_of : Place → Data → Result (List ℕ) WalkFault
bytes_of at d = do
  s ← ok_or (as_str d) (Shape at)
  bytes ← ok_or (bytes_named s) (Shape at)
  _ ← within_limit at RAW_BYTES (length bytes)
  Ok bytes

-- ---- envelopes

-- the envelope that a list of two items spells: the name of the participant to whom it is addressed, and its bytes; Shape where the list has more or
-- fewer
unfoldable pub envelope_of : List Host → Place → Data → Result RawEnvelope WalkFault
envelope_of hosts at d = do
  items ← items_of at d
  two ← two_of at items
  to ← participant_of hosts (at_item at 0) two.0
  bytes ← bytes_of (at_item at 1) two.1
  Ok (record { to = to; bytes = bytes })

-- the envelopes in the member `envelopes` of a raw request, in order and however many
unfoldable pub envelopes_in : List Host → Place → Data → Result (List RawEnvelope) WalkFault
envelopes_in hosts at d = do
  m ← member_of at (codes "envelopes") d
  list_of (envelope_of hosts) (at_member at (codes "envelopes")) m

-- ---- requests

-- the participants in the member `confirming` of a raw request, who are said to be asked: in any order, and one may stand more than once
unfoldable pub confirming_in : List Host → Place → Data → Result (List ℕ) WalkFault
confirming_in hosts at d = do
  m ← member_of at (codes "confirming") d
  list_of (participant_of hosts) (at_member at (codes "confirming")) m

-- the bytes for the mediator, in the member `mediator` of a raw request
unfoldable pub mediator_in : Place → Data → Result (List ℕ) WalkFault
mediator_in at d = do
  m ← member_of at (codes "mediator") d
  bytes_of (at_member at (codes "mediator")) m

-- whether a value is an object with just the members of a raw request
unfoldable pub has_raw_members : Data → Bool
has_raw_members d =
    has_members (codes "participant" ∷ codes "command" ∷ codes "confirming" ∷ codes "mediator" ∷ codes "envelopes" ∷ []) [] d

-- the raw request that a value spells, or the first fault; Repeated where its command's id is the name of a rule of its participant with a hyphen and
-- digits behind it
unfoldable pub raw_of : List Host → List Rule → Place → Data → Result RawRequest WalkFault
raw_of hosts rules at d = do
  _ ← check (has_raw_members d) (Shape at)
  participant ← participant_in hosts at d
  command ← own_command_in rules participant at d
  confirming ← confirming_in hosts at d
  mediator ← mediator_in at d
  envelopes ← envelopes_in hosts at d
  Ok (record { participant = participant; command = command; confirming = confirming; mediator = mediator; envelopes = envelopes })

-- the raw requests of a list at the place `at`, in order; None, where the member is absent, gives none, and more than 64 are Limit
abbrev pub raws_if : List Host → List Rule → Place → Option Data → Result (List RawRequest) WalkFault
raws_if hosts rules at None = Ok []
raws_if hosts rules at (Some d) = few_of (raw_of hosts rules) at RAWS d

-- the raw requests in the member `raw` of a round, none where it is absent
unfoldable pub raws_in : List Host → List Rule → Place → Data → Result (List RawRequest) WalkFault
raws_in hosts rules at d = raws_if hosts rules (at_member at (codes "raw")) (get (codes "raw") d)
