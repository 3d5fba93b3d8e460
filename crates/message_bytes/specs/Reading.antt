-- The readings of paths, responses and verdicts. Participants are numbers from 0 to `most`. A reading takes bytes and gives a value at their front with
-- the bytes behind it, or Err with how many bytes are left at the first field that can't be read. Of its words `both_at` reads two values one after the
-- other, `seen_at f` what f makes of a value, and `counted_at` a count and as many items, each of which may stand behind those before (`any_item` always).
-- What has several parts is read as nested pairs, of a type `..Parts`, and a function `.._of` makes the value of them.
use Rattle.std.specs.Prelude.{ℕ, zero, suc, Bool, true, List, [], ◌∷◌, Result, Ok, Err, length, nat_lt}
use Rattle.std.specs.Int.{w16, w64}
use Rattle.ledger_terms.specs.declared.limits.TheConstants.{MOST_ACTION_DEPTH}
use Rattle.wire_form.specs.Formats.{◌>>=◌, Reading, both_at, seen_at, counted_at, any_item}
use Rattle.wire_form.specs.Fields.{byte_at, number_at, count_at, small_count_at}
use Rattle.canton_model.specs.declared.reason.Reason.{Reason}
use Rattle.canton_model.specs.declared.reason.Reason.TheVariants.{IdMismatch, NotVetted, TimeSkew, Locked, Inactive, NotFresh}
use Rattle.canton_model.specs.declared.reason.Reason.TheVariants.{Unordered, NotConformant, NotAuthorised}
use Rattle.canton_model.specs.declared.reason.Reason.TheVariants.{RootMismatch, ViewMissing, WrongSender, WrongCommon}
use Rattle.canton_model.specs.declared.local_verdict.LocalVerdict.{LocalVerdict}
use Rattle.canton_model.specs.declared.local_verdict.LocalVerdict.TheVariants.{Approve, Reject}
use Rattle.canton_model.specs.declared.view_verdict.ViewVerdict.{ViewVerdict}
use Rattle.canton_model.specs.declared.response.Response.{Response}
use Rattle.canton_model.specs.declared.decision.Decision.{Decision}
use Rattle.canton_model.specs.declared.decision.Decision.TheVariants.{Approved, Rejected, TimedOut}
use Rattle.canton_model.specs.declared.verdict.Verdict.{Verdict}

-- the most that a byte counts
abbrev pub MOST_OF_BYTE : ℕ
MOST_OF_BYTE = 255

-- the most that two bytes count
abbrev pub MOST_OF_TWO_BYTES : ℕ
MOST_OF_TWO_BYTES = 65535

-- The reading of a path: a count of one byte and the steps, two bytes each. There are at most 16, since no view lies deeper than a transaction has
-- levels.
unfoldable pub path_at : Reading (List ℕ)
path_at = counted_at (small_count_at MOST_ACTION_DEPTH) any_item (number_at w16)

-- The reason with this number, and `rest`, the bytes behind it. An unknown number is a fault, Err `here`, which is how many bytes were left at it.
unfoldable pub numbered_reason_at : ℕ → List ℕ → ℕ → Result (Reason × List ℕ) ℕ
numbered_reason_at zero rest here = Err here
numbered_reason_at (suc zero) rest here = Ok (IdMismatch, rest)
numbered_reason_at (suc (suc zero)) rest here = Ok (NotVetted, rest)
numbered_reason_at (suc (suc (suc zero))) rest here = Ok (TimeSkew, rest)
numbered_reason_at (suc (suc (suc (suc zero)))) rest here = Ok (Locked, rest)
numbered_reason_at (suc (suc (suc (suc (suc zero))))) rest here = Ok (Inactive, rest)
numbered_reason_at (suc (suc (suc (suc (suc (suc zero)))))) rest here = Ok (NotFresh, rest)
numbered_reason_at (suc (suc (suc (suc (suc (suc (suc zero))))))) rest here = Ok (Unordered, rest)
numbered_reason_at (suc (suc (suc (suc (suc (suc (suc (suc zero)))))))) rest here = Ok (NotConformant, rest)
numbered_reason_at (suc (suc (suc (suc (suc (suc (suc (suc (suc zero))))))))) rest here = Ok (NotAuthorised, rest)
numbered_reason_at (suc (suc (suc (suc (suc (suc (suc (suc (suc (suc zero)))))))))) rest here = Ok (RootMismatch, rest)
numbered_reason_at (suc (suc (suc (suc (suc (suc (suc (suc (suc (suc (suc zero))))))))))) rest here = Ok (ViewMissing, rest)
numbered_reason_at (suc (suc (suc (suc (suc (suc (suc (suc (suc (suc (suc (suc zero)))))))))))) rest here = Ok (WrongSender, rest)
numbered_reason_at (suc (suc (suc (suc (suc (suc (suc (suc (suc (suc (suc (suc (suc zero))))))))))))) rest here = Ok (WrongCommon, rest)
numbered_reason_at (suc (suc (suc (suc (suc (suc (suc (suc (suc (suc (suc (suc (suc (suc n)))))))))))))) rest here = Err here

-- the reading of a reason by its number, one byte
unfoldable pub reason_at : Reading Reason
reason_at bytes = do
  number ← byte_at bytes
  numbered_reason_at number.0 number.1 (length bytes)

-- the parts of a rejection: the reason, and the action's place in the core of its view
abbrev pub RejectParts : Type 0
RejectParts = Reason × ℕ

-- the rejection, as a local verdict, that has these parts
abbrev pub reject_of : RejectParts → LocalVerdict
reject_of parts = Reject parts.0 parts.1

-- The local verdict with this tag, read from `rest`, the bytes behind the tag. An unknown tag is a fault, Err `here`, which is how many bytes were
-- left at it.
unfoldable pub tagged_local_at : ℕ → List ℕ → ℕ → Result (LocalVerdict × List ℕ) ℕ
tagged_local_at zero rest here = Ok (Approve, rest)
tagged_local_at (suc zero) rest here = seen_at reject_of (both_at reason_at (number_at w16)) rest
tagged_local_at (suc (suc n)) rest here = Err here

-- the reading of a local verdict: its tag and what follows it
unfoldable pub local_at : Reading LocalVerdict
local_at bytes = do
  tag ← byte_at bytes
  tagged_local_at tag.0 tag.1 (length bytes)

-- the parts of a verdict on a view: its path and the verdict
abbrev pub ViewVerdictParts : Type 0
ViewVerdictParts = List ℕ × LocalVerdict

-- a verdict on a view made of these parts
abbrev pub view_verdict_of : ViewVerdictParts → ViewVerdict
view_verdict_of parts = record { view = parts.0; verdict = parts.1 }

-- the reading of a verdict on a view: its path and the local verdict
unfoldable pub view_verdict_at : Reading ViewVerdict
view_verdict_at = seen_at view_verdict_of (both_at path_at local_at)

-- the reading of the verdicts of a response: two bytes of count and the verdicts
unfoldable pub view_verdicts_at : Reading (List ViewVerdict)
view_verdicts_at = counted_at (count_at MOST_OF_TWO_BYTES) any_item view_verdict_at

-- The parts of a response in the order in which they are read: the participant, the place of the request, and the verdicts.
abbrev pub ResponseParts : Type 0
ResponseParts = (ℕ × ℕ) × List ViewVerdict

-- a response made of these parts
abbrev pub response_of : ResponseParts → Response
response_of parts = record { from = parts.0.0; request = parts.0.1; verdicts = parts.1 }

-- the reading of a response of a participant up to `most`
unfoldable pub response_at : (most : ℕ) → Reading Response
response_at most = seen_at response_of (both_at (both_at (small_count_at most) (number_at w64)) view_verdicts_at)

-- whether participant p is greater than the last of the participants in the list, which ascend; true where the list is empty; by it `participants_at`
-- admits the next one
abbrev pub is_past : List ℕ → ℕ → Bool
is_past [] p = true
is_past (q ∷ []) p = nat_lt q p
is_past (q ∷ next ∷ more) p = is_past (next ∷ more) p

-- the reading of participants that ascend, as those that a timeout misses: a count of one byte and the participants, up to `most`
unfoldable pub participants_at : (most : ℕ) → Reading (List ℕ)
participants_at most = counted_at (small_count_at MOST_OF_BYTE) is_past (small_count_at most)

-- the parts of a rejection by the mediator: the participant, the path of the view, and the reason
abbrev pub RejectedParts : Type 0
RejectedParts = (ℕ × List ℕ) × Reason

-- the rejection, as a decision of the mediator, that has these parts
abbrev pub rejected_of : RejectedParts → Decision
rejected_of parts = Rejected parts.0.0 parts.0.1 parts.1

-- The decision with this tag, read from `rest`, the bytes behind the tag. An unknown tag is a fault, Err `here`, which is how many bytes were left
-- at it.
unfoldable pub tagged_decision_at : (most : ℕ) → ℕ → List ℕ → ℕ → Result (Decision × List ℕ) ℕ
tagged_decision_at most zero rest here = Ok (Approved, rest)
tagged_decision_at most (suc zero) rest here = seen_at rejected_of (both_at (both_at (small_count_at most) path_at) reason_at) rest
tagged_decision_at most (suc (suc zero)) rest here = seen_at TimedOut (participants_at most) rest
tagged_decision_at most (suc (suc (suc n))) rest here = Err here

-- the reading of a decision: its tag and what follows it
unfoldable pub decision_at : (most : ℕ) → Reading Decision
decision_at most bytes = do
  tag ← byte_at bytes
  tagged_decision_at most tag.0 tag.1 (length bytes)

-- the parts of a mediator's verdict: the place of the request and the decision
abbrev pub VerdictParts : Type 0
VerdictParts = ℕ × Decision

-- a mediator's verdict made of these parts
abbrev pub verdict_of : VerdictParts → Verdict
verdict_of parts = record { request = parts.0; decision = parts.1 }

-- the reading of a mediator's verdict, which names participants up to `most`
unfoldable pub verdict_at : (most : ℕ) → Reading Verdict
verdict_at most = seen_at verdict_of (both_at (number_at w64) (decision_at most))
