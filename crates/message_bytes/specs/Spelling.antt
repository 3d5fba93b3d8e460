-- The one spelling of each path, response and verdict. Numbers have their high byte first.
use Rattle.std.specs.Prelude.{ℕ, List, [], ◌∷◌, ◌++◌, length}
use Rattle.std.specs.Int.{w16, w64, to_be_bytes}
use Rattle.std.specs.List.{flat_map}
use Rattle.canton_model.specs.declared.reason.Reason.{Reason}
use Rattle.canton_model.specs.declared.reason.Reason.TheVariants.{IdMismatch, NotVetted, TimeSkew, Locked, Inactive, NotFresh}
use Rattle.canton_model.specs.declared.reason.Reason.TheVariants.{Unordered, NotConformant, NotAuthorised}
use Rattle.canton_model.specs.declared.reason.Reason.TheVariants.{RootMismatch, ViewMissing, WrongSender, WrongCommon}
use Rattle.canton_model.specs.declared.local_verdict.LocalVerdict.{LocalVerdict}
use Rattle.canton_model.specs.declared.local_verdict.LocalVerdict.TheVariants.{Approve, Reject}
use Rattle.canton_model.specs.declared.view_verdict.ViewVerdict.{ViewVerdict}
use Rattle.canton_model.specs.declared.response.Response.{Response}
use Rattle.canton_model.specs.declared.decision.Decision.{Decision}
use Rattle.canton_model.specs.declared.decision.Decision.TheVariants.{Approved, Rejected, TimedOut}
use Rattle.canton_model.specs.declared.verdict.Verdict.{Verdict}

-- two bytes for a step of a path
abbrev pub spell_step : ℕ → List ℕ
spell_step step = to_be_bytes w16 step

-- the bytes of a path: a byte of count, and two bytes a step
abbrev pub spell_path : List ℕ → List ℕ
spell_path path = length path ∷ flat_map spell_step path

-- the number from 1 to 13 by which a reason is spelled
abbrev pub reason_number : Reason → ℕ
reason_number IdMismatch = 1
reason_number NotVetted = 2
reason_number TimeSkew = 3
reason_number Locked = 4
reason_number Inactive = 5
reason_number NotFresh = 6
reason_number Unordered = 7
reason_number NotConformant = 8
reason_number NotAuthorised = 9
reason_number RootMismatch = 10
reason_number ViewMissing = 11
reason_number WrongSender = 12
reason_number WrongCommon = 13

-- the byte of a reason, its number
abbrev pub spell_reason : Reason → List ℕ
spell_reason reason = reason_number reason ∷ []

-- The bytes of a local verdict: the tag 0 of an approval, or the tag 1 with the reason and two bytes for the action's place in its view's core.
abbrev pub spell_local : LocalVerdict → List ℕ
spell_local Approve = 0 ∷ []
spell_local (Reject reason action) = 1 ∷ (spell_reason reason ++ to_be_bytes w16 action)

-- the bytes of a verdict on a view: its path and the verdict
abbrev pub spell_view_verdict : ViewVerdict → List ℕ
spell_view_verdict v = spell_path v.view ++ spell_local v.verdict

-- the bytes of the verdicts of a response: two bytes of count, and then the verdicts
abbrev pub spell_view_verdicts : List ViewVerdict → List ℕ
spell_view_verdicts vs = to_be_bytes w16 (length vs) ++ flat_map spell_view_verdict vs

-- the byte of a participant, its number
abbrev pub spell_participant : ℕ → List ℕ
spell_participant p = p ∷ []

-- the bytes of a response: one for its participant, eight for the place of the request, and those of the verdicts
abbrev pub spell_response : Response → List ℕ
spell_response r = spell_participant r.from ++ (to_be_bytes w64 r.request ++ spell_view_verdicts r.verdicts)

-- the bytes of participants: a byte of count, and a byte for each
abbrev pub spell_participants : List ℕ → List ℕ
spell_participants ps = length ps ∷ flat_map spell_participant ps

-- The bytes of a decision: the tag 0 of an approval, the tag 1 with participant, path and reason of a rejection, or the tag 2 with the participants
-- that are missing.
abbrev pub spell_decision : Decision → List ℕ
spell_decision Approved = 0 ∷ []
spell_decision (Rejected from view reason) = 1 ∷ (from ∷ (spell_path view ++ spell_reason reason))
spell_decision (TimedOut missing) = 2 ∷ spell_participants missing

-- the bytes of a mediator's verdict: eight for the place of the request, and then the decision
abbrev pub spell_verdict : Verdict → List ℕ
spell_verdict v = to_be_bytes w64 v.request ++ spell_decision v.decision
