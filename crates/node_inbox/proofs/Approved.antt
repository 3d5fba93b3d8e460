-- Which requests are approved, as they are tracked.
use Rattle.std.proofs.Common.{◌≡◌, ℕ, Bool, true, false, List, Option, Some, None, refl, sym, ap, ◌∙◌}
use Rattle.std.specs.Prelude.{if◌then◌else◌, option_map}
use Rattle.ledger_terms.specs.declared.act.Act.{Act}
use Rattle.ledger_model.specs.Forest.{Forest, NoRoots}
use Rattle.ledger_model.specs.Opening.{roots_in}
use Rattle.canton_model.specs.declared.decision.Decision.{Decision}
use Rattle.canton_model.specs.declared.decision.Decision.TheVariants.{Approved, Rejected, TimedOut}
use Rattle.canton_model.specs.declared.outcome.Outcome.{Outcome as OutcomeKind}
use Rattle.canton_model.specs.Inbox.{Item, decision_time_in, moments, Notice, notice_at, opened_at, part_if, shown_in_notice}
use Rattle.canton_model.specs.Log.{Params}
use Rattle.canton_model.specs.Timeline.{is_approval, is_approved_in, is_past, kind_of, outcome_from, verdict_on}
use Rattle.inbox_registry.specs.Requests.{outcome_received}
use Rattle.node_inbox.specs.Approved.{approved_at, is_approved}

pub by_verdict : (d : Option Decision) (past : Bool) → is_approved (Some (kind_of (outcome_from d past))) ≡ is_approval d
by_verdict None true = refl
by_verdict None false = refl
by_verdict (Some Approved) past = refl
by_verdict (Some (Rejected from view reason)) past = refl
by_verdict (Some (TimedOut missing)) past = refl

if_same : (a b : Bool) (f : Forest Act) → a ≡ b → (if a then f else NoRoots) ≡ (if b then f else NoRoots)
if_same a b f same = ap (λ (c : Bool). if c then f else NoRoots) same

nothing_either_way : (b : Bool) → (if b then NoRoots else NoRoots) ≡ (let none : Forest Act = NoRoots in none)
nothing_either_way true = refl
nothing_either_way false = refl

by_notice : (d : Option Decision) (past : Bool) (notice : Option Notice)
    → (if is_approved (option_map (λ (n : Notice). kind_of (outcome_from d past)) notice) then roots_in (shown_in_notice notice) else NoRoots)
    ≡ (if is_approval d then roots_in (shown_in_notice notice) else NoRoots)
by_notice d past (Some notice) = if_same _ (is_approval d) (roots_in (shown_in_notice (Some notice))) (by_verdict d past)
by_notice d past None = sym (nothing_either_way (is_approval d))

-- what is told of a request tells whether it is approved
pub approved_is_told : (params : Params) (items : List Item) (k : ℕ) (told : Option OutcomeKind) → told ≡ outcome_received params items k
    → (if is_approved told then opened_at items k else NoRoots) ≡ approved_at items k
approved_is_told params items k told is =
    ap (λ (o : Option OutcomeKind). if is_approved o then opened_at items k else NoRoots) is
    ∙ by_notice (verdict_on k (moments items)) (is_past (decision_time_in params items k) (moments items)) (notice_at items k)

-- a part of what is approved
pub part_of_approved : (items : List Item) (k : ℕ) → part_if true k (approved_at items k) ≡ part_if (is_approved_in k (moments items)) k (opened_at items k)
part_of_approved items k = by (is_approved_in k (moments items))
  where
    by : (b : Bool) → part_if true k (if b then opened_at items k else NoRoots) ≡ part_if b k (opened_at items k)
    by true = refl
    by false = refl
