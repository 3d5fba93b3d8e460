-- Withheld places, as requests are tracked.
use Rattle.std.proofs.Common.{◌≡◌, Bool, true, false, Option, Some, None, refl, sym, ap, ◌∙◌}
use Rattle.std.specs.Prelude.{◌&&◌, option_map}
use Rattle.canton_model.specs.declared.decision.Decision.{Decision}
use Rattle.canton_model.specs.declared.decision.Decision.TheVariants.{Approved, Rejected, TimedOut}
use Rattle.canton_model.specs.declared.outcome.Outcome.{Outcome}
use Rattle.canton_model.specs.Timeline.{is_approval, is_past, kind_of, outcome_from, verdict_on}
use Rattle.canton_model.specs.Inbox.{Notice, decision_time_in, is_kept_from, moments, notice_at}
use Rattle.inbox_registry.specs.Requests.{is_approved, WithheldIsTracked}
use Rattle.inbox_registry.proofs.Tracked.{outcome_is}

by_verdict : (d : Option Decision) (past : Bool) → is_approval d ≡ is_approved (Some (kind_of (outcome_from d past)))
by_verdict None true = refl
by_verdict None false = refl
by_verdict (Some Approved) past = refl
by_verdict (Some (Rejected from view reason)) past = refl
by_verdict (Some (TimedOut missing)) past = refl

none_either_way : (b : Bool) → (b && false) ≡ false
none_either_way true = refl
none_either_way false = refl

by_notice : (d : Option Decision) (past : Bool) (o : Option Notice)
    → (is_approval d && is_kept_from o) ≡ (is_approved (option_map (λ (notice : Notice). kind_of (outcome_from d past)) o) && is_kept_from o)
by_notice d past None = none_either_way (is_approval d)
by_notice d past (Some notice) = ap (λ (b : Bool). b && is_kept_from (Some notice)) (by_verdict d past)

pub withheld_is_tracked : WithheldIsTracked
withheld_is_tracked params items place =
    by_notice (verdict_on place (moments items)) (is_past (decision_time_in params items place) (moments items)) (notice_at items place)
    ∙ ap (λ (o : Option Outcome). is_approved o && is_kept_from (notice_at items place)) (sym (outcome_is params items place))
