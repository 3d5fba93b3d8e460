-- The submission of what was caused, by its place.
use Rattle.std.proofs.Common.{◌≡◌, ℕ, zero, suc, List, [], ◌∷◌, Some, ap}
use Rattle.std.specs.Prelude.{slice_get}
use Rattle.std.proofs.lemmas.Option.{none-some, same_Some}
use Rattle.trigger_model.specs.CausedRequests.{submissions_in}
use Rattle.trigger_rules.specs.declared.caused.Caused.{Caused}

pub submission_at : (caused : List Caused) (k : ℕ) (one : Caused) → slice_get caused k ≡ Some one
    → slice_get (submissions_in caused) k ≡ Some one.submission
submission_at [] k one at = absurd (none-some one at)
submission_at (x ∷ caused) zero one at = ap (λ (c : Caused). Some c.submission) (same_Some x one at)
submission_at (x ∷ caused) (suc k) one at = submission_at caused k one at
