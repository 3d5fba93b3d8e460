-- Somebody of both.
use Rattle.std.proofs.Common.{◌≡◌, Bool, List, ◌++◌}
use Rattle.std.specs.Prelude.{ℕ, ◌||◌}
use Rattle.std.specs.List.{list_any}
use Rattle.std.proofs.lemmas.List.Folds.{list_any-append}

pub any_of_both : (p : List ℕ → Bool) (a b : List (List ℕ)) → list_any p (a ++ b) ≡ (list_any p a || list_any p b)
any_of_both p a b = list_any-append p a b
