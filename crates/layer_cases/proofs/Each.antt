-- What holds of each, one after another, holds of all.
use Rattle.std.proofs.Common.{List, [], ◌∷◌}
use Rattle.std.specs.Prelude.{All}
use Rattle.std.specs.List.{AllByRecursion}
use Rattle.std.proofs.lemmas.List.Elements.{All-cons, All-nil}

pub all_of_each : {X : Type 0} (P : X → Type 0) (xs : List X) → AllByRecursion P xs → All P xs
all_of_each P [] all = All-nil P
all_of_each P (x ∷ xs) all = All-cons P x xs all.0 (all_of_each P xs all.1)
