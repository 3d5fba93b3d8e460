-- Names as they are held.
use Rattle.std.specs.Prelude.{ℕ, List, [], ◌∷◌}
use Rattle.ledger_terms.specs.declared.held_names.HeldNames.{HeldNames}
use Rattle.ledger_terms.specs.declared.held_names.HeldNames.TheVariants.{Nothing, One, More}

-- the names that a `HeldNames` holds, in order, however it holds them
abbrev pub names_held : HeldNames → List (List ℕ)
names_held Nothing = []
names_held (One name) = name ∷ []
names_held (More names) = names.items
