-- References that are resolved one after another.
use Rattle.std.proofs.Common.{◌≡◌, List, [], ◌∷◌, ◌++◌, Option, Some, None, refl, sym, ap, append_assoc}
use Rattle.ledger_terms.specs.declared.value.Value.{Value}
use Rattle.interpret.specs.Commands.{with_first}

-- values with those that follow, where they are there
abbrev pub behind : List Value → Option (List Value) → Option (List Value)
behind front None = None
behind front (Some values) = Some (front ++ values)

pub behind-none : (front : List Value) (rest : Option (List Value)) → behind front (with_first None rest) ≡ None
behind-none front rest = refl

pub behind-more : (front : List Value) (v : Value) (rest : Option (List Value)) → behind front (with_first (Some v) rest) ≡ behind (front ++ v ∷ []) rest
behind-more front v None = refl
behind-more front v (Some values) = ap Some (sym (append_assoc front (v ∷ []) values))

pub ruleset one_more = (behind-none, behind-more)
