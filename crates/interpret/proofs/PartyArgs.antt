-- The parties of what is handed in, where references are put in their places.
use Rattle.std.proofs.Common.{◌≡◌, ℕ, zero, suc, Bool, List, [], ◌∷◌, Option, Some, None, refl, subst}
use Rattle.std.specs.Prelude.{slice_get}
use Rattle.std.specs.List.{flat_map}
use Rattle.ledger_terms.specs.declared.value.Value.{Value}
use Rattle.ledger_terms.specs.declared.value.Value.TheVariants.{Contract as ContractValue}
use Rattle.ledger_terms.specs.declared.known.Known.{Known}
use Rattle.ledger_terms.specs.declared.arg.Arg.{Arg}
use Rattle.ledger_terms.specs.declared.arg.Arg.TheVariants.{Plain, Contract}
use Rattle.lang_eval.specs.Parts.{PartyNames}
use Rattle.lang_eval.specs.Named.{AreKnown, parties_in_value, parties_in_values}
use Rattle.lang_eval.proofs.Known.{known_append, known_front, known_back}
use Rattle.interpret.specs.Ids.{Hash}
use Rattle.interpret.specs.Commands.{contract_value, referenced_id, referenced_value, referenced_values, with_first}
use Rattle.lang_eval.specs.HandedIn.{parties_in_arg, parties_in_args}

module _ (is_party : List ℕ → Bool) (known : List Known) where
  contract_known : (o : Option Hash) (v : Value) → contract_value o ≡ Some v → AreKnown is_party (parties_in_value v)
  contract_known None v h = absurd (let no : None ≡ Some v = h in cc)
  contract_known (Some id) v h = let same : ContractValue id ≡ v = cc in subst (λ (v : Value). AreKnown is_party (parties_in_value v)) same refl

  pub value_known : (a : Arg) (v : Value) → AreKnown is_party (parties_in_arg a) → referenced_value known a ≡ Some v → AreKnown is_party (parties_in_value v)
  value_known (Plain w) v p h = let same : w ≡ v = cc in subst (λ (v : Value). AreKnown is_party (parties_in_value v)) same p
  value_known (Contract r) v p h = contract_known (referenced_id known r) v h

  first_known : (o : Option Value) (p : Option (List Value)) (vs : List Value)
      → ((v : Value) → o ≡ Some v → AreKnown is_party (parties_in_value v))
      → ((ws : List Value) → p ≡ Some ws → AreKnown is_party (parties_in_values ws))
      → with_first o p ≡ Some vs → AreKnown is_party (parties_in_values vs)
  first_known None p vs f g h = absurd (let no : None ≡ Some vs = h in cc)
  first_known (Some v) None vs f g h = absurd (let no : None ≡ Some vs = h in cc)
  first_known (Some v) (Some ws) vs f g h =
      let same : v ∷ ws ≡ vs = cc in
      subst (λ (vs : List Value). AreKnown is_party (parties_in_values vs)) same
      (known_append is_party (parties_in_value v) (parties_in_values ws) (f v refl) (g ws refl))

  pub values_known : (args : List Arg) (vs : List Value)
      → AreKnown is_party (parties_in_args args) → referenced_values known args ≡ Some vs → AreKnown is_party (parties_in_values vs)
  values_known [] vs p h = let same : [] ≡ vs = cc in subst (λ (vs : List Value). AreKnown is_party (parties_in_values vs)) same refl
  values_known (a ∷ args) vs p h =
      first_known (referenced_value known a) (referenced_values known args) vs
      (λ v e. value_known a v (known_front is_party (parties_in_arg a) (parties_in_args args) p) e)
      (λ ws e. values_known args ws (known_back is_party (parties_in_arg a) (parties_in_args args) p) e) h

-- what stands at an index of a list whose parties are known
pub item_known : {X : Type 0} (is_party : List ℕ → Bool) (parties : X → PartyNames) (xs : List X) (index : ℕ) (x : X)
    → AreKnown is_party (flat_map parties xs) → slice_get xs index ≡ Some x → AreKnown is_party (parties x)
item_known is_party parties [] index x p h = absurd (let no : None ≡ Some x = h in cc)
item_known is_party parties (y ∷ xs) zero x p h =
    let same : y ≡ x = cc in subst (λ (x : _). AreKnown is_party (parties x)) same (known_front is_party (parties y) (flat_map parties xs) p)
item_known is_party parties (y ∷ xs) (suc index) x p h =
    item_known is_party parties xs index x (known_back is_party (parties y) (flat_map parties xs) p) h
