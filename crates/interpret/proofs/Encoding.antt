-- The bytes of actions as numbers of the machine.
use Rattle.std.proofs.Common.{◌≡◌, ℕ, ◌+◌, ◌-◌, ◌^◌, Bool, true, false, length, refl, arith}
use Rattle.std.specs.Prelude.{◌&&◌, ◌↔◌, IsTrue}
use Rattle.ledger_terms.proofs.Deciding.{both, both_true}
use Rattle.ledger_terms.specs.declared.action.Action.{Action}
use Rattle.ledger_terms.specs.declared.action.Action.TheVariants.{Create, Exercise, Fetch}
use Rattle.wire_form.specs.Lengths.{capped}
use Rattle.wire_form.specs.Spelling.{spell_action}
use Rattle.wire_form.specs.Spellable.{IsSpellableAction}
use Rattle.interpret.specs.Sizes.{are_spelled, is_spelled_set, is_spelled_value}
use Rattle.wire_form.specs.Encoded.{is_spelled_action, action_bytes}
use Rattle.interpret.proofs.Spelled.{same_bool, le_test, le_fact, values_spelled, values_spellable, value_spelled, value_spellable}

pub action_spelled : (a : Action) → IsSpellableAction a → is_spelled_action a ≡ true
action_spelled (Create id i) h = values_spelled i.fields h
action_spelled (Exercise id salt i choice args actors consuming result) h =
    both_true _ _ (values_spelled i.fields h.0) (both_true _ _ (values_spelled args h.1) (both_true _ _ (le_test _ 128 h.2) (value_spelled result h.3)))
action_spelled (Fetch id salt i actors) h = both_true _ _ (values_spelled i.fields h.0) (le_test _ 128 h.1)

pub action_spellable : (a : Action) → is_spelled_action a ≡ true → IsSpellableAction a
action_spellable (Create id i) h = values_spellable i.fields h
action_spellable (Exercise id salt i choice args actors consuming result) h =
    let p = both (are_spelled i.fields) (are_spelled args && (is_spelled_set actors && is_spelled_value result)) h in
    let q = both (are_spelled args) (is_spelled_set actors && is_spelled_value result) p.1 in
    let r = both (is_spelled_set actors) (is_spelled_value result) q.1 in
    (values_spellable i.fields p.0, values_spellable args q.0, le_fact _ 128 r.0, value_spellable result r.1)
action_spellable (Fetch id salt i actors) h =
    let p = both (are_spelled i.fields) (is_spelled_set actors) h in (values_spellable i.fields p.0, le_fact _ 128 p.1)

pub action_is : (b : Bool) (a : Action) → IsTrue b ↔ IsSpellableAction a → b ≡ is_spelled_action a
action_is b a h = same_bool b (is_spelled_action a) (λ t. action_spelled a (h.0 t)) (λ t. h.1 (action_spellable a t))

pub spelled_bytes : (b : Bool) (a : Action) (n m : ℕ) → b ≡ is_spelled_action a → b ≡ true → n ≡ capped (length (spell_action a))
    → m ≡ capped (n + 32) → m ≡ capped (action_bytes a)
unfolding action_bytes
spelled_bytes b a n m is true_is len sum =
    let far : m ≡ capped (32 + length (spell_action a)) = omega (arith, len, sum) in
    rw (← is, true_is) far

pub unspelled_bytes : (b : Bool) (a : Action) → b ≡ is_spelled_action a → b ≡ false → 2 ^ 64 - 1 ≡ capped (action_bytes a)
unfolding action_bytes
unspelled_bytes b a is false_is = rw (← is, false_is) refl
