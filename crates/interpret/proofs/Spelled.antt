-- What can be spelled is what the tests say.
use Rattle.std.proofs.Common.{◌≡◌, ℕ, ◌≤◌, Bool, true, false, List, [], ◌∷◌, length, refl, sym, arith}
use Rattle.std.specs.Prelude.{◌&&◌, ◌↔◌, IsTrue, nat_le}
use Rattle.std.specs.List.{list_all, AllByRecursion}
use Rattle.std.proofs.lemmas.Bool.Decides.{nat_tests}
use Rattle.std.proofs.lemmas.List.Elements.{recursion_from_All, All-from_recursion}
use Rattle.ledger_terms.proofs.Deciding.{both, both_true}
use Rattle.ledger_terms.specs.declared.value.Value.{Value}
use Rattle.ledger_terms.specs.declared.value.Value.TheVariants.{Unit as UnitValue, Int, Bool as BoolValue, Text, Party, Contract, Parties}
use Rattle.wire_form.specs.Lengths.{capped}
use Rattle.wire_form.specs.Spellable.{IsSpellable, AreSpellable}
use Rattle.interpret.specs.Sizes.{is_spelled_value, are_spelled}

pub le_test : (n m : ℕ) → n ≤ m → nat_le n m ≡ true
le_test n m h = grind (arith, nat_tests)

pub le_fact : (n m : ℕ) → nat_le n m ≡ true → n ≤ m
le_fact n m h = grind (arith, nat_tests)

pub value_spelled : (v : Value) → IsSpellable v → is_spelled_value v ≡ true
value_spelled UnitValue h = refl
value_spelled (Int n) h = refl
value_spelled (BoolValue b) h = refl
value_spelled (Text t) h = le_test (length t) 256 h
value_spelled (Party p) h = refl
value_spelled (Contract c) h = refl
value_spelled (Parties s) h = le_test (length s) 128 h

pub value_spellable : (v : Value) → is_spelled_value v ≡ true → IsSpellable v
value_spellable UnitValue h = tt
value_spellable (Int n) h = tt
value_spellable (BoolValue b) h = tt
value_spellable (Text t) h = le_fact (length t) 256 h
value_spellable (Party p) h = tt
value_spellable (Contract c) h = tt
value_spellable (Parties s) h = le_fact (length s) 128 h

all_spelled : (vs : List Value) → AllByRecursion IsSpellable vs → list_all is_spelled_value vs ≡ true
all_spelled [] h = refl
all_spelled (v ∷ vs) h = both_true _ _ (value_spelled v h.0) (all_spelled vs h.1)

all_spellable : (vs : List Value) → list_all is_spelled_value vs ≡ true → AllByRecursion IsSpellable vs
all_spellable [] h = tt
all_spellable (v ∷ vs) h = let p = both (is_spelled_value v) (list_all is_spelled_value vs) h in (value_spellable v p.0, all_spellable vs p.1)

pub values_spelled : (vs : List Value) → AreSpellable vs → are_spelled vs ≡ true
values_spelled vs h = both_true _ _ (le_test (length vs) 12 h.count) (all_spelled vs (recursion_from_All IsSpellable vs h.each))

pub values_spellable : (vs : List Value) → are_spelled vs ≡ true → AreSpellable vs
values_spellable vs h =
    let p = both (nat_le (length vs) 12) (list_all is_spelled_value vs) h in
    record { count = le_fact (length vs) 12 p.0; each = All-from_recursion IsSpellable vs (all_spellable vs p.1) }

pub same_bool : (r s : Bool) → (r ≡ true → s ≡ true) → (s ≡ true → r ≡ true) → r ≡ s
same_bool true s p q = sym (p refl)
same_bool false true p q = q refl
same_bool false false p q = refl

pub value_is : (b : Bool) (v : Value) → IsTrue b ↔ IsSpellable v → b ≡ is_spelled_value v
value_is b v h = same_bool b (is_spelled_value v) (λ t. value_spelled v (h.0 t)) (λ t. h.1 (value_spellable v t))

pub values_are : (b : Bool) (vs : List Value) → IsTrue b ↔ AreSpellable vs → b ≡ are_spelled vs
values_are b vs h = same_bool b (are_spelled vs) (λ t. values_spelled vs (h.0 t)) (λ t. h.1 (values_spellable vs t))

capped_le : (n : ℕ) → nat_le (capped n) 1024 ≡ nat_le n 1024
capped_le n = grind (arith, nat_tests)

-- a length that is measured, behind a test that is true
pub small : (spelled test : Bool) (n m : ℕ) → test ≡ spelled → test ≡ true → m ≡ capped n → nat_le m 1024 ≡ (spelled && nat_le n 1024)
small spelled test n m is true_is len = rw (len, ← is, true_is) (capped_le n)

-- and behind one that is false
pub unspelled : (spelled test : Bool) (n : ℕ) → test ≡ spelled → test ≡ false → false ≡ (spelled && nat_le n 1024)
unspelled spelled test n is false_is = rw (← is, false_is) refl
