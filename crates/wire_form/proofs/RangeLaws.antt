-- What is in range has room in a spelling.
use Rattle.std.proofs.Common.{◌≡◌, ℕ, ◌+◌, ◌<◌, ◌≤◌, List, [], ◌∷◌, length, get_or, drop, All}
use Rattle.std.proofs.lemmas.List.{drop_all, drop_more}
use Rattle.std.specs.List.{AllByRecursion}
use Rattle.std.proofs.lemmas.List.Elements.{recursion_from_All, All-from_recursion}
use Rattle.ledger_terms.specs.declared.value.Value.{Value}
use Rattle.ledger_terms.specs.declared.value.Value.TheVariants.{Unit as UnitValue, Int, Bool as BoolValue, Text, Party, Contract, Parties}
use Rattle.ledger_terms.specs.declared.instance.Instance.{Instance}
use Rattle.ledger_terms.specs.declared.action.Action.{Action}
use Rattle.ledger_terms.specs.declared.action.Action.TheVariants.{Create, Exercise, Fetch}
use Rattle.ledger_terms.specs.Names.{IsName}
use Rattle.wire_form.specs.InRange.{IsInRange, AreInRange, IsInstance, IsAction}
use Rattle.wire_form.specs.Spellable.{IsSpellable, AreSpellable, IsSpellableInstance, IsSpellableAction}

pub spellable_value : (v : Value) → IsInRange v → IsSpellable v
spellable_value UnitValue h = tt
spellable_value (Int n) h = tt
spellable_value (BoolValue b) h = tt
spellable_value (Text t) h = h.few
spellable_value (Party p) h = tt
spellable_value (Contract d) h = tt
spellable_value (Parties s) h = h.few

each_spellable : (vs : List Value) → AllByRecursion IsInRange vs → AllByRecursion IsSpellable vs
each_spellable [] h = tt
each_spellable (v ∷ vs) h = (spellable_value v h.0, each_spellable vs h.1)

pub spellable_values : (vs : List Value) → AreInRange vs → AreSpellable vs
spellable_values vs h =
    record { count = h.few; each = All-from_recursion IsSpellable vs (each_spellable vs (recursion_from_All IsInRange vs h.each)) }

pub spellable_instance : (i : Instance) → IsInstance i → IsSpellableInstance i
spellable_instance i h = spellable_values i.fields h.fields

pub spellable_action : (a : Action) → IsAction a → IsSpellableAction a
spellable_action (Create id instance) h = spellable_instance instance h.1
spellable_action (Exercise id salt instance choice args actors consuming result) h =
    (spellable_instance instance h.0.instance_is, spellable_values args h.2, h.3.few, spellable_value result h.4)
spellable_action (Fetch id salt instance actors) h = (spellable_instance instance h.0.instance_is, h.1.few)

-- ---- names, one after another

pub next_name : (names : List (List ℕ)) (i : ℕ) (name : List ℕ) → i < length names → name ≡ get_or names i name → IsName name
    → (AllByRecursion IsName (drop i names) → AllByRecursion IsName names) → AllByRecursion IsName (drop (i + 1) names) → AllByRecursion IsName names
next_name names i name h at is before rest = before (rw (drop_more names i name h, ← at) (is, rest))

pub all_names : (names : List (List ℕ)) (i : ℕ) → length names ≤ i → (AllByRecursion IsName (drop i names) → AllByRecursion IsName names) → All IsName names
all_names names i past before = All-from_recursion IsName names (before (rw (drop_all i names past) tt))
