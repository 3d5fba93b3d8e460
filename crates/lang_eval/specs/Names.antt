-- The names that an expression may use, with their values.
use Rattle.std.specs.Prelude.{ℕ, List, ◌∷◌, [], ◌++◌, Option, Some, None, cond, find, codes}
use Rattle.ledger_terms.specs.Parties.{same_name}
use Rattle.ledger_terms.specs.declared.value.Value.{Value}
use Rattle.ledger_terms.specs.declared.value.Value.TheVariants.{Contract}
use Rattle.ledger_terms.specs.declared.field_decl.FieldDecl.{FieldDecl}
use Rattle.lang_eval.specs.declared.binding.Binding.{Binding}

-- the names that an expression may use, each with its value, in the order in which they were bound
abbrev pub Names : Type 0
Names = List Binding

-- the first binding of `name`, and None where it isn't bound; in a checked package no name is bound twice
abbrev pub binding_of : List ℕ → Names → Option Binding
binding_of name names = find (λ b. same_name b.name name) names

-- the names with one more at their end: `name`, bound to this value
abbrev pub bound_to : List ℕ → Value → Names → Names
bound_to name value names = names ++ record { name = name; value = value } ∷ []

-- The names with fields or arguments at their end. Each value is bound under the word `first`, a dot and the name of its declaration, as
-- `this.owner`. Declarations and values are paired in order; where one list is longer, the rest of it is left out.
abbrev pub with_fields : List ℕ → List FieldDecl → List Value → Names → Names
with_fields first (d ∷ ds) (v ∷ vs) names = with_fields first ds vs (bound_to (first ++ codes "." ++ d.name) v names)
with_fields first ds vs names = names

-- the names with the fields of a contract behind `this.`, of which `fields` are the declarations, and then come their values
abbrev pub with_this : List FieldDecl → List Value → Names → Names
with_this fields values names = with_fields (codes "this") fields values names

-- the names with the arguments of a choice behind `arg.`, of which `params` are the declarations, and then come their values
abbrev pub with_args : List FieldDecl → List Value → Names → Names
with_args params args names = with_fields (codes "arg") params args names

-- the names with `self`, the contract of this id, on which a choice is exercised
abbrev pub with_self : List ℕ → Names → Names
with_self id names = bound_to (codes "self") (Contract id) names

-- the value of a binding, and None where there is no binding; so contracts say what a look-up by name gives
abbrev pub value_bound : Option Binding → Option Value
value_bound None = None
value_bound (Some b) = Some b.value

-- The value of the first field that is called `name`, of fields with these declarations and these values; None where none is. The code looks a field up
-- by it once it has read the owner's word and the dot.
abbrev pub value_named : List ℕ → List FieldDecl → List Value → Option Value
value_named name (d ∷ ds) (v ∷ vs) = cond (same_name d.name name) (Some v) (value_named name ds vs)
value_named name ds vs = None

-- The names that a body has before its contract's fields: `self` alone with this value. None is for expressions that can't name the
-- contract, as those of signatories, and gives no names.
abbrev pub itself_names : Option Value → Names
itself_names None = []
itself_names (Some v) = bound_to (codes "self") v []
