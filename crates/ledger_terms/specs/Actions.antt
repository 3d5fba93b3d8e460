-- Which contract an action is on, and what it does to it.
use Rattle.std.specs.Prelude.{ℕ, Bool, true, false, List}
use Rattle.ledger_terms.specs.declared.instance.Instance.{Instance}
use Rattle.ledger_terms.specs.declared.action.Action.{Action}
use Rattle.ledger_terms.specs.declared.action.Action.TheVariants.{Create, Exercise, Fetch}

-- the id of the contract that an action creates, exercises or fetches
abbrev pub id_of : Action → List ℕ
id_of (Create id instance) = id
id_of (Exercise id salt instance choice args actors consuming result) = id
id_of (Fetch id salt instance actors) = id

-- the instance of the contract that an action creates, exercises or fetches
abbrev pub instance_of : Action → Instance
instance_of (Create id instance) = instance
instance_of (Exercise id salt instance choice args actors consuming result) = instance
instance_of (Fetch id salt instance actors) = instance

-- whether an action is a Create
abbrev pub is_create : Action → Bool
is_create (Create id instance) = true
is_create (Exercise id salt instance choice args actors consuming result) = false
is_create (Fetch id salt instance actors) = false

-- whether an action is a consuming Exercise; false of a Create and of a Fetch
abbrev pub is_consuming : Action → Bool
is_consuming (Create id instance) = false
is_consuming (Exercise id salt instance choice args actors consuming result) = consuming
is_consuming (Fetch id salt instance actors) = false
