-- How an action breaks consistency with those before it.
use Rattle.std.specs.Prelude.{◌≡◌, ◌≢◌, Bool, true, false, List, Contains, not, ◌&&◌, ◌||◌, if◌then◌else◌}
use Rattle.std.specs.List.{list_any}
use Rattle.ledger_terms.specs.declared.act.Act.{Act}
use Rattle.ledger_terms.specs.declared.instance.Instance.{Instance}
use Rattle.ledger_terms.specs.contracts.instance.InstancePartialEq.TheImpl as instance_eq
use Rattle.ledger_model.specs.Terms.{Hash, id_of, instance_of, is_create, is_on, creates, consumes}
use Rattle.ledger_model.specs.Consistency.{SameContract}

-- The action a breaks consistency with the actions before it, `earlier`, in one of four ways.
pub data Breaks (earlier : List Act) (a : Act) : Type 0 where
  -- it isn't a Create, and no Create of its contract stands before it
  NotCreated : is_create a.action ≡ false → list_any (creates (id_of a.action)) earlier ≡ false → Breaks earlier a
  -- it is a Create, and not the first on its contract
  CreatedLate : is_create a.action ≡ true → list_any (is_on (id_of a.action)) earlier ≡ true → Breaks earlier a
  -- it follows a consuming Exercise of its contract
  AfterConsumption : list_any (consumes (id_of a.action)) earlier ≡ true → Breaks earlier a
  -- an earlier action on its contract carries another instance
  OtherInstance : (b : Act) → Contains earlier b → SameContract b a → instance_of b.action ≢ instance_of a.action → Breaks earlier a

-- whether the action b is on contract c and carries another instance than i; the last of the tests of `breaks`
abbrev pub differs : Hash → Instance → Act → Bool
differs c i b = is_on c b && not (instance_eq.ghosts.eq (instance_of b.action) i)

-- whether an action breaks consistency with the actions before it, `earlier`: a test that is true just where `Breaks` holds
abbrev pub breaks : List Act → Act → Bool
breaks earlier a =
    (if is_create a.action then list_any (is_on (id_of a.action)) earlier else not (list_any (creates (id_of a.action)) earlier))
    || (list_any (consumes (id_of a.action)) earlier || list_any (differs (id_of a.action) (instance_of a.action)) earlier)
