-- Instances that test as equal are equal, and equal ones test so.
use Rattle.std.specs.Prelude.{◌≡◌, true, refl}
use Rattle.std.specs.Bool.{Decides}
use Rattle.ledger_terms.specs.declared.instance.Instance.{Instance}
use Rattle.ledger_terms.specs.contracts.instance.InstancePartialEq.TheImpl as instance_eq
use Rattle.ledger_terms.proofs.Deciding.{both, both_true, decided, lists_decide}
use Rattle.ledger_terms.proofs.SameValues.{value_decides, template_decides}

instance_same : (a b : Instance) → instance_eq.ghosts.eq a b ≡ true → a ≡ b
instance_same a b h =
    let p = both _ _ h in
    let template_is = (template_decides a.template b.template).0 p.0 in
    let fields_are = (lists_decide value_decides a.fields b.fields).0 p.1 in
    λ i. record { template = template_is i; fields = fields_are i }

instance_refl : (a : Instance) → instance_eq.ghosts.eq a a ≡ true
instance_refl a = both_true _ _ ((template_decides a.template a.template).1 refl) ((lists_decide value_decides a.fields a.fields).1 refl)

pub instance_decides : (a b : Instance) → Decides (instance_eq.ghosts.eq a b) (a ≡ b)
instance_decides = decided instance_eq.ghosts.eq instance_refl instance_same
