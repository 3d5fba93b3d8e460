-- A name is stored in one way.
use Rattle.std.proofs.Common.{◌≡◌, sym}
use Rattle.ledger_terms.specs.Inside.{name_text, IsStored, name_back}
use Rattle.ledger_terms.specs.declared.name.Name.TheInside.{Inside}

pub name_back_ok : (n : Inside) → IsStored n → name_back (name_text n) ≡ n
name_back_ok n h = λ i. record { bytes = sym h.zeros i; len = sym h.len i }
