-- What a walk gave, in the reading of a whole script.
use Rattle.std.proofs.Common.{◌≡◌, Result, Ok, Err, refl}
use Rattle.ledger_terms.specs.Answers.{◌>>=◌}
use Rattle.json_walk.specs.declared.walk_fault.WalkFault.{WalkFault}
use Rattle.script_read.specs.Faults.{from_walk}
use Rattle.script_read.specs.declared.script_fault.ScriptFault.{ScriptFault}

pub after_walk : {A B : Type 0} (r : Result A WalkFault) (f : A → Result B ScriptFault) (b : B) → (from_walk r >>= f) ≡ Ok b → (a : A) × (r ≡ Ok a) × (f a ≡ Ok b)
after_walk (Ok a) f b h = (a, refl, h)
after_walk (Err e) f b h = absurd (cc)
