-- What was read by a test, or as a member that was looked up.
use Rattle.std.proofs.Common.{◌≡◌, Bool, true, false, cond, Result, Ok, Ordering, Less, Equal, Greater}
use Rattle.std.specs.Ordering.{match_ordering}
use Rattle.json_walk.specs.declared.walk_fault.WalkFault.{WalkFault}

module _ {A P : Type 0} (r : A) where
  pub by_test : (b : Bool) (x y : Result A WalkFault) → (x ≡ Ok r → P) → (y ≡ Ok r → P) → cond b x y ≡ Ok r → P
  by_test true x y f g h = f h
  by_test false x y f g h = g h

  pub by_member : (o : Ordering) (x y : Result A WalkFault) → (x ≡ Ok r → P) → (y ≡ Ok r → P) → match_ordering o x y x ≡ Ok r → P
  by_member Less x y f g h = f h
  by_member Equal x y f g h = g h
  by_member Greater x y f g h = f h
