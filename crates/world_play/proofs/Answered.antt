-- What an answer tells, told otherwise.
use Rattle.std.specs.Prelude.{Result, Ok, Err, OnOk}

module _ {X : Type 0} {Y : Type 0} where
  pub on_ok : (r : Result X Y) (P Q : Type 0) → OnOk r P → (P → Q) → OnOk r Q
  on_ok (Ok x) P Q h f = f h
  on_ok (Err y) P Q h f = h

  pub always : (r : Result X Y) (P : Type 0) → P → OnOk r P
  always (Ok x) P h = h
  always (Err y) P h = tt

  pub both_ok : (r : Result X Y) (P Q R : Type 0) → OnOk r P → OnOk r Q → (P → Q → R) → OnOk r R
  both_ok (Ok x) P Q R p q f = f p q
  both_ok (Err y) P Q R p q f = p

  pub three_ok : (r : Result X Y) (P Q R S : Type 0) → OnOk r P → OnOk r Q → OnOk r R → (P → Q → R → S) → OnOk r S
  three_ok (Ok x) P Q R S p q s f = f p q s
  three_ok (Err y) P Q R S p q s f = p
