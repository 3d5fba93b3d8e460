-- What each client brought, where none found no memory.
use Rattle.std.proofs.Common.{◌≡◌, ℕ, zero, suc, List, [], ◌∷◌, ◌++◌, length, drop, map, Some, Result, Ok, Err, ap, subst, arith}
use Rattle.std.specs.Prelude.{IfOk, slice_get}

pub at_of_map : {X Y : Type 0} (f : X → Y) (xs : List X) (k : ℕ) (x : X) → slice_get xs k ≡ Some x → slice_get (map f xs) k ≡ Some (f x)
at_of_map f [] k x e = cc
at_of_map f (y ∷ xs) zero x e = let same : y ≡ x = cc in ap (λ (z : _). Some (f z)) same
at_of_map f (y ∷ xs) (suc k) x e = at_of_map f xs k x e

pub of_ok : {T E : Type 0} (result : Result T E) (x : T) (holds : T → Type 0) → result ≡ Ok x → IfOk result holds → holds x
of_ok {T} {E} result x holds is h = subst (λ (r : Result T E). IfOk r holds) is h

-- what holds of each that was brought, where it isn't want of memory, holds of all
pub each_of_all : {X Y E V : Type 0} (items : V → List Y) (holds : ℕ → X → Y → Type 0) (clients : List X) (brought : List (Result Y E))
    (all : Result V E)
    → ((p : ℕ) (c : X) (one : Result Y E) → slice_get clients p ≡ Some c → slice_get brought p ≡ Some one → IfOk one (λ (y : Y). holds p c y))
    → IfOk all (λ (v : V). map Ok (items v) ≡ brought)
    → IfOk all (λ (v : V). (p : ℕ) (c : X) (y : Y) → slice_get clients p ≡ Some c → slice_get (items v) p ≡ Some y → holds p c y)
each_of_all {X} {Y} {E} items holds clients brought (Ok v) each same =
    λ p c y at there.
    each p c (Ok y) at
    (subst (λ (xs : List (Result Y E)). slice_get xs p ≡ Some (Ok y)) same (at_of_map (λ (z : Y). Ok z) (items v) p y there))
each_of_all items holds clients brought (Err e) each same = tt

-- where none was taken so far
pub each_none : {X Y : Type 0} (holds : X → Y → Type 0) (xs : List X) (ys : List Y) → ys ≡ [] → (p : ℕ) (c : X) (d : Y) → slice_get xs p ≡ Some c
    → slice_get ys p ≡ Some d → holds c d
each_none holds xs [] none p c d at there = cc
each_none holds xs (y ∷ ys) none p c d at there = absurd (omega (arith, ap length none))

-- what is left after one more
pub left_after : {X Y : Type 0} (xs : List X) (ys : List Y) (x : X) (rest : List X) (y : Y) → drop (length ys) xs ≡ x ∷ rest
    → drop (length (ys ++ y ∷ [])) xs ≡ rest
left_after xs [] x rest y steps = ap (drop 1) steps
left_after [] (z ∷ ys) x rest y steps = absurd (omega (arith, ap length steps))
left_after (a ∷ xs) (z ∷ ys) x rest y steps = left_after xs ys x rest y steps

-- what holds of each that was taken so far, and of one more
pub each_more : {X Y : Type 0} (holds : X → Y → Type 0) (xs : List X) (ys : List Y) (x : X) (rest : List X) (y : Y) → drop (length ys) xs ≡ x ∷ rest
    → holds x y → ((p : ℕ) (c : X) (d : Y) → slice_get xs p ≡ Some c → slice_get ys p ≡ Some d → holds c d)
    → (p : ℕ) (c : X) (d : Y) → slice_get xs p ≡ Some c → slice_get (ys ++ y ∷ []) p ≡ Some d → holds c d
each_more holds xs [] x rest y steps h each zero c d at there =
    let one : x ≡ c = cc in
    let two : y ≡ d = cc in
    rw (← one, ← two) h
each_more holds xs [] x rest y steps h each (suc p) c d at there = cc
each_more holds [] (z ∷ ys) x rest y steps h each p c d at there = cc
each_more holds (a ∷ xs) (z ∷ ys) x rest y steps h each zero c d at there = each 0 c d at there
each_more holds (a ∷ xs) (z ∷ ys) x rest y steps h each (suc p) c d at there =
    each_more holds xs ys x rest y steps h (λ q. each (suc q)) p c d at there
