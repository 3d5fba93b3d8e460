-- Steps of a walk, forwards and backwards.
use Rattle.std.proofs.Common.{◌≡◌, Bool, true, false, Option, Some, None, Result, Ok, Err, refl, sym, ◌∙◌, ap}
use Rattle.std.specs.Prelude.{not, ok_or, ⊤}
use Rattle.ledger_terms.specs.Pointers.{at_item}
use Rattle.ledger_terms.specs.declared.kind.Kind.{Kind}
use Rattle.ledger_terms.specs.declared.kind.Kind.TheVariants.{Unit as UnitKind, Int as IntKind, Bool as BoolKind, Text as TextKind, Party as PartyKind, Contract as ContractKind, Parties as PartiesKind}
use Rattle.lang_check.specs.declared.check_fault.CheckFault.{CheckFault}
use Rattle.lang_check.specs.declared.check_kind.CheckKind.{CheckKind}
use Rattle.lang_check.specs.declared.check_kind.CheckKind.TheVariants.{WrongKind}
use Rattle.lang_check.specs.Faults.{Place, fault, ◌>>=◌, tried}
use Rattle.lang_check.specs.Walk.{same_kind, in_place, one_operand, two_operands, alike_operands, sides_alike}

pub ok_same : {A : Type 0} (v w : A) → (let r : Result A CheckFault = Ok v in r ≡ Ok w) → v ≡ w
ok_same v w h = cc

pub ok_of : {A : Type 0} (v w : A) → v ≡ w → (let r : Result A CheckFault = Ok v in r ≡ Ok w)
ok_of v w h = cc

-- both steps of a walk that goes on found something
pub bind_ok : {A B : Type 0} (r : Result A CheckFault) (f : A → Result B CheckFault) (v : B) → (r >>= f) ≡ Ok v → (a : A) × (r ≡ Ok a) × (f a ≡ Ok v)
bind_ok (Ok a) f v h = (a, refl, h)
bind_ok (Err e) f v h = absurd (let other : Err e ≡ Ok v = h in cc)

pub bind_is : {A B : Type 0} (r : Result A CheckFault) (f : A → Result B CheckFault) (a : A) (v : B) → r ≡ Ok a → f a ≡ Ok v → (r >>= f) ≡ Ok v
bind_is r f a v h k = rw h k

pub tried_ok : (b : Bool) (kind : CheckKind) (at : Place) (u : ⊤) → tried b kind at ≡ Ok u → b ≡ true
tried_ok true kind at u h = refl
tried_ok false kind at u h = absurd (let other : Err (fault kind at) ≡ Ok u = h in cc)

pub tried_is : (b : Bool) (kind : CheckKind) (at : Place) → b ≡ true → tried b kind at ≡ Ok tt
tried_is b kind at h = rw h refl

pub ok_or_ok : {A : Type 0} (o : Option A) (e : CheckFault) (v : A) → ok_or o e ≡ Ok v → o ≡ Some v
ok_or_ok (Some w) e v h = ap (λ v. Some v) (ok_same w v h)
ok_or_ok None e v h = absurd (let other : Err e ≡ Ok v = h in cc)

pub ok_or_is : {A : Type 0} (o : Option A) (e : CheckFault) (v : A) → o ≡ Some v → ok_or o e ≡ Ok v
ok_or_is o e v h = rw h refl

pub not_true : (b : Bool) → not b ≡ true → b ≡ false
not_true true h = sym h
not_true false h = refl

pub not_false : (b : Bool) → b ≡ false → not b ≡ true
not_false b h = rw h refl

pub same_kind-true : (j k : Kind) → same_kind j k ≡ true → j ≡ k
same_kind-true UnitKind UnitKind h = refl
same_kind-true IntKind IntKind h = refl
same_kind-true BoolKind BoolKind h = refl
same_kind-true TextKind TextKind h = refl
same_kind-true PartyKind PartyKind h = refl
same_kind-true ContractKind ContractKind h = refl
same_kind-true PartiesKind PartiesKind h = refl
same_kind-true j k h = cc

pub same_kind-refl : (k : Kind) → same_kind k k ≡ true
same_kind-refl UnitKind = refl
same_kind-refl IntKind = refl
same_kind-refl BoolKind = refl
same_kind-refl TextKind = refl
same_kind-refl PartyKind = refl
same_kind-refl ContractKind = refl
same_kind-refl PartiesKind = refl

pub in_place_ok : (at : Place) (k : Kind) (r : Result Kind CheckFault) (u : ⊤) → in_place at k r ≡ Ok u → r ≡ Ok k
in_place_ok at k r u h =
    let g = bind_ok r (λ j. tried (same_kind j k) WrongKind at) u h in
    g.1 ∙ ok_of g.0 k (same_kind-true g.0 k (tried_ok (same_kind g.0 k) WrongKind at u g.2))

pub in_place_is : (at : Place) (k : Kind) (r : Result Kind CheckFault) → r ≡ Ok k → in_place at k r ≡ Ok tt
in_place_is at k r h = bind_is r (λ j. tried (same_kind j k) WrongKind at) k tt h (tried_is (same_kind k k) WrongKind at (same_kind-refl k))

pub one_ok : (at : Place) (j w : Kind) (a : Result Kind CheckFault) (v : Kind) → one_operand at j w a ≡ Ok v → (a ≡ Ok j) × (v ≡ w)
one_ok at j w a v h =
    let g = bind_ok (in_place (at_item at 1) j a) (λ _. Ok w) v h in
    (in_place_ok (at_item at 1) j a g.0 g.1, sym (ok_same w v g.2))

pub one_is : (at : Place) (j w : Kind) (a : Result Kind CheckFault) (v : Kind) → a ≡ Ok j → v ≡ w → one_operand at j w a ≡ Ok v
one_is at j w a v p e =
    bind_is (in_place (at_item at 1) j a) (λ _. Ok w) tt v (in_place_is (at_item at 1) j a p) (ok_of w v (sym e))

pub two_ok : (at : Place) (j k w : Kind) (a b : Result Kind CheckFault) (v : Kind) → two_operands at j k w a b ≡ Ok v → (a ≡ Ok j) × (b ≡ Ok k) × (v ≡ w)
two_ok at j k w a b v h =
    let g = bind_ok (in_place (at_item at 1) j a) (λ _. in_place (at_item at 2) k b >>= λ _. Ok w) v h in
    let f = bind_ok (in_place (at_item at 2) k b) (λ _. Ok w) v g.2 in
    (in_place_ok (at_item at 1) j a g.0 g.1, in_place_ok (at_item at 2) k b f.0 f.1, sym (ok_same w v f.2))

pub two_is : (at : Place) (j k w : Kind) (a b : Result Kind CheckFault) (v : Kind) → a ≡ Ok j → b ≡ Ok k → v ≡ w → two_operands at j k w a b ≡ Ok v
two_is at j k w a b v p q e =
    bind_is (in_place (at_item at 1) j a) (λ _. in_place (at_item at 2) k b >>= λ _. Ok w) tt v (in_place_is (at_item at 1) j a p)
    (bind_is (in_place (at_item at 2) k b) (λ _. Ok w) tt v (in_place_is (at_item at 2) k b q) (ok_of w v (sym e)))

pub alike_ok : (at : Place) (a b : Result Kind CheckFault) (v : Kind) → alike_operands at a b ≡ Ok v → (j : Kind) × (a ≡ Ok j) × (b ≡ Ok j) × (v ≡ BoolKind)
alike_ok at a b v h =
    let g = bind_ok a (λ k. in_place (at_item at 2) k b >>= λ _. Ok BoolKind) v h in
    let f = bind_ok (in_place (at_item at 2) g.0 b) (λ _. Ok BoolKind) v g.2 in
    (g.0, g.1, in_place_ok (at_item at 2) g.0 b f.0 f.1, sym (ok_same BoolKind v f.2))

pub alike_is : (at : Place) (a b : Result Kind CheckFault) (j v : Kind) → a ≡ Ok j → b ≡ Ok j → v ≡ BoolKind → alike_operands at a b ≡ Ok v
alike_is at a b j v p q e =
    bind_is a (λ k. in_place (at_item at 2) k b >>= λ _. Ok BoolKind) j v p
    (bind_is (in_place (at_item at 2) j b) (λ _. Ok BoolKind) tt v (in_place_is (at_item at 2) j b q) (ok_of BoolKind v (sym e)))

pub sides_ok : (at : Place) (c a b : Result Kind CheckFault) (v : Kind) → sides_alike at c a b ≡ Ok v → (c ≡ Ok BoolKind) × (a ≡ Ok v) × (b ≡ Ok v)
sides_ok at c a b v h =
    let g = bind_ok (in_place (at_item at 1) BoolKind c) (λ _. a >>= λ k. in_place (at_item at 3) k b >>= λ _. Ok k) v h in
    let f = bind_ok a (λ k. in_place (at_item at 3) k b >>= λ _. Ok k) v g.2 in
    let d = bind_ok (in_place (at_item at 3) f.0 b) (λ _. Ok f.0) v f.2 in
    let e = ok_same f.0 v d.2 in
    (in_place_ok (at_item at 1) BoolKind c g.0 g.1, f.1 ∙ ok_of f.0 v e, in_place_ok (at_item at 3) f.0 b d.0 d.1 ∙ ok_of f.0 v e)

pub sides_are : (at : Place) (c a b : Result Kind CheckFault) (v : Kind) → c ≡ Ok BoolKind → a ≡ Ok v → b ≡ Ok v → sides_alike at c a b ≡ Ok v
sides_are at c a b v p q r =
    bind_is (in_place (at_item at 1) BoolKind c) (λ _. a >>= λ k. in_place (at_item at 3) k b >>= λ _. Ok k) tt v (in_place_is (at_item at 1) BoolKind c p)
    (bind_is a (λ k. in_place (at_item at 3) k b >>= λ _. Ok k) v v q
    (bind_is (in_place (at_item at 3) v b) (λ _. Ok v) tt v (in_place_is (at_item at 3) v b r) refl))
