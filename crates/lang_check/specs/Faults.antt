-- Faults with their places, and steps of which the first that faults is the answer.
use Rattle.std.specs.Prelude.{◌≡◌, ℕ, Bool, List, [], if◌then◌else◌, Result, Ok, Err, MatchResult, ⊤}
use Rattle.lang_check.specs.declared.check_fault.CheckFault.{CheckFault}
use Rattle.lang_check.specs.declared.check_kind.CheckKind.{CheckKind}
use Rattle.lang_check.specs.declared.check_kind.CheckKind.TheVariants.{Memory}
use Rattle.lang_check.specs.declared.stop.Stop.{Stop}
use Rattle.lang_check.specs.declared.stop.Stop.TheVariants as stops

-- a place in the list of packages, as a JSON pointer: the bytes of its text
abbrev pub Place : Type 0
Place = List ℕ

-- a fault of this kind at this place
abbrev pub fault : CheckKind → Place → CheckFault
fault kind at = record { at = at; kind = kind }

-- the answer of the code for want of memory, as a fault at no place
abbrev pub want_of_memory : CheckFault
want_of_memory = fault Memory []

infixl 10 ◌>>=◌
-- goes on with the value of one step of a walk; where that has a fault, it is the fault of the whole
abbrev pub ◌>>=◌ : {A B : Type 0} → Result A CheckFault → (A → Result B CheckFault) → Result B CheckFault
Ok a >>= f = f a
Err e >>= f = Err e

-- nothing (`Ok tt`) where the test holds, else a fault of this kind at this place
abbrev pub tried : Bool → CheckKind → Place → Result ⊤ CheckFault
tried b kind at = if b then Ok tt else Err (fault kind at)

-- A stop of the code agrees with what the walk of the definitions found (the second argument): it has the fault that the walk found, or it is for want
-- of memory, and then this says nothing.
abbrev pub StopsAt : {A : Type 0} → Stop → Result A CheckFault → Type 0
StopsAt stops.Memory found = Unit {0}
StopsAt (stops.Fault f) found = found ≡ Err f

-- The code's answer agrees with what the walk of the definitions found (the last argument): its value, as `view` shows it, is the one that the walk
-- found, and its stop is as `StopsAt` says. Contracts of the check's code are this.
abbrev pub Walks : {A B : Type 0} → (A → B) → Result A Stop → Result B CheckFault → Type 0
Walks view result found = MatchResult result (λ v. found ≡ Ok (view v)) (λ e. StopsAt e found)
