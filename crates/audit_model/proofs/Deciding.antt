-- That what the cases compare is decided.
use Rattle.std.proofs.Common.{◌≡◌, ◌⊎◌, ℕ, zero, suc, ◌<◌, Bool, true, false, List, [], ◌∷◌, Option, Some, None, Contains, refl, sym, ap, ◌∙◌, subst, inl, inr, arith}
use Rattle.std.proofs.lemmas.Bool.{cases_Bool, cases_lt}
use Rattle.std.proofs.lemmas.Bool.Decides.{eqb_tells}
use Rattle.std.proofs.lemmas.Option.{none-some, same_Some}
use Rattle.ledger_model.proofs.Lists.{In, in_from_Contains, contains_from_In}
use Rattle.world_model.specs.Messages.{LocalVerdict, Approve, Reject, ViewVerdict, Decision, Approved, Rejected, TimedOut}
use Rattle.canton_model.specs.declared.reason.Reason.{Reason}
use Rattle.canton_model.specs.declared.reason.Reason.TheVariants.{IdMismatch, NotVetted, TimeSkew, Locked, Inactive, NotFresh}
use Rattle.canton_model.specs.declared.reason.Reason.TheVariants.{Unordered, NotConformant, NotAuthorised}
use Rattle.canton_model.specs.declared.reason.Reason.TheVariants.{RootMismatch, ViewMissing, WrongSender, WrongCommon}

abbrev pub Decided : Type 0 → Type 0
Decided P = P ⊎ (¬ P)

pub not_decided : {P : Type 0} → Decided P → Decided (¬ P)
not_decided (inl p) = inr (λ refuted. refuted p)
not_decided (inr refuted) = inl refuted

-- what isn't refuted holds
pub from_decided : {P : Type 0} → Decided P → ¬ ¬ P → P
from_decided (inl p) h = p
from_decided (inr refuted) h = absurd (h refuted)

abbrev Holds : Bool → Type 0
Holds true = Unit {0}
Holds false = ⊥

pub true_false : {b : Bool} → b ≡ true → b ≡ false → ⊥
true_false t f = subst Holds (sym t ∙ f) tt

pub truth_decided : (b : Bool) → Decided (b ≡ true)
truth_decided b = elim (cases_Bool b) [ inl e ↦ inl e | inr e ↦ inr (λ t. true_false t e) ]

pub untruth_decided : (b : Bool) → Decided (b ≡ false)
untruth_decided b = elim (cases_Bool b) [ inl e ↦ inr (λ f. true_false e f) | inr e ↦ inl e ]

pub false_from : (b : Bool) → ¬ (b ≡ true) → b ≡ false
false_from b refuted = elim (cases_Bool b) [ inl e ↦ absurd (refuted e) | inr e ↦ e ]

pub true_from : (b : Bool) → ¬ (b ≡ false) → b ≡ true
true_from b refuted = elim (cases_Bool b) [ inl e ↦ e | inr e ↦ absurd (refuted e) ]

pub number_decided : (a b : ℕ) → Decided (a ≡ b)
number_decided a b = elim (eqb_tells a b) [ inl h ↦ inl h.1 | inr h ↦ inr h.1 ]

pub less_decided : (a b : ℕ) → Decided (a < b)
less_decided a b = elim (cases_lt a b) [ inl lt ↦ inl lt | inr le ↦ inr (λ lt. omega (arith, lt, le)) ]

-- through what tells it apart
pub through : {A B : Type 0} (to : A → B) (back : B → A) → ((a : A) → back (to a) ≡ a) → ((x y : B) → Decided (x ≡ y)) → (a b : A) → Decided (a ≡ b)
through to back same decide a b =
    elim (decide (to a) (to b)) [
      | inl e ↦ inl (sym (same a) ∙ (ap back e ∙ same b))
      | inr refuted ↦ inr (λ e. refuted (ap to e))
    ]

pub pair_decided : {A B : Type 0} → ((x y : A) → Decided (x ≡ y)) → ((x y : B) → Decided (x ≡ y)) → (a b : A × B) → Decided (a ≡ b)
pair_decided {A} {B} first second a b =
    elim (first a.0 b.0) [
      | inr refuted ↦ inr (λ e. refuted (ap (λ (p : A × B). p.0) e))
      | inl e ↦ elim (second a.1 b.1) [
        | inr refuted ↦ inr (λ d. refuted (ap (λ (p : A × B). p.1) d))
        | inl d ↦ inl (ap (λ (x : A). (x, a.1)) e ∙ ap (λ (y : B). (b.0, y)) d)
      ]
    ]

abbrev head_or : {X : Type 0} → X → List X → X
head_or d [] = d
head_or d (x ∷ xs) = x

abbrev tail_of : {X : Type 0} → List X → List X
tail_of [] = []
tail_of (x ∷ xs) = xs

abbrev IsEmpty : {X : Type 0} → List X → Type 0
IsEmpty [] = Unit {0}
IsEmpty (x ∷ xs) = ⊥

pub list_decided : {X : Type 0} → ((x y : X) → Decided (x ≡ y)) → (xs ys : List X) → Decided (xs ≡ ys)
list_decided {X} decide [] [] = inl refl
list_decided {X} decide [] (y ∷ ys) = inr (λ e. subst IsEmpty e tt)
list_decided {X} decide (x ∷ xs) [] = inr (λ e. subst IsEmpty (sym e) tt)
list_decided {X} decide (x ∷ xs) (y ∷ ys) =
    elim (decide x y) [
      | inr refuted ↦ inr (λ e. refuted (ap (head_or x) e))
      | inl e ↦ elim (list_decided decide xs ys) [
        | inr refuted ↦ inr (λ d. refuted (ap tail_of d))
        | inl d ↦ inl (ap (λ (z : X). z ∷ xs) e ∙ ap (λ (zs : List X). y ∷ zs) d)
      ]
    ]

pub option_decided : {X : Type 0} → ((x y : X) → Decided (x ≡ y)) → (a b : Option X) → Decided (a ≡ b)
option_decided decide None None = inl refl
option_decided decide None (Some y) = inr (λ e. none-some y e)
option_decided decide (Some x) None = inr (λ e. none-some x (sym e))
option_decided decide (Some x) (Some y) = elim (decide x y) [ inl e ↦ inl (ap Some e) | inr refuted ↦ inr (λ e. refuted (same_Some x y e)) ]

contains_more : (y x : ℕ) (ys : List ℕ) → Decided (y ≡ x) → Decided (In x ys) → Decided (In x (y ∷ ys))
contains_more y x ys (inl e) rest = inl (inl e)
contains_more y x ys (inr refuted) (inl h) = inl (inr h)
contains_more y x ys (inr refuted) (inr none) = inr (λ h. elim h [ inl e ↦ refuted e | inr t ↦ none t ])

in_decided : (xs : List ℕ) (x : ℕ) → Decided (In x xs)
in_decided [] x = inr (λ h. h)
in_decided (y ∷ ys) x = contains_more y x ys (number_decided y x) (in_decided ys x)

pub contains_decided : (xs : List ℕ) (x : ℕ) → Decided (Contains xs x)
contains_decided xs x =
    elim (in_decided xs x) [ inl h ↦ inl (contains_from_In xs x h) | inr refuted ↦ inr (λ c. refuted (in_from_Contains xs x c)) ]

-- reasons by numbers
abbrev number_of : Reason → ℕ
number_of IdMismatch = 0
number_of NotVetted = 1
number_of TimeSkew = 2
number_of Locked = 3
number_of Inactive = 4
number_of NotFresh = 5
number_of Unordered = 6
number_of NotConformant = 7
number_of NotAuthorised = 8
number_of RootMismatch = 9
number_of ViewMissing = 10
number_of WrongSender = 11
number_of WrongCommon = 12

abbrev reason_with : ℕ → Reason
reason_with zero = IdMismatch
reason_with (suc zero) = NotVetted
reason_with (suc (suc zero)) = TimeSkew
reason_with (suc (suc (suc zero))) = Locked
reason_with (suc (suc (suc (suc zero)))) = Inactive
reason_with (suc (suc (suc (suc (suc zero))))) = NotFresh
reason_with (suc (suc (suc (suc (suc (suc zero)))))) = Unordered
reason_with (suc (suc (suc (suc (suc (suc (suc zero))))))) = NotConformant
reason_with (suc (suc (suc (suc (suc (suc (suc (suc zero)))))))) = NotAuthorised
reason_with (suc (suc (suc (suc (suc (suc (suc (suc (suc zero))))))))) = RootMismatch
reason_with (suc (suc (suc (suc (suc (suc (suc (suc (suc (suc zero)))))))))) = ViewMissing
reason_with (suc (suc (suc (suc (suc (suc (suc (suc (suc (suc (suc zero))))))))))) = WrongSender
reason_with (suc (suc (suc (suc (suc (suc (suc (suc (suc (suc (suc (suc n)))))))))))) = WrongCommon

reason_back : (r : Reason) → reason_with (number_of r) ≡ r
reason_back IdMismatch = refl
reason_back NotVetted = refl
reason_back TimeSkew = refl
reason_back Locked = refl
reason_back Inactive = refl
reason_back NotFresh = refl
reason_back Unordered = refl
reason_back NotConformant = refl
reason_back NotAuthorised = refl
reason_back RootMismatch = refl
reason_back ViewMissing = refl
reason_back WrongSender = refl
reason_back WrongCommon = refl

pub reason_decided : (a b : Reason) → Decided (a ≡ b)
reason_decided = through number_of reason_with reason_back number_decided

-- verdicts on views by what they hold
abbrev parts_of : LocalVerdict → Option (Reason × ℕ)
parts_of Approve = None
parts_of (Reject reason action) = Some (reason, action)

abbrev verdict_with : Option (Reason × ℕ) → LocalVerdict
verdict_with None = Approve
verdict_with (Some p) = Reject p.0 p.1

verdict_back : (v : LocalVerdict) → verdict_with (parts_of v) ≡ v
verdict_back Approve = refl
verdict_back (Reject reason action) = refl

pub local_decided : (a b : LocalVerdict) → Decided (a ≡ b)
local_decided = through parts_of verdict_with verdict_back (option_decided (pair_decided reason_decided number_decided))

abbrev view_with : List ℕ × LocalVerdict → ViewVerdict
view_with p = record { view = p.0; verdict = p.1 }

pub verdicts_decided : (a b : List ViewVerdict) → Decided (a ≡ b)
verdicts_decided =
    list_decided (through (λ (v : ViewVerdict). (v.view, v.verdict)) view_with (λ v. refl)
    (pair_decided (list_decided number_decided) local_decided))

-- decisions by what they hold
abbrev DecisionParts : Type 0
DecisionParts = Option (ℕ × (List ℕ × Reason)) × List ℕ

abbrev decision_parts : Decision → ℕ × DecisionParts
decision_parts Approved = (0, (None, []))
decision_parts (Rejected from view reason) = (1, (Some (from, (view, reason)), []))
decision_parts (TimedOut missing) = (2, (None, missing))

abbrev rejected_with : Option (ℕ × (List ℕ × Reason)) → Decision
rejected_with None = Approved
rejected_with (Some p) = Rejected p.0 p.1.0 p.1.1

abbrev decision_by : ℕ → DecisionParts → Decision
decision_by zero parts = Approved
decision_by (suc zero) parts = rejected_with parts.0
decision_by (suc (suc n)) parts = TimedOut parts.1

decision_back : (d : Decision) → decision_by (decision_parts d).0 (decision_parts d).1 ≡ d
decision_back Approved = refl
decision_back (Rejected from view reason) = refl
decision_back (TimedOut missing) = refl

pub decision_decided : (a b : Decision) → Decided (a ≡ b)
decision_decided =
    through decision_parts (λ p. decision_by p.0 p.1) decision_back
    (pair_decided number_decided
    (pair_decided (option_decided (pair_decided number_decided (pair_decided (list_decided number_decided) reason_decided))) (list_decided number_decided)))
