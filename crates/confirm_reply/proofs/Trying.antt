-- Reasons that are tried one after another give the first that is shown.
use Rattle.std.proofs.Common.{◌≡◌, ℕ, suc, Bool, true, false, List, [], ◌∷◌, Option, Some, None, refl, ap, ◌∙◌, inl, inr}
use Rattle.std.specs.Prelude.{option_map, if◌then◌else◌}
use Rattle.std.specs.List.{list_any}
use Rattle.std.proofs.lemmas.Bool.{cases_Bool}
use Rattle.ledger_terms.specs.declared.act.Act.{Act}
use Rattle.canton_model.specs.declared.reason.Reason.{Reason}
use Rattle.canton_model.specs.declared.local_verdict.LocalVerdict.{LocalVerdict}
use Rattle.canton_model.specs.declared.local_verdict.LocalVerdict.TheVariants.{Reject}
use Rattle.canton_model.specs.Checks.{Check, first_place, first_shown}
use Rattle.confirm_reply.specs.Numbers.{numbers_of}
use Rattle.confirm_reply.specs.Tried.{first_alone, place_shown, rejected_or}
use Rattle.confirm_reply.proofs.Placed.{EachIn}

abbrev Numbered : Type 0
Numbered = ℕ × Act

-- the place of the first that shows it
abbrev pub place_in : (Numbered → Bool) → List Numbered → Option ℕ
place_in test core = if list_any test core then Some (first_place test core) else None

next_place : (b : Bool) (n : ℕ) → option_map suc (if b then Some n else None) ≡ (if b then Some (suc n) else None)
next_place true n = refl
next_place false n = refl

pub place_is : (test : ℕ → Bool) (shown : Numbered → Bool) (core : List Numbered) → EachIn (λ (a : Numbered). test a.0 ≡ shown a) core
    → place_shown test (numbers_of core) ≡ place_in shown core
place_is test shown [] same = refl
place_is test shown (a ∷ core) same =
    elim (cases_Bool (shown a)) [
      | inl passes ↦ rw (same.0, passes) refl
      | inr fails ↦ rw (same.0, fails) (ap (option_map suc) (place_is test shown core same.1) ∙ next_place (list_any shown core) (first_place shown core))
    ]

none_of_false : (core : List Numbered) → list_any (λ (a : Numbered). false) core ≡ false
none_of_false [] = refl
none_of_false (a ∷ core) = none_of_false core

-- the test of the first, where there is one, is this
abbrev pub FirstIs : (ℕ → Bool) → Bool → List Numbered → Type 0
FirstIs test b [] = Unit {0}
FirstIs test b (a ∷ core) = test a.0 ≡ b

-- of what is the same for all, the first alone is asked
pub alone_is : (test : ℕ → Bool) (b : Bool) (core : List Numbered) → FirstIs test b core → first_alone test (numbers_of core) ≡ place_in (λ (a : Numbered). b) core
alone_is test b [] same = refl
alone_is test true (a ∷ core) same = rw same refl
alone_is test false (a ∷ core) same = rw (same, none_of_false core) refl

rejected : (reason : Reason) (b : Bool) (n : ℕ) (rest : LocalVerdict) → rejected_or reason (if b then Some n else None) rest ≡ (if b then Reject reason n else rest)
rejected reason true n rest = refl
rejected reason false n rest = refl

pub tried : (reason : Reason) (shown : Numbered → Bool) (more : List Check) (core : List Numbered) (place : Option ℕ) (rest : LocalVerdict)
    → place ≡ place_in shown core → rest ≡ first_shown more core
    → rejected_or reason place rest ≡ first_shown (record { reason = reason; is_shown_by = shown } ∷ more) core
tried reason shown more core place rest here later =
    (λ i. rejected_or reason (here i) (later i)) ∙ rejected reason (list_any shown core) (first_place shown core) (first_shown more core)

-- ---- tests that agree on a core

any_same : (p q : Numbered → Bool) (core : List Numbered) → EachIn (λ (a : Numbered). p a ≡ q a) core → list_any p core ≡ list_any q core
any_same p q [] same = refl
any_same p q (a ∷ core) same =
    elim (cases_Bool (q a)) [ inl passes ↦ rw (same.0, passes) refl | inr fails ↦ rw (same.0, fails) (any_same p q core same.1) ]

place_same : (p q : Numbered → Bool) (core : List Numbered) → EachIn (λ (a : Numbered). p a ≡ q a) core → first_place p core ≡ first_place q core
place_same p q [] same = refl
place_same p q (a ∷ core) same =
    elim (cases_Bool (q a)) [ inl passes ↦ rw (same.0, passes) refl | inr fails ↦ rw (same.0, fails) (ap suc (place_same p q core same.1)) ]

-- checks for the same reasons that agree on a core
abbrev pub Agree : List Check → List Check → List Numbered → Type 0
Agree [] [] core = Unit {0}
Agree [] (d ∷ ds) core = ⊥
Agree (c ∷ cs) [] core = ⊥
Agree (c ∷ cs) (d ∷ ds) core = ((c.reason ≡ d.reason) × EachIn (λ (a : Numbered). c.is_shown_by a ≡ d.is_shown_by a) core) × Agree cs ds core

pub same_shown : (cs ds : List Check) (core : List Numbered) → Agree cs ds core → first_shown cs core ≡ first_shown ds core
same_shown [] [] core agree = refl
same_shown [] (d ∷ ds) core agree = absurd agree
same_shown (c ∷ cs) [] core agree = absurd agree
same_shown (c ∷ cs) (d ∷ ds) core agree =
    let here = agree.0.1 in
    (λ i. if any_same c.is_shown_by d.is_shown_by core here i then Reject (agree.0.0 i) (place_same c.is_shown_by d.is_shown_by core here i) else same_shown cs ds core agree.1 i)
