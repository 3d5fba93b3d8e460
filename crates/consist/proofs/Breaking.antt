-- Consistency, one action after another.
use Rattle.std.proofs.Common.{◌+◌, ◌≡◌, ◌↔◌, ◌⊎◌, ℕ, zero, suc, ◌<◌, ◌≤◌, Bool, true, false, List, [], ◌∷◌, ◌++◌, Some, take, length, refl, sym, ◌∙◌, ap, subst, arith, inl, inr, le_refl, le_of_lt, not}
use Rattle.std.specs.Prelude.{if◌then◌else◌, slice_get}
use Rattle.std.specs.List.{list_any}
use Rattle.std.specs.Bool.{Decides}
use Rattle.std.proofs.lemmas.Bool.{cases_Bool, cases_order, and_from, and_parts, or_cases, or_left, or_right, both_ways}
use Rattle.std.proofs.lemmas.Option.{same_Some, none-some}
use Rattle.ledger_terms.specs.declared.act.Act.{Act}
use Rattle.ledger_terms.proofs.SameInstances.{instance_decides}
use Rattle.ledger_terms.specs.contracts.instance.InstancePartialEq.TheImpl as instance_eq
use Rattle.ledger_model.specs.Terms.{id_of, instance_of, is_create, is_on, creates, consumes}
use Rattle.ledger_model.specs.Status.{shows_unordered}
use Rattle.ledger_model.specs.Consistency.{Consistent, SameContract}
use Rattle.ledger_model.proofs.Lists.{in_any, from_any, at_in_take, in_take_at, in_from_Contains, contains_from_In, on_from, from_on}
use Rattle.consist.specs.First.{NoneShows}
use Rattle.consist.specs.Rules.{IsUnordered}
use Rattle.consist.specs.Breaks.{Breaks, NotCreated, CreatedLate, AfterConsumption, OtherInstance, differs, breaks}

unlike : (b : Bool) → not b ≡ true → b ≡ true → ⊥
unlike true h e = cc
unlike false h e = cc

first_shown : (earlier : List Act) (a : Act) → (if is_create a.action then list_any (is_on (id_of a.action)) earlier else not (list_any (creates (id_of a.action)) earlier)) ≡ true → Breaks earlier a
first_shown earlier a h =
    elim (cases_Bool (is_create a.action)) [
      | inl made ↦ CreatedLate made (rw made at h)
      | inr none ↦
          let nothing : not (list_any (creates (id_of a.action)) earlier) ≡ true = rw none at h in
          NotCreated none (none_from (list_any (creates (id_of a.action)) earlier) nothing)
    ]
  where
    none_from : (b : Bool) → not b ≡ true → b ≡ false
    none_from true e = cc
    none_from false e = refl

-- the test decides
other_instance : (earlier : List Act) (a : Act) → list_any (differs (id_of a.action) (instance_of a.action)) earlier ≡ true → Breaks earlier a
other_instance earlier a h =
    let w = from_any (differs (id_of a.action) (instance_of a.action)) earlier h in
    let parts = and_parts _ _ w.2 in
    OtherInstance w.0 (contains_from_In earlier w.0 w.1) (from_on (id_of a.action) w.0 parts.0)
    (λ same. unlike (instance_eq.ghosts.eq (instance_of (w.0).action) (instance_of a.action)) parts.1 ((instance_decides (instance_of (w.0).action) (instance_of a.action)).1 same))

breaks_shown : (earlier : List Act) (a : Act) → breaks earlier a ≡ true → Breaks earlier a
breaks_shown earlier a h =
    elim (or_cases _ _ h) [
      | inl first ↦ first_shown earlier a first
      | inr later ↦ elim (or_cases _ _ later) [ inl used ↦ AfterConsumption used | inr other ↦ other_instance earlier a other ]
    ]

first_of : (earlier : List Act) (a : Act) → (if is_create a.action then list_any (is_on (id_of a.action)) earlier else not (list_any (creates (id_of a.action)) earlier)) ≡ true → breaks earlier a ≡ true
first_of earlier a h = or_left _ _ h

shown_breaks : (earlier : List Act) (a : Act) → Breaks earlier a → breaks earlier a ≡ true
shown_breaks earlier a (NotCreated none nothing) = first_of earlier a (rw (none, nothing) refl)
shown_breaks earlier a (CreatedLate made met) = first_of earlier a (rw (made, met) refl)
shown_breaks earlier a (AfterConsumption used) = or_right _ _ (or_left _ _ used)
shown_breaks earlier a (OtherInstance b there same other) =
    or_right _ _ (or_right _ _ (in_any (differs (id_of a.action) (instance_of a.action)) earlier b (in_from_Contains earlier b there)
    (and_from _ _ (on_from (id_of a.action) b same) (differing (instance_eq.ghosts.eq (instance_of b.action) (instance_of a.action)) (λ e. other ((instance_decides (instance_of b.action) (instance_of a.action)).0 e))))))
  where
    differing : (b : Bool) → (b ≡ true → ⊥) → not b ≡ true
    differing true h = absurd (h refl)
    differing false h = refl

pub breaks_decides : (earlier : List Act) (a : Act) → Decides (breaks earlier a) (Breaks earlier a)
breaks_decides earlier a = (breaks_shown earlier a, shown_breaks earlier a)

-- none of these actions breaks consistency with those before it
abbrev pub NoneBreaks : List Act → Type 0
NoneBreaks all = NoneShows Breaks all

-- an action before another on one contract, which a test on the contract finds
before_at : (all : List Act) (j : ℕ) (a : Act) (test : Act → Bool) → list_any test (take j all) ≡ true → (i : ℕ) × (b : Act) × (i < j) × (slice_get all i ≡ Some b) × (test b ≡ true)
before_at all j a test h =
    let w = from_any test (take j all) h in
    let at = in_take_at all j w.0 w.1 in
    (at.0, w.0, at.1, at.2, w.2)

found_before : (all : List Act) (i j : ℕ) (a : Act) (test : Act → Bool) → i < j → slice_get all i ≡ Some a → test a ≡ true → list_any test (take j all) ≡ true
found_before all i j a test lt e t = in_any test (take j all) a (at_in_take all i j a lt e) t

no_test : (test : Act → Bool) (all : List Act) (j : ℕ) → list_any test (take j all) ≡ false → (i : ℕ) (a : Act) → i < j → slice_get all i ≡ Some a → test a ≡ true → ⊥
no_test test all j none i a lt e t = both_ways _ none (found_before all i j a test lt e t)

pub none_breaks : (all : List Act) → Consistent all → NoneBreaks all
none_breaks all c j a e (NotCreated none nothing) =
    let w = c.created j a e in
    elim (cases_order w.0 j) [
      | inl same ↦ let is : w.1 ≡ a = same_Some w.1 a (sym w.3 ∙ (ap (slice_get all) same ∙ e)) in both_ways (is_create (w.1).action) (ap (λ (x : Act). is_create x.action) is ∙ none) w.5
      | inr other ↦ elim other [
        | inl lt ↦ no_test (creates (id_of a.action)) all j nothing w.0 w.1 lt w.3 (and_from _ _ (on_from (id_of a.action) w.1 w.4) w.5)
        | inr gt ↦ let le = w.2 in absurd (omega arith)
      ]
    ]
none_breaks all c j a e (CreatedLate made met) =
    let w = before_at all j a (is_on (id_of a.action)) met in
    c.once w.0 j w.1 a w.2 w.3 e (from_on (id_of a.action) w.1 w.4) made
none_breaks all c j a e (AfterConsumption used) =
    let w = before_at all j a (consumes (id_of a.action)) used in
    let parts = and_parts _ _ w.4 in
    c.unconsumed w.0 j w.1 a w.2 w.3 e (from_on (id_of a.action) w.1 parts.0) parts.1
none_breaks all c j a e (OtherInstance b there same other) =
    let at = in_take_at all j b (in_from_Contains (take j all) b there) in
    other (c.one_instance at.0 j b a at.2 e same)

created_by : (all : List Act) → NoneBreaks all → (j : ℕ) (b : Act) → slice_get all j ≡ Some b → (i : ℕ) × (a : Act) × (i ≤ j) × (slice_get all i ≡ Some a) × SameContract a b × (is_create a.action ≡ true)
created_by all h j b e =
    elim (cases_Bool (is_create b.action)) [
      | inl made ↦ (j, b, le_refl j, e, refl, made)
      | inr none ↦ elim (cases_Bool (list_any (creates (id_of b.action)) (take j all))) [
        | inl some ↦
            let w = before_at all j b (creates (id_of b.action)) some in
            let parts = and_parts _ _ w.4 in
            (w.0, w.1, le_of_lt w.2, w.3, from_on (id_of b.action) w.1 parts.0, parts.1)
        | inr nothing ↦ absurd (h j b e (NotCreated none nothing))
      ]
    ]

same_before : (all : List Act) → NoneBreaks all → (i j : ℕ) (a b : Act) → i < j → slice_get all i ≡ Some a → slice_get all j ≡ Some b → SameContract a b → instance_of a.action ≡ instance_of b.action
same_before all h i j a b lt ei ej same =
    elim (cases_Bool (instance_eq.ghosts.eq (instance_of a.action) (instance_of b.action))) [
      | inl yes' ↦ (instance_decides (instance_of a.action) (instance_of b.action)).0 yes'
      | inr other ↦ absurd (h j b ej (OtherInstance a (contains_from_In (take j all) a (at_in_take all i j a lt ei)) same
          (λ is. both_ways _ other ((instance_decides (instance_of a.action) (instance_of b.action)).1 is))))
    ]

pub consistent_from : (all : List Act) → NoneBreaks all → Consistent all
consistent_from all h =
    record {
      created = created_by all h;
      once = λ i j a b lt ei ej same made. h j b ej (CreatedLate made (found_before all i j a (is_on (id_of b.action)) lt ei (on_from (id_of b.action) a same)));
      unconsumed = λ i j a b lt ei ej same used. h j b ej (AfterConsumption (found_before all i j a (consumes (id_of b.action)) lt ei (and_from _ _ (on_from (id_of b.action) a same) used)));
      one_instance = λ i j a b ei ej same.
          elim (cases_order i j) [
            | inl here ↦ ap (λ (x : Act). instance_of x.action) (same_Some a b (sym ei ∙ (ap (slice_get all) here ∙ ej)))
            | inr other ↦ elim other [
              | inl lt ↦ same_before all h i j a b lt ei ej same
              | inr gt ↦ sym (same_before all h j i b a gt ej ei (sym same))
            ]
          ];
    }

at_end : (xs : List Act) (a : Act) → (slice_get (xs ++ a ∷ []) (length xs) ≡ Some a) × (take (length xs) (xs ++ a ∷ []) ≡ xs)
at_end [] a = (refl, refl)
at_end (x ∷ xs) a = let r = at_end xs a in (r.0, ap (λ (zs : List Act). x ∷ zs) r.1)

-- a place of a list with one more action is one of the list, or the end
place_cases : (xs : List Act) (a : Act) (i : ℕ) (b : Act) → slice_get (xs ++ a ∷ []) i ≡ Some b → ((slice_get xs i ≡ Some b) × (take i (xs ++ a ∷ []) ≡ take i xs)) ⊎ ((b ≡ a) × (take i (xs ++ a ∷ []) ≡ xs))
place_cases [] a zero b e = inr (sym (same_Some a b e), refl)
place_cases [] a (suc i) b e = absurd (none-some b e)
place_cases (x ∷ xs) a zero b e = inl (e, refl)
place_cases (x ∷ xs) a (suc i) b e =
    elim (place_cases xs a i b e) [
      | inl w ↦ inl (w.0, ap (λ (zs : List Act). x ∷ zs) w.1)
      | inr w ↦ inr (w.0, ap (λ (zs : List Act). x ∷ zs) w.1)
    ]

pub one_more : (earlier : List Act) (a : Act) → Consistent earlier → Consistent (earlier ++ a ∷ []) ↔ (Breaks earlier a → ⊥)
one_more earlier a c =
    let there = at_end earlier a in (
      λ more b. none_breaks (earlier ++ a ∷ []) more (length earlier) a there.0 (rw there.1 b),
      λ fits. consistent_from (earlier ++ a ∷ []) (λ i x e b.
          elim (place_cases earlier a i x e) [
            | inl w ↦ none_breaks earlier c i x w.0 (rw w.1 at b)
            | inr w ↦ fits (subst (λ (y : Act). Breaks earlier y) w.0 (rw w.1 at b))
          ]),
    )

-- places in front of more, and behind a front
front_get : (actions after : List Act) (i : ℕ) (a : Act) → slice_get actions i ≡ Some a → slice_get (actions ++ after) i ≡ Some a
front_get [] after i a e = absurd (none-some a e)
front_get (x ∷ actions) after zero a e = e
front_get (x ∷ actions) after (suc i) a e = front_get actions after i a e

front_take : (actions after : List Act) (i : ℕ) (a : Act) → slice_get actions i ≡ Some a → take i (actions ++ after) ≡ take i actions
front_take [] after i a e = absurd (none-some a e)
front_take (x ∷ actions) after zero a e = refl
front_take (x ∷ actions) after (suc i) a e = ap (λ (acts : List Act). x ∷ acts) (front_take actions after i a e)

behind_get : (before actions after : List Act) (i : ℕ) (a : Act) → slice_get actions i ≡ Some a → slice_get (before ++ (actions ++ after)) (length before + i) ≡ Some a
behind_get [] actions after i a e = let none : 0 + i ≡ i = omega arith in rw none (front_get actions after i a e)
behind_get (x ∷ before) actions after i a e = let more : suc (length before) + i ≡ suc (length before + i) = omega arith in rw more (behind_get before actions after i a e)

behind_take : (before actions after : List Act) (i : ℕ) (a : Act) → slice_get actions i ≡ Some a → take (length before + i) (before ++ (actions ++ after)) ≡ before ++ take i actions
behind_take [] actions after i a e = let none : 0 + i ≡ i = omega arith in rw none (front_take actions after i a e)
behind_take (x ∷ before) actions after i a e = let more : suc (length before) + i ≡ suc (length before + i) = omega arith in rw more (ap (λ (acts : List Act). x ∷ acts) (behind_take before actions after i a e))

any_behind : (test : Act → Bool) (before acts : List Act) → list_any test acts ≡ true → list_any test (before ++ acts) ≡ true
any_behind test [] acts h = h
any_behind test (x ∷ before) acts h = or_right (test x) (list_any test (before ++ acts)) (any_behind test before acts h)

unordered_behind : (before acts : List Act) (a : Act) → shows_unordered acts a ≡ true → Breaks (before ++ acts) a
unordered_behind before acts a h =
    elim (or_cases _ _ h) [
      | inl used ↦ AfterConsumption (any_behind (consumes (id_of a.action)) before acts used)
      | inr late ↦ let parts = and_parts _ _ late in CreatedLate parts.0 (any_behind (is_on (id_of a.action)) before acts parts.1)
    ]

-- each stretch of a consistent list is ordered
pub stretch_ordered : (before actions after : List Act) → Consistent (before ++ (actions ++ after)) → NoneShows IsUnordered actions
stretch_ordered before actions after c i a e h =
    none_breaks (before ++ (actions ++ after)) c (length before + i) a (behind_get before actions after i a e)
    (rw (behind_take before actions after i a e) (unordered_behind before (take i actions) a h))
