-- A transaction's views and their cores are those of the ledger's definitions.
use Rattle.std.proofs.Common.{◌≡◌, List, [], ◌∷◌, ◌++◌, refl, sym, ap, ◌∙◌, inl, inr, append_assoc}
use Rattle.std.specs.Prelude.{ℕ, suc, Bool, ◌+◌, flat_map}
use Rattle.std.proofs.lemmas.Bool.{cases_Bool}
use Rattle.ledger_terms.specs.Parties.{set_of}
use Rattle.ledger_terms.specs.declared.act.Act.{Act}
use Rattle.ledger_terms.specs.Forest.{Forest, NoRoots, Root, join, project, number_from, size}
use Rattle.ledger_terms.specs.declared.action.Action.{Action}
use Rattle.ledger_model.specs.Terms.{PartySet}
use Rattle.ledger_model.specs.declared.roles.Roles.{Roles}
use Rattle.ledger_model.specs.Views.{View, its_informees, starts, core_below, view_of, views_below, views_of, views, confirmers_of}
use Rattle.view_split.specs.Holed.{inner}
use Rattle.view_split.specs.declared.split_view.SplitView.{SplitView}
use Rattle.view_split.specs.Split.{confirmers_in, core_of, view_at, split_below, split}
use Rattle.view_split.specs.Numbered.{map_forest, core_in, held_in, with_cores, numbered, seen_as}
use Rattle.ledger_terms.proofs.Grow.{join-assoc, join-end}
use Rattle.view_split.proofs.Assembled.{assembled_split}
use Rattle.view_split.proofs.Joins.{confirmers_in-append}
use Rattle.view_split.proofs.Sight.{map_join}

-- without the numbers
abbrev pub plain : Forest (ℕ × Act) → Forest Act
plain f = map_forest (λ (a : ℕ × Act). a.1) f

pub plain_numbered : (n : ℕ) (f : Forest Act) → plain (number_from n f) ≡ f
plain_numbered n NoRoots = refl
plain_numbered n (Root act below others) = λ i. Root act (plain_numbered (suc n) below i) (plain_numbered (suc n + size below) others i)

module _ (roles : Action → Roles) where
  abbrev pub kept : PartySet → ℕ × Act → Bool
  kept e a = starts roles e a.1

  core_is : (e : PartySet) (f : Forest (ℕ × Act)) → core_in (core_of roles e (plain f)) f ≡ core_below roles e f
  core_is e NoRoots = refl
  core_is e (Root a below others) =
      elim (cases_Bool (starts roles e a.1)) [
        | inl new ↦ rw new (core_is e others)
        | inr old ↦ rw old (λ i. a ∷ (core_is e below i ++ core_is e others i))
      ]

  pub held_is : (e : PartySet) (f : Forest (ℕ × Act)) → held_in (core_of roles e (plain f)) f ≡ project (kept e) f
  held_is e NoRoots = refl
  held_is e (Root a below others) =
      elim (cases_Bool (starts roles e a.1)) [
        | inl new ↦ rw new (ap (Root a below) (held_is e others))
        | inr old ↦ rw old (λ i. join (held_is e below i) (held_is e others i))
      ]

  abbrev each : ℕ × Act → PartySet
  each a = (roles (a.1).action).confirmers

  flat-append : (xs ys : List (ℕ × Act)) → flat_map each (xs ++ ys) ≡ flat_map each xs ++ flat_map each ys
  flat-append [] ys = refl
  flat-append (x ∷ xs) ys = ap (λ (names : PartySet). each x ++ names) (flat-append xs ys) ∙ sym (append_assoc (each x) (flat_map each xs) (flat_map each ys))

  confirmers_are : (e : PartySet) (f : Forest (ℕ × Act)) → confirmers_in roles (inner (core_of roles e (plain f))) ≡ flat_map each (core_below roles e f)
  confirmers_are e NoRoots = refl
  confirmers_are e (Root a below others) =
      elim (cases_Bool (starts roles e a.1)) [
        | inl new ↦ rw new (confirmers_are e others)
        | inr old ↦ rw old
            (ap (λ (names : PartySet). each a ++ names)
            (confirmers_in-append roles (inner (core_of roles e (plain below))) (inner (core_of roles e (plain others)))
            ∙ ((λ i. confirmers_are e below i ++ confirmers_are e others i) ∙ sym (flat-append (core_below roles e below) (core_below roles e others)))))
      ]

  abbrev confirmed : View → View × PartySet
  confirmed view = (view, confirmers_of roles view)

  abbrev laid : Forest SplitView → Forest (ℕ × Act) → Forest (View × PartySet)
  laid v f = map_forest seen_as (with_cores (λ (view : SplitView). view.below) v f)

  first_is : (a : ℕ × Act) (below : Forest (ℕ × Act))
      → seen_as (view_at roles a.1 (plain below), a ∷ core_in (core_of roles (its_informees roles a.1) (plain below)) below) ≡ confirmed (view_of roles a below)
  first_is a below =
      let e = its_informees roles a.1 in
      λ i. (record { informees = e; core = a ∷ core_is e below i }, set_of (each a ++ confirmers_are e below i))

  -- The views below, with more views and trees after them.
  below_is : (e : PartySet) (f : Forest (ℕ × Act)) (more : Forest SplitView) (trees : Forest (ℕ × Act))
      → laid (join (split_below roles e (plain f)) more) (join (project (kept e) f) trees) ≡ join (map_forest confirmed (views_below roles e f)) (laid more trees)
  below_is e NoRoots more trees = refl
  below_is e (Root a below others) more trees =
      let ie = its_informees roles a.1 in
      elim (cases_Bool (starts roles e a.1)) [
        | inl new ↦ rw new
            (let sub : laid (split_below roles ie (plain below)) (held_in (core_of roles ie (plain below)) below) ≡ map_forest confirmed (views_below roles ie below) =
            (λ i. laid (sym (join-end (split_below roles ie (plain below))) i) ((held_is ie below ∙ sym (join-end (project (kept ie) below))) i))
            ∙ (below_is ie below NoRoots NoRoots ∙ join-end (map_forest confirmed (views_below roles ie below))) in
            λ i. Root (first_is a below i) (sub i) (below_is e others more trees i))
        | inr old ↦ rw old
            ((λ i. laid (join-assoc (split_below roles e (plain below)) (split_below roles e (plain others)) more i) (join-assoc (project (kept e) below) (project (kept e) others) trees i))
            ∙ (below_is e below (join (split_below roles e (plain others)) more) (join (project (kept e) others) trees)
            ∙ (ap (join (map_forest confirmed (views_below roles e below))) (below_is e others more trees)
            ∙ (sym (join-assoc (map_forest confirmed (views_below roles e below)) (map_forest confirmed (views_below roles e others)) (laid more trees))
            ∙ ap (λ (v : Forest (View × PartySet)). join v (laid more trees)) (sym (map_join confirmed (views_below roles e below) (views_below roles e others)))))))
      ]

  all_are : (f : Forest (ℕ × Act)) → laid (split roles (plain f)) f ≡ map_forest confirmed (views_of roles f)
  all_are NoRoots = refl
  all_are (Root a below others) =
      let ie = its_informees roles a.1 in
      let sub : laid (split_below roles ie (plain below)) (held_in (core_of roles ie (plain below)) below) ≡ map_forest confirmed (views_below roles ie below) =
      (λ i. laid (sym (join-end (split_below roles ie (plain below))) i) ((held_is ie below ∙ sym (join-end (project (kept ie) below))) i))
      ∙ (below_is ie below NoRoots NoRoots ∙ join-end (map_forest confirmed (views_below roles ie below))) in
      λ i. Root (first_is a below i) (sub i) (all_are others i)

  pub numbered_are : (roots : Forest Act) → map_forest seen_as (numbered (split roles roots)) ≡ map_forest confirmed (views roles roots)
  numbered_are roots =
      ap (λ (f : Forest Act). laid (split roles roots) (number_from 0 f)) (assembled_split roles roots)
      ∙ (ap (λ (f : Forest Act). laid (split roles f) (number_from 0 roots)) (sym (plain_numbered 0 roots)) ∙ all_are (number_from 0 roots))
