-- Who confirms a signatory of an action confirms a view in whose core the action stands, and sees that view.
use Rattle.std.proofs.Common.{◌≡◌, Bool, true, false, List, [], ◌∷◌, ◌++◌, map, Some, refl, sym, ap, ◌∙◌, subst, inl, inr}
use Rattle.std.specs.Prelude.{ℕ, slice_get, flat_map}
use Rattle.std.specs.List.{list_any}
use Rattle.ledger_terms.specs.Parties.{is_subset}
use Rattle.ledger_terms.specs.declared.act.Act.{Act}
use Rattle.ledger_terms.specs.Forest.{Forest, project, preorder, paths_from, number_from}
use Rattle.ledger_terms.specs.declared.action.Action.{Action}
use Rattle.ledger_terms.specs.declared.action.Action.TheVariants.{Create, Exercise, Fetch}
use Rattle.ledger_model.specs.Terms.{Name, PartySet, instance_of, Path}
use Rattle.ledger_model.specs.Forest.{acts}
use Rattle.ledger_model.specs.Language.{Language, roles_of, actors_of, informees_of, stakeholders}
use Rattle.ledger_model.specs.Views.{View, its_informees, confirmers_of, views}
use Rattle.ledger_model.proofs.Lists.{In, in_append_left, in_append_right, in_any, from_any, in_map, in_filter, from_filter, contains_from_In}
use Rattle.ledger_model.proofs.Projected.{filter_project, stands}
use Rattle.ledger_model.proofs.Sets.{in_set_of, front_of_set}
use Rattle.view_split.specs.declared.split_view.SplitView.{SplitView}
use Rattle.view_split.specs.Split.{split}
use Rattle.view_split.specs.Numbered.{seen_as}
use Rattle.view_split.specs.SeenViews.{ConfirmsView, is_sight, seen_views, placed_numbered}
use Rattle.view_split.proofs.Sight.{any_subset, without_paths}
use Rattle.view_split.proofs.Once.{at_numbered}
use Rattle.view_split.proofs.Shown.{seen_as_views, their_places}

pub from_map : {X Y : Type 0} (f : X → Y) (xs : List X) (y : Y) → In y (map f xs) → (x : X) × In x xs × (f x ≡ y)
from_map f [] y h = absurd h
from_map f (x ∷ xs) y (inl same) = (x, inl refl, same)
from_map f (x ∷ xs) y (inr t) = let r = from_map f xs y t in (r.0, inr r.1, r.2)

in_flat_map : {X Y : Type 0} (f : X → List Y) (xs : List X) (x : X) (y : Y) → In x xs → In y (f x) → In y (flat_map f xs)
in_flat_map f [] x y h i = absurd h
in_flat_map f (z ∷ zs) x y (inl same) i = in_append_left (f z) (flat_map f zs) y (subst (λ w. In y (f w)) (sym same) i)
in_flat_map f (z ∷ zs) x y (inr t) i = in_append_right (f z) (flat_map f zs) y (in_flat_map f zs x y t i)

-- what passes is kept
pub in_kept : {A : Type 0} (test : A → Bool) (f : Forest A) (x : A) → In x (preorder f) → test x ≡ true → In x (preorder (project test f))
in_kept test f x i e =
    let same = filter_project test test f (λ y j t. t) in
    (from_filter test (preorder (project test f)) x (subst (λ xs. In x xs) (sym same) (in_filter test (preorder f) x i e))).0

-- whoever tests a signatory tests an informee
pub signatory_told : (language : Language) (test : Name → Bool) (a : Action) → list_any test (language.signatories (instance_of a)) ≡ true → list_any test (informees_of language a) ≡ true
signatory_told language test (Create id instance) h = front_of_set test (language.signatories instance) (language.observers instance) h
signatory_told language test (Exercise id salt instance choice args actors true result) h =
    front_of_set test (stakeholders language instance) (actors ++ language.choice_observers (record { id = id; instance = instance; choice = choice; args = args }))
    (front_of_set test (language.signatories instance) (language.observers instance) h)
signatory_told language test (Exercise id salt instance choice args actors false result) h =
    front_of_set test (language.signatories instance) (actors ++ language.choice_observers (record { id = id; instance = instance; choice = choice; args = args })) h
signatory_told language test (Fetch id salt instance actors) h = front_of_set test (language.signatories instance) actors h

module _ (language : Language) (confirms hosts : Name → Bool) (roots : Forest Act) (hosted : (name : Name) → confirms name ≡ true → hosts name ≡ true) where
  abbrev whole : Forest (Path × SplitView)
  whole = paths_from [] 0 (split (roles_of language) roots)

  abbrev entry : Type 0
  entry = (Path × SplitView) × List (ℕ × Act)

  -- by what the placed views show of a view in whose core the action stands
  confirms_entry : (i : ℕ) (a : Act) (view : View) (x : entry)
      → In {X = ℕ × Act} (i, a) view.core
      → is_subset (its_informees (roles_of language) a) view.informees ≡ true
      → list_any confirms (language.signatories (instance_of a.action)) ≡ true
      → In x (preorder (placed_numbered whole))
      → seen_as ((x.0).1, x.1) ≡ (view, confirmers_of (roles_of language) view)
      → ConfirmsView (roles_of language) confirms hosts roots i a
  confirms_entry i a view x inside covers signs listed shows =
      let signatories = language.signatories (instance_of a.action) in
      let one = from_any confirms signatories signs in
      let informed : list_any hosts (its_informees (roles_of language) a) ≡ true =
      signatory_told language hosts a.action (in_any hosts signatories one.0 one.1 (hosted one.0 one.2)) in
      let sight : is_sight hosts (x.0).1 ≡ true =
      ap (λ (y : View × PartySet). list_any hosts (y.0).informees) shows ∙ any_subset hosts (its_informees (roles_of language) a) view.informees covers informed in
      let placed : In x.0 (preorder whole) =
      subst (λ xs. In x.0 xs) (their_places (roles_of language) whole roots (without_paths [] 0 (split (roles_of language) roots))) (in_map (λ (y : entry). y.0) (preorder (placed_numbered whole)) x listed) in
      record {
        view = x.0;
        core = x.1;
        there = contains_from_In (preorder (placed_numbered whole)) x listed;
        in_core = contains_from_In x.1 (i, a) (subst (λ (c : List (ℕ × Act)). In (i, a) c) (sym (ap (λ (y : View × PartySet). (y.0).core) shows)) inside);
        confirmed = ap (λ (y : View × PartySet). list_any confirms y.1) shows ∙ view_confirmed i a view inside signs;
        seen = contains_from_In (preorder (seen_views hosts (split (roles_of language) roots))) x.0 (in_kept (λ (v : Path × SplitView). is_sight hosts v.1) whole x.0 placed sight);
      }
    where
      view_confirmed : (i : ℕ) (a : Act) (view : View) → In {X = ℕ × Act} (i, a) view.core → list_any confirms (language.signatories (instance_of a.action)) ≡ true → list_any confirms (confirmers_of (roles_of language) view) ≡ true
      view_confirmed i a view inside signs =
          let w = from_any confirms _ (front_of_set confirms (language.signatories (instance_of a.action)) (actors_of a.action) signs) in
          let each : ℕ × Act → List Name = λ act. (roles_of language (act.1).action).confirmers in
          in_any confirms _ w.0 (in_set_of _ w.0 (in_flat_map each view.core (i, a) w.0 inside w.1)) w.2

  pub confirms_view : (i : ℕ) (a : Act) → slice_get (acts roots) i ≡ Some a → list_any confirms (language.signatories (instance_of a.action)) ≡ true → ConfirmsView (roles_of language) confirms hosts roots i a
  confirms_view i a e signs =
      let s = stands (roles_of language) (number_from 0 roots) (i, a) (at_numbered roots i a e) in
      let told : View → View × PartySet = λ v. (v, confirmers_of (roles_of language) v) in
      let shows : entry → View × PartySet = λ x. seen_as ((x.0).1, x.1) in
      let listed : In (told s.view) (map shows (preorder (placed_numbered whole))) =
      subst (λ xs. In (told s.view) xs) (sym (seen_as_views (roles_of language) whole roots (without_paths [] 0 (split (roles_of language) roots)))) (in_map told (preorder (views (roles_of language) roots)) s.view s.there) in
      let x = from_map shows (preorder (placed_numbered whole)) (told s.view) listed in
      confirms_entry i a s.view x.0 s.in_core s.covers signs x.1 x.2
