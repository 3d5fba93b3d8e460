-- Of a transaction that is split each action has roles.
use Rattle.std.proofs.Common.{◌≡◌, ℕ, Bool, true, false, List, [], ◌∷◌, map, Option, Some, None, Ok, Contains, refl, sym, ap, ◌∙◌, subst, inl, inr}
use Rattle.std.specs.Prelude.{find, option_map, Result}
use Rattle.std.proofs.lemmas.Bool.{cases_Bool, not-false}
use Rattle.std.proofs.lemmas.Option.{none-some}
use Rattle.ledger_terms.specs.declared.act.Act.{Act}
use Rattle.ledger_terms.specs.Forest.{Forest, preorder, paths_from}
use Rattle.ledger_terms.specs.declared.tx.Tx.{Tx}
use Rattle.ledger_model.specs.Forest.{acts}
use Rattle.ledger_model.proofs.Lists.{In, in_from_Contains}
use Rattle.lang_eval.specs.Found.{Packages}
use Rattle.lang_eval.specs.Language.{has_roles, roles_in}
use Rattle.view_split.specs.Faults.{first_roleless, is_roleless, kept_path, unless_fault, views_of_tx}
use Rattle.view_split.specs.Split.{split}
use Rattle.view_split.specs.declared.split_fault.SplitFault.{SplitFault}
use Rattle.view_split.specs.declared.views.Views.{Views}
use Rattle.view_split.proofs.Confirming.{from_map}
use Rattle.view_split.proofs.Fitting.{preorder-map}
use Rattle.view_split.proofs.Sight.{without_paths}

abbrev Placed : Type 0
Placed = List ℕ × Act

none_found : {X : Type 0} (p : X → Bool) (xs : List X) (x : X) → find p xs ≡ None → In x xs → p x ≡ false
none_found p [] x e i = absurd i
none_found p (y ∷ xs) x e i =
    elim (cases_Bool (p y)) [
      | inl passes ↦ absurd (none-some y (sym (rw passes at e)))
      | inr fails ↦ elim i [ inl same ↦ ap p (sym same) ∙ fails | inr later ↦ none_found p xs x (rw fails at e) later ]
    ]

abbrev answer : Views → Result Views SplitFault
answer v = Ok v

no_fault : (o : Option (List ℕ)) (made views : Views) → unless_fault o made ≡ answer views → (o ≡ None) × (made ≡ views)
no_fault None made views e = (refl, cc)
no_fault (Some path) made views e = absurd cc

nothing_mapped : {X Y : Type 0} (f : X → Y) (o : Option X) → option_map f o ≡ None → o ≡ None
nothing_mapped f None e = refl
nothing_mapped f (Some x) e = absurd (none-some (f x) (sym e))

module _ (packages : Packages) (tx : Tx) (views : Views) (e : views_of_tx packages tx ≡ answer views) where
  abbrev placed : Forest Placed
  placed = paths_from [] 0 tx.roots

  -- the views of a transaction have its requesters, its ledger time and its seed
  pub made_of : record { act_as = tx.act_as; ledger_time = tx.ledger_time; seed = tx.seed; roots = split (roles_in packages) tx.roots } ≡ views
  made_of = (no_fault (first_roleless packages tx.roots) _ views e).1

  pub roots_are : views.roots ≡ split (roles_in packages) tx.roots
  roots_are = sym (ap (λ (v : Views). v.roots) made_of)

  pub each_has_roles : (a : Act) → Contains (acts tx.roots) a → has_roles packages a.action ≡ true
  each_has_roles a there =
      let listed : In a (map (λ (v : Placed). v.1) (preorder placed)) =
      subst (λ (xs : List Act). In a xs)
      (sym (sym (preorder-map (λ (v : Placed). v.1) placed) ∙ ap (λ (f : Forest Act). preorder f) (without_paths [] 0 tx.roots)))
      (in_from_Contains (acts tx.roots) a there) in
      let v = from_map (λ (v : Placed). v.1) (preorder placed) a listed in
      let none : find (is_roleless packages) (preorder placed) ≡ None =
      nothing_mapped (λ (p : Placed). kept_path p.0) (find (is_roleless packages) (preorder placed))
      (no_fault (first_roleless packages tx.roots) _ views e).0 in
      ap (λ (x : Act). has_roles packages x.action) (sym v.2) ∙ not-false _ (none_found (is_roleless packages) (preorder placed) v.0 none v.1)
