-- Who is asked, read off the views that are split.
use Rattle.std.proofs.Common.{◌≡◌, ℕ, Bool, List, [], ◌∷◌, map, filter, refl, sym, ap, ◌∙◌}
use Rattle.std.specs.Prelude.{◌||◌}
use Rattle.std.specs.List.{list_any}
use Rattle.ledger_terms.specs.declared.act.Act.{Act}
use Rattle.ledger_terms.specs.Forest.{Forest, preorder, paths_from}
use Rattle.ledger_terms.specs.declared.action.Action.{Action}
use Rattle.ledger_model.specs.Language.{Language, roles_of}
use Rattle.ledger_model.specs.declared.roles.Roles.{Roles}
use Rattle.ledger_model.specs.Opening.{confirming_of}
use Rattle.ledger_model.specs.Terms.{PartySet}
use Rattle.ledger_model.specs.Views.{View, confirmers_of, views}
use Rattle.view_split.specs.declared.split_view.SplitView.{SplitView}
use Rattle.view_split.specs.Split.{split}
use Rattle.view_split.specs.Numbered.{seen_as}
use Rattle.view_split.specs.SeenViews.{placed_numbered}
use Rattle.view_split.proofs.Fitting.{preorder-map}
use Rattle.view_split.proofs.Shown.{their_places, seen_as_views}
use Rattle.view_split.proofs.Sight.{without_paths}
use Rattle.sealed_form.specs.SealedForm.{confirming_by}

map_map : {X Y Z : Type 0} (f : Y → Z) (g : X → Y) (xs : List X) → map f (map g xs) ≡ map (λ x. f (g x)) xs
map_map f g [] = refl
map_map {X} {Y} {Z} f g (x ∷ xs) = ap (λ (zs : List Z). f (g x) ∷ zs) (map_map f g xs)

any_map : {X Y : Type 0} (p : Y → Bool) (f : X → Y) (xs : List X) → list_any p (map f xs) ≡ list_any (λ x. p (f x)) xs
any_map p f [] = refl
any_map p f (x ∷ xs) = ap (λ (b : Bool). p (f x) || b) (any_map p f xs)

module _ (roles : Action → Roles) (roots : Forest Act) where
  abbrev Placed : Type 0
  Placed = List ℕ × SplitView

  abbrev Entry : Type 0
  Entry = Placed × List (ℕ × Act)

  abbrev placed : Forest Placed
  placed = paths_from [] 0 (split roles roots)

  abbrev entries : List Entry
  entries = preorder (placed_numbered placed)

  abbrev bare : Placed → SplitView
  bare v = v.1

  abbrev confirmers : SplitView → PartySet
  confirmers v = v.confirmers

  abbrev seen_entry : Entry → View × PartySet
  seen_entry x = seen_as ((x.0).1, x.1)

  same_confirmers : map confirmers (preorder (split roles roots)) ≡ map (confirmers_of roles) (preorder (views roles roots))
  same_confirmers =
      ap (λ (f : Forest SplitView). map confirmers (preorder f)) (sym (without_paths [] 0 (split roles roots)))
      ∙ (ap (map confirmers) (preorder-map bare placed)
      ∙ (map_map confirmers bare (preorder placed)
      ∙ (ap (map (λ (v : Placed). (v.1).confirmers)) (sym (their_places roles placed roots (without_paths [] 0 (split roles roots))))
      ∙ (map_map (λ (v : Placed). (v.1).confirmers) (λ (x : Entry). x.0) entries
      ∙ (sym (map_map (λ (x : View × PartySet). x.1) seen_entry entries)
      ∙ (ap (map (λ (x : View × PartySet). x.1)) (seen_as_views roles placed roots (without_paths [] 0 (split roles roots)))
      ∙ map_map (λ (x : View × PartySet). x.1) (λ (v : View). (v, confirmers_of roles v)) (preorder (views roles roots))))))))

  asked_alike : (confirms : List ℕ → Bool)
      → list_any (λ (v : SplitView). list_any confirms v.confirmers) (preorder (split roles roots)) ≡ list_any
      (λ (v : View). list_any confirms (confirmers_of roles v)) (preorder (views roles roots))
  asked_alike confirms =
      sym (any_map (list_any confirms) confirmers (preorder (split roles roots)))
      ∙ (ap (list_any (list_any confirms)) same_confirmers ∙ any_map (list_any confirms) (confirmers_of roles) (preorder (views roles roots)))

pub asked_by_views : (language : Language) (confirms : ℕ → List ℕ → Bool) (participants : List ℕ) (roots : Forest Act)
    → confirming_by confirms participants (split (roles_of language) roots) ≡ confirming_of language confirms participants roots
asked_by_views language confirms participants roots = λ i. filter (λ p. asked_alike (roles_of language) roots (confirms p) i) participants
