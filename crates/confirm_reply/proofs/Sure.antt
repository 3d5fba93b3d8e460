-- A view whose core is found can be checked where all that is opened has what a check asks.
use Rattle.std.proofs.Common.{◌≡◌, ◌≤◌, ℕ, true, List, [], ◌∷◌, length, Option, Some, None, refl, sym, ap, ◌∙◌, arith}
use Rattle.std.specs.Prelude.{All, IsSome, option_map}
use Rattle.std.specs.Str.{bytes_eq}
use Rattle.std.specs.Borrow.{Bor}
use Rattle.std.proofs.lemmas.List.{length-map}
use Rattle.std.specs.List.{AllByRecursion}
use Rattle.std.proofs.lemmas.List.Elements.{All-cons, All-nil}
use Rattle.std.proofs.lemmas.Option.{none-some, same_Some}
use Rattle.ledger_terms.specs.declared.act.Act.{Act}
use Rattle.ledger_terms.specs.Trees.{ActionNode, Actions}
use Rattle.ledger_terms.specs.Forest.{Forest, number_from}
use Rattle.ledger_model.specs.Forest.{acts, trees_of}
use Rattle.ledger_model.specs.Opening.{OpenedView}
use Rattle.ledger_model.specs.Terms.{Path, instance_of}
use Rattle.ledger_model.proofs.Lists.{contains_from_In}
use Rattle.lang_eval.specs.Found.{Packages}
use Rattle.lang_eval.specs.Language.{has_roles}
use Rattle.wire_form.specs.Spellable.{IsSpellableInstance}
use Rattle.view_split.specs.Placed.{placed_forest, shown_by}
use Rattle.view_split.specs.SeenViews.{put_back}
use Rattle.view_split.specs.declared.opened_tree.OpenedTree.{OpenedTree}
use Rattle.confirm_reply.specs.Sure.{IsSure}
use Rattle.confirm_reply.specs.Located.{Found, view_found_in}
use Rattle.confirm_reply.specs.Nodes.{acts_of, trees_in}
use Rattle.confirm_reply.specs.Numbers.{numbers_of}
use Rattle.confirm_reply.specs.Opened.{CanBeChecked, view_at}
use Rattle.confirm_reply.specs.Tried.{acts_in}
use Rattle.confirm_reply.proofs.Checkable.{each_can_be}
use Rattle.confirm_reply.proofs.Checked.{found_in}
use Rattle.confirm_reply.proofs.Located.{first_is_found, found_from}
use Rattle.confirm_reply.proofs.Placed.{acts_stand}
use Rattle.confirm_reply.proofs.ShownAt.{acts_are}

some_in : (opened : Option OpenedView) (found : Found) → option_map found_from opened ≡ Some found → IsSome opened
some_in None found e = absurd (none-some found e)
some_in (Some view) found e = refl

each : {X : Type 0} (P Q : X → Type 0) (xs : List X) → ((x : X) → P x → Q x) → AllByRecursion P xs → All Q xs
each P Q [] more all = All-nil Q
each P Q (x ∷ xs) more all = All-cons Q x xs (more x all.0) (each P Q xs more all.1)

module _ (path : Path) (tree : OpenedTree) (found : Found) (numbers : Forest (ℕ × Act)) (roots : Actions)
    (put : roots ≡ put_back (placed_forest tree.views)) (counted : numbers ≡ number_from 0 roots) (is : Some found ≡ view_found_in path tree.views numbers) where
  found_is : option_map found_from (view_at path tree) ≡ Some found
  found_is =
      first_is_found path tree.views (number_from 0 (put_back (placed_forest tree.views)))
      ∙ (sym (ap (view_found_in path tree.views) (counted ∙ ap (number_from 0) put)) ∙ sym is)

  pub is_opened : IsSome (view_at path tree)
  is_opened = some_in (view_at path tree) found found_is

  few_in : (view : OpenedView) → view_at path tree ≡ Some view → length found.core ≤ 65536 → length view.core ≤ 65536
  few_in view opened few =
      let same : found_from view ≡ found = same_Some (found_from view) found (ap (option_map found_from) (sym opened) ∙ found_is) in
      let count = ap (λ (f : Found). length f.core) same in
      let mapped = length-map view.core (λ (a : ℕ × Act). a.0) in
      omega (arith, count, mapped, few)

  pub can_be : (packages : Packages) (nodes : List (Bor ActionNode)) → trees_in nodes ≡ trees_of roots → length found.core ≤ 65536
      → AllByRecursion (λ (act : Act). IsSure packages act.action) (acts_of nodes)
      → (view : OpenedView) → view_at path tree ≡ Some view → CanBeChecked packages (shown_by tree) view
  can_be packages nodes gathered few sure view opened =
      let these : acts_of nodes ≡ acts (shown_by tree).roots =
      sym (acts_are nodes) ∙ (ap acts_in gathered ∙ (acts_stand roots ∙ ap acts put)) in
      let all : AllByRecursion (λ (act : Act). IsSure packages act.action) (acts (shown_by tree).roots) = rw these at sure in
      let i = found_in (λ (v : OpenedView). bytes_eq path v.path) (shown_by tree).views view opened in
      each_can_be packages tree view (contains_from_In (shown_by tree).views view i.1)
      (each (λ (act : Act). IsSure packages act.action) (λ (act : Act). has_roles packages act.action ≡ true) (acts (shown_by tree).roots)
      (λ act s. s.roles) all)
      (each (λ (act : Act). IsSure packages act.action) (λ (act : Act). IsSpellableInstance (instance_of act.action)) (acts (shown_by tree).roots)
      (λ act s. s.spellable) all)
      (few_in view opened few)
