-- A view that is opened is ready to be checked, or it isn't.
use Rattle.std.proofs.Common.{◌≡◌, ◌≤◌, ◌<◌, ◌↔◌, ℕ, Bool, true, false, List, ◌∷◌, length, Option, Some, None, Ok, Err, IsTrue, refl, subst, sym, ap, ◌∙◌, arith, if◌then◌else◌}
use Rattle.std.specs.Prelude.{Decides, option_map}
use Rattle.std.specs.Borrow.{Bor}
use Rattle.std.specs.List.{AllByRecursion}
use Rattle.std.proofs.lemmas.List.{length-map}
use Rattle.std.proofs.lemmas.List.Elements.{All-from_recursion, recursion_from_All}
use Rattle.std.proofs.lemmas.Option.{none-some, same_Some}
use Rattle.ledger_terms.specs.declared.act.Act.{Act}
use Rattle.ledger_terms.specs.Trees.{ActionNode, Actions}
use Rattle.ledger_terms.specs.Forest.{Forest, number_from}
use Rattle.ledger_model.specs.Forest.{acts, trees_of}
use Rattle.ledger_model.specs.Opening.{OpenedView}
use Rattle.ledger_model.specs.Terms.{Action, Path, instance_of}
use Rattle.ledger_model.specs.declared.roles.Roles.{Roles}
use Rattle.lang_eval.specs.Found.{Packages}
use Rattle.lang_eval.specs.Language.{has_roles, roles, roles_in}
use Rattle.lang_eval.specs.declared.role_fault.RoleFault.TheVariants.{NoRoles}
use Rattle.wire_form.specs.Spellable.{IsSpellableInstance}
use Rattle.view_split.specs.Placed.{placed_forest, shown_by}
use Rattle.view_split.specs.SeenViews.{put_back}
use Rattle.view_split.specs.declared.opened_tree.OpenedTree.{OpenedTree}
use Rattle.confirm_reply.specs.Located.{Found, view_found_in}
use Rattle.confirm_reply.specs.Nodes.{acts_of, trees_in}
use Rattle.confirm_reply.specs.Numbers.{numbers_of}
use Rattle.confirm_reply.specs.Opened.{view_at}
use Rattle.confirm_reply.specs.Sure.{IsReady, IsSure}
use Rattle.confirm_reply.specs.Tried.{acts_in}
use Rattle.confirm_reply.proofs.Located.{first_is_found, found_from}
use Rattle.confirm_reply.proofs.Placed.{acts_stand}
use Rattle.confirm_reply.proofs.ShownAt.{acts_are}

-- ---- one action

given : (has : Bool) (found : Roles) (rs : Roles) → Ok rs ≡ (if has then Ok found else Err NoRoles) → has ≡ true
given true found rs e = refl
given false found rs e = absurd (cc)

lacking : (has : Bool) (found : Roles) → Err NoRoles ≡ (if has then Ok found else Err NoRoles) → has ≡ true → ⊥
lacking true found e has = cc
lacking false found e has = cc

pub sure_by : (packages : Packages) (action : Action) (rs : Roles) (spelled : Bool) → Ok rs ≡ roles packages action
    → (IsTrue spelled ↔ IsSpellableInstance (instance_of action)) → Decides spelled (IsSure packages action)
sure_by packages action rs spelled e is = (
  λ yes. record { roles = given (has_roles packages action) (roles_in packages action) rs e; spellable = is.0 yes },
  λ sure. is.1 sure.spellable,
)

pub never_sure : (packages : Packages) (action : Action) → Err NoRoles ≡ roles packages action → Decides false (IsSure packages action)
never_sure packages action e =
    (λ no. absurd (cc), λ sure. absurd (lacking (has_roles packages action) (roles_in packages action) e sure.roles))

pub first_of : {X : Type 0} (P : X → Type 0) (x : X) (xs : List X) → Decides false (P x) → AllByRecursion P (x ∷ xs) → ⊥
first_of P x xs fails all = let wrong : false ≡ true = fails.1 all.0 in cc

-- ---- a view

few_numbers : (opened : Option OpenedView) (view : OpenedView) (found : Found) → opened ≡ Some view
    → option_map found_from opened ≡ Some found → length view.core ≡ length found.core
few_numbers opened view found is from =
    let same : found_from view ≡ found = same_Some (found_from view) found (ap (option_map found_from) (sym is) ∙ from) in
    sym (length-map view.core (λ (a : ℕ × Act). a.0)) ∙ ap (λ (f : Found). length f.core) same

view_in : (opened : Option OpenedView) (found : Found) → option_map found_from opened ≡ Some found → (view : OpenedView) × (opened ≡ Some view)
view_in None found e = absurd (none-some found e)
view_in (Some view) found e = (view, refl)

module _ (path : Path) (tree : OpenedTree) (numbers : Forest (ℕ × Act)) (roots : Actions)
    (put : roots ≡ put_back (placed_forest tree.views)) (counted : numbers ≡ number_from 0 roots) where
  found_is : (found : Option Found) → found ≡ view_found_in path tree.views numbers → option_map found_from (view_at path tree) ≡ found
  found_is found is =
      first_is_found path tree.views (number_from 0 (put_back (placed_forest tree.views)))
      ∙ (sym (ap (view_found_in path tree.views) (counted ∙ ap (number_from 0) put)) ∙ sym is)

  pub not_opened : (packages : Packages) → None ≡ view_found_in path tree.views numbers → Decides false (IsReady packages tree path)
  not_opened packages lost = (
    λ no. absurd (cc),
    λ ready. absurd (none-some (found_from ready.view) (sym (found_is None lost) ∙ ap (option_map found_from) ready.opened)),
  )

  pub too_many : (packages : Packages) (found : Found) → Some found ≡ view_found_in path tree.views numbers → 65536 < length found.core
      → Decides false (IsReady packages tree path)
  too_many packages found is many = (
    λ no. absurd (cc),
    λ ready.
        let count = few_numbers (view_at path tree) ready.view found ready.opened (found_is (Some found) is) in
        absurd (omega (arith, count, ready.few, many)),
  )

  pub ready_where_sure : (packages : Packages) (found : Found) → Some found ≡ view_found_in path tree.views numbers → length found.core ≤ 65536
      → (nodes : List (Bor ActionNode)) → trees_in nodes ≡ trees_of roots
      → (sure : Bool) → Decides sure (AllByRecursion (λ (act : Act). IsSure packages act.action) (acts_of nodes))
      → Decides sure (IsReady packages tree path)
  ready_where_sure packages found is few nodes gathered sure decided =
      let P : Act → Type 0 = λ act. IsSure packages act.action in
      let these : acts_of nodes ≡ acts (shown_by tree).roots =
      sym (acts_are nodes) ∙ (ap acts_in gathered ∙ (acts_stand roots ∙ ap acts put)) in
      let there = view_in (view_at path tree) found (found_is (Some found) is) in
      let count = few_numbers (view_at path tree) there.0 found there.1 (found_is (Some found) is) in (
        λ yes. record {
          each = All-from_recursion P (acts (shown_by tree).roots) (subst (AllByRecursion P) these (decided.0 yes));
          view = there.0;
          opened = there.1;
          few = omega (arith, count, few);
        },
        λ ready. decided.1 (subst (AllByRecursion P) (sym these) (recursion_from_All P (acts (shown_by tree).roots) ready.each)),
      )
