-- What a check has in hand is what its verdict asks.
use Rattle.std.proofs.Common.{◌≡◌, ◌≤◌, ℕ, suc, Bool, true, false, List, [], ◌∷◌, ◌++◌, length, map, Option, Some, None, refl, sym, ap, ◌∙◌, subst, inl, inr, arith}
use Rattle.std.specs.Prelude.{All, IsSome, find, nat_eq, option_map}
use Rattle.std.specs.Str.{bytes_eq}
use Rattle.std.proofs.lemmas.Bool.{cases_Bool}
use Rattle.std.proofs.lemmas.List.{length-map}
use Rattle.std.proofs.lemmas.List.Elements.{All-cons, All-contains, All-nil}
use Rattle.std.proofs.lemmas.Option.{none-some, same_Some}
use Rattle.std.proofs.lemmas.Slice.Eq.{bytes_eq-Decides}
use Rattle.ledger_terms.specs.declared.act.Act.{Act}
use Rattle.ledger_terms.specs.Trees.{Actions}
use Rattle.ledger_terms.specs.Forest.{Forest, below_at, number_from, preorder, roots_of}
use Rattle.ledger_model.specs.Forest.{trees_of}
use Rattle.ledger_model.specs.Opening.{OpenedView}
use Rattle.ledger_model.specs.Terms.{Path, PartySet, instance_of}
use Rattle.ledger_model.proofs.Lists.{In, contains_from_In}
use Rattle.canton_model.specs.Checks.{is_from, is_split_core, is_well_split, subview_starts}
use Rattle.canton_model.specs.declared.local_verdict.LocalVerdict.{LocalVerdict}
use Rattle.canton_model.specs.declared.local_verdict.LocalVerdict.TheVariants.{Reject}
use Rattle.canton_model.specs.declared.reason.Reason.TheVariants.{ViewMissing, WrongSender, WrongCommon}
use Rattle.lang_eval.specs.Found.{Packages}
use Rattle.lang_eval.specs.Language.{has_roles}
use Rattle.wire_form.specs.Spellable.{IsSpellableInstance}
use Rattle.view_split.specs.Placed.{placed_forest, shown_by}
use Rattle.view_split.specs.SeenViews.{opened_as, placed_numbered, put_back}
use Rattle.view_split.specs.declared.opened_tree.OpenedTree.{OpenedTree}
use Rattle.confirm_reply.specs.Fit.{IsCheckableAt}
use Rattle.confirm_reply.specs.Located.{Found, starts_in, view_found_in}
use Rattle.confirm_reply.specs.Numbers.{numbers_of}
use Rattle.confirm_reply.specs.Opened.{AllHaveRoles, CanBeChecked, IsCheckable, acts_of_core, view_at}
use Rattle.confirm_reply.specs.Tried.{all_reasons, verdict_after}
use Rattle.confirm_reply.specs.Verdict.{reading_by, verdict_of_opened}
use Rattle.confirm_reply.specs.WellSplit.{is_split_at, is_split_where_there, roles_where_there, taken}
use Rattle.confirm_reply.specs.declared.opened_input.OpenedInput.{OpenedInput}
use Rattle.confirm_reply.proofs.Located.{first_is_found, found_from}
use Rattle.confirm_reply.proofs.Placed.{EachIn, StandsIn, Tree, all_stand, below_stands, cores_each}
use Rattle.confirm_reply.proofs.SplitCores.{actions_of, roles_in_split, split_core_is}
use Rattle.confirm_reply.proofs.StartsFound.{starts_are}
use Rattle.confirm_reply.proofs.Taken.{taken_core}
use Rattle.confirm_reply.proofs.Verdicts.{not_sent, not_split, verdict_is}

-- ---- lists

pub found_in : {X : Type 0} (test : X → Bool) (xs : List X) (x : X) → find test xs ≡ Some x → (test x ≡ true) × In x xs
found_in test [] x e = absurd (none-some x e)
found_in test (y ∷ ys) x e =
    elim (cases_Bool (test y)) [
      | inl passes ↦ let same : y ≡ x = same_Some y x (rw passes at e) in (ap test (sym same) ∙ passes, inl same)
      | inr fails ↦ let r = found_in test ys x (rw fails at e) in (r.0, inr r.1)
    ]

each_at : {X : Type 0} (P : X → Type 0) (xs : List X) (x : X) → In x xs → EachIn P xs → P x
each_at P [] x i e = absurd i
each_at P (y ∷ ys) x (inl same) e = subst P same e.0
each_at P (y ∷ ys) x (inr i) e = each_at P ys x i e.1

each_mapped : {X Y : Type 0} (g : X → Y) (P : Y → Type 0) (xs : List X) → EachIn (λ (x : X). P (g x)) xs → EachIn P (map g xs)
each_mapped g P [] e = tt
each_mapped g P (x ∷ xs) e = (e.0, each_mapped g P xs e.1)

pub each_from_all : {X : Type 0} (P : X → Type 0) (xs : List X) → All P xs → EachIn P xs
each_from_all P [] all = tt
each_from_all P (x ∷ xs) all = (All-contains P (x ∷ xs) x all (contains_from_In (x ∷ xs) x (inl refl)), each_from_all P xs (λ k d h. all (suc k) d (omega (arith, h))))

-- ---- the view that is found

abbrev HasCore : (ℕ × Act → Type 0) → OpenedView → Type 0
HasCore P view = EachIn P view.core

pub core_in_place : (tree : OpenedTree) (view : OpenedView) → In view (shown_by tree).views → EachIn (StandsIn (trees_of (shown_by tree).roots)) view.core
core_in_place tree view i =
    let roots = put_back (placed_forest tree.views) in
    let P = StandsIn (trees_of roots) in
    each_at (HasCore P) (shown_by tree).views view i
    (each_mapped opened_as (HasCore P) (preorder (placed_numbered (placed_forest tree.views))) (cores_each P (placed_forest tree.views) (number_from 0 roots) (all_stand roots)))

module _ (tree : OpenedTree) (path : Path) (view : OpenedView) (is : view_at path tree ≡ Some view) where
  at : (bytes_eq path view.path ≡ true) × In view (shown_by tree).views
  at = found_in (λ (v : OpenedView). bytes_eq path v.path) (shown_by tree).views view is

  same_path : path ≡ view.path
  same_path = (bytes_eq-Decides path view.path).0 at.0

  core_stands : EachIn (StandsIn (trees_of (shown_by tree).roots)) view.core
  core_stands = core_in_place tree view at.1

-- ---- what stands at its numbers can be checked

module _ (packages : Packages) (roots : Actions) where
  abbrev Roles : Act → Type 0
  Roles act = has_roles packages act.action ≡ true

  one_checkable : (a : ℕ × Act) → StandsIn (trees_of roots) a → Roles a.1 → AllHaveRoles packages (roots_of (below_at a.0 roots))
      → IsSpellableInstance (instance_of (a.1).action) → IsCheckableAt packages (trees_of roots) a.0
  one_checkable a s roles below spelled tree e =
      let same : (a.1, s.0) ≡ tree = same_Some (a.1, s.0) tree (sym s.1 ∙ e) in
      subst (λ (t : Tree). IsCheckable packages t.0 t.1) same (record {
        roles = roles;
        below_roles = subst (λ (f : Actions). AllHaveRoles packages (roots_of f)) (below_stands roots a.0 (a.1, s.0) s.1) below;
        spellable = spelled;
      })

  all_checkable : (core : List (ℕ × Act)) → EachIn (StandsIn (trees_of roots)) core → EachIn Roles (acts_of_core core)
      → EachIn (λ (a : ℕ × Act). AllHaveRoles packages (roots_of (below_at a.0 roots))) core
      → EachIn (λ (a : ℕ × Act). IsSpellableInstance (instance_of (a.1).action)) core
      → All (IsCheckableAt packages (trees_of roots)) (numbers_of core)
  all_checkable [] e roles below spelled = All-nil (IsCheckableAt packages (trees_of roots))
  all_checkable (a ∷ core) e roles below spelled =
      All-cons (IsCheckableAt packages (trees_of roots)) a.0 (numbers_of core) (one_checkable a e.0 roles.0 below.0 spelled.0)
      (all_checkable core e.1 roles.1 below.1 spelled.1)

front_each : {X : Type 0} (P : X → Type 0) (xs ys : List X) → EachIn P (xs ++ ys) → EachIn P xs
front_each P [] ys e = tt
front_each P (x ∷ xs) ys e = (e.0, front_each P xs ys e.1)

pub some_of : {X : Type 0} (found : Option X) → IsSome found → (x : X) × (found ≡ Some x)
some_of None some = absurd (grind (arith, some))
some_of (Some x) some = (x, refl)

-- what a check has in hand: all that is opened
pub record IsInHand (tree : OpenedTree) (trees : List Tree) (numbered : Forest (ℕ × Act)) : Type 0 where
  pub roots : Actions
  pub put : roots ≡ put_back (placed_forest tree.views)
  pub gathered : trees ≡ trees_of roots
  pub counted : numbered ≡ number_from 0 roots

from_found : (opened : Option OpenedView) (found : Found) → option_map found_from opened ≡ Some found
    → (view : OpenedView) × (opened ≡ Some view) × (found_from view ≡ found)
from_found None found e = absurd (none-some found e)
from_found (Some view) found e = (view, refl, same_Some (found_from view) found e)

none_found : (opened : Option OpenedView) → option_map found_from opened ≡ None → opened ≡ None
none_found None e = refl
none_found (Some view) e = absurd (none-some (found_from view) (sym e))

module _ (input : OpenedInput) (path : Path) (trees : List Tree) (numbered : Forest (ℕ × Act)) (h : IsInHand input.tree.now trees numbered) where
  abbrev tree : OpenedTree
  tree = input.tree.now

  abbrev packages : Packages
  packages = input.setup.now.checked

  abbrev opened : Option OpenedView
  opened = view_at path tree

  all_trees : trees ≡ trees_of (shown_by tree).roots
  all_trees = h.gathered ∙ ap trees_of h.put

  all_numbers : numbered ≡ number_from 0 (shown_by tree).roots
  all_numbers = h.counted ∙ ap (number_from 0) h.put

  found_is : (found : Option Found) → found ≡ view_found_in path tree.views numbered → option_map found_from opened ≡ found
  found_is found is =
      first_is_found path tree.views (number_from 0 (put_back (placed_forest tree.views)))
      ∙ (sym (ap (view_found_in path tree.views) all_numbers) ∙ sym is)

  -- a view that isn't found is missing
  pub missing : None ≡ view_found_in path tree.views numbered → Reject ViewMissing 0 ≡ verdict_of_opened input opened
  missing lost = sym (ap (verdict_of_opened input) (none_found opened (found_is None lost)))

  module _ (found : Found) (is : Some found ≡ view_found_in path tree.views numbered) where
    pub there : (view : OpenedView) × (opened ≡ Some view) × (found_from view ≡ found)
    there = from_found opened found (found_is (Some found) is)

    abbrev view : OpenedView
    view = there.0

    abbrev is_opened : opened ≡ Some view
    is_opened = there.1

    numbers : found.core ≡ numbers_of view.core
    numbers = sym (ap (λ (f : Found). f.core) there.2)

    verdict_there : verdict_of_opened input (Some view) ≡ verdict_of_opened input opened
    verdict_there = sym (ap (verdict_of_opened input) is_opened)

    abbrev sent : Bool
    sent = is_from (reading_by input) input.sender (shown_by tree)

    pub sent_by_another : sent ≡ false → Reject WrongSender 0 ≡ verdict_of_opened input opened
    sent_by_another other = not_sent input view other ∙ verdict_there

    module _ (starts : List ℕ) (begin : starts ≡ starts_in path tree.views numbered) where
      abbrev informees : PartySet
      informees = found.informees

      core_taken : taken trees found.core ≡ view.core
      core_taken =
          (λ i. taken (all_trees i) (numbers i)) ∙ taken_core (trees_of (shown_by tree).roots) view.core (core_stands tree path view is_opened)

      starts_taken : acts_of_core (taken trees starts) ≡ subview_starts (shown_by tree) view
      starts_taken =
          (λ i. acts_of_core (taken (all_trees i) ((begin ∙ ap (starts_in path tree.views) all_numbers) i)))
          ∙ starts_are tree view path (same_path tree path view is_opened)

      pub split_is : is_split_at packages found.informees found.confirmers trees found.core starts ≡ is_well_split (reading_by input) (shown_by tree) view
      split_is =
          (λ i. is_split_where_there ((sym there.2) i).informees ((sym there.2) i).confirmers
          (roles_where_there packages (actions_of (acts_of_core (core_taken i)))) (roles_where_there packages (actions_of (starts_taken i))))
          ∙ sym (split_core_is packages view.informees view.confirmers view.core (subview_starts (shown_by tree) view))

      pub split_by_others : sent ≡ true → is_split_at packages found.informees found.confirmers trees found.core starts ≡ false
          → Reject WrongCommon 0 ≡ verdict_of_opened input opened
      split_by_others from other = not_split input view from (sym split_is ∙ other) ∙ verdict_there

      pub verdict_given : (is_root : Bool) → is_root ≡ nat_eq (length path) 1 → sent ≡ true
          → is_split_at packages found.informees found.confirmers trees found.core starts ≡ true
          → verdict_after input (record { trees = trees; core = found.core; is_root = is_root }) all_reasons ≡ verdict_of_opened input opened
      verdict_given is_root root from split =
          (λ i. verdict_after input (record {
            trees = all_trees i;
            core = numbers i;
            is_root = (root ∙ ap (λ (p : Path). nat_eq (length p) 1) (same_path tree path view is_opened)) i;
          }) all_reasons)
          ∙ (verdict_is input view (core_stands tree path view is_opened) from (sym split_is ∙ split) ∙ verdict_there)

      module _ (can : (v : OpenedView) → opened ≡ Some v → CanBeChecked packages (shown_by tree) v) where
        -- the core can be tried where it is split well
        pub numbers_checkable : is_split_at packages found.informees found.confirmers trees found.core starts ≡ true
            → All (IsCheckableAt packages trees) found.core
        numbers_checkable split =
            let roots = (shown_by tree).roots in
            let fit = can view is_opened in
            let roles : AllHaveRoles packages (acts_of_core view.core ++ subview_starts (shown_by tree) view) =
            roles_in_split packages view.informees view.confirmers view.core (subview_starts (shown_by tree) view) (sym split_is ∙ split) in
            let R : Act → Type 0 = λ act. has_roles packages act.action ≡ true in
            let all = all_checkable packages roots view.core (core_stands tree path view is_opened)
            (front_each R (acts_of_core view.core) (subview_starts (shown_by tree) view)
            (each_from_all R (acts_of_core view.core ++ subview_starts (shown_by tree) view) roles))
            (each_from_all (λ (a : ℕ × Act). AllHaveRoles packages (roots_of (below_at a.0 roots))) view.core (fit.below roles))
            (each_from_all (λ (a : ℕ × Act). IsSpellableInstance (instance_of (a.1).action)) view.core fit.spellable) in
            subst (λ (ts : List Tree). All (IsCheckableAt packages ts) found.core) (sym all_trees)
            (subst (λ (ns : List ℕ). All (IsCheckableAt packages (trees_of roots)) ns) (sym numbers) all)

        pub few_numbers : length found.core ≤ 65536
        few_numbers = rw (numbers, length-map view.core (λ (a : ℕ × Act). a.0)) (can view is_opened).few
