-- A walk over the trees of a list, one after another.
use Rattle.std.proofs.Common.{◌≡◌, ◌<◌, ◌≤◌, ℕ, zero, suc, ◌+◌, Bool, true, false, List, [], ◌∷◌, ◌++◌, length, get_or, take, refl, sym, ap, ◌∙◌, subst, arith, append-nil}
use Rattle.ledger_terms.specs.Forest.{Forest, NoRoots, Root, join}
use Rattle.ledger_terms.specs.declared.act.Act.{Act}
use Rattle.std.specs.Prelude.{not}
use Rattle.ledger_terms.specs.Parties.{with_parties, is_subset}
use Rattle.ledger_terms.specs.Grown.{forest_of, tree_of}
use Rattle.ledger_terms.specs.declared.action.Action.{Action}
use Rattle.ledger_terms.specs.Trees.{ActionNode}
use Rattle.ledger_terms.proofs.Grow.{join-assoc, join-end, forest_of-push}
use Rattle.ledger_model.specs.Terms.{PartySet}
use Rattle.ledger_model.specs.declared.roles.Roles.{Roles}
use Rattle.ledger_model.specs.Views.{its_informees, starts}
use Rattle.lang_eval.proofs.RoleLaws.{with_parties-append}
use Rattle.view_split.specs.Holed.{Holed, NoMore, Inner, Hole, inner, beside}
use Rattle.view_split.specs.declared.split_view.SplitView.{SplitView}
use Rattle.view_split.specs.Split.{confirmers_in, core_of, split_below, split}
use Rattle.view_split.specs.Walked.{IsWalked}
use Rattle.view_split.specs.CoreLists.{act_of}
use Rattle.view_split.specs.declared.begun.Begun.{Begun}
use Rattle.view_split.specs.declared.core_node.CoreNode.{CoreNode}
use Rattle.view_split.proofs.Joins.{beside-assoc, beside-end, inner-beside, core_of-join, split_below-join, split-join, confirmers_in-append}

take_more : {A : Type 0} (xs : List A) (i : ℕ) (x : A) → i < length xs → x ≡ get_or xs i x → take (suc i) xs ≡ take i xs ++ x ∷ []
take_more [] i x h at = absurd (omega arith)
take_more (y ∷ ys) zero x h at = ap (λ (z : _). z ∷ []) (sym at)
take_more (y ∷ ys) (suc i) x h at = ap (λ (zs : List _). y ∷ zs) (take_more ys i x (omega arith) at)

pub taken_more : (ns : List ActionNode) (i : ℕ) (n : ActionNode) → i < length ns → n ≡ get_or ns i n → forest_of (take (i + 1) ns) ≡ join (forest_of (take i ns)) (tree_of n)
taken_more ns i n h at =
    let same : i + 1 ≡ suc i = omega arith in
    rw (same, take_more ns i n h at) (forest_of-push (take i ns) n)

take_all : {A : Type 0} (xs : List A) (i : ℕ) → length xs ≤ i → take i xs ≡ xs
take_all [] zero h = refl
take_all [] (suc i) h = refl
take_all (x ∷ xs) zero h = absurd (omega arith)
take_all (x ∷ xs) (suc i) h = ap (λ (ys : List _). x ∷ ys) (take_all xs i (omega arith))

pub taken_all : (ns : List ActionNode) (i : ℕ) → length ns ≤ i → forest_of (take i ns) ≡ forest_of ns
taken_all ns i h = ap forest_of (take_all ns i h)

module _ (roles : Action → Roles) where
  pub walked_none : (view : Begun) (children : Holed Act) → IsWalked roles NoRoots view view children children
  walked_none view children =
      record { informees = refl; confirmers = refl; subviews = sym (join-end view.subviews); children = sym (beside-end children) }

  inner_join : (e : PartySet) (f g : Forest Act) → confirmers_in roles (inner (core_of roles e (join f g))) ≡ confirmers_in roles (inner (core_of roles e f)) ++ confirmers_in roles (inner (core_of roles e g))
  inner_join e f g =
      ap (λ (h : Holed Act). confirmers_in roles (inner h)) (core_of-join roles e f g)
      ∙ (ap (confirmers_in roles) (inner-beside (core_of roles e f) (core_of roles e g))
      ∙ confirmers_in-append roles (inner (core_of roles e f)) (inner (core_of roles e g)))

  pub walked_on : (f g : Forest Act) (old mid new : Begun) (before between after : Holed Act) → IsWalked roles f old mid before between → IsWalked roles g mid new between after → IsWalked roles (join f g) old new before after
  walked_on f g old mid new before between after h k =
      let e = old.informees in
      record {
        informees = k.informees ∙ h.informees;
        confirmers =
            k.confirmers
            ∙ ((λ i. with_parties (confirmers_in roles (inner (core_of roles (h.informees i) g))) (h.confirmers i))
            ∙ (sym (with_parties-append (confirmers_in roles (inner (core_of roles e f))) (confirmers_in roles (inner (core_of roles e g))) old.confirmers)
            ∙ ap (λ (names : PartySet). with_parties names old.confirmers) (sym (inner_join e f g))));
        subviews =
            k.subviews
            ∙ ((λ i. join (h.subviews i) (split_below roles (h.informees i) g))
            ∙ (join-assoc old.subviews (split_below roles e f) (split_below roles e g)
            ∙ ap (λ (v : Forest SplitView). join old.subviews v) (sym (split_below-join roles e f g))));
        children =
            k.children
            ∙ ((λ i. beside (h.children i) (core_of roles (h.informees i) g))
            ∙ (beside-assoc before (core_of roles e f) (core_of roles e g)
            ∙ ap (λ (c : Holed Act). beside before c) (sym (core_of-join roles e f g))));
      }

  -- one node more of a list
  pub walked_more : (ns : List ActionNode) (i : ℕ) (n : ActionNode) (old mid new : Begun) (before between after : Holed Act)
      → i < length ns → n ≡ get_or ns i n
      → IsWalked roles (forest_of (take i ns)) old mid before between
      → IsWalked roles (tree_of n) mid new between after
      → IsWalked roles (forest_of (take (i + 1) ns)) old new before after
  walked_more ns i n old mid new before between after within at h k =
      subst (λ (f : Forest Act). IsWalked roles f old new before after) (sym (taken_more ns i n within at)) (walked_on (forest_of (take i ns)) (tree_of n) old mid new before between after h k)

  pub walked_all : (ns : List ActionNode) (i : ℕ) (old new : Begun) (before after : Holed Act)
      → length ns ≤ i
      → IsWalked roles (forest_of (take i ns)) old new before after
      → IsWalked roles (forest_of ns) old new before after
  walked_all ns i old new before after past h = subst (λ (f : Forest Act). IsWalked roles f old new before after) (taken_all ns i past) h

  -- an action of the view's own core, once what stands below it is walked
  pub walked_inner : (node : ActionNode) (its : Roles) (inside : Bool) (old mid new : Begun) (before start below after : Holed Act) (core : CoreNode)
      → its ≡ roles node.root.action
      → inside ≡ is_subset its.informees old.informees → inside ≡ true
      → mid.informees ≡ old.informees
      → mid.confirmers ≡ with_parties its.confirmers old.confirmers
      → mid.subviews ≡ old.subviews
      → start ≡ NoMore
      → IsWalked roles node.below mid new start below
      → core ≡ record { seed = node.root.seed; action = node.root.action; children = below }
      → after ≡ beside before (Inner (act_of core) core.children NoMore)
      → IsWalked roles (tree_of node) old new before after
  walked_inner node its inside old mid new before start below after core given tested within same confirmed sub empty h made put =
      let e = old.informees in
      let own : starts roles e node.root ≡ false =
      ap not (ap (λ (r : Roles). is_subset r.informees e) (sym given) ∙ (sym tested ∙ within)) in
      let first = (roles node.root.action).confirmers in
      let rest = confirmers_in roles (inner (core_of roles e node.below)) in
      let whole : core_of roles e (tree_of node) ≡ Inner node.root (core_of roles e node.below) NoMore = rw own refl in
      let views : split_below roles e (tree_of node) ≡ join (split_below roles e node.below) NoRoots = rw own refl in
      let told : mid.confirmers ≡ with_parties first old.confirmers =
      confirmed ∙ ap (λ (r : Roles). with_parties r.confirmers old.confirmers) given in
      let children : below ≡ core_of roles e node.below =
      h.children ∙ (λ i. beside (empty i) (core_of roles (same i) node.below)) in
      record {
        informees = h.informees ∙ same;
        confirmers =
            h.confirmers
            ∙ ((λ i. with_parties (confirmers_in roles (inner (core_of roles (same i) node.below))) (told i))
            ∙ (sym (with_parties-append first rest old.confirmers)
            ∙ (ap (λ (acts : List Act). with_parties (first ++ confirmers_in roles acts) old.confirmers) (sym (append-nil (inner (core_of roles e node.below))))
            ∙ ap (λ (c : Holed Act). with_parties (confirmers_in roles (inner c)) old.confirmers) (sym whole))));
        subviews =
            h.subviews
            ∙ ((λ i. join (sub i) (split_below roles (same i) node.below))
            ∙ (ap (λ (v : Forest SplitView). join old.subviews v) (sym (join-end (split_below roles e node.below)))
            ∙ ap (λ (v : Forest SplitView). join old.subviews v) (sym views)));
        children =
            put
            ∙ (ap (λ (n : CoreNode). beside before (Inner (act_of n) n.children NoMore)) made
            ∙ ((λ i. beside before (Inner node.root (children i) NoMore))
            ∙ ap (λ (c : Holed Act). beside before c) (sym whole)));
      }

  -- an action that starts a view of its own
  pub walked_hole : (node : ActionNode) (its : Roles) (inside : Bool) (old new : Begun) (before after : Holed Act) (tree : Forest SplitView)
      → its ≡ roles node.root.action
      → inside ≡ is_subset its.informees old.informees → inside ≡ false
      → new.informees ≡ old.informees
      → new.confirmers ≡ old.confirmers
      → tree ≡ split roles (tree_of node)
      → new.subviews ≡ join old.subviews tree
      → after ≡ beside before (Hole NoMore)
      → IsWalked roles (tree_of node) old new before after
  walked_hole node its inside old new before after tree given tested outside same confirmed is sub put =
      let e = old.informees in
      let own : starts roles e node.root ≡ true =
      ap not (ap (λ (r : Roles). is_subset r.informees e) (sym given) ∙ (sym tested ∙ outside)) in
      let core : core_of roles e (tree_of node) ≡ Hole NoMore = rw own refl in
      let views : split_below roles e (tree_of node) ≡ split roles (tree_of node) = rw own refl in
      record {
        informees = same;
        confirmers = confirmed ∙ ap (λ (c : Holed Act). with_parties (confirmers_in roles (inner c)) old.confirmers) (sym core);
        subviews = sub ∙ ap (λ (v : Forest SplitView). join old.subviews v) (is ∙ sym views);
        children = put ∙ ap (λ (c : Holed Act). beside before c) (sym core);
      }

  -- the view that a node's action starts, once its core is walked
  pub started : (node : ActionNode) (its : Roles) (none : PartySet) (old new : Begun) (start below : Holed Act) (first : Act)
      → its ≡ roles node.root.action
      → none ≡ []
      → old.informees ≡ its.informees
      → old.confirmers ≡ with_parties its.confirmers none
      → old.subviews ≡ NoRoots
      → start ≡ NoMore
      → IsWalked roles node.below old new start below
      → first ≡ node.root
      → tree_of (record { root = record { informees = new.informees; confirmers = new.confirmers; first = first; below = below }; below = new.subviews }) ≡ split roles (tree_of node)
  started node its none old new start below act given no_one told confirmed no_view empty h made =
      let e = its_informees roles node.root in
      let first = (roles node.root.action).confirmers in
      let rest = confirmers_in roles (inner (core_of roles e node.below)) in
      let are : old.informees ≡ e = told ∙ ap (λ (r : Roles). r.informees) given in
      let had : old.confirmers ≡ with_parties first [] = confirmed ∙ (λ i. with_parties (given i).confirmers (no_one i)) in
      let informees : new.informees ≡ e = h.informees ∙ are in
      let confirmers : new.confirmers ≡ with_parties (first ++ rest) [] =
      h.confirmers
      ∙ ((λ i. with_parties (confirmers_in roles (inner (core_of roles (are i) node.below))) (had i)) ∙ sym (with_parties-append first rest [])) in
      let children : below ≡ core_of roles e node.below = h.children ∙ (λ i. beside (empty i) (core_of roles (are i) node.below)) in
      let subviews : new.subviews ≡ split_below roles e node.below =
      h.subviews ∙ (λ i. join (no_view i) (split_below roles (are i) node.below)) in
      λ i. Root (record { informees = informees i; confirmers = confirmers i; first = made i; below = children i }) (subviews i) NoRoots

  -- the views of one root more
  pub split_more : (ns : List ActionNode) (i : ℕ) (n : ActionNode) (views new tree : Forest SplitView)
      → i < length ns → n ≡ get_or ns i n
      → views ≡ split roles (forest_of (take i ns))
      → tree ≡ split roles (tree_of n)
      → new ≡ join views tree
      → new ≡ split roles (forest_of (take (i + 1) ns))
  split_more ns i n views new tree within at so_far here put =
      put
      ∙ ((λ j. join (so_far j) (here j))
      ∙ (sym (split-join roles (forest_of (take i ns)) (tree_of n)) ∙ ap (split roles) (sym (taken_more ns i n within at))))
