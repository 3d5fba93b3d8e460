-- In opened trees in which each hole has a view, what stands directly below an action of a core is of the core, or begins a view
-- directly below it.
use Rattle.std.proofs.Common.{◌≡◌, ◌≤◌, ℕ, suc, ◌+◌, true, false, List, [], ◌∷◌, ◌++◌, map, length, Some, refl, sym, ap, ◌∙◌, subst, inl, inr, arith}
use Rattle.std.specs.Prelude.{All, Contains, filter, flat_map, slice_get}
use Rattle.std.proofs.lemmas.Bool.{cases_Bool, both_ways}
use Rattle.std.proofs.lemmas.List.{map-append}
use Rattle.std.proofs.lemmas.List.Elements.{All-cons, All-contains, All-nil}
use Rattle.std.proofs.lemmas.Option.{same_Some}
use Rattle.ledger_terms.specs.declared.act.Act.{Act}
use Rattle.ledger_terms.specs.Forest.{Forest, NoRoots, Root, below_at, join, number_from, paths_from, preorder, roots_of, size}
use Rattle.ledger_terms.specs.Roots.{trees_count}
use Rattle.ledger_terms.specs.Trees.{Actions}
use Rattle.ledger_terms.proofs.Grow.{join-assoc, join-end}
use Rattle.ledger_model.specs.Forest.{acts, trees_of}
use Rattle.ledger_model.specs.Opening.{OpenedView, Shown}
use Rattle.ledger_model.specs.Terms.{Path, instance_of}
use Rattle.ledger_model.proofs.Lists.{In, contains_from_In, in_append_cases, in_append_left, in_append_right, in_from_Contains}
use Rattle.canton_model.specs.Checks.{first_act, is_directly_below, subview_starts}
use Rattle.lang_eval.specs.Found.{Packages}
use Rattle.lang_eval.specs.Language.{has_roles}
use Rattle.wire_form.specs.Spellable.{IsSpellableInstance}
use Rattle.view_split.specs.Filled.{AreFilled}
use Rattle.view_split.specs.Holed.{Holed, NoMore, Inner, Hole, after_holes, fill, holes}
use Rattle.view_split.specs.Numbered.{core_in, held_in, map_forest, with_cores}
use Rattle.view_split.specs.Placed.{placed_forest, shown_by}
use Rattle.view_split.specs.SeenViews.{opened_as, placed_numbered, put_back}
use Rattle.view_split.specs.Split.{assembled}
use Rattle.view_split.specs.declared.opened_tree.OpenedTree.{OpenedTree}
use Rattle.view_split.specs.declared.placed_view.PlacedView.{PlacedView}
use Rattle.view_split.specs.declared.split_view.SplitView.{SplitView}
use Rattle.view_split.proofs.Cores.{plain, plain_numbered}
use Rattle.view_split.proofs.Sight.{map_join}
use Rattle.confirm_reply.specs.Opened.{AllHaveRoles, CanBeChecked, acts_of_core}
use Rattle.confirm_reply.proofs.Checkable.{all_spelled}
use Rattle.confirm_reply.proofs.Checked.{core_in_place, each_from_all}
use Rattle.confirm_reply.proofs.Placed.{EachIn, StandsIn, Tree, at_left, at_right, below_stands, trees_counted}
use Rattle.confirm_reply.proofs.StartsFound.{below_same}

abbrev Numbered : Type 0
Numbered = ℕ × Act

abbrev Placed : Type 0
Placed = Path × SplitView

abbrev NumberedView : Type 0
NumberedView = Placed × List Numbered

abbrev bare : Forest Placed → Forest SplitView
bare = map_forest (λ (v : Placed). v.1)

abbrev laid : Forest Placed → Forest Numbered → Forest NumberedView
laid views trees = with_cores (λ (v : Placed). (v.1).below) views trees

-- ---- what holes take is what stands there again

count_after : (h : Holed Act) (trees : Forest Act) → holes h ≤ trees_count trees → holes h + trees_count (after_holes h trees) ≡ trees_count trees
count_after NoMore trees enough = omega arith
count_after (Inner act below others) trees enough =
    let b = count_after below trees (omega (arith, enough)) in
    let o = count_after others (after_holes below trees) (omega (arith, enough, b)) in
    omega (arith, b, o)
count_after (Hole others) NoRoots enough = absurd (omega (arith, enough))
count_after (Hole others) (Root act children more) enough = let o = count_after others more (omega (arith, enough)) in omega (arith, o)

abbrev below_in : Forest Act → Forest Act
below_in NoRoots = NoRoots
below_in (Root act below others) = below

abbrev others_in : Forest Act → Forest Act
others_in NoRoots = NoRoots
others_in (Root act below others) = others

abbrev act_or : Act → Forest Act → Act
act_or other NoRoots = other
act_or other (Root act below others) = act

abbrev some_root : Forest Act → ℕ
some_root NoRoots = 0
some_root (Root act below others) = 1

-- a core lies over trees of its shape
abbrev Fits : Holed Act → Forest Numbered → Type 0
Fits NoMore NoRoots = Unit {0}
Fits NoMore (Root x children more) = ⊥
Fits (Inner act below others) NoRoots = ⊥
Fits (Inner act below others) (Root x children more) = Fits below children × Fits others more
Fits (Hole others) NoRoots = ⊥
Fits (Hole others) (Root x children more) = Fits others more

record Filling (h : Holed Act) (trees : Forest Act) (f : Forest Numbered) : Type 0 where
  fits : Fits h f
  held : join (plain (held_in h f)) (after_holes h trees) ≡ trees

filling : (h : Holed Act) (trees : Forest Act) (f : Forest Numbered) → holes h ≤ trees_count trees → plain f ≡ fill h trees → Filling h trees f
filling NoMore trees NoRoots enough same = record { fits = tt; held = refl }
filling NoMore trees (Root x children more) enough same = absurd (let e = ap some_root same in omega (arith, e))
filling (Inner act below others) trees NoRoots enough same = absurd (let e = ap some_root same in omega (arith, e))
filling (Inner act below others) trees (Root x children more) enough same =
    let c = count_after below trees (omega (arith, enough)) in
    let b = filling below trees children (omega (arith, enough)) (ap below_in same) in
    let o = filling others (after_holes below trees) more (omega (arith, enough, c)) (ap others_in same) in
    record {
      fits = (b.fits, o.fits);
      held = ap (λ (g : Forest Act). join g (after_holes others (after_holes below trees))) (map_join (λ (a : Numbered). a.1) (held_in below children) (held_in others more))
          ∙ (join-assoc (plain (held_in below children)) (plain (held_in others more)) (after_holes others (after_holes below trees))
          ∙ (ap (join (plain (held_in below children))) o.held ∙ b.held));
    }
filling (Hole others) NoRoots f enough same = absurd (omega (arith, enough))
filling (Hole others) (Root act children more) NoRoots enough same = absurd (let e = ap some_root same in omega (arith, e))
filling (Hole others) (Root act children more) (Root x below rest) enough same =
    let o = filling others more rest (omega (arith, enough)) (ap others_in same) in
    record {
      fits = o.fits;
      held = λ i. Root (act_or x.1 (same i)) (below_in (same i)) (o.held i);
    }

none_left : (f : Forest Act) → trees_count f ≡ 0 → f ≡ NoRoots
none_left NoRoots none = refl
none_left (Root act below others) none = absurd (omega (arith, none))

count_bare : (views : Forest Placed) → trees_count (put_back views) ≡ trees_count (bare views)
count_bare NoRoots = refl
count_bare (Root view subviews others) = ap suc (count_bare others)

count_plain : (f : Forest Numbered) → trees_count (plain f) ≡ trees_count f
count_plain NoRoots = refl
count_plain (Root x children more) = ap suc (count_plain more)

-- of a view with as many holes as views below it
record Below (h : Holed Act) (subviews : Forest Placed) (children : Forest Numbered) : Type 0 where
  fits : Fits h children
  held : plain (held_in h children) ≡ put_back subviews

below_view : (h : Holed Act) (subviews : Forest Placed) (children : Forest Numbered) → holes h ≡ trees_count (bare subviews) → plain children ≡ fill h (put_back subviews)
    → Below h subviews children
below_view h subviews children filled same =
    let all = put_back subviews in
    let count : holes h ≡ trees_count all = filled ∙ sym (count_bare subviews) in
    let f = filling h all children (omega (arith, count)) same in
    let c = count_after h all (omega (arith, count)) in
    let none : after_holes h all ≡ NoRoots = none_left (after_holes h all) (omega (arith, c, count)) in
    record { fits = f.fits; held = sym (join-end (plain (held_in h children))) ∙ (ap (join (plain (held_in h children))) (sym none) ∙ f.held) }

-- ---- the tree at each number

abbrev EachTree : (Numbered → Forest Numbered → Type 0) → Forest Numbered → Type 0
EachTree Q NoRoots = Unit {0}
EachTree Q (Root x below others) = Q x below × EachTree Q below × EachTree Q others

-- what stands at its number in the trees is this
abbrev IsAt : List Tree → Numbered → Forest Numbered → Type 0
IsAt all x below = slice_get all x.0 ≡ Some (x.1, plain below)

all_at : (all : List Tree) (n : ℕ) (f : Actions) → ((i : ℕ) (t : Tree) → slice_get (trees_of f) i ≡ Some t → slice_get all (n + i) ≡ Some t)
    → EachTree (IsAt all) (number_from n f)
all_at all n NoRoots there = tt
all_at all n (Root act below others) there =
    let at : (i k : ℕ) (t : Tree) → n + i ≡ k → slice_get (trees_of (Root act below others)) i ≡ Some t → slice_get all k ≡ Some t =
    λ i k t same e. subst (λ (m : ℕ). slice_get all m ≡ Some t) same (there i t e) in (
      at 0 n (act, plain (number_from (suc n) below)) (omega arith) (ap (λ (f : Actions). Some (act, f)) (sym (plain_numbered (suc n) below))),
      all_at all (suc n) below (λ i t e. at (suc i) (suc n + i) t (omega arith) (at_left (trees_of below) (trees_of others) i t e)),
      all_at all (suc n + size below) others (λ i t e.
          at (suc (length (trees_of below) + i)) (suc n + size below + i) t (let c = trees_counted below in omega (arith, c)) (at_right (trees_of below) (trees_of others) i t e)),
    )

held_at : (Q : Numbered → Forest Numbered → Type 0) (f g : Forest Numbered) → EachTree Q f → EachTree Q g → EachTree Q (join f g)
held_at Q NoRoots g a b = b
held_at Q (Root x below others) g a b = (a.0, a.1, held_at Q others g a.2 b)

held_trees : (Q : Numbered → Forest Numbered → Type 0) (h : Holed Act) (f : Forest Numbered) → EachTree Q f → EachTree Q (held_in h f)
held_trees Q NoMore f e = tt
held_trees Q (Inner act below others) NoRoots e = tt
held_trees Q (Inner act below others) (Root x children more) e =
    held_at Q (held_in below children) (held_in others more) (held_trees Q below children e.1) (held_trees Q others more e.2)
held_trees Q (Hole others) NoRoots e = tt
held_trees Q (Hole others) (Root x children more) e = (e.0, e.1, held_trees Q others more e.2)

-- ---- what stands directly below a core's actions

left_part : {X : Type 0} (P : X → Type 0) (xs ys : List X) → EachIn P (xs ++ ys) → EachIn P xs
left_part P [] ys e = tt
left_part P (x ∷ xs) ys e = (e.0, left_part P xs ys e.1)

right_part : {X : Type 0} (P : X → Type 0) (xs ys : List X) → EachIn P (xs ++ ys) → EachIn P ys
right_part P [] ys e = e
right_part P (x ∷ xs) ys e = right_part P xs ys e.1

parts_together : {X : Type 0} (P : X → Type 0) (xs ys : List X) → EachIn P xs → EachIn P ys → EachIn P (xs ++ ys)
parts_together P [] ys a b = b
parts_together P (x ∷ xs) ys a b = (a.0, parts_together P xs ys a.1 b)

roots_join : (f g : Forest Numbered) → roots_of (join f g) ≡ roots_of f ++ roots_of g
roots_join NoRoots g = refl
roots_join (Root x below others) g = ap (λ (xs : List Numbered). x ∷ xs) (roots_join others g)

plain_roots : (P : Act → Type 0) (f : Forest Numbered) → EachIn (λ (x : Numbered). P x.1) (roots_of f) → EachIn P (roots_of (plain f))
plain_roots P NoRoots e = tt
plain_roots P (Root x below others) e = (e.0, plain_roots P others e.1)

module _ (P : Act → Type 0) (all : List Tree) where
  abbrev On : Numbered → Type 0
  On x = P x.1

  -- what stands at its number has such actions directly below it
  abbrev Kids : Numbered → Type 0
  Kids x = (below : Actions) × (slice_get all x.0 ≡ Some (x.1, below)) × EachIn P (roots_of below)

  roots_on : (h : Holed Act) (f : Forest Numbered) → Fits h f → EachIn On (core_in h f) → EachIn On (roots_of (held_in h f)) → EachIn On (roots_of f)
  roots_on NoMore NoRoots fits core held = tt
  roots_on NoMore (Root x children more) fits core held = absurd fits
  roots_on (Inner act below others) NoRoots fits core held = absurd fits
  roots_on (Inner act below others) (Root x children more) fits core held =
      let apart = subst (EachIn On) (roots_join (held_in below children) (held_in others more)) held in (
        core.0,
        roots_on others more fits.1 (right_part On (core_in below children) (core_in others more) core.1)
            (right_part On (roots_of (held_in below children)) (roots_of (held_in others more)) apart),
      )
  roots_on (Hole others) NoRoots fits core held = absurd fits
  roots_on (Hole others) (Root x children more) fits core held = (held.0, roots_on others more fits core held.1)

  kids_on : (h : Holed Act) (f : Forest Numbered) → Fits h f → EachTree (IsAt all) f → EachIn On (core_in h f) → EachIn On (roots_of (held_in h f))
      → EachIn Kids (core_in h f)
  kids_on NoMore f fits at core held = tt
  kids_on (Inner act below others) NoRoots fits at core held = tt
  kids_on (Inner act below others) (Root x children more) fits at core held =
      let apart = subst (EachIn On) (roots_join (held_in below children) (held_in others more)) held in
      let inside = left_part On (core_in below children) (core_in others more) core.1 in
      let first = left_part On (roots_of (held_in below children)) (roots_of (held_in others more)) apart in (
        (plain children, at.0, plain_roots P children (roots_on below children fits.0 inside first)),
        parts_together Kids (core_in below children) (core_in others more) (kids_on below children fits.0 at.1 inside first)
            (kids_on others more fits.1 at.2 (right_part On (core_in below children) (core_in others more) core.1)
            (right_part On (roots_of (held_in below children)) (roots_of (held_in others more)) apart)),
      )
  kids_on (Hole others) NoRoots fits at core held = tt
  kids_on (Hole others) (Root x children more) fits at core held = kids_on others more fits at.2 core held.1

  -- ---- the views directly below one

  abbrev First : List Numbered → Type 0
  First [] = Unit {0}
  First (a ∷ core) = On a

  -- such actions begin the views directly below this path
  abbrev Begin : Path → List NumberedView → Type 0
  Begin path views = (w : NumberedView) → In w views → is_directly_below path (w.0).0 ≡ true → First w.1

  firsts_on : (above : Path) (k : ℕ) (subviews : Forest SplitView) (held : Forest Numbered) → trees_count held ≡ trees_count subviews
      → Begin above (preorder (laid (paths_from above k subviews) held)) → EachIn On (roots_of held)
  firsts_on above k subviews NoRoots count begin = tt
  firsts_on above k NoRoots (Root x children more) count begin = absurd (omega (arith, count))
  firsts_on above k (Root view subviews others) (Root x children more) count begin =
      let path = above ++ k ∷ [] in
      let held = held_in view.below children in
      let inside = preorder (laid (paths_from path 0 subviews) held) in
      let after = preorder (laid (paths_from above (suc k) others) more) in (
        begin ((path, view), x ∷ core_in view.below children) (inl refl) (below_same above k),
        firsts_on above (suc k) others more (omega (arith, count)) (λ w i d. begin w (inr (in_append_right inside after w i)) d),
      )

  -- each view's path is the front of those below it
  abbrev Extends : Forest Placed → Type 0
  Extends NoRoots = Unit {0}
  Extends (Root view subviews others) = ((below : Forest SplitView) × (paths_from view.0 0 below ≡ subviews)) × Extends subviews × Extends others

  count_paths : (above : Path) (k : ℕ) (f : Forest SplitView) → trees_count (bare (paths_from above k f)) ≡ trees_count f
  count_paths above k NoRoots = refl
  count_paths above k (Root view subviews others) = ap suc (count_paths above (suc k) others)

  views_on : (views : Forest Placed) (trees : Forest Numbered) → Extends views → AreFilled (bare views) → plain trees ≡ put_back views
      → EachTree (IsAt all) trees → (v : NumberedView) → In v (preorder (laid views trees)) → EachIn On v.1
      → Begin (v.0).0 (preorder (laid views trees)) → EachIn Kids v.1
  views_on NoRoots trees extends filled same at v i core begin = absurd i
  views_on (Root view subviews others) NoRoots extends filled same at v i core begin = absurd i
  views_on (Root view subviews others) (Root x children more) extends filled same at v (inl here) core begin =
      let h = (view.1).below in
      let own : List Numbered = x ∷ core_in h children in
      let b = below_view h subviews children filled.0 (ap below_in same) in
      let held = held_in h children in
      let under = (extends.0).0 in
      let paths = (extends.0).1 in
      let inside = preorder (laid subviews held) in
      let after = preorder (laid others more) in
      let mine : EachIn On own = subst (λ (w : NumberedView). EachIn On w.1) (sym here) core in
      let count : trees_count held ≡ trees_count under =
      sym (count_plain held) ∙ (ap trees_count b.held ∙ (count_bare subviews ∙ (ap (λ (f : Forest Placed). trees_count (bare f)) (sym paths) ∙ count_paths view.0 0 under))) in
      let starts : Begin view.0 inside = λ w j d.
      begin w (inr (in_append_left inside after w j)) (subst (λ (u : NumberedView). is_directly_below (u.0).0 (w.0).0 ≡ true) here d) in
      let roots = firsts_on view.0 0 under held count (subst (λ (f : Forest Placed). Begin view.0 (preorder (laid f held))) (sym paths) starts) in
      subst (λ (w : NumberedView). EachIn Kids w.1) here (
        (plain children, at.0, plain_roots P children (roots_on h children b.fits mine.1 roots)),
        kids_on h children b.fits at.1 mine.1 roots,
      )
  views_on (Root view subviews others) (Root x children more) extends filled same at v (inr later) core begin =
      let h = (view.1).below in
      let held = held_in h children in
      let inside = preorder (laid subviews held) in
      let after = preorder (laid others more) in
      elim (in_append_cases inside after v later) [
        | inl i ↦
            views_on subviews held extends.1 filled.1 (below_view h subviews children filled.0 (ap below_in same)).held (held_trees (IsAt all) h children at.1)
            v i core (λ w j d. begin w (inr (in_append_left inside after w j)) d)
        | inr i ↦ views_on others more extends.2 filled.2 (ap others_in same) at.2 v i core (λ w j d. begin w (inr (in_append_right inside after w j)) d)
      ]

  paths_extend : (above : Path) (k : ℕ) (f : Forest SplitView) → Extends (paths_from above k f)
  paths_extend above k NoRoots = tt
  paths_extend above k (Root view subviews others) =
      let path = above ++ k ∷ [] in ((subviews, refl), paths_extend path 0 subviews, paths_extend above (suc k) others)

  placed_extend : (ps : List PlacedView) → Extends (placed_forest ps)
  placed_extend [] = tt
  placed_extend (p ∷ ps) = (((p.view).below, refl), paths_extend p.path 0 (p.view).below, placed_extend ps)

-- ---- in what is opened

in_mapped : (vs : List NumberedView) (view : OpenedView) → In view (map opened_as vs) → (v : NumberedView) × In v vs × (opened_as v ≡ view)
in_mapped [] view i = absurd i
in_mapped (v ∷ vs) view (inl same) = (v, inl refl, same)
in_mapped (v ∷ vs) view (inr i) = let r = in_mapped vs view i in (r.0, inr r.1, r.2)

abbrev starting : Path → List OpenedView → List Act
starting path vs = flat_map (λ (o : OpenedView). first_act o.core) (filter (λ (o : OpenedView). is_directly_below path o.path) vs)

-- what begins the first of these, and what begins the rest
starting_first : (P : Act → Type 0) (path : Path) (v : OpenedView) (vs : List OpenedView) → is_directly_below path v.path ≡ true
    → EachIn P (starting path (v ∷ vs)) → EachIn P (first_act v.core)
starting_first P path v vs below e = let here : EachIn P (first_act v.core ++ starting path vs) = rw below at e in left_part P (first_act v.core) (starting path vs) here

starting_rest : (P : Act → Type 0) (path : Path) (v : OpenedView) (vs : List OpenedView) → EachIn P (starting path (v ∷ vs)) → EachIn P (starting path vs)
starting_rest P path v vs e =
    elim (cases_Bool (is_directly_below path v.path)) [
      | inl below ↦ let here : EachIn P (first_act v.core ++ starting path vs) = rw below at e in right_part P (first_act v.core) (starting path vs) here
      | inr aside ↦ rw aside at e
    ]

first_of_starts : (P : Act → Type 0) (path : Path) (vs : List OpenedView) → EachIn P (starting path vs)
    → (w : OpenedView) → In w vs → is_directly_below path w.path ≡ true → EachIn P (first_act w.core)
first_of_starts P path [] e w i d = absurd i
first_of_starts P path (v ∷ vs) e w (inl same) d =
    subst (λ (o : OpenedView). EachIn P (first_act o.core)) same
    (starting_first P path v vs (ap (λ (o : OpenedView). is_directly_below path o.path) same ∙ d) e)
first_of_starts P path (v ∷ vs) e w (inr i) d = first_of_starts P path vs (starting_rest P path v vs e) w i d

first_from : (P : Act → Type 0) (all : List Tree) (core : List Numbered) → EachIn P (first_act core) → First P all core
first_from P all [] e = tt
first_from P all (a ∷ core) e = e.0

from_acts : (P : Act → Type 0) (core : List Numbered) → EachIn P (acts_of_core core) → EachIn (λ (a : Numbered). P a.1) core
from_acts P [] e = tt
from_acts P (a ∷ core) e = (e.0, from_acts P core e.1)

in_map : (vs : List NumberedView) (v : NumberedView) → In v vs → In (opened_as v) (map opened_as vs)
in_map [] v i = absurd i
in_map (w ∷ vs) v (inl same) = inl (ap opened_as same)
in_map (w ∷ vs) v (inr i) = inr (in_map vs v i)

all_of : {X : Type 0} (P : X → Type 0) (xs : List X) → EachIn P xs → All P xs
all_of P [] e = All-nil P
all_of P (x ∷ xs) e = All-cons P x xs e.0 (all_of P xs e.1)

kids_below : (packages : Packages) (roots : Actions) (core : List Numbered)
    → EachIn (Kids (λ (act : Act). has_roles packages act.action ≡ true) (trees_of roots)) core
    → All (λ (a : Numbered). AllHaveRoles packages (roots_of (below_at a.0 roots))) core
kids_below packages roots [] e = All-nil (λ (a : Numbered). AllHaveRoles packages (roots_of (below_at a.0 roots)))
kids_below packages roots (a ∷ core) e =
    let P : Act → Type 0 = λ act. has_roles packages act.action ≡ true in
    let kid = e.0 in
    let stands : below_at a.0 roots ≡ kid.0 = below_stands roots a.0 (a.1, kid.0) kid.1 in
    All-cons (λ (x : Numbered). AllHaveRoles packages (roots_of (below_at x.0 roots))) a core
    (subst (λ (f : Actions). AllHaveRoles packages (roots_of f)) (sym stands) (all_of P (roots_of kid.0) kid.2))
    (kids_below packages roots core e.1)

module _ (packages : Packages) (tree : OpenedTree) (filled : AreFilled (bare (placed_forest tree.views))) where
  abbrev P : Act → Type 0
  P act = has_roles packages act.action ≡ true

  abbrev roots : Actions
  roots = put_back (placed_forest tree.views)

  abbrev numbered_views : List NumberedView
  numbered_views = preorder (placed_numbered (placed_forest tree.views))

  covered : (v : NumberedView) → In v numbered_views → AllHaveRoles packages (acts_of_core v.1 ++ subview_starts (shown_by tree) (opened_as v))
      → All (λ (a : Numbered). AllHaveRoles packages (roots_of (below_at a.0 roots))) v.1
  covered v i own =
      let starts = subview_starts (shown_by tree) (opened_as v) in
      let each = each_from_all P (acts_of_core v.1 ++ starts) own in
      let begin : Begin P (trees_of roots) (v.0).0 numbered_views = λ w j d.
      first_from P (trees_of roots) w.1
      (first_of_starts P (v.0).0 (map opened_as numbered_views) (right_part P (acts_of_core v.1) starts each) (opened_as w) (in_map numbered_views w j) d) in
      kids_below packages roots v.1
      (views_on P (trees_of roots) (placed_forest tree.views) (number_from 0 roots) (placed_extend P (trees_of roots) tree.views) filled (plain_numbered 0 roots)
      (all_at (trees_of roots) 0 roots (λ k t e. subst (λ (m : ℕ). slice_get (trees_of roots) m ≡ Some t) (omega arith) e))
      v i (from_acts P v.1 (left_part P (acts_of_core v.1) starts each)) begin)

pub filled_can_be : (packages : Packages) (tree : OpenedTree) (view : OpenedView) → Contains (shown_by tree).views view
    → AreFilled (map_forest (λ (v : Path × SplitView). v.1) (placed_forest tree.views))
    → All (λ (act : Act). IsSpellableInstance (instance_of act.action)) (acts (shown_by tree).roots)
    → length view.core ≤ 65536 → CanBeChecked packages (shown_by tree) view
filled_can_be packages tree view there filled spelled few =
    let views = preorder (placed_numbered (placed_forest tree.views)) in
    let found = in_mapped views view (in_from_Contains (shown_by tree).views view there) in
    record {
      spellable = all_spelled packages (shown_by tree).roots spelled view.core
          (core_in_place tree view (in_from_Contains (shown_by tree).views view there));
      few = few;
      below = subst (λ (v : OpenedView). AllHaveRoles packages (acts_of_core v.core ++ subview_starts (shown_by tree) v)
          → All (λ (a : Numbered). AllHaveRoles packages (roots_of (below_at a.0 (shown_by tree).roots))) v.core) found.2
          (covered packages tree filled found.0 found.1);
    }
