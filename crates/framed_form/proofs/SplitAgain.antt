-- Views of the right structure, put back and split again.
use Rattle.std.proofs.Common.{◌≡◌, ℕ, zero, suc, ◌+◌, ◌≤◌, true, false, ◌∷◌, refl, sym, ap, ◌∙◌, subst, inl, inr, arith}
use Rattle.ledger_terms.specs.declared.act.Act.{Act}
use Rattle.ledger_terms.specs.declared.action.Action.{Action}
use Rattle.ledger_terms.specs.Parties.{set_of}
use Rattle.ledger_terms.specs.Roots.{trees_count}
use Rattle.ledger_terms.specs.Forest.{Forest, NoRoots, Root, join, roots_of}
use Rattle.ledger_model.specs.Terms.{PartySet}
use Rattle.ledger_model.specs.declared.roles.Roles.{Roles}
use Rattle.ledger_model.specs.Views.{its_informees, starts}
use Rattle.ledger_model.proofs.Lists.{In, in_append_left, in_append_right, contains_from_In}
use Rattle.view_split.specs.Holed.{Holed, NoMore, Inner, Hole, inner, holes, fill, after_holes}
use Rattle.view_split.specs.Filled.{AreFilled}
use Rattle.view_split.specs.declared.split_view.SplitView.{SplitView}
use Rattle.view_split.specs.Split.{assembled, confirmers_in, core_of, split, split_below, view_at}
use Rattle.framed_form.specs.Structure.{AreStructured}

-- the first n trees, and those after them
abbrev first_trees : {A : Type 0} → ℕ → Forest A → Forest A
first_trees zero f = NoRoots
first_trees (suc n) NoRoots = NoRoots
first_trees (suc n) (Root root below others) = Root root below (first_trees n others)

abbrev later_trees : {A : Type 0} → ℕ → Forest A → Forest A
later_trees zero f = f
later_trees (suc n) NoRoots = NoRoots
later_trees (suc n) (Root root below others) = later_trees n others

first_none : {A : Type 0} (n : ℕ) → first_trees {A = A} n NoRoots ≡ NoRoots
first_none zero = refl
first_none (suc n) = refl

later_none : {A : Type 0} (n : ℕ) → later_trees {A = A} n NoRoots ≡ NoRoots
later_none zero = refl
later_none (suc n) = refl

first_more : {A : Type 0} (n m : ℕ) (f : Forest A) → join (first_trees n f) (first_trees m (later_trees n f)) ≡ first_trees (n + m) f
first_more zero m f =
    let none : m ≡ 0 + m = omega arith in
    ap (λ (n : ℕ). first_trees n f) none
first_more (suc n) m NoRoots = first_none m ∙ sym (first_none (suc n + m))
first_more (suc n) m (Root root below others) =
    let more : suc (n + m) ≡ suc n + m = omega arith in
    ap (Root root below) (first_more n m others) ∙ ap (λ (k : ℕ). first_trees k (Root root below others)) more

later_more : {A : Type 0} (n m : ℕ) (f : Forest A) → later_trees m (later_trees n f) ≡ later_trees (n + m) f
later_more zero m f =
    let none : m ≡ 0 + m = omega arith in
    ap (λ (n : ℕ). later_trees n f) none
later_more (suc n) m NoRoots = later_none m ∙ sym (later_none (suc n + m))
later_more (suc n) m (Root root below others) =
    let more : suc (n + m) ≡ suc n + m = omega arith in
    later_more n m others ∙ ap (λ (k : ℕ). later_trees k (Root root below others)) more

all_trees : {A : Type 0} (f : Forest A) → first_trees (trees_count f) f ≡ f
all_trees NoRoots = refl
all_trees (Root root below others) = ap (Root root below) (all_trees others)

left_count : {A : Type 0} (n m : ℕ) (f : Forest A) → n + m ≤ trees_count f → m ≤ trees_count (later_trees n f)
left_count zero m f h = omega (arith, h)
left_count (suc n) m NoRoots h = absurd (omega (arith, h))
left_count (suc n) m (Root root below others) h = left_count n m others (omega (arith, h))

module _ (roles : Action → Roles) where
  -- each root is split again from what it is put back to
  abbrev Again : Forest SplitView → Type 0
  Again NoRoots = Unit {0}
  Again (Root view subviews others) =
      (view_at roles view.first (fill view.below (assembled subviews)) ≡ view)
      × (split_below roles (its_informees roles view.first) (fill view.below (assembled subviews)) ≡ subviews)
      × Again others

  module _ (e : PartySet) where
    -- each root starts a view
    abbrev Start : Forest SplitView → Type 0
    Start NoRoots = Unit {0}
    Start (Root view subviews others) = (starts roles e view.first ≡ true) × Start others

    -- no action of the core does
    abbrev Stay : Holed Act → Type 0
    Stay NoMore = Unit {0}
    Stay (Inner act below others) = (starts roles e act ≡ false) × Stay below × Stay others
    Stay (Hole others) = Stay others

    start_later : (n : ℕ) (s : Forest SplitView) → Start s → Start (later_trees n s)
    start_later zero s h = h
    start_later (suc n) NoRoots h = tt
    start_later (suc n) (Root view subviews others) h = start_later n others h.1

    again_later : (n : ℕ) (s : Forest SplitView) → Again s → Again (later_trees n s)
    again_later zero s h = h
    again_later (suc n) NoRoots h = tt
    again_later (suc n) (Root view subviews others) h = again_later n others h.2

    abbrev Splits : Holed Act → Forest SplitView → Type 0
    Splits h s =
        (core_of roles e (fill h (assembled s)) ≡ h)
        × (split_below roles e (fill h (assembled s)) ≡ first_trees (holes h) s)
        × (after_holes h (assembled s) ≡ assembled (later_trees (holes h) s))

    splits : (h : Holed Act) (s : Forest SplitView) → Stay h → Start s → Again s → holes h ≤ trees_count s → Splits h s
    splits NoMore s stay start again few = (refl, refl, refl)
    splits (Inner act below others) s stay start again few =
        let n = holes below in
        let m = holes others in
        let here = splits below s stay.1 start again (omega (arith, few)) in
        let rest = splits others (later_trees n s) stay.2 (start_later n s start) (again_later n s again) (left_count n m s few) in
        let taken : fill others (after_holes below (assembled s)) ≡ fill others (assembled (later_trees n s)) = ap (fill others) here.2 in
        let core : core_of roles e (fill others (after_holes below (assembled s))) ≡ others = ap (core_of roles e) taken ∙ rest.0 in
        let views : split_below roles e (fill others (after_holes below (assembled s))) ≡ first_trees m (later_trees n s) = ap (split_below roles e) taken ∙ rest.1 in (
          rw (stay.0) (λ i. Inner act (here.0 i) (core i)),
          rw (stay.0) ((λ i. join (here.1 i) (views i)) ∙ first_more n m s),
          ap (after_holes others) here.2 ∙ (rest.2 ∙ ap assembled (later_more n m s)),
        )
    splits (Hole others) NoRoots stay start again few = absurd (omega (arith, few))
    splits (Hole others) (Root view subviews more) stay start again few =
        let rest = splits others more stay start.1 again.2 (omega (arith, few)) in (
          rw (start.0) (ap Hole rest.0),
          rw (start.0) (λ i. Root (again.0 i) (again.1 i) (rest.1 i)),
          rest.2,
        )

    stay_from : (h : Holed Act) → ((a : Act) → In a (inner h) → starts roles e a ≡ false) → Stay h
    stay_from NoMore f = tt
    stay_from (Inner act below others) f =
        (f act (inl refl), stay_from below (λ a h. f a (inr (in_append_left (inner below) (inner others) a h))), stay_from others (λ a h. f a (inr (in_append_right (inner below) (inner others) a h))))
    stay_from (Hole others) f = stay_from others f

    start_from : (s : Forest SplitView) → ((v : SplitView) → In v (roots_of s) → starts roles e v.first ≡ true) → Start s
    start_from NoRoots f = tt
    start_from (Root view subviews others) f = (f view (inl refl), start_from others (λ v h. f v (inr h)))

  again : (views : Forest SplitView) → AreFilled views → AreStructured roles views → Again views
  again NoRoots filled right = tt
  again (Root view subviews others) filled right =
      let here = right.0 in
      let e = view.informees in
      let few : holes view.below ≤ trees_count subviews = omega (arith, filled.0) in
      let parts = splits e view.below subviews
      (stay_from e view.below (λ a h. here.inside a (contains_from_In (inner view.below) a h)))
      (start_from e subviews (λ v h. here.below v (contains_from_In (roots_of subviews) v h)))
      (again subviews filled.1 right.1) few in
      let core : core_of roles (its_informees roles view.first) (fill view.below (assembled subviews)) ≡ view.below =
      subst (λ (p : PartySet). core_of roles p (fill view.below (assembled subviews)) ≡ view.below) here.informees parts.0 in
      let below : split_below roles (its_informees roles view.first) (fill view.below (assembled subviews)) ≡ subviews =
      subst (λ (p : PartySet). split_below roles p (fill view.below (assembled subviews)) ≡ subviews) here.informees
      (parts.1 ∙ (ap (λ (n : ℕ). first_trees n subviews) filled.0 ∙ all_trees subviews)) in (
        (λ i. record {
          informees = sym here.informees i;
          confirmers = set_of (confirmers_in roles (view.first ∷ inner (core i)));
          first = view.first;
          below = core i;
        })
            ∙ (λ i. record { informees = view.informees; confirmers = sym here.confirmers i; first = view.first; below = view.below }),
        below,
        again others filled.2 right.2,
      )

  of_again : (views : Forest SplitView) → Again views → split roles (assembled views) ≡ views
  of_again NoRoots h = refl
  of_again (Root view subviews others) h = λ i. Root (h.0 i) (h.1 i) (of_again others h.2 i)

  pub split_again_by : (views : Forest SplitView) → AreFilled views → AreStructured roles views → split roles (assembled views) ≡ views
  split_again_by views filled right = of_again views (again views filled right)

pub split_again : (roles : Action → Roles) (views : Forest SplitView) → AreFilled views → AreStructured roles views → split roles (assembled views) ≡ views
split_again roles views filled right = split_again_by roles views filled right
