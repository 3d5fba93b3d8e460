-- Views lie over what they are put back to, and none is lost.
use Rattle.std.proofs.Common.{◌≡◌, List, [], ◌∷◌, ◌++◌, map, refl, sym, ap, ◌∙◌, subst, inl, inr}
use Rattle.std.specs.Prelude.{ℕ}
use Rattle.std.proofs.lemmas.Bool.{cases_Bool}
use Rattle.ledger_terms.specs.declared.act.Act.{Act}
use Rattle.ledger_terms.specs.Forest.{Forest, NoRoots, Root, join, project, preorder}
use Rattle.ledger_terms.specs.declared.action.Action.{Action}
use Rattle.ledger_terms.proofs.Grow.{join-assoc, join-end}
use Rattle.ledger_model.specs.Terms.{PartySet}
use Rattle.ledger_model.specs.declared.roles.Roles.{Roles}
use Rattle.ledger_model.specs.Views.{its_informees, starts}
use Rattle.view_split.specs.Holed.{Holed}
use Rattle.view_split.specs.declared.split_view.SplitView.{SplitView}
use Rattle.view_split.specs.Split.{core_of, split_below, split}
use Rattle.view_split.specs.Numbered.{map_forest, core_in, held_in, with_cores}
use Rattle.view_split.proofs.Cores.{held_is, kept, plain}

module _ {A B : Type 0} (g : A → B) where
  pub map-append : (xs ys : List A) → map g (xs ++ ys) ≡ map g xs ++ map g ys
  map-append [] ys = refl
  map-append (x ∷ xs) ys = ap (λ (zs : List B). g x ∷ zs) (map-append xs ys)

  pub preorder-map : (f : Forest A) → preorder (map_forest g f) ≡ map g (preorder f)
  preorder-map NoRoots = refl
  preorder-map (Root root below others) =
      ap (λ (xs : List B). g root ∷ xs) ((λ i. preorder-map below i ++ preorder-map others i) ∙ sym (map-append (preorder below) (preorder others)))

-- each view has a tree
abbrev pub Fits : {V B : Type 0} → (V → Holed Act) → Forest V → Forest B → Type 0
Fits below_of NoRoots trees = Unit {0}
Fits below_of (Root view subviews others) NoRoots = ⊥
Fits below_of (Root view subviews others) (Root x children more) =
    Fits below_of subviews (held_in (below_of view) children) × Fits below_of others more

module _ {V B : Type 0} (below_of : V → Holed Act) where
  pub all_there : (v : Forest V) (t : Forest B) → Fits below_of v t → map_forest (λ (x : V × List B). x.0) (with_cores below_of v t) ≡ v
  all_there NoRoots t h = refl
  all_there (Root view subviews others) NoRoots h = absurd h
  all_there (Root view subviews others) (Root x children more) h =
      λ i. Root view (all_there subviews (held_in (below_of view) children) h.0 i) (all_there others more h.1 i)

module _ {V W B : Type 0} (below_of : W → Holed Act) (g : V → W) where
  pub fits_mapped : (v : Forest V) (t : Forest B) → Fits below_of (map_forest g v) t → Fits (λ x. below_of (g x)) v t
  fits_mapped NoRoots t h = tt
  fits_mapped (Root view subviews others) NoRoots h = absurd h
  fits_mapped (Root view subviews others) (Root x children more) h =
      (fits_mapped subviews (held_in (below_of (g view)) children) h.0, fits_mapped others more h.1)

  pub cores_mapped : (v : Forest V) (t : Forest B) → map_forest (λ (x : V × List B). (g x.0, x.1)) (with_cores (λ x. below_of (g x)) v t) ≡ with_cores below_of (map_forest g v) t
  cores_mapped NoRoots t = refl
  cores_mapped (Root view subviews others) NoRoots = refl
  cores_mapped (Root view subviews others) (Root x children more) =
      λ i. Root (g view, x ∷ core_in (below_of (g view)) children) (cores_mapped subviews (held_in (below_of (g view)) children) i) (cores_mapped others more i)

abbrev pub core_below_of : SplitView → Holed Act
core_below_of view = view.below

module _ (roles : Action → Roles) where
  fits_below : (e : PartySet) (f : Forest (ℕ × Act)) (more : Forest SplitView) (trees : Forest (ℕ × Act))
      → Fits core_below_of more trees
      → Fits core_below_of (join (split_below roles e (plain f)) more) (join (project (kept roles e) f) trees)
  fits_below e NoRoots more trees h = h
  fits_below e (Root a below others) more trees h =
      let ie = its_informees roles a.1 in
      elim (cases_Bool (starts roles e a.1)) [
        | inl new ↦ rw new (fits_alone ie below (fits_below ie below NoRoots NoRoots tt), fits_below e others more trees h)
        | inr old ↦ rw old
            (subst (λ (v : Forest SplitView). Fits core_below_of v (join (join (project (kept roles e) below) (project (kept roles e) others)) trees)) (sym (join-assoc (split_below roles e (plain below)) (split_below roles e (plain others)) more))
            (subst (λ (t : Forest (ℕ × Act)). Fits core_below_of (join (split_below roles e (plain below)) (join (split_below roles e (plain others)) more)) t) (sym (join-assoc (project (kept roles e) below) (project (kept roles e) others) trees))
            (fits_below e below (join (split_below roles e (plain others)) more) (join (project (kept roles e) others) trees) (fits_below e others more trees h))))
      ]
    where
      fits_alone : (e : PartySet) (f : Forest (ℕ × Act)) → Fits core_below_of (join (split_below roles e (plain f)) NoRoots) (join (project (kept roles e) f) NoRoots) → Fits core_below_of (split_below roles e (plain f)) (held_in (core_of roles e (plain f)) f)
      fits_alone e f h =
          subst (λ (v : Forest SplitView). Fits core_below_of v (held_in (core_of roles e (plain f)) f)) (join-end (split_below roles e (plain f)))
          (subst (λ (t : Forest (ℕ × Act)). Fits core_below_of (join (split_below roles e (plain f)) NoRoots) t) (join-end (project (kept roles e) f) ∙ sym (held_is roles e f)) h)

  pub fits_all : (f : Forest (ℕ × Act)) → Fits core_below_of (split roles (plain f)) f
  fits_all NoRoots = tt
  fits_all (Root a below others) =
      let ie = its_informees roles a.1 in
      let below_fits = fits_below ie below NoRoots NoRoots tt in (
        subst (λ (v : Forest SplitView). Fits core_below_of v (held_in (core_of roles ie (plain below)) below)) (join-end (split_below roles ie (plain below)))
            (subst (λ (t : Forest (ℕ × Act)). Fits core_below_of (join (split_below roles ie (plain below)) NoRoots) t) (join-end (project (kept roles ie) below) ∙ sym (held_is roles ie below)) below_fits),
        fits_all others,
      )
