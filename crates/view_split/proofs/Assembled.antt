-- Views put back.
use Rattle.std.proofs.Common.{◌≡◌, ℕ, zero, suc, refl, sym, ap, ◌∙◌, inl, inr}
use Rattle.std.specs.Prelude.{Some}
use Rattle.std.proofs.lemmas.Bool.{cases_Bool}
use Rattle.std.proofs.lemmas.Option.{same_Some, none-some}
use Rattle.ledger_terms.specs.declared.act.Act.{Act}
use Rattle.ledger_terms.specs.Forest.{Forest, NoRoots, Root, join, project}
use Rattle.ledger_terms.specs.Roots.{tree_at}
use Rattle.ledger_terms.specs.declared.action.Action.{Action}
use Rattle.ledger_terms.proofs.Grow.{join-assoc, join-end}
use Rattle.ledger_model.specs.Terms.{PartySet}
use Rattle.ledger_model.specs.declared.roles.Roles.{Roles}
use Rattle.ledger_model.specs.Views.{its_informees, starts}
use Rattle.view_split.specs.Holed.{after_holes, fill}
use Rattle.view_split.specs.declared.split_view.SplitView.{SplitView}
use Rattle.view_split.specs.Split.{core_of, view_at, split_below, split, assembled}

pub assembled-join : (v w : Forest SplitView) → assembled (join v w) ≡ join (assembled v) (assembled w)
assembled-join NoRoots w = refl
assembled-join (Root view subviews others) w = ap (Root view.first (fill view.below (assembled subviews))) (assembled-join others w)

module _ (roles : Action → Roles) where
  -- The trees that start a view below these informees are just what fills the holes.
  pub after_core : (e : PartySet) (f r : Forest Act) → after_holes (core_of roles e f) (join (project (starts roles e) f) r) ≡ r
  after_core e NoRoots r = refl
  after_core e (Root act below others) r =
      elim (cases_Bool (starts roles e act)) [
        | inl new ↦ rw new (after_core e others r)
        | inr old ↦ rw old
            (ap (λ (t : Forest Act). after_holes (core_of roles e others) (after_holes (core_of roles e below) t)) (join-assoc (project (starts roles e) below) (project (starts roles e) others) r)
            ∙ (ap (after_holes (core_of roles e others)) (after_core e below (join (project (starts roles e) others) r)) ∙ after_core e others r))
      ]

  pub fill_core : (e : PartySet) (f r : Forest Act) → fill (core_of roles e f) (join (project (starts roles e) f) r) ≡ f
  fill_core e NoRoots r = refl
  fill_core e (Root act below others) r =
      elim (cases_Bool (starts roles e act)) [
        | inl new ↦ rw new (ap (Root act below) (fill_core e others r))
        | inr old ↦ rw old
            (ap (λ (t : Forest Act). Root act (fill (core_of roles e below) t) (fill (core_of roles e others) (after_holes (core_of roles e below) t))) (join-assoc (project (starts roles e) below) (project (starts roles e) others) r)
            ∙ (ap (λ (t : Forest Act). Root act t (fill (core_of roles e others) (after_holes (core_of roles e below) (join (project (starts roles e) below) (join (project (starts roles e) others) r))))) (fill_core e below (join (project (starts roles e) others) r))
            ∙ (ap (λ (t : Forest Act). Root act below (fill (core_of roles e others) t)) (after_core e below (join (project (starts roles e) others) r))
            ∙ ap (Root act below) (fill_core e others r))))
      ]

  fill_core_alone : (e : PartySet) (f : Forest Act) → fill (core_of roles e f) (project (starts roles e) f) ≡ f
  fill_core_alone e f = ap (fill (core_of roles e f)) (sym (join-end (project (starts roles e) f))) ∙ fill_core e f NoRoots

  -- The views below are put back as the trees that start one.
  pub assembled_below : (e : PartySet) (f : Forest Act) → assembled (split_below roles e f) ≡ project (starts roles e) f
  assembled_below e NoRoots = refl
  assembled_below e (Root act below others) =
      elim (cases_Bool (starts roles e act)) [
        | inl new ↦ rw new
            (ap (λ (t : Forest Act). Root act (fill (core_of roles (its_informees roles act) below) t) (assembled (split_below roles e others))) (assembled_below (its_informees roles act) below)
            ∙ (ap (λ (t : Forest Act). Root act t (assembled (split_below roles e others))) (fill_core_alone (its_informees roles act) below)
            ∙ ap (Root act below) (assembled_below e others)))
        | inr old ↦ rw old
            (assembled-join (split_below roles e below) (split_below roles e others)
            ∙ (ap (λ (t : Forest Act). join t (assembled (split_below roles e others))) (assembled_below e below)
            ∙ ap (join (project (starts roles e) below)) (assembled_below e others)))
      ]

  -- what stands below a view's first action
  pub refilled : (act : Act) (below : Forest Act) → fill (view_at roles act below).below (assembled (split_below roles (its_informees roles act) below)) ≡ below
  refilled act below = ap (fill (core_of roles (its_informees roles act) below)) (assembled_below (its_informees roles act) below) ∙ fill_core_alone (its_informees roles act) below

  pub assembled_split : (roots : Forest Act) → assembled (split roles roots) ≡ roots
  assembled_split NoRoots = refl
  assembled_split (Root act below others) =
      ap (λ (t : Forest Act). Root act t (assembled (split roles others))) (refilled act below) ∙ ap (Root act below) (assembled_split others)

  -- each root view is put back to the root's tree
  pub root_put_back : (roots : Forest Act) (i : ℕ) (view : Forest SplitView) → tree_at (split roles roots) i ≡ Some view → tree_at roots i ≡ Some (assembled view)
  root_put_back NoRoots i view e = absurd (none-some view e)
  root_put_back (Root act below others) zero view e =
      ap (λ (t : Forest Act). Some (Root act t NoRoots)) (sym (refilled act below)) ∙ ap (λ (v : Forest SplitView). Some (assembled v)) (same_Some _ view e)
  root_put_back (Root act below others) (suc i) view e = root_put_back others i view e
