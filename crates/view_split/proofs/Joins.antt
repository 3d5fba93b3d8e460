-- Forests and cores that are joined.
use Rattle.std.proofs.Common.{inl, inr, ◌≡◌, List, [], ◌∷◌, ◌++◌, refl, sym, ap, ◌∙◌, append_assoc}
use Rattle.std.proofs.lemmas.Bool.{cases_Bool}
use Rattle.ledger_terms.specs.Forest.{Forest, NoRoots, Root, join}
use Rattle.ledger_terms.specs.declared.act.Act.{Act}
use Rattle.ledger_terms.specs.declared.action.Action.{Action}
use Rattle.ledger_terms.proofs.Grow.{join-assoc}
use Rattle.ledger_model.specs.Terms.{PartySet}
use Rattle.ledger_model.specs.declared.roles.Roles.{Roles}
use Rattle.ledger_model.specs.Views.{its_informees, starts}
use Rattle.view_split.specs.Holed.{Holed, NoMore, Inner, Hole, inner, beside}
use Rattle.view_split.specs.declared.split_view.SplitView.{SplitView}
use Rattle.view_split.specs.Split.{confirmers_in, core_of, view_at, split_below, split}

module _ {A : Type 0} where
  pub beside-assoc : (f g h : Holed A) → beside (beside f g) h ≡ beside f (beside g h)
  beside-assoc NoMore g h = refl
  beside-assoc (Inner root below others) g h = ap (Inner root below) (beside-assoc others g h)
  beside-assoc (Hole others) g h = ap Hole (beside-assoc others g h)

  pub beside-end : (f : Holed A) → beside f NoMore ≡ f
  beside-end NoMore = refl
  beside-end (Inner root below others) = ap (Inner root below) (beside-end others)
  beside-end (Hole others) = ap Hole (beside-end others)

  pub inner-beside : (f g : Holed A) → inner (beside f g) ≡ inner f ++ inner g
  inner-beside NoMore g = refl
  inner-beside (Inner root below others) g =
      ap (λ (xs : List A). root ∷ (inner below ++ xs)) (inner-beside others g)
      ∙ ap (λ (xs : List A). root ∷ xs) (sym (append_assoc (inner below) (inner others) (inner g)))
  inner-beside (Hole others) g = inner-beside others g

module _ (roles : Action → Roles) where
  pub core_of-join : (e : PartySet) (f g : Forest Act) → core_of roles e (join f g) ≡ beside (core_of roles e f) (core_of roles e g)
  core_of-join e NoRoots g = refl
  core_of-join e (Root act below others) g =
      elim (cases_Bool (starts roles e act)) [
        | inl new ↦ rw new (ap Hole (core_of-join e others g))
        | inr old ↦ rw old (ap (Inner act (core_of roles e below)) (core_of-join e others g))
      ]

  pub split_below-join : (e : PartySet) (f g : Forest Act) → split_below roles e (join f g) ≡ join (split_below roles e f) (split_below roles e g)
  split_below-join e NoRoots g = refl
  split_below-join e (Root act below others) g =
      elim (cases_Bool (starts roles e act)) [
        | inl new ↦ rw new
            (ap (λ (v : Forest SplitView). Root (view_at roles act below) (split_below roles (its_informees roles act) below) v) (split_below-join e others g))
        | inr old ↦ rw old
            (ap (λ (v : Forest SplitView). join (split_below roles e below) v) (split_below-join e others g)
            ∙ sym (join-assoc (split_below roles e below) (split_below roles e others) (split_below roles e g)))
      ]

  pub split-join : (f g : Forest Act) → split roles (join f g) ≡ join (split roles f) (split roles g)
  split-join NoRoots g = refl
  split-join (Root act below others) g =
      ap (λ (v : Forest SplitView). Root (view_at roles act below) (split_below roles (its_informees roles act) below) v) (split-join others g)

  pub confirmers_in-append : (xs ys : List Act) → confirmers_in roles (xs ++ ys) ≡ confirmers_in roles xs ++ confirmers_in roles ys
  confirmers_in-append [] ys = refl
  confirmers_in-append (x ∷ xs) ys =
      ap (λ (names : PartySet). (roles x.action).confirmers ++ names) (confirmers_in-append xs ys)
      ∙ sym (append_assoc (roles x.action).confirmers (confirmers_in roles xs) (confirmers_in roles ys))
