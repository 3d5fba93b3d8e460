-- Each view, put back with those below it, is the tree of its first action in the transaction.
use Rattle.std.proofs.Common.{◌≡◌, List, ◌∷◌, ◌++◌, refl, sym, ap, ◌∙◌, subst, inl, inr, append_assoc}
use Rattle.std.proofs.lemmas.Bool.{cases_Bool}
use Rattle.ledger_terms.specs.declared.act.Act.{Act}
use Rattle.ledger_terms.specs.Forest.{Forest, NoRoots, Root, join}
use Rattle.ledger_terms.specs.declared.action.Action.{Action}
use Rattle.ledger_model.specs.Forest.{trees_of}
use Rattle.ledger_model.specs.Terms.{PartySet}
use Rattle.ledger_model.specs.Views.{its_informees, starts}
use Rattle.ledger_model.specs.declared.roles.Roles.{Roles}
use Rattle.ledger_model.proofs.Lists.{In, in_append_left, in_append_right, in_append_cases}
use Rattle.view_split.specs.Holed.{fill}
use Rattle.view_split.specs.declared.split_view.SplitView.{SplitView}
use Rattle.view_split.specs.Split.{split, split_below, view_at, assembled}
use Rattle.view_split.proofs.Assembled.{refilled}

abbrev ViewTree : Type 0
ViewTree = SplitView × Forest SplitView

abbrev ActTree : Type 0
ActTree = Act × Forest Act

-- a view with those below it, put back
abbrev pub put_together : ViewTree → ActTree
put_together v = ((v.0).first, fill (v.0).below (assembled v.1))

pub trees_join : {A : Type 0} (f g : Forest A) → trees_of (join f g) ≡ trees_of f ++ trees_of g
trees_join NoRoots g = refl
trees_join {A} (Root root below others) g =
    ap (λ (ts : List (A × Forest A)). (root, below) ∷ (trees_of below ++ ts)) (trees_join others g)
    ∙ ap (λ (ts : List (A × Forest A)). (root, below) ∷ ts) (sym (append_assoc (trees_of below) (trees_of others) (trees_of g)))

module _ (roles : Action → Roles) where
  here : (act : Act) (below : Forest Act) (v : ViewTree) → (view_at roles act below, split_below roles (its_informees roles act) below) ≡ v → (act, below) ≡ put_together v
  here act below v same = ap (λ (f : Forest Act). (act, f)) (sym (refilled roles act below)) ∙ ap put_together same

  below_are : (e : PartySet) (f : Forest Act) (v : ViewTree) → In v (trees_of (split_below roles e f)) → In (put_together v) (trees_of f)
  below_are e NoRoots v i = absurd i
  below_are e (Root act below others) v i =
      let sub = split_below roles (its_informees roles act) below in
      let loose = split_below roles e below in
      let rest = split_below roles e others in
      elim (cases_Bool (starts roles e act)) [
        | inl new ↦
            let i' : In v (trees_of (Root (view_at roles act below) sub rest)) = rw new at i in
            elim i' [
              | inl same ↦ inl (here act below v same)
              | inr later ↦ elim (in_append_cases (trees_of sub) (trees_of rest) v later) [
                | inl b ↦ inr (in_append_left (trees_of below) (trees_of others) (put_together v) (below_are (its_informees roles act) below v b))
                | inr o ↦ inr (in_append_right (trees_of below) (trees_of others) (put_together v) (below_are e others v o))
              ]
            ]
        | inr old ↦
            let i' : In v (trees_of (join loose rest)) = rw old at i in
            elim (in_append_cases (trees_of loose) (trees_of rest) v (subst (λ (ts : List ViewTree). In v ts) (trees_join loose rest) i')) [
              | inl b ↦ inr (in_append_left (trees_of below) (trees_of others) (put_together v) (below_are e below v b))
              | inr o ↦ inr (in_append_right (trees_of below) (trees_of others) (put_together v) (below_are e others v o))
            ]
      ]

  pub subtrees : (f : Forest Act) (v : ViewTree) → In v (trees_of (split roles f)) → In (put_together v) (trees_of f)
  subtrees NoRoots v i = absurd i
  subtrees (Root act below others) v (inl same) = inl (here act below v same)
  subtrees (Root act below others) v (inr later) =
      elim (in_append_cases (trees_of (split_below roles (its_informees roles act) below)) (trees_of (split roles others)) v later) [
        | inl b ↦ inr (in_append_left (trees_of below) (trees_of others) (put_together v) (below_are (its_informees roles act) below v b))
        | inr o ↦ inr (in_append_right (trees_of below) (trees_of others) (put_together v) (subtrees others v o))
      ]
