-- A view that is split off has as many holes as views below it.
use Rattle.std.proofs.Common.{◌≡◌, suc, ◌+◌, refl, ap, inl, inr, arith}
use Rattle.std.proofs.lemmas.Bool.{cases_Bool}
use Rattle.ledger_terms.specs.Roots.{trees_count}
use Rattle.ledger_terms.specs.declared.act.Act.{Act}
use Rattle.ledger_terms.specs.Forest.{Forest, NoRoots, Root, join}
use Rattle.ledger_terms.specs.declared.action.Action.{Action}
use Rattle.ledger_model.specs.Terms.{PartySet}
use Rattle.ledger_model.specs.declared.roles.Roles.{Roles}
use Rattle.ledger_model.specs.Views.{its_informees, starts}
use Rattle.view_split.specs.Holed.{holes}
use Rattle.view_split.specs.declared.split_view.SplitView.{SplitView}
use Rattle.view_split.specs.Split.{core_of, split_below, split}
use Rattle.view_split.specs.Filled.{AreFilled}

count_join : {A : Type 0} (v w : Forest A) → trees_count (join v w) ≡ trees_count v + trees_count w
count_join NoRoots w = omega arith
count_join (Root x below others) w = let r = count_join others w in omega (arith, r)

filled_join : (v w : Forest SplitView) → AreFilled v → AreFilled w → AreFilled (join v w)
filled_join NoRoots w h k = k
filled_join (Root view subviews others) w h k = (h.0, h.1, filled_join others w h.2 k)

module _ (roles : Action → Roles) where
  holes_are : (e : PartySet) (f : Forest Act) → holes (core_of roles e f) ≡ trees_count (split_below roles e f)
  holes_are e NoRoots = refl
  holes_are e (Root act below others) =
      let o = holes_are e others in
      elim (cases_Bool (starts roles e act)) [
        | inl new ↦ rw new (ap suc o)
        | inr old ↦ rw old
            (let b = holes_are e below in
            let both = count_join (split_below roles e below) (split_below roles e others) in
            omega (arith, o, b, both))
      ]

  filled_below : (e : PartySet) (f : Forest Act) → AreFilled (split_below roles e f)
  filled_below e NoRoots = tt
  filled_below e (Root act below others) =
      elim (cases_Bool (starts roles e act)) [
        | inl new ↦ rw new (holes_are (its_informees roles act) below, filled_below (its_informees roles act) below, filled_below e others)
        | inr old ↦ rw old (filled_join (split_below roles e below) (split_below roles e others) (filled_below e below) (filled_below e others))
      ]

  pub filled : (f : Forest Act) → AreFilled (split roles f)
  filled NoRoots = tt
  filled (Root act below others) = (holes_are (its_informees roles act) below, filled_below (its_informees roles act) below, filled others)
