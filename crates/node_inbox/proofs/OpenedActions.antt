-- The instance of each action of cores in range can be spelled, where views are put back too.
use Rattle.std.proofs.Common.{ℕ}
use Rattle.std.specs.Prelude.{All, ◌++◌}
use Rattle.std.proofs.lemmas.List.Elements.{All-append, All-cons, All-nil}
use Rattle.ledger_terms.specs.declared.act.Act.{Act}
use Rattle.ledger_terms.specs.declared.action.Action.{Action}
use Rattle.ledger_terms.specs.declared.action.Action.TheVariants.{Create, Exercise, Fetch}
use Rattle.ledger_terms.specs.Forest.{Forest, NoRoots, Root, preorder}
use Rattle.ledger_model.specs.Terms.{instance_of}
use Rattle.wire_form.specs.InRange.{IsAction}
use Rattle.wire_form.specs.Spellable.{IsSpellableInstance}
use Rattle.wire_form.proofs.RangeLaws.{spellable_instance}
use Rattle.view_split.specs.Holed.{Holed, NoMore, Inner, Hole, after_holes, fill}
use Rattle.view_split.specs.Split.{assembled}
use Rattle.view_split.specs.declared.split_view.SplitView.{SplitView}
use Rattle.blind_tree.specs.ShownViews.{AreChildren}
use Rattle.node_inbox.proofs.CoreLengths.{Fit}

abbrev HasSpelling : Act → Type 0
HasSpelling act = IsSpellableInstance (instance_of act.action)

abbrev Each : Forest Act → Type 0
Each NoRoots = Unit {0}
Each (Root act below others) = HasSpelling act × Each below × Each others

instance_spelled : (a : Action) → IsAction a → IsSpellableInstance (instance_of a)
instance_spelled (Create id i) r = spellable_instance i r.1
instance_spelled (Exercise id salt i choice args actors consuming result) r = spellable_instance i (r.0).instance_is
instance_spelled (Fetch id salt i actors) r = spellable_instance i (r.0).instance_is

-- what fills a core, and the trees that are left
filled : (h : Holed Act) (trees : Forest Act) → AreChildren h → Each trees → Each (fill h trees) × Each (after_holes h trees)
filled NoMore trees r e = (tt, e)
filled (Inner act below others) trees r e =
    let b = filled below trees r.3 e in
    let o = filled others (after_holes below trees) r.4 b.1 in
    ((instance_spelled act.action r.1, b.0, o.0), o.1)
filled (Hole others) NoRoots r e = ((filled others NoRoots r tt).0, tt)
filled (Hole others) (Root act children more) r e =
    let o = filled others more r e.2 in
    ((e.0, e.1, o.0), o.1)

each_assembled : (n : ℕ) (views : Forest SplitView) → Fit n views → Each (assembled views)
each_assembled n NoRoots r = tt
each_assembled n (Root view subviews others) r = (
  instance_spelled (view.first).action ((r.0).0).action_is,
  (filled view.below (assembled subviews) ((r.0).0).children (each_assembled n subviews r.1)).0,
  each_assembled n others r.2,
)

all_of_each : (f : Forest Act) → Each f → All HasSpelling (preorder f)
all_of_each NoRoots e = All-nil HasSpelling
all_of_each (Root act below others) e =
    All-cons HasSpelling act (preorder below ++ preorder others) e.0
    (All-append HasSpelling (preorder below) (preorder others) (all_of_each below e.1) (all_of_each others e.2))

pub all_spelled : (n : ℕ) (views : Forest SplitView) → Fit n views
    → All (λ (act : Act). IsSpellableInstance (instance_of act.action)) (preorder (assembled views))
all_spelled n views r = all_of_each (assembled views) (each_assembled n views r)
