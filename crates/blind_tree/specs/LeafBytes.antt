-- The bytes of leaves, and which transactions have them.
use Rattle.std.specs.Prelude.{ℕ, ◌≤◌, List, ◌++◌}
use Rattle.std.specs.Int.{w64, to_be_bytes}
use Rattle.ledger_terms.specs.Forest.{Forest, NoRoots, Root}
use Rattle.ledger_terms.specs.Roots.{trees_count}
use Rattle.wire_form.specs.Spelling.{spell_name, spell_parties}
use Rattle.wire_form.specs.Spellable.{IsSpellableSet}
use Rattle.view_split.specs.declared.split_view.SplitView.{SplitView}
use Rattle.view_split.specs.declared.views.Views.{Views}
use Rattle.blind_tree.specs.Cores.{IsSpellableCore, levels, spell_core}

-- the bytes of the common leaf: the sender's name and the ledger time
abbrev pub common_bytes : List ℕ → ℕ → List ℕ
common_bytes sender ledger_time = spell_name sender ++ to_be_bytes w64 ledger_time

-- the bytes of a view's informees leaf: its informees and its confirmers
abbrev pub roles_bytes : SplitView → List ℕ
roles_bytes view = spell_parties view.informees ++ spell_parties view.confirmers

-- the bytes of a view's contents leaf: its core
abbrev pub core_bytes : SplitView → List ℕ
core_bytes view = spell_core view.first view.below

-- The formats have room for the view: sets of at most 128 names, and a core that has room, with actions on at most 16 levels.
pub record IsSpellableView (view : SplitView) : Type 0 where
  pub informees_are : IsSpellableSet view.informees
  pub confirmers_are : IsSpellableSet view.confirmers
  pub core : IsSpellableCore view.first view.below
  pub nested : levels view.below ≤ 15

-- The formats have room for each of these views and of those below them, and at most 65,536 stand side by side below each.
abbrev pub AreSpellableViews : Forest SplitView → Type 0
AreSpellableViews NoRoots = Unit {0}
AreSpellableViews (Root view subviews others) =
    IsSpellableView view × (trees_count subviews ≤ 65536) × AreSpellableViews subviews × AreSpellableViews others

-- What the leaves of a transaction have room for: sets of at most 128 names, actions of which each has a spelling, and in each core at most 63 children
-- of an action and 16 levels. At most 65,536 views stand side by side.
pub record AreSpellable (views : Views) : Type 0 where
  pub requesters : IsSpellableSet views.act_as
  pub few : trees_count views.roots ≤ 65536
  pub each : AreSpellableViews views.roots
