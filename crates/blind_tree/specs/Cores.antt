-- The one spelling of cores, and which have one.
use Rattle.std.specs.Prelude.{ℕ, suc, ◌≤◌, max, List, [], ◌∷◌, ◌++◌}
use Rattle.std.specs.Int.{w16, to_be_bytes}
use Rattle.ledger_terms.specs.declared.act.Act.{Act}
use Rattle.wire_form.specs.Spelling.{spell_action}
use Rattle.wire_form.specs.Spellable.{IsSpellableAction}
use Rattle.view_split.specs.Holed.{Holed, NoMore, Inner, Hole, width}
use Rattle.view_split.specs.CoreLists.{act_of}
use Rattle.view_split.specs.declared.core_node.CoreNode.{CoreNode}
use Rattle.view_split.specs.declared.core_node.CoreChild.{CoreChild}
use Rattle.view_split.specs.declared.core_node.CoreChild.TheVariants as children

-- The bytes of what stands side by side in a core: for an action the tag 0, its seed, itself, two bytes of count and what stands below it; for a hole
-- the tag 1.
abbrev pub spell_children : Holed Act → List ℕ
spell_children NoMore = []
spell_children (Inner act below others) =
    (0 ∷ (act.seed ++ spell_action act.action ++ to_be_bytes w16 (width below) ++ spell_children below)) ++ spell_children others
spell_children (Hole others) = (1 ∷ []) ++ spell_children others

-- The bytes of a core: the seed of its first action, that action, two bytes of count and what stands below it.
abbrev pub spell_core : Act → Holed Act → List ℕ
spell_core first below = first.seed ++ spell_action first.action ++ to_be_bytes w16 (width below) ++ spell_children below

-- the bytes of a core that is given as a node
abbrev pub spell_node : CoreNode → List ℕ
spell_node core = spell_core (act_of core) core.children

-- the bytes of one child, with its tag
abbrev pub spell_child : CoreChild → List ℕ
spell_child (children.Inner core) = 0 ∷ spell_node core
spell_child children.Hole = 1 ∷ []

-- on how many levels actions stand, 0 where there is none
abbrev pub levels : Holed Act → ℕ
levels NoMore = 0
levels (Inner act below others) = max (suc (levels below)) (levels others)
levels (Hole others) = levels others

-- Each of these actions, at any depth, has a spelling and at most 63 children.
abbrev pub AreSpellableChildren : Holed Act → Type 0
AreSpellableChildren NoMore = Unit {0}
AreSpellableChildren (Inner act below others) =
    IsSpellableAction act.action × (width below ≤ 63) × AreSpellableChildren below × AreSpellableChildren others
AreSpellableChildren (Hole others) = AreSpellableChildren others

-- The formats have room for the core with this first action: it and each action below it has a spelling and at most 63 children.
pub record IsSpellableCore (first : Act) (below : Holed Act) : Type 0 where
  pub action : IsSpellableAction first.action
  pub few : width below ≤ 63
  pub children : AreSpellableChildren below

-- the formats have room for this child; for a hole they always have
abbrev pub IsSpellableChild : CoreChild → Type 0
IsSpellableChild (children.Inner core) = IsSpellableCore (act_of core) core.children
IsSpellableChild children.Hole = Unit {0}
