-- What each kind of leaf holds: its one spelling, and what of it is in range.
use Rattle.std.specs.Prelude.{ℕ, ◌<◌, ◌^◌, List, ◌++◌}
use Rattle.ledger_terms.specs.Names.{IsName}
use Rattle.wire_form.specs.InRange.{IsPartySet}
use Rattle.wire_form.specs.Spelling.{spell_parties}
use Rattle.view_split.specs.CoreLists.{act_of}
use Rattle.view_split.specs.declared.core_node.CoreNode.{CoreNode}
use Rattle.blind_tree.specs.LeafBytes.{common_bytes}
use Rattle.blind_tree.specs.ShownViews.{IsCore}

-- the bytes of a common leaf, given as the pair of sender and ledger time
abbrev pub spell_common : List ℕ × ℕ → List ℕ
spell_common head = common_bytes head.0 head.1

-- the sender's name and the ledger time are ones that a common leaf can hold
abbrev pub IsCommon : List ℕ × ℕ → Type 0
IsCommon head = IsName head.0 × (head.1 < 2 ^ 64)

-- what an informees leaf holds: informees and confirmers
abbrev pub Sets : Type 0
Sets = List (List ℕ) × List (List ℕ)

-- the bytes of an informees leaf
abbrev pub spell_roles : Sets → List ℕ
spell_roles sets = spell_parties sets.0 ++ spell_parties sets.1

-- the informees and the confirmers are sets of parties, as an informees leaf can hold them
abbrev pub AreRoles : Sets → Type 0
AreRoles sets = IsPartySet sets.0 × IsPartySet sets.1

-- the core, given as a node, is one that a contents leaf can hold
abbrev pub IsNode : CoreNode → Type 0
IsNode core = IsCore (act_of core) core.children
