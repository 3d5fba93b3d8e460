-- The trees of what can be sealed are in range, and read again.
use Rattle.std.proofs.Common.{◌≡◌, ℕ, ◌^◌, ◌<◌, Bool, true, false, List, [], ◌++◌, length, Some, Ok, sym, ap, ◌∙◌, append-nil}
use Rattle.std.specs.Prelude.{nat_eq, ◌||◌}
use Rattle.sha2.specs.Sha256.{sha256}
use Rattle.sha2.proofs.Facts256.{length-sha256}
use Rattle.ledger_terms.specs.Hosting.{hosts_at}
use Rattle.ledger_terms.specs.declared.topology.Topology.{Topology}
use Rattle.lang_eval.specs.Found.{Packages}
use Rattle.wire_form.specs.Formats.{◌>>=◌, Reading}
use Rattle.wire_form.specs.InRange.{IsHash}
use Rattle.wire_form.specs.Spelling.{spell_parties}
use Rattle.view_split.specs.declared.views.Views.{Views}
use Rattle.blind_tree.specs.Vertices.{Vertices, NoVertices, BlindVertex, InnerVertex}
use Rattle.blind_tree.specs.Agreement.{IsSizedLeaf, AreSized}
use Rattle.blind_tree.specs.LeafBytes.{common_bytes}
use Rattle.blind_tree.specs.InRange.{IsLeaf, AreVertices, IsTree, IsSpellableLeaf, AreSpellable}
use Rattle.blind_tree.specs.Reading.{ended, with_place, read_all, tree_at}
use Rattle.blind_tree.specs.Spelling.{spell_tree}
use Rattle.blind_tree.specs.Blind.{leaf_with, sees_root, tree_to_mediator}
use Rattle.blind_tree.specs.declared.leaf.Leaf.{Leaf}
use Rattle.blind_tree.specs.declared.leaf.Leaf.TheVariants.{Blind, Plain}
use Rattle.blind_tree.specs.declared.tree.Tree.{Tree}
use Rattle.blind_tree.specs.declared.recipient.Recipient.TheVariants.{Mediator, Participant}
use Rattle.blind_tree.proofs.Blinded.{sized, spellable}
use Rattle.blind_tree.proofs.TreeLaws.{tree_reads}
use Rattle.sealed_form.specs.SealedForm.{CanBeSealed, Whole, found, split_as, tree_for, tree_in, views_by}

pub read_again : {A : Type 0} (read : Reading A) (bytes : List ℕ) (x : A) → read (bytes ++ []) ≡ Ok (x, []) → read_all read bytes ≡ Ok x
read_again read bytes x h =
    ap (λ r. with_place (length bytes) (r >>= λ y. ended y.0 y.1)) (ap read (sym (append-nil bytes)) ∙ h)

pub tree_again : (t : Tree) → IsTree t → tree_in (spell_tree t) ≡ Some t
tree_again t h = ap found (read_again tree_at (spell_tree t) t (tree_reads.again t [] h))

-- ---- what has room and has its hashes is in range

is_leaf : (l : Leaf) → IsSpellableLeaf l → IsSizedLeaf l → IsLeaf l
is_leaf (Blind hash) room long = long
is_leaf (Plain salt bytes) room long = (long, room)

are_vertices : (v : Vertices) → AreSpellable v → AreSized v → AreVertices v
are_vertices NoVertices room long = tt
are_vertices (BlindVertex hash others) room long = (long.0, are_vertices others room long.1)
are_vertices (InnerVertex informees contents subviews others) room long =
    (is_leaf informees room.0 long.0, is_leaf contents room.1 long.1, room.2, are_vertices subviews room.3 long.2, are_vertices others room.4 long.3)

leaf_is : (shows : Bool) (kind : ℕ) (salt bytes : List ℕ) → IsHash salt → length bytes < 2 ^ 32 → IsLeaf (leaf_with sha256 shows kind salt bytes)
leaf_is true kind salt bytes long room = (long, room)
leaf_is false kind salt bytes long room = length-sha256 _

module _ (topology : Topology) (packages : Packages) (sender : ℕ) (whole : Whole) (can : CanBeSealed topology packages sender whole) where
  abbrev as_split : Views
  as_split = split_as whole.transaction (views_by packages whole.transaction)

  pub is_tree : (p : ℕ) → IsTree (tree_for topology packages sender whole.sender whole.salts whole.transaction p)
  is_tree p =
      let room = spellable sha256 as_split whole.sender topology.hosts (Participant p) can.small in
      let long = sized sha256 length-sha256 as_split whole.sender topology.hosts (Participant p) in
      record {
        common_is = leaf_is true 1 (whole.salts).common (common_bytes whole.sender (whole.transaction).ledger_time) can.common_salt (can.small).common;
        requesters_is =
            leaf_is (sees_root (hosts_at topology.hosts p) (views_by packages whole.transaction) || nat_eq p sender) 2 (whole.salts).requesters
            (spell_parties (whole.transaction).requesters) can.requesters_salt (can.small).requesters;
        few = room.few;
        nested = room.nested;
        vertices = are_vertices _ room.vertices long.vertices;
      }

  pub mediators_is_tree : IsTree (tree_to_mediator sha256 whole.salts whole.sender whole.transaction (views_by packages whole.transaction))
  mediators_is_tree =
      let room = spellable sha256 as_split whole.sender topology.hosts Mediator can.small in
      let long = sized sha256 length-sha256 as_split whole.sender topology.hosts Mediator in
      record {
        common_is = leaf_is true 1 (whole.salts).common (common_bytes whole.sender (whole.transaction).ledger_time) can.common_salt (can.small).common;
        requesters_is =
            leaf_is false 2 (whole.salts).requesters (spell_parties (whole.transaction).requesters) can.requesters_salt (can.small).requesters;
        few = room.few;
        nested = room.nested;
        vertices = are_vertices _ room.vertices long.vertices;
      }
