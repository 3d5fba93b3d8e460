-- What the envelope of a framed request opens can be checked, whoever made it.
use Rattle.std.proofs.Common.{◌≡◌, ◌≤◌, ◌*◌, ℕ, true, List, ◌++◌, length, Some, sym, ap, subst, arith}
use Rattle.std.specs.Prelude.{All, Contains}
use Rattle.std.specs.Int.{w16, to_be_bytes}
use Rattle.std.proofs.lemmas.List.{length-append}
use Rattle.std.proofs.lemmas.List.Elements.{All-nil}
use Rattle.ledger_terms.specs.Forest.{number_from}
use Rattle.ledger_terms.specs.declared.act.Act.{Act}
use Rattle.ledger_terms.specs.declared.limits.TheConstants.{MOST_TREE_BYTES}
use Rattle.ledger_terms.specs.declared.topology.Topology.{Topology}
use Rattle.ledger_model.specs.Forest.{acts}
use Rattle.ledger_model.specs.Opening.{OpenedView}
use Rattle.ledger_model.specs.Terms.{instance_of}
use Rattle.ledger_model.proofs.Lists.{In, contains_from_In, in_from_Contains}
use Rattle.canton_model.specs.declared.request.Request.{Request}
use Rattle.lang_eval.specs.Found.{Packages}
use Rattle.wire_form.specs.Spellable.{IsSpellableInstance}
use Rattle.view_split.specs.Filled.{AreFilled}
use Rattle.view_split.specs.Placed.{placed_forest, shown_by}
use Rattle.view_split.specs.SeenViews.{put_back}
use Rattle.view_split.specs.declared.opened_tree.OpenedTree.{OpenedTree}
use Rattle.blind_tree.specs.Spelling.{spell_each, spell_leaf, spell_tree}
use Rattle.blind_tree.specs.Vertices.{count}
use Rattle.blind_tree.specs.declared.shown_for.OpenedFor.{OpenedFor}
use Rattle.blind_tree.specs.declared.shown_for.OpenedFor.TheVariants.{Mismatch, Missing, Open}
use Rattle.blind_tree.specs.declared.tree.Tree.{Tree}
use Rattle.framed_form.specs.Framed.{AreBytes, IsFramed, is_framed}
use Rattle.framed_form.specs.FramedForm.{complete_in, offered, opened_to, paths_seen, sees_root_view}
use Rattle.framed_form.proofs.Agreed.{read_spelled}
use Rattle.framed_form.proofs.Decided.{framed_decides}
use Rattle.framed_form.proofs.Filled.{opened_filled}
use Rattle.framed_form.proofs.Ranged.{tree_fits}
use Rattle.framed_form.proofs.Sound.{first_envelope, given_by}
use Rattle.framed_form.proofs.Wholes.{Complete, complete_from}
use Rattle.confirm_reply.specs.Opened.{CanBeChecked}
use Rattle.confirm_reply.proofs.Covered.{filled_can_be}
use Rattle.node_inbox.specs.Offers.{roots_opened}
use Rattle.node_inbox.proofs.OpenedActions.{all_spelled}
use Rattle.node_inbox.proofs.CoreLengths.{Fit, bare, cores_fit, few_in, opened_fit}

views_within : (tree : Tree) → length (spell_each tree.views) ≤ length (spell_tree tree)
views_within tree =
    let counted = to_be_bytes w16 (count tree.views) in
    omega (
      arith,
      length-append (spell_leaf tree.common ++ spell_leaf tree.requesters) (counted ++ spell_each tree.views),
      length-append counted (spell_each tree.views),
    )

module _ (topology : Topology) (request : Request) (p : ℕ) (framed : IsFramed topology request) (tree : OpenedTree) (is : offered topology p request ≡ Open tree) where
  is_opened : opened_to topology p request ≡ Some tree
  is_opened = ap complete_in is

  abbrev bytes : List ℕ
  bytes = (given_by topology request p tree is_opened).0

  complete : Complete topology p request bytes tree
  complete = complete_from topology p request bytes tree (given_by topology request p tree is_opened).2

  are_bytes : AreBytes bytes
  are_bytes =
      let e = first_envelope p request.envelopes bytes (given_by topology request p tree is_opened).1 in
      subst AreBytes e.3 (framed.bytes e.0 (contains_from_In request.envelopes e.0 e.1))

  short : length bytes ≤ MOST_TREE_BYTES
  short =
      let e = first_envelope p request.envelopes bytes (given_by topology request p tree is_opened).1 in
      subst (λ (b : List ℕ). length b ≤ MOST_TREE_BYTES) e.3 (framed.short e.0 (contains_from_In request.envelopes e.0 e.1))

  spelled : bytes ≡ spell_tree complete.tree
  spelled = read_spelled bytes complete.tree are_bytes complete.spelled

  room : length (spell_each (complete.tree).views) ≤ MOST_TREE_BYTES
  room =
      let within = views_within complete.tree in
      let whole : length (spell_tree complete.tree) ≤ MOST_TREE_BYTES = subst (λ (b : List ℕ). length b ≤ MOST_TREE_BYTES) spelled short in
      omega (arith, within, whole)

  fit : Fit MOST_TREE_BYTES (bare (placed_forest tree.views))
  fit =
      opened_fit MOST_TREE_BYTES (paths_seen topology p request) (sees_root_view topology p request) complete.tree tree
      (tree_fits bytes complete.tree are_bytes spelled) room complete.opens

  -- each view that is opened has as many holes as views stand directly below it
  are_filled : AreFilled (bare (placed_forest tree.views))
  are_filled = opened_filled (paths_seen topology p request) (sees_root_view topology p request) complete.tree tree complete.opens

  -- each action can be spelled
  pub are_spelled : All (λ (act : Act). IsSpellableInstance (instance_of act.action)) (acts (shown_by tree).roots)
  are_spelled = all_spelled MOST_TREE_BYTES (bare (placed_forest tree.views)) fit

  few : (view : OpenedView) → In view (shown_by tree).views → length view.core ≤ 65536
  few view i =
      let placed = placed_forest tree.views in
      let most : 64 * length view.core ≤ 4194304 = few_in MOST_TREE_BYTES _ (cores_fit MOST_TREE_BYTES placed (number_from 0 (put_back placed)) fit) view i in
      omega (arith, most)

  pub can_be_checked : (packages : Packages) (view : OpenedView) → Contains (shown_by tree).views view → CanBeChecked packages (shown_by tree) view
  can_be_checked packages view there =
      filled_can_be packages tree view there are_filled are_spelled (few view (in_from_Contains (shown_by tree).views view there))

-- what an envelope of a framed request offers can be spelled
pub offer_spelled : (topology : Topology) (request : Request) (p : ℕ) → is_framed topology request ≡ true → (read : OpenedFor) → read ≡ offered topology p request
    → All (λ (act : Act). IsSpellableInstance (instance_of act.action)) (acts (roots_opened read))
offer_spelled topology request p framed Mismatch is = All-nil (λ (act : Act). IsSpellableInstance (instance_of act.action))
offer_spelled topology request p framed Missing is = All-nil (λ (act : Act). IsSpellableInstance (instance_of act.action))
offer_spelled topology request p framed (Open tree) is = are_spelled topology request p ((framed_decides topology request).0 framed) tree (sym is)
