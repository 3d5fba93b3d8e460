use Rattle.std.proofs.Common.{◌≡◌, ◌≤◌, List, ℕ, length, refl, ap, arith}
use Rattle.sha2.specs.Sha256.{sha256}
use Rattle.ledger_terms.specs.Grown.{tree_of, node_count}
use Rattle.ledger_terms.proofs.Grow.{tree_within}
use Rattle.blind_tree.proofs.KeptGrow.{spellable_view, kept_step, kept_end, kept_digests-length, kept_count-of}
use Rattle.blind_tree.specs.Kept.{kept_views, kept_digests}
use Rattle.blind_tree.proofs.keep.+keep.Goals as goal

pub keep_into-keep_view-requires : goal.keep_into-keep_view-requires
keep_into-keep_view-requires t c =
    let less : node_count (tree_of c.view-item.result) ≤ node_count c.args.views.now =
    rw (c.view-item.is, ← c.as_slice-view-items.ensures) (tree_within _ _ _ c.loop-view-test.true) in
    (omega (arith, less, c.decreases), (spellable_view _ _ _ c.loop-view-test.true c.view-item.is c.loop-view.invariant.0).0)

pub keep_into-loop-view-preserved : goal.keep_into-loop-view-preserved
keep_into-loop-view-preserved t c = (
  (spellable_view _ _ _ c.loop-view-test.true c.view-item.is c.loop-view.invariant.0).1,
  kept_step _ _ _ _ _ _ _ c.loop-view-test.true c.view-item.is c.in_ok-kept.ensures c.in_ok-push.ensures.ok c.loop-view.invariant.1,
)

pub keep_into-returns : goal.keep_into-returns
keep_into-returns t c = kept_end _ _ _ _ c.loop-view-test.false c.loop-view.invariant.1

pub keep_view-view_hash-hash-requires : goal.keep_view-view_hash-hash-requires
keep_view-view_hash-hash-requires t c =
    let all : c.as_slice.result.now ≡ kept_digests (kept_views sha256 c.args.view.now.below) =
    rw (c.as_slice.ensures.value, c.in_ok-below.ensures, c.in_ok-keep_into.ensures, c.new-subviews.ensures) refl in
    let l = ap (λ (xs : List (List ℕ)). length xs) all in
    omega (arith, l, kept_digests-length (kept_views sha256 c.args.view.now.below), kept_count-of c.args.view.now.below, c.requires.1)
