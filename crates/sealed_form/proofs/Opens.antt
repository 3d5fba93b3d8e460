-- What the trees of a request open, and the contents that they show.
use Rattle.std.proofs.Common.{◌≡◌, ℕ, Bool, true, false, List, [], Some, None, Ok, refl, ◌∙◌}
use Rattle.std.specs.Prelude.{nat_eq, if◌then◌else◌, ◌||◌}
use Rattle.sha2.specs.Sha256.{sha256}
use Rattle.ledger_terms.specs.Forest.{Forest}
use Rattle.ledger_terms.specs.Hosting.{hosts_at}
use Rattle.ledger_terms.specs.declared.topology.Topology.{Topology}
use Rattle.ledger_model.specs.Opening.{seen_paths, Transaction}
use Rattle.lang_eval.specs.Found.{Packages}
use Rattle.view_split.specs.declared.split_view.SplitView.{SplitView}
use Rattle.view_split.specs.SeenViews.{seen_views}
use Rattle.view_split.specs.Placed.{tops}
use Rattle.view_split.specs.declared.opened_tree.OpenedTree.{OpenedTree}
use Rattle.view_split.proofs.Holes.{filled}
use Rattle.blind_tree.specs.TreeHashes.{Hashing}
use Rattle.blind_tree.specs.Blind.{Salts, Visibility, salts_of, sees_root, shown_to, transaction_of, tree_with}
use Rattle.blind_tree.specs.Opening.{tree_opened}
use Rattle.blind_tree.specs.ShownViews.{contents_shown}
use Rattle.blind_tree.specs.declared.tree.Tree.{Tree}
use Rattle.blind_tree.proofs.Blinded.{seen_is_shown}
use Rattle.blind_tree.proofs.OpensLaws.{tree_opens}
use Rattle.blind_tree.proofs.Sights.{seen_as_ruled}
use Rattle.sealed_form.specs.SealedForm.{CanBeSealed, Whole, roles_by}
use Rattle.sealed_form.specs.SealedForm.{split_as, tree_for, views_by}

-- no salt of the first two leaves is read
unsalted : (sha : Hashing) (salts others : Salts) (name : List ℕ) (shows : Bool) (t : Transaction) (views : Forest SplitView)
    (marked : Forest (Visibility × SplitView))
    → tree_opened (tree_with sha salts name shows t marked) ≡ tree_opened (tree_with sha others name shows (transaction_of (split_as t views)) marked)
unsalted sha salts others name true t views marked = refl
unsalted sha salts others name false t views marked = refl

module _ (topology : Topology) (packages : Packages) (sender : ℕ) (whole : Whole) (can : CanBeSealed topology packages sender whole) where
  abbrev t : Transaction
  t = whole.transaction

  abbrev hosts : ℕ → List ℕ → Bool
  hosts p = hosts_at topology.hosts p

  abbrev sends : ℕ → Bool
  sends p = nat_eq p sender

  abbrev views : Forest SplitView
  views = views_by packages t

  abbrev tree : ℕ → Tree
  tree p = tree_for topology packages sender whole.sender whole.salts t p

  -- what a participant's tree opens
  abbrev pub opens : ℕ → OpenedTree
  opens p =
      record {
        sender = whole.sender;
        ledger_time = t.ledger_time;
        requesters = if (sees_root (hosts p) views || sends p) then Some t.requesters else None;
        views = tops (seen_views (hosts p) views);
      }

  pub tree_is_opened : (p : ℕ) → tree_opened (tree p) ≡ Ok (opens p)
  tree_is_opened p =
      unsalted sha256 whole.salts (salts_of sha256 []) whole.sender (sees_root (hosts p) views || sends p) t views (shown_to (hosts p) false views)
      ∙ tree_opens sha256 (split_as t views) whole.sender (hosts p) (sends p) can.in_range (filled (roles_by packages) t.roots)

  -- its tree shows the contents of exactly the views that the rules name
  pub contents_by_rules : (p : ℕ) → contents_shown [] 0 (tree p).views ≡ seen_paths (roles_by packages) (hosts p) t.roots
  contents_by_rules p = seen_is_shown sha256 (hosts p) false [] 0 views ∙ seen_as_ruled (roles_by packages) (hosts p) t.roots
