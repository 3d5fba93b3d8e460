-- A tree that was made by the rules is complete: it opens to its recipient, of the views that it sees, what it opens at all.
use Rattle.std.proofs.Common.{◌≡◌, ℕ, Bool, true, false, List, [], Option, None, Ok, refl, ◌∙◌}
use Rattle.std.specs.List.{list_all}
use Rattle.ledger_terms.specs.Forest.{Forest}
use Rattle.ledger_model.specs.Opening.{Transaction}
use Rattle.wire_form.specs.Reading.{set_at}
use Rattle.view_split.specs.SeenViews.{is_sight, seen_views}
use Rattle.view_split.specs.declared.opened_tree.OpenedTree.{OpenedTree}
use Rattle.view_split.specs.declared.placed_view.PlacedView.{PlacedView}
use Rattle.view_split.specs.declared.split_view.SplitView.{SplitView}
use Rattle.blind_tree.specs.Blind.{Salts, sees_root, tree_to}
use Rattle.wire_form.specs.Spelling.{spell_parties}
use Rattle.blind_tree.specs.Opening.{head_at, read_if_plain, read_leaf, tree_opened, views_opened}
use Rattle.blind_tree.specs.TreeHashes.{Hashing}
use Rattle.blind_tree.specs.declared.leaf.Leaf.{Leaf}
use Rattle.blind_tree.specs.declared.leaf.Leaf.TheVariants.{Plain}
use Rattle.blind_tree.specs.declared.tree.Tree.{Tree}
use Rattle.framed_form.specs.Frames.{paths_in}
use Rattle.blind_tree.specs.OpenedFor.{is_listed, opened_by, opened_of_views, requesters_if, stands_at, views_listed}
use Rattle.framed_form.proofs.Honest.{opens_listed}
use Rattle.framed_form.proofs.Listed.{lists_seen}
use Rattle.framed_form.proofs.Lying.{done, read_ok, same_ok}
use Rattle.framed_form.proofs.Standing.{all_seen_stand}

opens_by : (seen : List (List ℕ)) (wanted : Bool) (tree : Tree) (head : List ℕ × ℕ) (names : Option (List (List ℕ))) (views : List PlacedView)
    → list_all (stands_at 0 tree.views) seen ≡ true → read_leaf head_at tree.common ≡ Ok head → requesters_if wanted tree.requesters ≡ Ok names
    → views_listed (is_listed seen) [] 0 tree.views ≡ Ok views → opened_of_views seen wanted tree ≡ Ok (opened_by head names views)
opens_by seen wanted tree head names views a b c d = rw (a, b, c, d) refl

shown_leaf : (leaf : Leaf) (salt bytes : List ℕ) → leaf ≡ Plain salt bytes → requesters_if true leaf ≡ read_if_plain set_at leaf
shown_leaf leaf salt bytes is = rw is refl

pub record Opened (seen : List (List ℕ)) (wanted : Bool) (tree : Tree) (opened : OpenedTree) : Type 0 where
  pub names : Option (List (List ℕ))
  pub opens : opened_of_views seen wanted tree ≡ Ok (opened_by (opened.sender, opened.ledger_time) names opened.views)
  pub told : wanted ≡ true → names ≡ opened.requesters
  pub untold : wanted ≡ false → names ≡ None

pub honest_opens : (sha : Hashing) (salts : Salts) (sender : List ℕ) (transaction : Transaction) (w : Forest SplitView) (hosts : List ℕ → Bool) (sends wanted : Bool) (opened : OpenedTree)
    → tree_opened (tree_to sha salts sender transaction w hosts sends) ≡ Ok opened → (wanted ≡ true → sees_root hosts w ≡ true)
    → Opened (paths_in (seen_views hosts w)) wanted (tree_to sha salts sender transaction w hosts sends) opened
honest_opens sha salts sender transaction w hosts sends wanted opened e root = by_wanted wanted root
  where
    tree : Tree
    tree = tree_to sha salts sender transaction w hosts sends

    seen : List (List ℕ)
    seen = paths_in (seen_views hosts w)

    named : (b : Bool) → (b ≡ true → sees_root hosts w ≡ true) → (head : List ℕ × ℕ) → read_leaf head_at tree.common ≡ Ok head
        → (names : Option (List (List ℕ))) → read_if_plain set_at tree.requesters ≡ Ok names → (views : List PlacedView)
        → views_listed (is_listed seen) [] 0 tree.views ≡ Ok views → opened_by head names views ≡ opened → Opened seen b tree opened
    named false root' head head_is names names_are views listed same =
        record {
          names = None;
          opens =
              opens_by seen false tree head None views (all_seen_stand sha hosts w) head_is refl listed
              ∙ (λ i. done (opened_by ((same i).sender, (same i).ledger_time) None (same i).views));
          told = λ never. absurd cc;
          untold = λ no. refl;
        }
    named true root' head head_is names names_are views listed same =
        let plain : tree.requesters ≡ Plain salts.requesters (spell_parties transaction.requesters) = rw (root' refl) refl in
        record {
          names = opened.requesters;
          opens =
              opens_by seen true tree head names views (all_seen_stand sha hosts w) head_is (shown_leaf tree.requesters salts.requesters (spell_parties transaction.requesters) plain ∙ names_are) listed
              ∙ (λ i. done (same i));
          told = λ yes. refl;
          untold = λ never. absurd cc;
        }

    by_wanted : (b : Bool) → (b ≡ true → sees_root hosts w ≡ true) → Opened seen b tree opened
    by_wanted b root' =
        let head = read_ok (read_leaf head_at tree.common) _ opened e in
        let names = read_ok (read_if_plain set_at tree.requesters) _ opened head.2 in
        let views = read_ok (views_opened [] 0 tree.views) _ opened names.2 in
        let same = same_ok (opened_by head.0 names.0 views.0) opened views.2 in
        let listed : views_listed (is_listed seen) [] 0 tree.views ≡ Ok views.0 =
        opens_listed sha hosts (is_listed seen) [] 0 w (lists_seen (is_sight hosts) w) ∙ views.1 in
        named b root' head.0 head.1 names.0 names.1 views.0 listed same
