-- The trees that were read: how many drafts stand in them and how deep, and what each draft is.
use Rattle.std.proofs.Common.{◌≡◌, ℕ, max, ◌+◌, ◌-◌, ◌≤◌, ◌++◌, List, [], Ok, refl, arith}
use Rattle.std.specs.Bool.{⊤}
use Rattle.std.specs.List.{AllByRecursion}
use Rattle.std.specs.Prelude.{codes}
use Rattle.std.specs.Ordering.{nat_cmp}
use Rattle.std.specs.Cmp.Lexicographic.{slice_cmp}
use Rattle.std.proofs.lemmas.List.{append_assoc}
use Rattle.serde_json.specs.Data.{Data, null, boolean, number, string, array, object, Items, no_items, item, Members, no_members, member}
use Rattle.ledger_terms.specs.Answers.{◌>>=◌, check}
use Rattle.ledger_terms.specs.Depth.{depth as height}
use Rattle.ledger_terms.specs.Drafts.{Drafts}
use Rattle.ledger_terms.specs.Forest.{Forest, NoRoots, Root, join, preorder, size}
use Rattle.ledger_terms.specs.Pointers.{at_item, at_member}
use Rattle.ledger_terms.specs.Roots.{trees_count}
use Rattle.ledger_terms.specs.declared.host.Host.{Host}
use Rattle.json_walk.specs.declared.limits.TheConstants.{DRAFTS, DRAFT_DEPTH}
use Rattle.json_walk.specs.Walk.{within_limit, Place, item_count}
use Rattle.json_walk.specs.declared.walk_fault.WalkFault.TheVariants.{Shape}
use Rattle.json_walk.proofs.Kept.{after, given, limit_kept}
use Rattle.script_read.specs.Commands.{is_exercise}
use Rattle.script_read.specs.Drafts.{leaf_of, is_draft, within_tree, exercise_draft_of, draft_of, exercise_member, node_of, children_member, tree_of, drafts_from}
use Rattle.script_read.proofs.Actions.{IsDraftRead, exercise_read, leaf_read}
use Rattle.script_read.proofs.Cases.{by_test, by_member}
use Rattle.script_read.proofs.Lists.{each_append}
use Rattle.script_read.proofs.SameHosts.{AreSame}

-- ---- forests

size_join : {A : Type 0} (f g : Forest A) → size (join f g) ≡ size f + size g
size_join NoRoots g = omega arith
size_join (Root a below others) g = omega (arith, size_join others g)

count_join : {A : Type 0} (f g : Forest A) → trees_count (join f g) ≡ trees_count f + trees_count g
count_join NoRoots g = omega arith
count_join (Root a below others) g = omega (arith, count_join others g)

height_join : {A : Type 0} (f g : Forest A) → height (join f g) ≡ max (height f) (height g)
height_join NoRoots g = omega arith
height_join (Root a below others) g = omega (arith, height_join others g)

preorder_join : {A : Type 0} (f g : Forest A) → preorder (join f g) ≡ preorder f ++ preorder g
preorder_join NoRoots g = refl
preorder_join (Root a below others) g = rw (preorder_join others g, append_assoc (preorder below) (preorder others) (preorder g)) refl

module _ (read kept : List Host) (same : AreSame read kept) where
  -- ---- what was read

  -- one tree, where n drafts stand in the lists up to it
  record IsTree (depth n : ℕ) (r : Drafts × ℕ) : Type 0 where
    sized : size r.0 + n ≡ r.1 + 1
    one : trees_count r.0 ≡ 1
    few : r.1 ≤ 64
    low : depth + height r.0 ≤ 17
    each : AllByRecursion (IsDraftRead read kept same) (preorder r.0)

  -- as many trees, where n drafts stand in the lists before them
  pub record AreTrees (depth n : ℕ) (count : ℕ) (r : Drafts × ℕ) : Type 0 where
    pub sized : size r.0 + n ≡ r.1
    pub many : trees_count r.0 ≡ count
    pub few : r.1 ≤ 64
    pub low : height r.0 ≤ 17 - depth
    pub each : AllByRecursion (IsDraftRead read kept same) (preorder r.0)

  -- the trees behind others
  record GoOn (depth many : ℕ) (a r : Drafts × ℕ) : Type 0 where
    sized : size r.0 + a.1 ≡ size a.0 + many + r.1
    counted : trees_count r.0 ≡ trees_count a.0 + many
    few : r.1 ≤ 64
    low : height a.0 ≤ 17 - depth → height r.0 ≤ 17 - depth
    each : AllByRecursion (IsDraftRead read kept same) (preorder a.0) → AllByRecursion (IsDraftRead read kept same) (preorder r.0)

  leaf_sized : (at : Place) (depth n : ℕ) (d : Data) (r : Drafts × ℕ) → depth ≤ 16 → n ≤ 64 → (leaf_of read at d >>= (λ f. Ok (f, n))) ≡ Ok r → IsTree depth n r
  leaf_sized at depth n d r q p h =
      let f = after (leaf_of read at d) _ r h in
      let leaf = leaf_read read kept same at d f.0 f.1 in
      rw (given (f.0, n) r f.2, leaf.is) (record { sized = omega arith; one = refl; few = p; low = omega arith; each = (leaf.accepted, tt) })

  shallow : (at : Place) (depth : ℕ) (u : ⊤) → within_tree at depth ≡ Ok u → depth ≤ 16
  shallow at depth u h = (limit_kept at DRAFT_DEPTH depth u h).1

  mutual
    tree_sized : (at : Place) (depth n : ℕ) (d : Data) (r : Drafts × ℕ) → n ≤ 64 → draft_of read at depth n d ≡ Ok r → IsTree depth n r
    tree_sized at depth n null r p h = absurd (cc)
    tree_sized at depth n (boolean b) r p h = absurd (cc)
    tree_sized at depth n (number m) r p h = absurd (cc)
    tree_sized at depth n (string s) r p h = absurd (cc)
    tree_sized at depth n (array ds) r p h = absurd (cc)
    tree_sized at depth n (object ms) r p h =
        let a = after (check (is_draft (object ms)) (Shape at)) _ r h in
        let b = after (within_tree at depth) _ r a.2 in
        let deep = shallow at depth b.0 b.1 in
        by_test r (is_exercise (object ms)) (exercise_member read at depth n ms) (leaf_of read at (object ms) >>= (λ f. Ok (f, n)))
        (λ k. member_sized at depth n ms r deep p k)
        (λ k. leaf_sized at depth n (object ms) r deep p k)
        b.2

    member_sized : (at : Place) (depth n : ℕ) (ms : Members) (r : Drafts × ℕ) → depth ≤ 16 → n ≤ 64 → exercise_member read at depth n ms ≡ Ok r → IsTree depth n r
    member_sized at depth n no_members r q p h = absurd (cc)
    member_sized at depth n (member k d ms) r q p h =
        by_member r (slice_cmp nat_cmp (codes "exercise") k) (exercise_member read at depth n ms) (node_of read (at_member at (codes "exercise")) depth n d)
        (λ x. member_sized at depth n ms r q p x)
        (λ y. node_sized (at_member at (codes "exercise")) depth n d r q p y)
        h

    node_sized : (at : Place) (depth n : ℕ) (d : Data) (r : Drafts × ℕ) → depth ≤ 16 → n ≤ 64 → node_of read at depth n d ≡ Ok r → IsTree depth n r
    node_sized at depth n null r q p h = absurd (cc)
    node_sized at depth n (boolean b) r q p h = absurd (cc)
    node_sized at depth n (number m) r q p h = absurd (cc)
    node_sized at depth n (string s) r q p h = absurd (cc)
    node_sized at depth n (array ds) r q p h = absurd (cc)
    node_sized at depth n (object ms) r q p h =
        let a = after (exercise_draft_of read at (object ms)) _ r h in
        let c = after (children_member read at depth n ms) _ r a.2 in
        let t = children_sized at depth n ms c.0 p c.1 in
        rw (given (Root a.0 c.0.0 NoRoots, c.0.1) r c.2) (record { sized = omega (arith, t.1.sized); one = refl; few = t.1.few; low = omega (arith, t.1.low); each = (exercise_read read kept same at (object ms) a.0 a.1, each_append (IsDraftRead read kept same) (preorder c.0.0) [] t.1.each tt) })

    children_sized : (at : Place) (depth n : ℕ) (ms : Members) (r : Drafts × ℕ) → n ≤ 64 → children_member read at depth n ms ≡ Ok r → (many : ℕ) × AreTrees (depth + 1) n many r
    children_sized at depth n no_members r p h = absurd (cc)
    children_sized at depth n (member k d ms) r p h =
        by_member r (slice_cmp nat_cmp (codes "children") k) (children_member read at depth n ms) (tree_of read (at_member at (codes "children")) (depth + 1) n d)
        (λ x. children_sized at depth n ms r p x)
        (λ y. list_sized (at_member at (codes "children")) (depth + 1) n d r p y)
        h

    list_sized : (at : Place) (depth n : ℕ) (d : Data) (r : Drafts × ℕ) → n ≤ 64 → tree_of read at depth n d ≡ Ok r → (many : ℕ) × AreTrees depth n many r
    list_sized at depth n null r p h = absurd (cc)
    list_sized at depth n (boolean b) r p h = absurd (cc)
    list_sized at depth n (number m) r p h = absurd (cc)
    list_sized at depth n (string s) r p h = absurd (cc)
    list_sized at depth n (object ms) r p h = absurd (cc)
    list_sized at depth n (array ds) r p h =
        let a = after (within_limit at DRAFTS (n + item_count ds)) _ r h in
        let few : n + item_count ds ≤ 64 = (limit_kept at DRAFTS (n + item_count ds) a.0 a.1).1 in
        let g = drafts_sized at depth 0 (NoRoots, n + item_count ds) ds r few a.2 in
        (item_count ds, record { sized = omega (arith, g.sized); many = omega (arith, g.counted); few = g.few; low = g.low (omega arith); each = g.each tt })

    drafts_sized : (at : Place) (depth i : ℕ) (a : Drafts × ℕ) (ds : Items) (r : Drafts × ℕ) → a.1 ≤ 64 → drafts_from read at depth i a ds ≡ Ok r → GoOn depth (item_count ds) a r
    drafts_sized at depth i a no_items r p h = rw (given a r h) (record { sized = omega arith; counted = omega arith; few = p; low = λ x. x; each = λ x. x })
    drafts_sized at depth i a (item d ds) r p h =
        let s = after (draft_of read (at_item at i) depth a.1 d) _ r h in
        let t = tree_sized (at_item at i) depth a.1 d s.0 p s.1 in
        let g = drafts_sized at depth (i + 1) (join a.0 s.0.0, s.0.1) ds r t.few s.2 in
        record {
          sized = omega (arith, g.sized, t.sized, size_join a.0 s.0.0);
          counted = omega (arith, g.counted, t.one, count_join a.0 s.0.0);
          few = g.few;
          low = λ x. g.low (omega (arith, height_join a.0 s.0.0, t.low));
          each = λ x. g.each (rw (preorder_join a.0 s.0.0) (each_append (IsDraftRead read kept same) (preorder a.0) (preorder s.0.0) x t.each));
        }

  -- the trees of a list, which are as many as its items
  pub trees_read : (at : Place) (depth n : ℕ) (ds : Items) (r : Drafts × ℕ) → n ≤ 64 → tree_of read at depth n (array ds) ≡ Ok r → AreTrees depth n (item_count ds) r
  trees_read at depth n ds r p h =
      let a = after (within_limit at DRAFTS (n + item_count ds)) _ r h in
      let few : n + item_count ds ≤ 64 = (limit_kept at DRAFTS (n + item_count ds) a.0 a.1).1 in
      let g = drafts_sized at depth 0 (NoRoots, n + item_count ds) ds r few a.2 in
      record { sized = omega (arith, g.sized); many = omega (arith, g.counted); few = g.few; low = g.low (omega arith); each = g.each tt }
