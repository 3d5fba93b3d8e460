-- Prepared trees: members looked up one by one.
use Rattle.std.proofs.Common.{◌≡◌, ℕ, ◌+◌, List, length, Some, Ok, ok_or, refl, Ordering, Less, Equal, Greater}
use Rattle.std.specs.Prelude.{codes, if◌then◌else◌}
use Rattle.std.specs.Ordering.{nat_cmp, match_ordering}
use Rattle.std.specs.Cmp.Lexicographic.{slice_cmp}
use Rattle.serde_json.specs.Data.{Data, null, boolean, number, string, array, object, Members, no_members, member}
use Rattle.serde_json.specs.Find.{get_member}
use Rattle.serde_json.specs.View.{items_view}
use Rattle.serde_json.specs.declared.value.Value.{Value}
use Rattle.ledger_terms.specs.Forest.{NoRoots, Root}
use Rattle.ledger_terms.specs.Pointers.{at_member}
use Rattle.ledger_terms.specs.declared.host.Host.{Host}
use Rattle.ledger_terms.specs.Answers.{◌>>=◌, check}
use Rattle.json_walk.specs.declared.limits.TheConstants.{DRAFTS}
use Rattle.json_walk.specs.Walk.{within_limit, Place, has_members, member_of}
use Rattle.json_walk.specs.declared.walk_fault.WalkFault.TheVariants.{Shape}
use Rattle.json_walk.proofs.Items.{item_count_view}
use Rattle.script_read.specs.Commands.{is_create, is_exercise}
use Rattle.script_read.specs.Drafts.{is_fetch, is_draft, within_tree, leaf_of, has_draft_members, exercise_draft_of, draft_of, exercise_member, node_of, children_member, tree_of, drafts_from}

by_order : {A B : Type 0} (o : Ordering) (a b : A) (x y : B) (f : A → B) → x ≡ f a → y ≡ f b → match_ordering o x y x ≡ f (match_ordering o a b a)
by_order Less a b x y f p q = p
by_order Equal a b x y f p q = q
by_order Greater a b x y f p q = p

module _ (hosts : List Host) (at : Place) (depth : ℕ) where
  exercise_member-get : (n : ℕ) (ms : Members) → exercise_member hosts at depth n ms ≡ (ok_or (get_member (codes "exercise") ms) (Shape at) >>= node_of hosts (at_member at (codes "exercise")) depth n)
  exercise_member-get n no_members = refl
  exercise_member-get n (member k d ms) =
      by_order (slice_cmp nat_cmp (codes "exercise") k) (get_member (codes "exercise") ms) (Some d) (exercise_member hosts at depth n ms) (node_of hosts (at_member at (codes "exercise")) depth n d) (λ o. ok_or o (Shape at) >>= node_of hosts (at_member at (codes "exercise")) depth n) (exercise_member-get n ms) refl

  children_member-get : (n : ℕ) (ms : Members) → children_member hosts at depth n ms ≡ (ok_or (get_member (codes "children") ms) (Shape at) >>= tree_of hosts (at_member at (codes "children")) (depth + 1) n)
  children_member-get n no_members = refl
  children_member-get n (member k d ms) =
      by_order (slice_cmp nat_cmp (codes "children") k) (get_member (codes "children") ms) (Some d) (children_member hosts at depth n ms) (tree_of hosts (at_member at (codes "children")) (depth + 1) n d) (λ o. ok_or o (Shape at) >>= tree_of hosts (at_member at (codes "children")) (depth + 1) n) (children_member-get n ms) refl

  -- a draft by its members
  pub draft_of-is : (n : ℕ) (d : Data) → draft_of hosts at depth n d ≡ (check (is_draft d) (Shape at)
      >>= (λ _. within_tree at depth
      >>= (λ _. if is_exercise d then (member_of at (codes "exercise") d >>= node_of hosts (at_member at (codes "exercise")) depth n) else (leaf_of hosts at d >>= (λ f. Ok (f, n))))))
  unfolding member_of has_members is_draft is_create is_exercise is_fetch
  draft_of-is n null = refl
  draft_of-is n (boolean b) = refl
  draft_of-is n (number m) = refl
  draft_of-is n (string s) = refl
  draft_of-is n (array ds) = refl
  draft_of-is n (object ms) = rw (exercise_member-get n ms) refl

  -- an exercise by its members
  pub node_of-is : (n : ℕ) (d : Data) → node_of hosts at depth n d ≡ (exercise_draft_of hosts at d
      >>= (λ a. (member_of at (codes "children") d >>= tree_of hosts (at_member at (codes "children")) (depth + 1) n)
      >>= (λ c. Ok (Root a c.0 NoRoots, c.1))))
  unfolding member_of has_members exercise_draft_of has_draft_members
  node_of-is n null = refl
  node_of-is n (boolean b) = refl
  node_of-is n (number m) = refl
  node_of-is n (string s) = refl
  node_of-is n (array ds) = refl
  node_of-is n (object ms) = rw (children_member-get n ms) refl

  -- a list of drafts by its length
  pub tree_of-is : (n : ℕ) (vs : List Value) (d : Data) → d ≡ array (items_view vs) → tree_of hosts at depth n d ≡ (within_limit at DRAFTS (n + length vs) >>= (λ _. drafts_from hosts at depth 0 (NoRoots, n + length vs) (items_view vs)))
  tree_of-is n vs d is = rw (is, item_count_view vs) refl
