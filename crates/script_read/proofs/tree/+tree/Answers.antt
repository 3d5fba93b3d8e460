use Rattle.std.proofs.Common.{rules, arith, ◌≡◌, ◌<◌, ◌+◌, ◌*◌, Ok, get_or, length}
use Rattle.std.specs.Prelude.{codes}
use Rattle.serde_json.specs.Data.{array, depth, items_depth}
use Rattle.serde_json.specs.View.{view, items_view}
use Rattle.serde_json.specs.declared.value.Value.{the_lemmas}
use Rattle.json_walk.specs.Walk.{member_of}
use Rattle.json_walk.proofs.Nested.{member_below, item_below}
use Rattle.script_read.specs.Drafts.{exercise_draft_of, has_draft_members, call_of}
use Rattle.script_read.proofs.Trees.{draft_of-is, node_of-is, tree_of-is}
use Rattle.script_read.proofs.tree.+tree.Goals as goal

-- ---- what is read next stands deeper

pub read_draft-read_node-requires : goal.read_draft-read_node-requires
read_draft-read_node-requires t c =
    let is : member_of c.args.at.now (codes "exercise") (view c.args.value.now) ≡ Ok (view c.in_ok-found.found.now) = c.in_ok-found.ensures in
    let below : 2 * depth (view c.in_ok-found.found.now) < 2 * depth (view c.args.value.now) = omega (arith, member_below c.args.at.now (codes "exercise") (view c.args.value.now) (view c.in_ok-found.found.now) is) in
    (rw (← c.decreases) below, (c.in_ok-check_limit.ensures.most, c.requires.few))

pub read_node-read_tree-requires : goal.read_node-read_tree-requires
read_node-read_tree-requires t c =
    let is : member_of c.args.at.now (codes "children") (view c.args.value.now) ≡ Ok (view c.in_ok-found.found.now) = c.in_ok-found.ensures in
    let below : 2 * depth (view c.in_ok-found.found.now) < 2 * depth (view c.args.value.now) = omega (arith, member_below c.args.at.now (codes "children") (view c.args.value.now) (view c.in_ok-found.found.now) is) in
    (rw (← c.decreases) below, (omega arith, c.requires.few))

pub read_drafts-read_draft-requires : goal.read_drafts-read_draft-requires
read_drafts-read_draft-requires t c =
    let within : c.drafts.i < length c.args.items.now.items = omega arith in
    let is : c.index.result.now ≡ get_or c.args.items.now.items c.drafts.i c.index.result.now = search rules in
    let below : 2 * depth (view c.index.result.now) < 2 * items_depth (items_view c.args.items.now.items) + 1 = rw is (omega (arith, item_below c.args.items.now.items c.drafts.i c.index.result.now within)) in
    (rw (← c.decreases) below, (c.requires.depth, c.drafts.invariant.within))

-- ---- lists

pub read_tree-returns-in_err-check_limit-in-Array-clause-first : goal.read_tree-returns-in_err-check_limit-in-Array-clause-first
read_tree-returns-in_err-check_limit-in-Array-clause-first t c =
    let is : view c.args.value.now ≡ array (items_view c.in-Array.items.items) = search (rules, the_lemmas) in
    rw (tree_of-is c.args.topology.now.hosts c.args.at.now c.args.depth c.args.before c.in-Array.items.items _ is) (search rules)

pub read_tree-returns-in_ok-check_limit-in-Array-clause-first : goal.read_tree-returns-in_ok-check_limit-in-Array-clause-first
read_tree-returns-in_ok-check_limit-in-Array-clause-first t c =
    let is : view c.args.value.now ≡ array (items_view c.in-Array.items.items) = search (rules, the_lemmas) in
    rw (tree_of-is c.args.topology.now.hosts c.args.at.now c.args.depth c.args.before c.in-Array.items.items _ is) (search rules)

-- ---- drafts

pub read_draft-returns-in_err-check_limit-clause-first : goal.read_draft-returns-in_err-check_limit-clause-first
read_draft-returns-in_err-check_limit-clause-first t c = rw (draft_of-is c.args.topology.now.hosts c.args.at.now c.args.depth c.args.before (view c.args.value.now)) (search rules)

pub read_draft-returns-in_err-leaf-clause-first : goal.read_draft-returns-in_err-leaf-clause-first
read_draft-returns-in_err-leaf-clause-first t c = rw (draft_of-is c.args.topology.now.hosts c.args.at.now c.args.depth c.args.before (view c.args.value.now)) (search rules)

pub read_draft-returns-then-not-is_exercise-clause-first : goal.read_draft-returns-then-not-is_exercise-clause-first
read_draft-returns-then-not-is_exercise-clause-first t c = rw (draft_of-is c.args.topology.now.hosts c.args.at.now c.args.depth c.args.before (view c.args.value.now)) (search rules)

pub read_draft-returns-in_err-found-clause-first : goal.read_draft-returns-in_err-found-clause-first
read_draft-returns-in_err-found-clause-first t c = rw (draft_of-is c.args.topology.now.hosts c.args.at.now c.args.depth c.args.before (view c.args.value.now)) (search rules)

pub read_draft-returns-clause-first : goal.read_draft-returns-clause-first
read_draft-returns-clause-first t c = rw (draft_of-is c.args.topology.now.hosts c.args.at.now c.args.depth c.args.before (view c.args.value.now)) (search rules)

-- ---- exercises

pub read_node-returns-in_err-root-clause-first : goal.read_node-returns-in_err-root-clause-first
read_node-returns-in_err-root-clause-first t c = rw (node_of-is c.args.topology.now.hosts c.args.at.now c.args.depth c.args.before (view c.args.value.now)) (search rules)

pub read_node-returns-in_err-found-clause-first : goal.read_node-returns-in_err-found-clause-first
unfolding exercise_draft_of has_draft_members call_of member_of
read_node-returns-in_err-found-clause-first t c = rw (node_of-is c.args.topology.now.hosts c.args.at.now c.args.depth c.args.before (view c.args.value.now)) (search rules)

pub read_node-returns-in_err-below-clause-first : goal.read_node-returns-in_err-below-clause-first
read_node-returns-in_err-below-clause-first t c = rw (node_of-is c.args.topology.now.hosts c.args.at.now c.args.depth c.args.before (view c.args.value.now)) (search rules)

pub read_node-returns-clause-first : goal.read_node-returns-clause-first
read_node-returns-clause-first t c = rw (node_of-is c.args.topology.now.hosts c.args.at.now c.args.depth c.args.before (view c.args.value.now)) (search rules)
