use Rattle.std.proofs.Common.{◌≤◌, ◌<◌, ◌∙◌, length, ap, arith}
use Rattle.std.proofs.lemmas.Result.{IfOk-weaker}
use Rattle.confirm_reply.specs.Located.{found_as}
use Rattle.confirm_reply.specs.Nodes.{trees_in}
use Rattle.confirm_reply.specs.Numbers.{numbered_trees}
use Rattle.confirm_reply.proofs.Ready.{not_opened, ready_where_sure, too_many}
use Rattle.confirm_reply.proofs.ShownAt.{nodes_counted}
use Rattle.confirm_reply.proofs.Sure.{can_be, is_opened}
use Rattle.confirm_reply.proofs.condition.can_check.Goals as goal

pub numbered-requires : goal.numbered-requires
numbered-requires c =
    let count = nodes_counted c.in_ok-nodes.nodes.items c.in_ok-roots.roots c.in_ok-nodes.ensures in
    omega (arith, count, c.in_ok-nodes.nodes.small)

pub returns-in_default-clause-decides : goal.returns-in_default-clause-decides
returns-in_default-clause-decides c =
    not_opened c.args.view.now c.args.tree.now (numbered_trees c.as_slice.result.now) c.in_ok-roots.roots c.in_ok-roots.ensures
    (ap numbered_trees c.as_slice.ensures.value ∙ c.in_ok-trees.ensures) c.args.checked.now (rw c.in_default.is at c.in_ok-found.ensures)

pub returns-then-len-gt-MOST_CORE_ACTIONS-clause-decides : goal.returns-then-len-gt-MOST_CORE_ACTIONS-clause-decides
returns-then-len-gt-MOST_CORE_ACTIONS-clause-decides c =
    let many : 65536 < length c.in-Some.found.core.items = omega (arith, c.len.ensures, c.if-len-gt-MOST_CORE_ACTIONS.true) in
    too_many c.args.view.now c.args.tree.now (numbered_trees c.as_slice.result.now) c.in_ok-roots.roots c.in_ok-roots.ensures
    (ap numbered_trees c.as_slice.ensures.value ∙ c.in_ok-trees.ensures) c.args.checked.now (found_as c.in-Some.found) (rw c.in-Some.is at c.in_ok-found.ensures)
    many

pub returns-clause-decides : goal.returns-clause-decides
returns-clause-decides c =
    let few : length c.in-Some.found.core.items ≤ 65536 = omega (arith, c.len.ensures, c.if-len-gt-MOST_CORE_ACTIONS.false) in
    let ready = ready_where_sure c.args.view.now c.args.tree.now (numbered_trees c.as_slice.result.now) c.in_ok-roots.roots c.in_ok-roots.ensures
    (ap numbered_trees c.as_slice.ensures.value ∙ c.in_ok-trees.ensures) c.args.checked.now (found_as c.in-Some.found) (rw c.in-Some.is at c.in_ok-found.ensures)
    few c.as_slice-2.result.now (ap trees_in c.as_slice-2.ensures.value ∙ c.in_ok-nodes.ensures) in
    IfOk-weaker c.are_sure.result _ _ (λ sure decided. ready sure decided) c.are_sure.ensures

pub returns-clause-opened : goal.returns-clause-opened
returns-clause-opened c =
    let opened = is_opened c.args.view.now c.args.tree.now (found_as c.in-Some.found) (numbered_trees c.as_slice.result.now) c.in_ok-roots.roots c.in_ok-roots.ensures
    (ap numbered_trees c.as_slice.ensures.value ∙ c.in_ok-trees.ensures) (rw c.in-Some.is at c.in_ok-found.ensures) in
    IfOk-weaker c.are_sure.result _ _ (λ can sure yes. opened) c.are_sure.ensures

pub returns-clause-checkable : goal.returns-clause-checkable
returns-clause-checkable c =
    let few : length c.in-Some.found.core.items ≤ 65536 = omega (arith, c.len.ensures, c.if-len-gt-MOST_CORE_ACTIONS.false) in
    let can = can_be c.args.view.now c.args.tree.now (found_as c.in-Some.found) (numbered_trees c.as_slice.result.now) c.in_ok-roots.roots c.in_ok-roots.ensures
    (ap numbered_trees c.as_slice.ensures.value ∙ c.in_ok-trees.ensures) (rw c.in-Some.is at c.in_ok-found.ensures)
    c.args.checked.now c.as_slice-2.result.now (ap trees_in c.as_slice-2.ensures.value ∙ c.in_ok-nodes.ensures) few in
    IfOk-weaker c.are_sure.result _ _ (λ b sure yes. can (sure.0 yes)) c.are_sure.ensures
