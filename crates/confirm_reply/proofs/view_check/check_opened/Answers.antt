use Rattle.std.proofs.Common.{ℕ, List, sym, ap, subst, ◌∙◌, arith}
use Rattle.std.specs.Prelude.{All, nat_eq}
use Rattle.std.proofs.lemmas.Result.{IfOk-weaker}
use Rattle.confirm_reply.specs.Fit.{IsCheckableAt}
use Rattle.confirm_reply.specs.Located.{found_as}
use Rattle.confirm_reply.specs.Nodes.{trees_in}
use Rattle.confirm_reply.specs.Numbers.{numbered_trees}
use Rattle.confirm_reply.specs.Tried.{all_reasons, verdict_after}
use Rattle.confirm_reply.proofs.Checked.{few_numbers, missing, numbers_checkable, sent_by_another, split_by_others, verdict_given}
use Rattle.confirm_reply.proofs.ShownAt.{nodes_counted}
use Rattle.confirm_reply.proofs.view_check.check_opened.Goals as goal

pub numbered-requires : goal.numbered-requires
numbered-requires g c =
    let count = nodes_counted c.in_ok-nodes.nodes.items c.args.roots.now c.in_ok-nodes.ensures in
    omega (arith, count, c.in_ok-nodes.nodes.small)

pub returns-in_default : goal.returns-in_default
returns-in_default g c =
    missing c.args.input.now c.args.view.now (trees_in c.as_slice-nodes.result.now) (numbered_trees c.as_slice-trees.result.now) (record {
      roots = c.args.roots.now;
      put = c.requires.together;
      gathered = ap trees_in c.as_slice-nodes.ensures.value ∙ c.in_ok-nodes.ensures;
      counted = ap numbered_trees c.as_slice-trees.ensures.value ∙ c.in_ok-trees.ensures;
    })
    (rw c.in_default.is at c.in_ok-found.ensures)

pub returns-then-not-is_from_sender : goal.returns-then-not-is_from_sender
returns-then-not-is_from_sender g c =
    sent_by_another c.args.input.now c.args.view.now (trees_in c.as_slice-nodes.result.now) (numbered_trees c.as_slice-trees.result.now) (record {
      roots = c.args.roots.now;
      put = c.requires.together;
      gathered = ap trees_in c.as_slice-nodes.ensures.value ∙ c.in_ok-nodes.ensures;
      counted = ap numbered_trees c.as_slice-trees.ensures.value ∙ c.in_ok-trees.ensures;
    })
    (found_as c.in-Some.found) (rw c.in-Some.is at c.in_ok-found.ensures)
    (sym c.is_from_sender.ensures ∙ c.if-not-is_from_sender.true)

pub returns-then-not-is_split : goal.returns-then-not-is_split
returns-then-not-is_split g c =
    split_by_others c.args.input.now c.args.view.now (trees_in c.as_slice-nodes.result.now) (numbered_trees c.as_slice-trees.result.now) (record {
      roots = c.args.roots.now;
      put = c.requires.together;
      gathered = ap trees_in c.as_slice-nodes.ensures.value ∙ c.in_ok-nodes.ensures;
      counted = ap numbered_trees c.as_slice-trees.ensures.value ∙ c.in_ok-trees.ensures;
    })
    (found_as c.in-Some.found) (rw c.in-Some.is at c.in_ok-found.ensures) c.as_slice-starts.result.now (c.as_slice-starts.ensures.value ∙ c.in_ok-starts.ensures)
    (sym c.is_from_sender.ensures ∙ c.if-not-is_from_sender.false) (sym c.in_ok-is_split.ensures ∙ c.if-not-is_split.true)

pub verdict_on-requires-clause-checkable : goal.verdict_on-requires-clause-checkable
verdict_on-requires-clause-checkable g c =
    subst (λ (ns : List ℕ). All (IsCheckableAt c.args.input.now.setup.now.checked (trees_in c.as_slice-nodes.result.now)) ns) (sym c.as_slice-core.ensures.value)
    (numbers_checkable c.args.input.now c.args.view.now (trees_in c.as_slice-nodes.result.now) (numbered_trees c.as_slice-trees.result.now) (record {
      roots = c.args.roots.now;
      put = c.requires.together;
      gathered = ap trees_in c.as_slice-nodes.ensures.value ∙ c.in_ok-nodes.ensures;
      counted = ap numbered_trees c.as_slice-trees.ensures.value ∙ c.in_ok-trees.ensures;
    })
    (found_as c.in-Some.found) (rw c.in-Some.is at c.in_ok-found.ensures) c.as_slice-starts.result.now (c.as_slice-starts.ensures.value ∙ c.in_ok-starts.ensures)
    c.requires.checkable (sym c.in_ok-is_split.ensures ∙ c.if-not-is_split.false))

pub verdict_on-requires-clause-few : goal.verdict_on-requires-clause-few
verdict_on-requires-clause-few g c =
    rw c.as_slice-core.ensures.value (few_numbers c.args.input.now c.args.view.now (trees_in c.as_slice-nodes.result.now) (numbered_trees c.as_slice-trees.result.now) (record {
      roots = c.args.roots.now;
      put = c.requires.together;
      gathered = ap trees_in c.as_slice-nodes.ensures.value ∙ c.in_ok-nodes.ensures;
      counted = ap numbered_trees c.as_slice-trees.ensures.value ∙ c.in_ok-trees.ensures;
    })
    (found_as c.in-Some.found) (rw c.in-Some.is at c.in_ok-found.ensures) c.as_slice-starts.result.now (c.as_slice-starts.ensures.value ∙ c.in_ok-starts.ensures)
    c.requires.checkable)

pub returns : goal.returns
returns g c =
    let owed = verdict_given c.args.input.now c.args.view.now (trees_in c.as_slice-nodes.result.now) (numbered_trees c.as_slice-trees.result.now) (record {
      roots = c.args.roots.now;
      put = c.requires.together;
      gathered = ap trees_in c.as_slice-nodes.ensures.value ∙ c.in_ok-nodes.ensures;
      counted = ap numbered_trees c.as_slice-trees.ensures.value ∙ c.in_ok-trees.ensures;
    })
    (found_as c.in-Some.found) (rw c.in-Some.is at c.in_ok-found.ensures) c.as_slice-starts.result.now (c.as_slice-starts.ensures.value ∙ c.in_ok-starts.ensures)
    (nat_eq c.len.result 1) (ap (λ (n : ℕ). nat_eq n 1) c.len.ensures) (sym c.is_from_sender.ensures ∙ c.if-not-is_from_sender.false) (sym c.in_ok-is_split.ensures ∙ c.if-not-is_split.false) in
    let cores = ap (λ (ns : List ℕ). verdict_after c.args.input.now
    (record { trees = trees_in c.as_slice-nodes.result.now; core = ns; is_root = nat_eq c.len.result 1 }) all_reasons) c.as_slice-core.ensures.value in
    IfOk-weaker c.verdict_on.result _ _ (λ verdict is. is ∙ (cores ∙ owed)) c.verdict_on.ensures
