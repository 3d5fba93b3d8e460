use Rattle.std.proofs.Common.{sym, subst}
use Rattle.std.specs.List.Sorted.{IsStrictlyIncreasing}
use Rattle.node_core.specs.Duties.{AreToDistinct}
use Rattle.node_core.proofs.Beginnings.{may_claim, may_come, may_wait, none_claimed, taken_up}
use Rattle.node_core.proofs.node.Node.take_up.Goals as goal

pub put_all-requires : goal.put_all-requires
put_all-requires c =
    let p = c.args.self.now in
    may_come p.topology p.packages c.args.state.now c.requires.may p c.requires.begun c.as_slice.result.now c.as_slice.ensures

pub claim_all-requires-clause-owes : goal.claim_all-requires-clause-owes
claim_all-requires-clause-owes c =
    let p = c.args.self.now in
    may_claim p.topology p.packages c.args.state.now c.requires.may p c.requires.begun c.as_slice.result.now c.as_slice.ensures c.put_all.new.self
    c.in_ok-put_all.ensures c.as_slice-2.result.now c.as_slice-2.ensures

pub claim_all-requires-clause-none : goal.claim_all-requires-clause-none
claim_all-requires-clause-none c =
    let p = c.args.self.now in
    none_claimed p.topology p.packages c.args.state.now c.requires.may p c.requires.begun c.as_slice.result.now c.as_slice.ensures c.put_all.new.self
    c.in_ok-put_all.ensures

pub claim_all-requires-clause-ascend : goal.claim_all-requires-clause-ascend
claim_all-requires-clause-ascend c = subst IsStrictlyIncreasing (sym c.as_slice-2.ensures) (c.requires.may).ascend

pub wait_all-requires-clause-may : goal.wait_all-requires-clause-may
wait_all-requires-clause-may c =
    let p = c.args.self.now in
    may_wait p.topology p.packages c.args.state.now c.requires.may p c.requires.begun c.as_slice.result.now c.as_slice.ensures c.put_all.new.self
    c.in_ok-put_all.ensures c.as_slice-2.result.now c.as_slice-2.ensures c.claim_all.new.self c.in_ok-claim_all.ensures
    c.as_slice-3.result.now c.as_slice-3.ensures

pub wait_all-requires-clause-once : goal.wait_all-requires-clause-once
wait_all-requires-clause-once c = subst AreToDistinct (sym c.as_slice-3.ensures) (c.requires.may).once

pub returns : goal.returns
returns c =
    let p = c.args.self.now in
    taken_up p.topology p.packages c.args.state.now c.requires.may p c.requires.begun c.as_slice.result.now c.as_slice.ensures c.put_all.new.self
    c.in_ok-put_all.ensures c.as_slice-2.result.now c.as_slice-2.ensures c.claim_all.new.self c.in_ok-claim_all.ensures
    c.as_slice-3.result.now c.as_slice-3.ensures c.wait_all.new.self c.in_ok-wait_all.ensures
