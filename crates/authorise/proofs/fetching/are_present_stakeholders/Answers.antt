use Rattle.authorise.proofs.Sets.{present, all_pass, second_fails, first_fails}
use Rattle.authorise.proofs.fetching.are_present_stakeholders.Goals as goal

pub returns-then-signatories : goal.returns-then-signatories
returns-then-signatories c =
    let p = present c.args.actors.now c.args.contract.now.signatories c.args.contract.now.observers c.args.by.now c.are_entitled-entitled.result c.are_acting-signatories.result c.are_acting-observers.result
    c.are_entitled-entitled.ensures c.are_acting-signatories.ensures c.are_acting-observers.ensures in
    all_pass c.are_entitled-entitled.result c.are_acting-signatories.result c.are_acting-observers.result _ c.if-entitled.true c.if-signatories.true p

pub returns-else-signatories : goal.returns-else-signatories
returns-else-signatories c =
    let p = present c.args.actors.now c.args.contract.now.signatories c.args.contract.now.observers c.args.by.now c.are_entitled-entitled.result c.are_acting-signatories.result c.are_acting-observers.result
    c.are_entitled-entitled.ensures c.are_acting-signatories.ensures c.are_acting-observers.ensures in
    second_fails c.are_entitled-entitled.result c.are_acting-signatories.result c.are_acting-observers.result _ c.if-entitled.true c.if-signatories.false p

pub returns-else-entitled : goal.returns-else-entitled
returns-else-entitled c =
    let p = present c.args.actors.now c.args.contract.now.signatories c.args.contract.now.observers c.args.by.now c.are_entitled-entitled.result c.are_acting-signatories.result c.are_acting-observers.result
    c.are_entitled-entitled.ensures c.are_acting-signatories.ensures c.are_acting-observers.ensures in
    first_fails c.are_entitled-entitled.result c.are_acting-signatories.result c.are_acting-observers.result _ c.if-entitled.false p
