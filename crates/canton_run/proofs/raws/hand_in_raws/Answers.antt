use Rattle.std.proofs.Common.{length, ap, ◌∙◌, arith}
use Rattle.canton_model.specs.declared.request.Request.{Request}
use Rattle.world_model.specs.Messages.{RequestMessage}
use Rattle.world_model.specs.Sequencing.{sequenced}
use Rattle.report_text.proofs.Zipped.{drop-item}
use Rattle.canton_run.proofs.HandingIn.{all_handed_in, none_handed_in, one_handed_in}
use Rattle.canton_run.proofs.raws.hand_in_raws.Goals as goal

pub raws-init : goal.raws-init
raws-init c = none_handed_in c.args.world.now c.args.raws.now

pub raws-preserved : goal.raws-preserved
raws-preserved c =
    let head = drop-item _ c.args.raws.now c.raws.raw-index c.raw-item.result c.as_slice-raw-items.ensures c.raws-test.true c.raw-item.is in
    let e = c.hand_in_raw.ensures in
    one_handed_in c.args.world.now c.args.raws.now c.raws.raw-index c.raw-item.result head c.raws.world c.raws.invariant c.hand_in_raw.new.world
    e.now e.nodes e.on e.lawful
    (λ m now f.
    c.in_ok-hand_in_raw.ensures.ok m now f
    ∙ ap (λ (request : Request). sequenced m now (c.raws.world.sequencer).list (RequestMessage request)) c.in_ok-request_of.ensures)

pub returns-clause-log : goal.returns-clause-log
returns-clause-log c =
    all_handed_in c.args.world.now c.args.raws.now c.raws.raw-index c.raws.world c.raws.invariant
    (let ends = c.raws.auto.raw-index-end in let out = c.raws-test.false in let same = c.as_slice-raw-items.ensures in
    omega (arith, ends, out, ap length same))
