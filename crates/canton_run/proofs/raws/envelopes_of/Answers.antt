use Rattle.std.proofs.Common.{◌+◌, ◌∷◌, [], ◌∙◌, append_assoc, drop, map}
use Rattle.report_text.proofs.Zipped.{drop-item}
use Rattle.canton_run.specs.Answered.{envelope_of}
use Rattle.canton_run.proofs.raws.envelopes_of.Goals as goal

pub raws-preserved : goal.raws-preserved
raws-preserved c =
    let raws = c.args.raws.now in
    let i = c.raws.raw-index in
    let raw = c.raw-item.result in
    let head = drop-item _ raws i raw c.as_slice-raw-items.ensures c.raws-test.true c.raw-item.is in
    let sofar = rw head at c.raws.invariant in
    rw (c.in_ok-push.ensures.ok, c.in_ok-envelope_of.ensures)
    (append_assoc c.raws.envelopes (envelope_of raw ∷ []) (map envelope_of (drop (i + 1) raws)) ∙ sofar)
