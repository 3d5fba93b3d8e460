use Rattle.std.proofs.Common.{refl}
use Rattle.framed_form.specs.FramedReading.{framed_reading}
use Rattle.commitment_text.specs.Asked.{counterparty_of}
use Rattle.commitment_text.specs.Commitments.{pair_text}
use Rattle.commitment_text.proofs.NextPairs.{first_left, next_pair}
use Rattle.commitment_text.proofs.pairs.put_pairs_with.Goals as goal

pub others-preserved : goal.others-preserved
others-preserved c =
    let line = pair_text (framed_reading c.args.setup.now.topology c.args.setup.now.checked) (counterparty_of c.args.one.now) in
    let others = c.args.others.now in
    let i = c.others.other-index in
    let head = first_left others others i c.other-item.result refl c.others-test.true c.other-item.is in
    next_pair line others i c.other-item.result _ _ _ head c.others.invariant c.in_ok-put_pair.ensures
