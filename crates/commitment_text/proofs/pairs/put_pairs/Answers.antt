use Rattle.std.proofs.Common.{◌+◌, ◌-◌, arith, drop, length, length-drop, refl}
use Rattle.std.proofs.lemmas.List.{take_all}
use Rattle.framed_form.specs.FramedReading.{framed_reading}
use Rattle.commitment_text.proofs.NextPairs.{first_left, next_pairs}
use Rattle.commitment_text.proofs.pairs.put_pairs.Goals as goal

pub all-preserved : goal.all-preserved
all-preserved c =
    let reading = framed_reading c.args.setup.now.topology c.args.setup.now.checked in
    let all = c.args.all.now in
    let i = c.all.at in
    let one = c.index-all-at.result in
    let head = first_left all all i one refl c.all-test.true c.index-all-at.is in
    let others = take_all (length all - (i + 1)) (drop (i + 1) all) (omega (arith, length-drop (i + 1) all)) in
    next_pairs reading all _ i one _ _ _ head others c.all.invariant c.in_ok-put_pairs_with.ensures
