use Rattle.framed_form.specs.FramedReading.{framed_reading}
use Rattle.commitment_text.specs.Asked.{counterparty_of}
use Rattle.commitment_text.proofs.NextPairs.{told_pair}
use Rattle.commitment_text.proofs.pairs.put_pair_at.Goals as goal

pub returns : goal.returns
returns c =
    told_pair _ (framed_reading c.args.setup.now.topology c.args.setup.now.checked) (counterparty_of c.args.one.now) (counterparty_of c.args.other.now)
    c.args.place c.in_ok-mine.mine c.in_ok-theirs.theirs _ _ _ c.in_ok-mine.ensures c.in_ok-theirs.ensures
    c.in_ok-put_place.ensures c.put_shared.ensures
