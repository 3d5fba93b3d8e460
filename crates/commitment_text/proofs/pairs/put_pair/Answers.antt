use Rattle.std.proofs.Common.{◌≡◌, ◌++◌, ℕ, List, OnOk, string_bytes, ap, arith, subst, sym, ◌∙◌}
use Rattle.framed_form.specs.FramedReading.{framed_reading}
use Rattle.commitment_text.specs.Asked.{counterparty_of}
use Rattle.commitment_text.specs.Commitments.{base_of, pair_at, place_of}
use Rattle.commitment_text.proofs.FromBases.{unforgotten}
use Rattle.commitment_text.proofs.pairs.put_pair.Goals as goal

pub returns : goal.returns
returns c =
    let reading = framed_reading c.args.setup.now.topology c.args.setup.now.checked in
    let one = counterparty_of c.args.one.now in
    let other = counterparty_of c.args.other.now in
    let place = c.place_of-place.ensures in
    let base = c.base_of-base.ensures in
    subst (λ (text : List ℕ). OnOk c.put_pair_at.result (string_bytes c.put_pair_at.new.out ≡ string_bytes c.args.out.now ++ text))
    (ap (pair_at reading one other) place ∙ sym (unforgotten reading one other (base_of one other) (place_of one other) (omega (arith, c.if-place-base.false, place, base))))
    c.put_pair_at.ensures
