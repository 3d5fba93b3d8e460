use Rattle.std.proofs.Common.{◌≡◌, length, arith, ap, ◌∙◌}
use Rattle.wire_form.specs.Lengths.{capped}
use Rattle.wire_form.specs.Spelling.{spell_name}
use Rattle.wire_form.proofs.Lens.{capped-one_more}
use Rattle.wire_form.proofs.length.parties_len.Goals as goal

pub loop-name-preserved : goal.loop-name-preserved
loop-name-preserved c =
    let more : c.name_len.result ≡ capped (length (spell_name c.name-item.result)) = omega arith in
    let same = ap (λ x. capped (length (spell_name x))) c.name-item.is in
    c.saturating_add-len.ensures ∙ capped-one_more spell_name c.as_slice-name-items.result.now c.loop-name.name-index c.name-item.result 2 c.loop-name.len c.name_len.result c.loop-name-test.true c.loop-name.invariant (more ∙ same)
