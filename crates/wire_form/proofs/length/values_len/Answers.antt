use Rattle.std.proofs.Common.{◌≡◌, length, arith, ap, ◌∙◌}
use Rattle.wire_form.specs.Lengths.{capped}
use Rattle.wire_form.specs.Spelling.{spell_value}
use Rattle.wire_form.proofs.Lens.{capped-one_more}
use Rattle.wire_form.proofs.length.values_len.Goals as goal

pub loop-value-preserved : goal.loop-value-preserved
loop-value-preserved c =
    let more : c.value_len.result ≡ capped (length (spell_value c.value-item.result)) = omega arith in
    let same = ap (λ x. capped (length (spell_value x))) c.value-item.is in
    c.saturating_add-len.ensures ∙ capped-one_more spell_value c.as_slice-value-items.result.now c.loop-value.value-index c.value-item.result 1 c.loop-value.len c.value_len.result c.loop-value-test.true c.loop-value.invariant (more ∙ same)
