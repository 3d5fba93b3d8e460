use Rattle.std.proofs.Common.{◌≡◌, ◌≤◌, List, arith, length, subst, sym, take}
use Rattle.std.proofs.lemmas.List.{take_all}
use Rattle.canton_model.specs.Inbox.{clean, inbox, node_active}
use Rattle.canton_model.specs.Shared.{shared_with}
use Rattle.canton_model.specs.declared.entry.Entry.{Entry}
use Rattle.framed_form.specs.FramedReading.{framed_reading}
use Rattle.commitment_text.proofs.Agreeing.{line_is_equal}
use Rattle.commitment_text.proofs.laws.counterparties_are_told_equal.Goals as goal

pub returns : goal.returns
returns c topology packages log p q name other b c' place genuine apart at p_from q_from p_told q_told =
    let reading = framed_reading topology packages in
    let all : take (length log) log ≡ log = take_all (length log) log (omega arith) in
    let p_clean : place ≤ clean topology.params (inbox reading p log) = omega (arith, at) in
    let q_clean : place ≤ clean topology.params (inbox reading q log) = omega (arith, at) in
    let same =
    c.counterparties_agree.ensures.contracts topology packages log p q (length log) (length log) place genuine apart (omega arith) (omega arith)
    (subst (λ (seen : List Entry). place ≤ clean topology.params (inbox reading p seen)) (sym all) p_clean)
    (subst (λ (seen : List Entry). place ≤ clean topology.params (inbox reading q seen)) (sym all) q_clean) p_told q_told in
    line_is_equal reading topology.params log p q name other b c' place p_from q_from at
    (subst
    (λ (seen : List Entry).
    shared_with reading q (node_active reading p (inbox reading p seen) place) ≡ shared_with reading p (node_active reading q (inbox reading q seen) place))
    all same)
