use Rattle.std.proofs.Common.{sym, ◌∙◌}
use Rattle.std.proofs.lemmas.Result.{IfOk-weaker}
use Rattle.framed_form.proofs.ReadOutlines.{narrow_of}
use Rattle.whole_request.proofs.Read.{whole_read, whole_unread}
use Rattle.whole_request.proofs.reading.whole_of.Goals as goal

pub returns-in_default : goal.returns-in_default
returns-in_default c =
    λ packages framed.
    let none = rw c.in_default.is at c.in_ok-outline.ensures.none in
    let no = sym framed ∙ none c.args.topology.now in
    absurd cc

pub returns-in_default-2 : goal.returns-in_default-2
returns-in_default-2 c =
    λ packages framed. sym (whole_unread c.args.topology.now c.args.request.now (rw (c.as_slice.ensures) at (sym c.in_ok-told.ensures.exact ∙ c.in_default-2.is)))

pub whole_told-requires-clause-narrow : goal.whole_told-requires-clause-narrow
whole_told-requires-clause-narrow c = narrow_of c.in-Some-2.told (rw c.in-Some-2.is at c.in_ok-told.ensures.fits)

pub returns : goal.returns
returns c =
    IfOk-weaker c.whole_told.result _ _
    (λ o same packages framed.
    same ∙ whole_read c.args.topology.now c.args.request.now c.in-Some-2.told (rw (c.as_slice.ensures) at (sym c.in_ok-told.ensures.exact ∙ c.in-Some-2.is)) framed)
    c.whole_told.ensures
