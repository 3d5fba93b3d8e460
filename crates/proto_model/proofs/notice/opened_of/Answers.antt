use Rattle.std.proofs.Common.{sym, ap, ◌∙◌}
use Rattle.framed_form.specs.FramedForm.{root_in}
use Rattle.framed_form.proofs.ReadOutlines.{narrow_of}
use Rattle.proto_model.proofs.notice.opened_of.Goals as goal

pub opened_beside-requires-clause-narrow : goal.opened_beside-requires-clause-narrow
opened_beside-requires-clause-narrow c = narrow_of c.in-Some.told (rw c.in-Some.is at c.in_ok-told.ensures.fits)

pub opened_beside-requires-clause-root : goal.opened_beside-requires-clause-root
opened_beside-requires-clause-root c = c.requires ∙ ap root_in (rw (c.as_slice.ensures) at (sym c.in_ok-told.ensures.exact ∙ c.in-Some.is))
