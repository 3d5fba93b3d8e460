use Rattle.std.proofs.Common.{sym, ap, ◌∙◌, subst, take}
use Rattle.canton_model.specs.Genuine.{Genuine}
use Rattle.canton_model.proofs.LongerLogs.{genuine_take}
use Rattle.framed_form.specs.FramedReading.{framed_reading}
use Rattle.canton_draw.proofs.script_page.page_text.Goals as goal

pub page_of-requires-clause-genuine : goal.page_of-requires-clause-genuine
page_of-requires-clause-genuine g c =
    let reading = framed_reading c.args.setup.now.topology c.args.setup.now.checked in
    let params = c.args.setup.now.topology.params in
    let first = c.first_entries-first.ensures.first in
    subst (Genuine reading params) (sym (first.1 ∙ ap (take first.0) c.as_slice.ensures)) (genuine_take reading params c.in_ok-log.log first.0 c.in_ok-log.ensures)
