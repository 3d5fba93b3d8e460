use Rattle.std.proofs.Common.{sym, subst}
use Rattle.canton_model.specs.Genuine.{Genuine}
use Rattle.framed_form.specs.FramedReading.{framed_reading}
use Rattle.canton_draw.proofs.script_log.log_by.Goals as goal

pub returns : goal.returns
returns g c =
    let setup = c.args.setup.now in
    subst (Genuine (framed_reading setup.topology setup.checked) setup.topology.params) (sym c.into_log.ensures)
    (((c.in_ok-played.ensures.run).cut).run).genuine
