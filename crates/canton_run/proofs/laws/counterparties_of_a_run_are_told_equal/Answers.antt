use Rattle.canton_run.specs.Restarts.{base_in}
use Rattle.canton_run.proofs.laws.counterparties_of_a_run_are_told_equal.Goals as goal

pub returns : goal.returns
returns g c answer script capacity workers log results ends caused p q name other place run apart at p_from q_from p_told q_told =
    c.counterparties_are_told_equal.ensures script.topology script.checked log p q name other (base_in script log ends p) (base_in script log ends q) place ((run.cut).run).genuine apart at p_from q_from p_told
    q_told
