use Rattle.std.proofs.Common.{subst, sym}
use Rattle.layer_cases.specs.Sharings.{CanBeShared}
use Rattle.layer_cases.proofs.CanShare.{new_can}
use Rattle.layer_cases.proofs.sharing.kept.begun.Goals as goal

pub returns-clause-world : goal.returns-clause-world
returns-clause-world c =
    subst (CanBeShared _ _ _) (sym c.in_ok-world.ensures.ok) (
    new_can _ _ _ _ c.in_ok-made.ensures.set_up c.in_ok-made.ensures.bases c.in_ok-made.ensures.is c.in_ok-made.ensures.new)
