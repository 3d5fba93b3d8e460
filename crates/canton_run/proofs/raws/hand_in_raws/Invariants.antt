use Rattle.canton_run.proofs.HandingIn.{AreHandedIn}
use Rattle.canton_run.proofs.raws.hand_in_raws.Given as goal

abbrev pub invariant-raws : goal.invariant-raws
invariant-raws l = AreHandedIn l.fn.world l.raws l.raw-index l.world
