use Rattle.std.proofs.Common.{subst}
use Rattle.world_model.specs.Locks.{SequencerBehind}
use Rattle.sync_shared.proofs.locked_log.LockedLog.reaches.Goals as goal

pub returns-clause-genuine : goal.returns-clause-genuine
returns-clause-genuine g c = subst (SequencerBehind g.S.Session.machine) c.self.view_is ((c.self.invariant.behind).sequencer)
