use Rattle.std.proofs.Common.{◌-◌, ◌^◌, length}
use Rattle.sync_shared.proofs.lane.read_log.Given as goal

abbrev pub decreases-entries : goal.decreases-entries
decreases-entries g l = 2 ^ 64 - length l.mediator.list
