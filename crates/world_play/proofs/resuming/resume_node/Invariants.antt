use Rattle.std.proofs.Common.{◌≡◌, take}
use Rattle.world_play.proofs.Resumes.{IsResumer, open_of}
use Rattle.world_play.proofs.resuming.resume_node.Given as goal

abbrev pub invariant-places : goal.invariant-places
invariant-places l = (l.sequencer ≡ l.fn.sequencer) × IsResumer l.at l.fn.node l.fn.sequencer l.node (take l.number (open_of l.fn.sequencer))
