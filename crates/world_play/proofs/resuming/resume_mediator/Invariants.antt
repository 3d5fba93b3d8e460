use Rattle.std.proofs.Common.{take}
use Rattle.world_play.proofs.Resumes.{IsReturner, open_of}
use Rattle.world_play.proofs.resuming.resume_mediator.Given as goal

abbrev pub invariant-places : goal.invariant-places
invariant-places l = IsReturner l.fn.mediator l.fn.sequencer l.mediator (take l.number (open_of l.fn.sequencer))
