use Rattle.std.proofs.Common.{List, sym, subst}
use Rattle.world_model.specs.Messages.{Entry}
use Rattle.world_model.specs.Fits.{IsDecision}
use Rattle.sync_shared.specs.Slips.{read_to}
use Rattle.sync_shared.proofs.Handing.{decided_over}
use Rattle.sync_shared.proofs.lane.hand_in_verdict.Goals as goal

pub answer-requires-clause-may : goal.answer-requires-clause-may
answer-requires-clause-may g c =
    subst (λ (xs : List Entry). IsDecision g.S.Session.machine.params xs c.args.given.verdict) (sym c.reaches.ensures.same.0)
    (decided_over g.S.Session.machine (read_to c.args.given.known) c.args.log.now c.args.given.verdict c.reaches.ensures.begins c.requires.decided)
