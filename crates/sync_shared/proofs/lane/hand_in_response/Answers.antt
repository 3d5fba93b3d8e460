use Rattle.std.proofs.Common.{List, sym, subst}
use Rattle.world_model.specs.Messages.{Entry}
use Rattle.world_model.specs.Fits.{IsOwed}
use Rattle.sync_shared.specs.Slips.{read_to}
use Rattle.sync_shared.proofs.Handing.{owed_over}
use Rattle.sync_shared.proofs.lane.hand_in_response.Goals as goal

pub answer-requires-clause-may : goal.answer-requires-clause-may
answer-requires-clause-may g c =
    subst (λ (xs : List Entry). IsOwed g.S.Session.machine.reading g.S.Session.machine.params xs c.args.response) (sym c.reaches.ensures.same.0)
    (owed_over g.S.Session.machine (read_to c.args.known.now) c.args.log.now c.args.response c.reaches.ensures.begins c.requires.owed)
