use Rattle.std.proofs.Common.{length, ap, ◌∙◌}
use Rattle.sync_shared.specs.Behind.{Mediating}
use Rattle.sync_shared.specs.Slips.{read_to}
use Rattle.sync_shared.proofs.Mediators.{cursor_is}
use Rattle.sync_shared.proofs.locked_mediator.LockedMediator.cursor.Goals as goal

pub returns : goal.returns
returns g c =
    c.cursor.ensures ∙ (cursor_is g.S.Session.machine (read_to c.self.inside.last) c.self.inside.mediator c.self.invariant.1 ∙ ap (λ (s : Mediating). length s.list) c.self.view_is)
