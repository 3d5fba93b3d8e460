use Rattle.std.proofs.Common.{◌≡◌, List, sym, ap, subst, arith}
use Rattle.world_model.specs.Messages.{Entry}
use Rattle.world_model.specs.Fits.{MayStand}
use Rattle.threads_model.specs.Inputs.{one_if, is_input}
use Rattle.sync_shared.proofs.Logs.{log_grows}
use Rattle.sync_shared.proofs.locked_log.LockedLog.answer.Goals as goal

pub invariant_of-self : goal.invariant_of-self
invariant_of-self g c =
    let e = c.in-Ok.ensures in
    let s = c.self.inside.sequencer in
    let total = c.self.inside.count.total in
    let none : one_if (is_input c.args.message) ≡ 0 = ap one_if c.requires.answer in
    log_grows g.S.Row.history g.S.Session.machine g.S.Session.start total s c.self.invariant c.append.new.self total 0 c.args.message
    e.made (subst (λ (xs : List Entry). MayStand g.S.Session.machine xs c.args.message) (sym c.self.view_is) c.requires.may)
    (e.ok g.S.Session.machine c.self.invariant.is_for) e.entry (omega arith)
