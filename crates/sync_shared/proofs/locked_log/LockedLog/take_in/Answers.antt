use Rattle.std.proofs.Common.{◌≡◌, ◌+◌, ℕ, List, Some, sym, ap, ◌∙◌, subst}
use Rattle.std.specs.Prelude.{IfSome}
use Rattle.world_model.specs.Messages.{Entry}
use Rattle.world_model.specs.Sequencing as s
use Rattle.seq_log.specs.Sequenced.{cause_of}
use Rattle.world_model.specs.Fits.{MayStand}
use Rattle.threads_model.specs.Inputs.{one_if}
use Rattle.sync_shared.proofs.Logs.{log_grows}
use Rattle.sync_shared.proofs.locked_log.LockedLog.take_in.Goals.{in-Request-1, in-Response-1, in-Verdict+in-Rejected-1, in-Verdict+in-TimedOut-1}
use Rattle.sync_shared.proofs.locked_log.LockedLog.take_in.Goals.{in-Verdict+in-Approved-1, in-Tick-1}
use Rattle.sync_shared.proofs.locked_log.LockedLog.take_in.Goals as goal

pub invariant_of-self : goal.invariant_of-self
invariant_of-self g c =
    let e = c.in-Ok.ensures in
    let s = c.self.inside.sequencer in
    let total = c.self.inside.count.total in
    log_grows g.S.Row.history g.S.Session.machine g.S.Session.start total s c.self.invariant c.append.new.self c.add.new.self.total c.args.now c.args.message
    e.made (subst (λ (xs : List Entry). MayStand g.S.Session.machine xs c.args.message) (sym c.self.view_is) c.requires.may)
    (e.ok g.S.Session.machine c.self.invariant.is_for) e.entry
    (c.add.ensures.total ∙ ap (λ (n : ℕ). total + n) (sym (ap one_if c.requires.input)))

pub returns-in-Ok-clause-genuine : goal.returns-in-Ok-clause-genuine
returns-in-Ok-clause-genuine g c =
    let m = g.S.Session.machine in
    let i = c.self.invariant in
    c.append.ensures.behind m i.is_for ((i.behind).sequencer)
    (subst (λ (xs : List Entry). MayStand m xs c.args.message) (sym c.self.view_is) c.requires.may)

pub returns-in-Err-clause-genuine : goal.returns-in-Err-clause-genuine
returns-in-Err-clause-genuine g c =
    let m = g.S.Session.machine in
    let i = c.self.invariant in
    let behind =
    c.append.ensures.behind m i.is_for ((i.behind).sequencer)
    (subst (λ (xs : List Entry). MayStand m xs c.args.message) (sym c.self.view_is) c.requires.may) in
    elim c.match-refusal.branch [
      | in-Request-1 w ↦ rw w.self-is behind
      | in-Response-1 w ↦ rw w.self-is behind
      | in-Verdict+in-Rejected-1 w ↦ rw w.self-is behind
      | in-Verdict+in-TimedOut-1 w ↦ rw w.self-is behind
      | in-Verdict+in-Approved-1 w ↦ rw w.self-is behind
      | in-Tick-1 w ↦ rw w.self-is behind
    ]

pub returns-in-Err-clause-cause : goal.returns-in-Err-clause-cause
returns-in-Err-clause-cause g c =
    let m = g.S.Session.machine in
    subst (λ (xs : List Entry). IfSome (cause_of c.in-Err.refusal.fault) (λ (cause : s.AppendFault). s.append_fault m xs c.args.message ≡ Some cause))
    c.self.view_is (c.in-Err.ensures.cause m c.self.invariant.is_for)
