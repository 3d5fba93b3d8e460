use Rattle.std.proofs.Common.{ℕ, List, ◌∷◌, subst}
use Rattle.std.specs.Prelude.{IfNone, IfOk, IfSome}
use Rattle.world_model.specs.Fits.{IsDecision}
use Rattle.mediator.specs.Order.{HasGiven, IsFirstDue, NothingIsDue}
use Rattle.sync_shared.specs.Behind.{Mediating}
use Rattle.sync_shared.specs.Slips.{read_to}
use Rattle.sync_shared.proofs.Mediators.{first_taken, none_taken, verdict_decided, verdict_taken}
use Rattle.sync_shared.proofs.locked_mediator.LockedMediator.take_verdict.Goals as goal

pub invariant_of-self : goal.invariant_of-self
invariant_of-self g c =
    let e = c.take_verdict.ensures in (
      c.self.invariant.0,
      verdict_taken g.S.Session.machine (read_to c.self.inside.last) c.self.inside.mediator c.self.invariant.1 c.take_verdict.new.self e.params
          c.take_verdict.result e.verdict e.ok e.err,
    )

pub returns-clause-decision : goal.returns-clause-decision
returns-clause-decision g c =
    let e = c.take_verdict.ensures in
    subst (λ (s : Mediating). IfOk c.take_verdict.result (λ o. IfSome o (IsDecision g.S.Session.machine.params s.list))) c.self.view_is
    (verdict_decided g.S.Session.machine (read_to c.self.inside.last) c.self.inside.mediator c.self.invariant.1 c.take_verdict.new.self e.params
    c.take_verdict.result e.verdict e.ok)

pub returns-clause-first : goal.returns-clause-first
returns-clause-first g c =
    let m = g.S.Session.machine in
    let e = c.take_verdict.ensures in
    let after = c.take_verdict.new.self in
    subst
    (λ (s : Mediating). IfOk c.take_verdict.result (λ o. IfSome o (λ v. (given : List ℕ) → HasGiven m s.list given s.kept
    → IsFirstDue m.params s.list given v × HasGiven m s.list (v.request ∷ given) after))) c.self.view_is
    (first_taken m (read_to c.self.inside.last) c.self.inside.mediator c.self.invariant.1 after e.params c.take_verdict.result e.verdict e.ok)

pub returns-clause-none : goal.returns-clause-none
returns-clause-none g c =
    let m = g.S.Session.machine in
    let e = c.take_verdict.ensures in
    let after = c.take_verdict.new.self in
    subst
    (λ (s : Mediating). IfOk c.take_verdict.result (λ o. IfNone o ((given : List ℕ) → HasGiven m s.list given s.kept
    → NothingIsDue m.params s.list given × HasGiven m s.list given after))) c.self.view_is
    (none_taken m (read_to c.self.inside.last) c.self.inside.mediator c.self.invariant.1 after e.params c.take_verdict.result e.verdict e.ok)
