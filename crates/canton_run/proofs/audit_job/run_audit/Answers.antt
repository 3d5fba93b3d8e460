use Rattle.std.proofs.Common.{List, ℕ, subst}
use Rattle.canton_run.specs.Ends.{TellsAudit}
use Rattle.canton_run.proofs.audit_job.run_audit.Goals as goal

pub returns-in-Ok-clause-done : goal.returns-in-Ok-clause-done
returns-in-Ok-clause-done g c at =
    let found = c.audit_bytes.ensures.done at in
    let tells = subst (λ (bytes : List ℕ). TellsAudit bytes found.0) c.as_slice.ensures found.1 in
    (found.0, (c.in-Ok.bytes, c.in-Ok.ensures.whole, tells, c.audit_bytes.ensures.nothing), found.2)

pub returns-in-Ok-clause-cut : goal.returns-in-Ok-clause-cut
returns-in-Ok-clause-cut g c at =
    let found = c.audit_bytes.ensures.cut at in
    let tells = subst (λ (bytes : List ℕ). TellsAudit bytes found.0) c.as_slice.ensures found.1 in
    (found.0, (c.in-Ok.bytes, c.in-Ok.ensures.whole, tells, c.audit_bytes.ensures.nothing), found.2, found.3)
