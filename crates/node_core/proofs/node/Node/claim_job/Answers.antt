use Rattle.std.proofs.Common.{◌≡◌, None, Some, false, sym, ap, ◌∙◌, subst}
use Rattle.validate_job.specs.Owed.{owed_on_each}
use Rattle.world_model.specs.Places.{has_place}
use Rattle.node_core.specs.Duties.{Kept, IsPassed}
use Rattle.node_core.specs.Kept.{IsKept}
use Rattle.node_core.specs.Participant.{Participant, is_received_decided, next_place, owed_there}
use Rattle.node_inbox.specs.InboxState.{owed_kept, params_of, reading_of}
use Rattle.node_core.proofs.Claims.{free_is_next, next_is_owed, next_is_unclaimed}
use Rattle.node_core.proofs.KeptSteps.{claim_keeps, passed_keeps}
use Rattle.node_core.proofs.node.Node.claim_job.Goals as goal

pub returns-in_default-clause-place : goal.returns-in_default-clause-place
returns-in_default-clause-place c =
    let inbox = c.self.inside.inbox in
    let inv = c.self.invariant in
    subst (λ (p : Participant). None ≡ next_place p) c.self.view_is
    (c.in_default.ensures.place
    ∙ free_is_next (reading_of inbox) (params_of inbox) inbox.me inbox.items c.self.inside.duties c.self.inside.is_paused inv.1)

pub job-requires : goal.job-requires
job-requires c =
    let inbox = c.self.inside.inbox in
    let kept = c.self.inside.duties in
    let paused = c.self.inside.is_paused in
    let inv = c.self.invariant in
    next_is_owed (reading_of inbox) (params_of inbox) inbox.me inbox.items kept paused inv.1 c.in-Some.place
    (sym (c.in-Some.ensures.place ∙ free_is_next (reading_of inbox) (params_of inbox) inbox.me inbox.items kept paused inv.1))

pub claim-requires : goal.claim-requires
claim-requires c =
    let inbox = c.self.inside.inbox in
    let kept = c.self.inside.duties in
    let paused = c.self.inside.is_paused in
    let inv = c.self.invariant in
    subst (λ (k : Kept). has_place k.claimed c.in-Some.place ≡ false) (sym c.next_place.ensures.same)
    (next_is_unclaimed (reading_of inbox) (params_of inbox) inbox.me inbox.items kept paused inv.1 c.in-Some.place
    (sym (c.in-Some.ensures.place ∙ free_is_next (reading_of inbox) (params_of inbox) inbox.me inbox.items kept paused inv.1)))

pub invariant_of-self-2 : goal.invariant_of-self-2
invariant_of-self-2 c =
    let inbox = c.self.inside.inbox in
    let kept = c.self.inside.duties in
    let paused = c.self.inside.is_paused in
    let inv = c.self.invariant in
    let after = c.next_place.new.self in
    let place = c.in-Some.place in
    let owes =
    next_is_owed (reading_of inbox) (params_of inbox) inbox.me inbox.items kept paused inv.1 place
    (sym (c.in-Some.ensures.place ∙ free_is_next (reading_of inbox) (params_of inbox) inbox.me inbox.items kept paused inv.1)) in
    let new =
    subst (λ (k : Kept). has_place k.claimed place ≡ false) (sym c.next_place.ensures.same)
    (next_is_unclaimed (reading_of inbox) (params_of inbox) inbox.me inbox.items kept paused inv.1 place
    (sym (c.in-Some.ensures.place ∙ free_is_next (reading_of inbox) (params_of inbox) inbox.me inbox.items kept paused inv.1))) in
    let passed =
    subst (λ (k : Kept). IsPassed (is_received_decided (params_of inbox) inbox.items) k) c.next_place.ensures.same c.next_place.ensures.passed in
    let moved =
    subst (λ (k : Kept). IsKept (reading_of inbox) (params_of inbox) inbox.me inbox.items k) (sym c.next_place.ensures.same)
    (passed_keeps (reading_of inbox) (params_of inbox) inbox.me inbox.items kept inv.1 after.passed passed) in (
      inv.0,
      subst (λ (k : Kept). IsKept (reading_of inbox) (params_of inbox) inbox.me inbox.items k) (sym c.in_ok-claim.ensures.ok)
          (claim_keeps (reading_of inbox) (params_of inbox) inbox.me inbox.items after moved place owes new),
      inv.2,
      inv.3,
    )

pub returns-clause-place : goal.returns-clause-place
returns-clause-place c =
    let inbox = c.self.inside.inbox in
    let inv = c.self.invariant in
    subst (λ (p : Participant). Some c.in_ok-job.job.given.place ≡ next_place p) c.self.view_is
    (ap Some c.in_ok-job.ensures.place ∙ c.in-Some.ensures.place
    ∙ free_is_next (reading_of inbox) (params_of inbox) inbox.me inbox.items c.self.inside.duties c.self.inside.is_paused inv.1)

pub returns-clause-verdicts : goal.returns-clause-verdicts
returns-clause-verdicts c =
    let inbox = c.self.inside.inbox in
    let given = c.in_ok-job.job.given in
    subst (λ (p : Participant). owed_on_each given.input given.views ≡ owed_there p given.place) c.self.view_is
    (c.in_ok-job.ensures.owed
    ∙ ap (owed_kept (reading_of inbox) (params_of inbox) inbox.me inbox.start inbox.items) (sym c.in_ok-job.ensures.place))
