-- What all clients brought is what a round's submissions are answered.
use Rattle.std.proofs.Common.{◌≡◌, ℕ, ◌<◌, List, [], sym, ◌∙◌, subst}
use Rattle.std.specs.Prelude.{All}
use mathlib.Core.List.{IsPrefix}
use Rattle.ledger_terms.specs.declared.submission.Submission.{Submission}
use Rattle.ledger_model.specs.Terms.{ParticipantId}
use Rattle.ledger_model.proofs.Lists.{In, in_at}
use Rattle.node_core.specs.declared.submit_result.SubmitResult.{SubmitResult}
use Rattle.prepare_request.specs.declared.submit_fault.SubmitFault.{SubmitFault}
use Rattle.seq_log.specs.Sequenced.{Sequenced, IsFor}
use Rattle.threads_model.specs.Merging.{Merging}
use Rattle.threads_model.specs.Shared.{ClientHas, Joined}
use Rattle.threads_model.proofs.Merges.{clients_join}
use Rattle.world_model.specs.Messages.{Entry}
use Rattle.world_model.specs.Machine.{Machine}
use Rattle.world_model.specs.Rounds as r
use Rattle.world_play.specs.Results.{results_of}
use Rattle.world_play.specs.Parts.{GoesOn}
use Rattle.world_play.proofs.Plays.{each_of}
use Rattle.shared_rounds.specs.Joined.{AreAnswered}
use Rattle.shared_rounds.specs.Queues.{queued}

pub joined_of : (m : Machine) (why : r.Why SubmitFault) (now : ℕ) (paused : List ParticipantId) (first : List Entry) (submits : List Submission)
    (log : List Entry) (queues : List (List SubmitResult)) (results : List SubmitResult)
    → AreAnswered m why now paused first submits log queues
    → ((left : ParticipantId → r.Results SubmitFault) × Merging submits (queued submits queues) left (results_of submits results) [])
    → All (λ (what : Submission). what.participant < m.hosts) submits
    → (round : r.Round) → round.paused ≡ paused → round.submits ≡ submits → Joined m why now round first log (results_of submits results)
joined_of m why now paused first submits log queues results a merged there round same_paused same_submits =
    let inside : (what : Submission) → In what round.submits → what.participant < m.hosts =
    λ what i.
    let at = in_at submits what (subst (In what) same_submits i) in
    each_of (λ (w : Submission). w.participant < m.hosts) submits at.0 what there at.1 in
    let in_round : Merging round.submits (queued submits queues) merged.0 (results_of submits results) [] =
    subst (λ (ws : List Submission). Merging ws (queued submits queues) merged.0 (results_of submits results) []) (sym same_submits) merged.1 in
    (clients_join m why now round first log (queued submits queues) merged.0 (results_of submits results) in_round inside a.genuine a.within_capacity
    a.begins
    (λ p lt. subst (λ (ps : List ParticipantId). ClientHas m why now ps first log (queued submits queues p)) (sym same_paused) (a.clients p lt))
    a.count).0

-- the log goes on, of the same machine
pub goes_on : (m : Machine) (before after : Sequenced) → IsFor m before → IsFor m after → after.row ≡ before.row → IsPrefix before.list after.list
    → GoesOn before after
goes_on m before after is_for is_for' row begins =
    record {
      row = row;
      capacity = sym is_for'.capacity ∙ is_for.capacity;
      params = sym is_for'.params ∙ is_for.params;
      framed = λ q. sym (is_for'.framed q) ∙ is_for.framed q;
      more = begins.0;
      is_more = sym begins.1;
    }
