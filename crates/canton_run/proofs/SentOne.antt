-- What comes of one submission, as its slip tells it.
use Rattle.std.proofs.Common.{◌≡◌, ◌≢◌, ◌⊎◌, ℕ, ◌+◌, List, [], ◌∷◌, Option, Some, None, false, length, take, sym, ap, ◌∙◌, subst, inl, inr, arith, length-take}
use Rattle.std.specs.Prelude.{Result, Ok, Err}
use Rattle.std.proofs.lemmas.List.{length-append}
use Rattle.canton_model.specs.declared.request.Request.{Request}
use Rattle.ledger_model.specs.Terms.{ParticipantId}
use Rattle.ledger_terms.specs.declared.submission.Submission.{Submission}
use Rattle.ledger_terms.specs.declared.topology.Topology.{Topology}
use Rattle.lang_eval.specs.Found.{Packages}
use Rattle.log_row.specs.LogPrefix.{LogPrefix}
use Rattle.node_core.specs.Machines.{why_of}
use Rattle.node_core.specs.declared.submit_refusal.SubmitRefusal.{SubmitRefusal}
use Rattle.node_core.specs.declared.submit_result.SubmitResult.{SubmitResult}
use Rattle.node_core.specs.declared.submit_result.SubmitResult.TheVariants.{Refused, Sent}
use Rattle.prepare_request.specs.declared.submit_fault.SubmitFault.{SubmitFault}
use Rattle.prepare_request.specs.declared.submit_fault.SubmitFault.TheVariants.{Memory}
use Rattle.world_model.specs.Lawful.{Lawful}
use Rattle.world_model.specs.Machine.{Machine}
use Rattle.world_model.specs.Mediator.{MediatorState}
use Rattle.world_model.specs.Messages.{Entry, RequestMessage}
use Rattle.world_model.specs.Plain.{AnswersWanted, HandedIn}
use Rattle.world_model.specs.Rounds as w
use Rattle.world_model.specs.Rounds.{read_at, wanted_at}
use Rattle.world_model.specs.Sequencing.{Already, AppendFault, LogFull, TooLate, Unframed, append_fault, entry_after}
use Rattle.world_play.specs.Answering.{IsAnswer}
use Rattle.world_play.specs.Flags.{ArePaused}
use Rattle.world_play.specs.Results.{IsPlainResult}
use Rattle.world_play.specs.Submitted.{IsAnsweredBy, IsOutOfMemory, IsSlipOf}
use Rattle.world_play.specs.Submitting.{AreSetUp}
use Rattle.world_play.specs.WorldOf.{IsWorldOf, world_of}
use Rattle.world_play.specs.declared.world.World.{World}

-- what was sent stands at the end of the log, and all before it had been read
abbrev StandsLast : (place read_to : ℕ) → (before after : List Entry) → Type 0
StandsLast place read_to before after = (place ≡ length before) × (read_to ≡ length before) × (length after ≡ length before + 1)

handed_last : (now : ℕ) (log after : List Entry) (request : Request) (o : Option AppendFault) (place read_to : ℕ)
    → HandedIn {F = SubmitFault} now log request o (w.Sent place read_to) after → StandsLast place read_to log after
handed_last now log after request None place read_to h =
    let same : w.Sent place read_to ≡ w.Sent (length log) (length log) = h.0 in
    let long = length-append log (entry_after now log (RequestMessage request) ∷ []) in (cc, cc, ap length h.1 ∙ long)
handed_last now log after request (Some (Already at)) place read_to h =
    let apart : w.Sent place read_to ≡ w.Refused (w.Duplicate at) (length log) = h.0 in cc
handed_last now log after request (Some Unframed) place read_to h = absurd h
handed_last now log after request (Some (LogFull amount need)) place read_to h =
    let apart : w.Sent place read_to ≡ w.Refused (w.LogFull amount need) (length log) = h.0 in cc
handed_last now log after request (Some (TooLate decision time)) place read_to h = absurd h

wanted_last : (m : Machine) (fault : SubmitFault) (now : ℕ) (log after : List Entry) (o : Option Request) (place read_to : ℕ)
    → AnswersWanted m fault now log o (w.Sent place read_to) after → StandsLast place read_to log after
wanted_last m fault now log after None place read_to h =
    let apart : w.Sent place read_to ≡ w.Refused (w.Unwanted fault) (length log) = h.0 in cc
wanted_last m fault now log after (Some request) place read_to h =
    handed_last now log after request (append_fault m log (RequestMessage request)) place read_to h

sent_last : (m : Machine) (topology : Topology) (packages : Packages) (now : ℕ) (round : w.Round) (log after : List Entry) (what : Submission)
    (place read_to : ℕ) → IsAnswer m topology packages now round log what (Sent place read_to) after → StandsLast place read_to log after
sent_last m topology packages now round log after what place read_to (inl paused) =
    let apart : w.Sent place read_to ≡ w.Refused w.Paused paused.1 = paused.3 in cc
sent_last m topology packages now round log after what place read_to (inr awake) =
    wanted_last m (why_of topology packages what (read_at m log what (length log)) now) now log after (wanted_at m now log what (length log)) place read_to
    awake.1

-- a round of no submissions with these participants paused
abbrev quiet : List ParticipantId → w.Round
quiet paused = record { advance = 0; paused = paused; holds_verdicts = false; raws = []; submits = [] }

module _ (before after : World) (what : Submission) where
  abbrev IsGiven : SubmitResult → Result LogPrefix SubmitRefusal → Type 0
  IsGiven answer r = IsPlainResult answer × IsSlipOf answer after.sequencer r × IsAnsweredBy answer before what after

  abbrev IsTold : SubmitResult → Type 0
  IsTold answer = IsPlainResult answer × IsAnsweredBy answer before what after

  module _ (given : (m : Machine) × (state : MediatorState) × IsWorldOf m state before × Lawful m (world_of state before)) (topology : Topology)
      (packages : Packages) (set_up : AreSetUp topology packages (before.nodes).items) (paused : List ParticipantId)
      (flags : ArePaused paused (before.nodes).items) where
    told_last : (place read_to : ℕ) → IsAnsweredBy (Sent place read_to) before what after
        → StandsLast place read_to (before.sequencer).list (after.sequencer).list
    told_last place read_to answered =
        sent_last given.0 topology packages before.now (quiet paused) (before.sequencer).list (after.sequencer).list what place read_to
        (answered given.0 given.1 topology packages (quiet paused) given.2 given.3 set_up flags)

    -- the slip of a request ends with it
    by_slip : (slip : LogPrefix) (place : ℕ) → length slip.list ≡ place + 1 → (answer : SubmitResult) → IsGiven answer (Ok slip) → IsTold (Sent place place)
    by_slip slip place long (Refused fault read_to) g = absurd g.1
    by_slip slip place long (Sent at read_to) g =
        let last = told_last at read_to g.2 in
        let cut : length slip.list ≡ length (take (at + 1) (after.sequencer).list) = ap (λ (s : LogPrefix). length s.list) g.1 in
        let count = length-take (at + 1) (after.sequencer).list in
        let is : at ≡ place = omega (arith, last, cut, count, long) in
        let read : read_to ≡ place = omega (arith, last, is) in
        (tt, subst (λ (n : ℕ). IsAnsweredBy (Sent place n) before what after) read (subst (λ (n : ℕ). IsAnsweredBy (Sent n read_to) before what after) is g.2))

    pub sent_one : (slip : LogPrefix) (place : ℕ) → length slip.list ≡ place + 1
        → IsOutOfMemory (Ok slip) ⊎ ((answer : SubmitResult) × IsPlainResult answer × IsSlipOf answer after.sequencer (Ok slip)
        × IsAnsweredBy answer before what after) → IsTold (Sent place place)
    sent_one slip place long (inl out) = absurd out
    sent_one slip place long (inr h) = by_slip slip place long h.0 (h.1, h.2, h.3)

  by_refusal : (refusal : SubmitRefusal) (answer : SubmitResult) → IsGiven answer (Err refusal) → IsTold (Refused refusal.fault refusal.read_to)
  by_refusal refusal (Sent at n) g = absurd g.1
  by_refusal refusal (Refused own n) g =
      let same_fault : own ≡ refusal.fault = sym (ap (λ (r : SubmitRefusal). r.fault) g.1) in
      let same_read : n ≡ refusal.read_to = sym (ap (λ (r : SubmitRefusal). r.read_to) g.1) in
      subst (λ (k : ℕ). IsTold (Refused refusal.fault k)) same_read (subst (λ (f : SubmitFault). IsTold (Refused f n)) same_fault (g.0, g.2))

  pub refused_one : (refusal : SubmitRefusal) → refusal.fault ≢ Memory
      → IsOutOfMemory (Err refusal) ⊎ ((answer : SubmitResult) × IsPlainResult answer × IsSlipOf answer after.sequencer (Err refusal)
      × IsAnsweredBy answer before what after) → IsTold (Refused refusal.fault refusal.read_to)
  refused_one refusal some (inl out) = absurd (some out)
  refused_one refusal some (inr h) = by_refusal refusal h.0 (h.1, h.2, h.3)
