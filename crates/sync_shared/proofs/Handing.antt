-- What a client knows after its request was handed in, and what waits or was decided over longer logs.
use Rattle.std.proofs.Common.{◌≡◌, ◌≢◌, ℕ, ◌+◌, true, false, List, [], ◌∷◌, ◌++◌, length, Some, refl, sym, ap, subst, arith}
use Rattle.std.specs.Prelude.{IfSome}
use Rattle.std.proofs.lemmas.List.{length-append}
use mathlib.Core.List.{IsPrefix}
use Rattle.ledger_terms.specs.declared.submission.Submission.{Submission}
use Rattle.ledger_model.specs.Terms.{ParticipantId}
use Rattle.canton_model.specs.Inbox.{inbox}
use Rattle.canton_model.specs.Log.{request_in, request_at}
use Rattle.canton_model.proofs.LongerLogs.{scan_grown}
use Rattle.world_model.specs.Messages.{Entry, RequestMessage, Request, Response, Verdict}
use Rattle.world_model.specs.Machine.{Machine}
use Rattle.world_model.specs.Places.{has_place}
use Rattle.world_model.specs.Fits.{IsOwed, IsDecision}
use Rattle.world_model.specs.Locks.{SequencerBehind}
use Rattle.world_model.specs.Sequencing as s
use Rattle.world_model.specs.Sequencing.{append_fault, entry_after}
use Rattle.world_model.specs.Rounds.{Why, SubmitResult, Sent, Refused, Duplicate, LogFull}
use Rattle.world_model.proofs.Appended.{framed_passes}
use Rattle.world_model.proofs.Grown.{request_within, slice_get_last, owed_stands}
use Rattle.prepare_request.specs.declared.submit_fault.SubmitFault.{SubmitFault}
use Rattle.threads_model.specs.Clients.{ClientStep}
use Rattle.threads_model.proofs.Begins.{begins_itself}
use Rattle.threads_model.proofs.Submits.{sent_step, already_step, full_step, request_already, request_in_time}
use Rattle.seq_log.specs.declared.fault.AppendFault.{AppendFault}
use Rattle.seq_log.specs.declared.fault.AppendFault.TheVariants as append
use Rattle.seq_log.specs.Sequenced.{cause_of}
use Rattle.sync_shared.specs.Answers.{fault_of, refused_at, seen_after, told_of}
use Rattle.sync_shared.specs.Clients.{IsRequestBy}

-- what is known of a beginning of the log
pub owed_over : (m : Machine) (list log : List Entry) (response : Response) → IsPrefix list log → IsOwed m.reading m.params list response
    → IsOwed m.reading m.params log response
owed_over m list log response p owed =
    subst (λ (xs : List Entry). IsOwed m.reading m.params xs response) p.1 (owed_stands m.reading m.params list p.0 response owed)

pub decided_over : (m : Machine) (list log : List Entry) (verdict : Verdict) → IsPrefix list log → IsDecision m.params list verdict
    → IsDecision m.params log verdict
decided_over m list log verdict p decided =
    subst (λ (xs : List Entry). IsDecision m.params xs verdict) p.1 (scan_grown m.params list p.0 verdict.request verdict.decision decided)

-- the request that was appended
pub is_appended : (now : ℕ) (log list : List Entry) (q : Request) (me : ParticipantId) → list ≡ log ++ entry_after now log (RequestMessage q) ∷ []
    → q.sender ≡ me → IsRequestBy me (length log) list
is_appended now log list q me is sender =
    let e = entry_after now log (RequestMessage q) in
    let total = length-append log (e ∷ []) in
    let one : length (e ∷ []) ≡ 1 = refl in
    let same = ap length is in
    record {
      last = omega arith;
      request = q;
      there = subst (λ (xs : List Entry). request_at xs (length log) ≡ Some q) (sym is) (ap request_in (slice_get_last log e));
      sender = sender;
    }

pub at_place : (me : ParticipantId) (k j : ℕ) (list : List Entry) → IsRequestBy me k list → length list ≡ j + 1 → IsRequestBy me j list
at_place me k j list by long =
    let l = by.last in
    let same : k ≡ j = omega arith in subst (λ (i : ℕ). IsRequestBy me i list) same by

module _ (m : Machine) (why : Why SubmitFault) (now : ℕ) (seen read log : List Entry) (what : Submission) (p : ParticipantId) (q : Request)
    (mine : what.participant ≡ p) (knows : IsPrefix seen read) (begins : IsPrefix read log)
    (wanted : m.prepare what (inbox m.reading p read) now ≡ Some q) (list : List Entry) (n : ℕ) (reads : n ≡ length read)
    (paused : List ParticipantId) (awake : has_place paused what.participant ≡ false) where
  its : m.prepare what (inbox m.reading what.participant read) now ≡ Some q
  its = subst (λ (k : ℕ). m.prepare what (inbox m.reading k read) now ≡ Some q) (sym mine) wanted

  abbrev Step : List Entry → SubmitResult SubmitFault → Type 0
  Step next result = ClientStep m why now paused seen what result next

  pub hand_sent : (place : ℕ) → list ≡ log ++ entry_after now log (RequestMessage q) ∷ [] → length list ≡ place + 1 → Step list (Sent place n)
  hand_sent place is long =
      let e = entry_after now log (RequestMessage q) in
      let total = length-append log (e ∷ []) in
      let same = ap length is in
      let one : length (e ∷ []) ≡ 1 = refl in
      let here : length log ≡ place = omega arith in
      let step = sent_step m why now paused seen read log knows begins what awake q its in
      subst (λ (xs : List Entry). Step xs (Sent place n)) (sym is)
      (subst (λ (k : ℕ). Step (log ++ e ∷ []) (Sent place k)) (sym reads) (subst (λ (k : ℕ). Step (log ++ e ∷ []) (Sent k (length read))) here step))

  pub hand_already : (place : ℕ) → append_fault m log (RequestMessage q) ≡ Some (s.Already place) → list ≡ log → Step list (Refused (Duplicate place) n)
  hand_already place fault is =
      let a = request_already m log q place fault in
      let step =
      already_step m why now paused seen read log knows begins what awake q its place log fault begins (begins_itself log) (request_within log place a.0 a.1) in
      subst (λ (xs : List Entry). Step xs (Refused (Duplicate place) n)) (sym is) (subst (λ (k : ℕ). Step log (Refused (Duplicate place) k)) (sym reads) step)

  pub hand_full : (amount need : ℕ) → append_fault m log (RequestMessage q) ≡ Some (s.LogFull amount need) → list ≡ log
      → Step list (Refused (LogFull amount need) n)
  hand_full amount need fault is =
      let step = full_step m why now paused seen read log knows begins what awake q its amount need fault in
      subst (λ (xs : List Entry). Step xs (Refused (LogFull amount need) n)) (sym is)
      (subst (λ (k : ℕ). Step log (Refused (LogFull amount need) k)) (sym reads) step)

-- the log takes no request
module _ (m : Machine) (why : Why SubmitFault) (now : ℕ) (seen read log : List Entry) (what : Submission) (p : ParticipantId) (q : Request)
    (mine : what.participant ≡ p) (knows : IsPrefix seen read) (begins : IsPrefix read log)
    (wanted : m.prepare what (inbox m.reading p read) now ≡ Some q) (list : List Entry) (n : ℕ) (reads : n ≡ length read) where
  pub hand_refused : (fault : AppendFault) → IfSome (cause_of fault) (λ cause. append_fault m log (RequestMessage q) ≡ Some cause)
      → list ≡ seen_after fault seen log
      → IfSome (refused_at n (fault_of (told_of fault)))
      (λ r. (paused : List ParticipantId) → has_place paused what.participant ≡ false → ClientStep m why now paused seen what r list)
  hand_refused (append.Already place) cause is = λ paused awake.
      hand_already m why now seen read log what p q mine knows begins wanted list n reads paused awake place cause is
  hand_refused append.Unframed cause is = tt
  hand_refused (append.LogFull amount need) cause is = λ paused awake.
      hand_full m why now seen read log what p q mine knows begins wanted list n reads paused awake amount need cause is
  hand_refused (append.TooLate decision time) cause is = tt
  hand_refused append.Memory cause is = tt

-- What the client has seen then is a genuine log within its capacity, where the log was asked.
pub refused_genuine : (m : Machine) (fault : AppendFault) (seen log list : List Entry) (n : ℕ) → list ≡ seen_after fault seen log → SequencerBehind m log
    → IfSome (refused_at n (fault_of (told_of fault))) (λ (r : SubmitResult SubmitFault). SequencerBehind m list)
refused_genuine m (append.Already place) seen log list n is behind = subst (SequencerBehind m) (sym is) behind
refused_genuine m append.Unframed seen log list n is behind = tt
refused_genuine m (append.LogFull amount need) seen log list n is behind = subst (SequencerBehind m) (sym is) behind
refused_genuine m (append.TooLate decision time) seen log list n is behind = tt
refused_genuine m append.Memory seen log list n is behind = tt

-- what the log never answers to the request of a participant
module _ (m : Machine) (log : List Entry) (q : Request) (fault : AppendFault)
    (cause : IfSome (cause_of fault) (λ cause. append_fault m log (RequestMessage q) ≡ Some cause)) where
  of_fault : (other : AppendFault) → fault ≡ other → IfSome (cause_of other) (λ cause. append_fault m log (RequestMessage q) ≡ Some cause)
  of_fault other same = subst (λ (f : AppendFault). IfSome (cause_of f) (λ cause. append_fault m log (RequestMessage q) ≡ Some cause)) same cause

  pub is_in_time : (decision time : ℕ) → fault ≢ append.TooLate decision time
  is_in_time decision time same = request_in_time m log q decision time (of_fault (append.TooLate decision time) same)

  pub is_of_framed : (m.reading).is_framed q ≡ true → fault ≢ append.Unframed
  is_of_framed framed same = framed_passes m log q framed (of_fault append.Unframed same)
