-- A message that may stand keeps a log genuine, appended or refused.
use Rattle.std.proofs.Common.{◌≡◌, ℕ, suc, ◌+◌, ◌≤◌, Bool, true, false, List, [], ◌∷◌, ◌++◌, length, take, Option, Some, None, refl, sym, inl, inr, arith, append-nil, subst, le_refl}
use Rattle.std.specs.Prelude.{nat_lt, if◌then◌else◌}
use Rattle.std.specs.List.{list_any}
use Rattle.std.proofs.lemmas.Bool.{cases_Bool, or_from, ltb-false}
use Rattle.std.proofs.lemmas.Option.{none-some}
use Rattle.std.proofs.lemmas.List.{take_all}
use Rattle.canton_model.specs.Log.{Params, FollowsTime, decision_time_of, verdict_of}
use Rattle.world_model.specs.Messages.{Entry, Message, Request, RequestMessage, ResponseMessage, VerdictMessage, Tick}
use Rattle.canton_model.specs.Timeline.{timeline_of, decision_on, verdict_on, or_else}
use Rattle.canton_model.specs.Mediation.{is_response_of}
use Rattle.canton_model.specs.Ledger.{FitsIfVerdict}
use Rattle.canton_model.specs.Genuine.{is_request_of, FitsIfRequest, FitsIfResponse}
use Rattle.world_model.specs.Machine.{Machine, GenuineLog}
use Rattle.world_model.specs.Sequencing.{last_time, time_after, entry_after, is_verdict_on, is_same, first_from, reserved, AppendFault, Unframed, LogFull, if_full, if_late, if_already}
use Rattle.world_model.specs.Sequencing.{append_fault, unless_refused, sequenced}
use Rattle.world_model.specs.Fits.{MayStand}
use Rattle.canton_model.proofs.LongerLogs.{genuine_push}
use Rattle.world_model.proofs.Grown.{request_within, last_is_end, follows_after}

pub no_fault : (o : Option ℕ) (f : Option AppendFault) → or_else (if_already o) f ≡ None → (o ≡ None) × (f ≡ None)
no_fault None f e = (refl, e)
no_fault (Some k) f e = absurd (none-some _ (sym e))

-- a request that was tried and wasn't refused for its form
pub behind_form : (framed : Bool) (f o : Option AppendFault) → (Some Unframed ≡ o → ⊥) → (if framed then f else Some Unframed) ≡ o → f ≡ o
behind_form true f o other e = e
behind_form false f o other e = absurd (other e)

-- it is framed
framed_behind : (framed : Bool) (f : Option AppendFault) → (if framed then f else Some Unframed) ≡ None → framed ≡ true
framed_behind true f e = refl
framed_behind false f e = absurd (none-some _ (sym e))

-- a framed one isn't
pub framed_passes : (m : Machine) (log : List Entry) (q : Request) → (m.reading).is_framed q ≡ true
    → append_fault m log (RequestMessage q) ≡ Some Unframed → ⊥
framed_passes m log q framed e = by_first (first_from (is_same (RequestMessage q)) 0 log) (rw framed at e)
  where
    by_room : (b : Bool) → (if b then Some (LogFull (reserved log) (2 + length q.confirming)) else None) ≡ Some Unframed → ⊥
    by_room true h = cc
    by_room false h = cc

    by_first : (o : Option ℕ) → or_else (if_already o) (if_full m log (2 + length q.confirming)) ≡ Some Unframed → ⊥
    by_first (Some k) h = cc
    by_first None h = by_room (nat_lt m.capacity (reserved log + (2 + length q.confirming))) h

pub none_such : (test : Message → Bool) (k : ℕ) (log : List Entry) → first_from test k log ≡ None → list_any (λ (e : Entry). test e.message) log ≡ false
none_such test k [] h = refl
none_such test k (x ∷ log) h =
    elim (cases_Bool (test x.message)) [
      | inl b ↦ let no : Some k ≡ None = rw b at h in absurd (none-some k (sym no))
      | inr b ↦ or_from _ _ b (none_such test (suc k) log (rw b at h))
    ]

no_decision : (j : ℕ) (message : Message) → is_verdict_on j message ≡ false → decision_on j (verdict_of message) ≡ None
no_decision j (RequestMessage q) e = refl
no_decision j (ResponseMessage q) e = refl
no_decision j (VerdictMessage v) e = rw e refl
no_decision j Tick e = refl

pub no_verdict : (j k : ℕ) (log : List Entry) → first_from (is_verdict_on j) k log ≡ None → verdict_on j (timeline_of log) ≡ None
no_verdict j k [] h = refl
no_verdict j k (x ∷ log) h =
    elim (cases_Bool (is_verdict_on j x.message)) [
      | inl b ↦ let no : Some k ≡ None = rw b at h in absurd (none-some k (sym no))
      | inr b ↦ rw (no_decision j x.message b) (no_verdict j (suc k) log (rw b at h))
    ]

not_late : (params : Params) (log : List Entry) (j : ℕ) → if_late params log j ≡ None → last_time log + 1 ≤ decision_time_of params log j
not_late params log j h =
    elim (cases_Bool (nat_lt (decision_time_of params log j) (last_time log + 1))) [
      | inl b ↦ let no = rw b at h in absurd (none-some _ (sym no))
      | inr b ↦ ltb-false _ _ b
    ]

pub appended_keeps : (m : Machine) (now : ℕ) (log : List Entry) (message : Message) → GenuineLog m log → MayStand m log message
    → append_fault m log message ≡ None → GenuineLog m (log ++ entry_after now log message ∷ [])
appended_keeps m now log message g may none =
    genuine_push m.reading m.params log (entry_after now log message) g
    (record {
      time = subst (λ (t : ℕ). FollowsTime message t (time_after now message log)) (last_is_end log) (follows_after now log message);
      verdict = verdict_fits message may none;
      request = request_fits message may none;
      response = response_fits message may none;
    })
  where
    all : take (length log) log ≡ log
    all = take_all (length log) log (le_refl (length log))

    request_fits : (x : Message) → MayStand m log x → append_fault m log x ≡ None → FitsIfRequest m.reading log (length log) x
    request_fits Tick may' none' = tt
    request_fits (ResponseMessage r) may' none' = tt
    request_fits (VerdictMessage v) may' none' = tt
    request_fits (RequestMessage q) may' none' =
        let parts = no_fault (first_from (is_same (RequestMessage q)) 0 log) _ none' in
        record { is_framed = framed_behind ((m.reading).is_framed q) _ parts.1; first = rw all (none_such (is_request_of q.sender q.command) 0 log parts.0) }

    response_fits : (x : Message) → MayStand m log x → append_fault m log x ≡ None
        → FitsIfResponse m.reading m.params log (length log) (time_after now x log) x
    response_fits Tick may' none' = tt
    response_fits (RequestMessage q) may' none' = tt
    response_fits (VerdictMessage v) may' none' = tt
    response_fits (ResponseMessage r) may' none' =
        let parts = no_fault (first_from (is_same (ResponseMessage r)) 0 log) _ none' in
        record {
          request = may'.request;
          earlier = request_within log r.request may'.request may'.there;
          there = may'.there;
          confirming = may'.confirming;
          first = rw all (none_such (is_response_of r.from r.request) 0 log parts.0);
          owed = may'.owed;
          in_time = not_late m.params log r.request parts.1;
        }

    verdict_fits : (x : Message) → MayStand m log x → append_fault m log x ≡ None → FitsIfVerdict m.params log (length log) (time_after now x log) x
    verdict_fits Tick may' none' = tt
    verdict_fits (RequestMessage q) may' none' = tt
    verdict_fits (ResponseMessage r) may' none' = tt
    verdict_fits (VerdictMessage v) may' none' =
        let parts = no_fault (first_from (is_same (VerdictMessage v)) 0 log) _ none' in
        record {
          decided = rw all may';
          first = rw all (no_verdict v.request 0 log parts.0);
          in_time = not_late m.params log v.request parts.1;
        }

pub sequenced_keeps : (m : Machine) (now : ℕ) (log : List Entry) (message : Message) → GenuineLog m log → MayStand m log message
    → GenuineLog m (sequenced m now log message)
sequenced_keeps m now log message g may = by_fault (append_fault m log message) refl
  where
    by_fault : (o : Option AppendFault) → append_fault m log message ≡ o → GenuineLog m (unless_refused o log (log ++ entry_after now log message ∷ []))
    by_fault None e = appended_keeps m now log message g may e
    by_fault (Some f) e = g

pub sequenced_more : (m : Machine) (now : ℕ) (log : List Entry) (message : Message) → (more : List Entry) × (sequenced m now log message ≡ log ++ more)
sequenced_more m now log message = by_fault (append_fault m log message)
  where
    by_fault : (o : Option AppendFault) → (more : List Entry) × (unless_refused o log (log ++ entry_after now log message ∷ []) ≡ log ++ more)
    by_fault None = (entry_after now log message ∷ [], refl)
    by_fault (Some f) = ([], sym (append-nil log))

-- the capacity
pub reserved_more : (xs ys : List Entry) → reserved (xs ++ ys) ≡ reserved xs + reserved ys
reserved_more [] ys = omega arith
reserved_more (x ∷ xs) ys = let r = reserved_more xs ys in omega arith

not_full : (m : Machine) (log : List Entry) (need : ℕ) → if_full m log need ≡ None → reserved log + need ≤ m.capacity
not_full m log need h =
    elim (cases_Bool (nat_lt m.capacity (reserved log + need))) [
      | inl b ↦ let no = rw b at h in absurd (none-some _ (sym no))
      | inr b ↦ ltb-false _ _ b
    ]

pub appended_within : (m : Machine) (now : ℕ) (log : List Entry) (message : Message) → reserved log ≤ m.capacity → append_fault m log message ≡ None
    → reserved (log ++ entry_after now log message ∷ []) ≤ m.capacity
appended_within m now log (RequestMessage q) le none =
    let parts = no_fault (first_from (is_same (RequestMessage q)) 0 log) _ none in
    let room = not_full m log (2 + length q.confirming) (behind_form ((m.reading).is_framed q) _ None (λ same. cc) parts.1) in
    let sum = reserved_more log (entry_after now log (RequestMessage q) ∷ []) in
    let one : reserved (entry_after now log (RequestMessage q) ∷ []) ≡ 2 + length q.confirming + 0 = refl in omega arith
appended_within m now log (ResponseMessage r) le none =
    let sum = reserved_more log (entry_after now log (ResponseMessage r) ∷ []) in
    let one : reserved (entry_after now log (ResponseMessage r) ∷ []) ≡ 0 = refl in omega arith
appended_within m now log (VerdictMessage v) le none =
    let sum = reserved_more log (entry_after now log (VerdictMessage v) ∷ []) in
    let one : reserved (entry_after now log (VerdictMessage v) ∷ []) ≡ 0 = refl in omega arith
appended_within m now log Tick le none =
    let sum = reserved_more log (entry_after now log Tick ∷ []) in
    let one : reserved (entry_after now log Tick ∷ []) ≡ 0 = refl in omega arith

pub sequenced_within : (m : Machine) (now : ℕ) (log : List Entry) (message : Message) → reserved log ≤ m.capacity
    → reserved (sequenced m now log message) ≤ m.capacity
sequenced_within m now log message le = by_fault (append_fault m log message) refl
  where
    by_fault : (o : Option AppendFault) → append_fault m log message ≡ o → reserved (unless_refused o log (log ++ entry_after now log message ∷ [])) ≤ m.capacity
    by_fault None e = appended_within m now log message le e
    by_fault (Some f) e = le
