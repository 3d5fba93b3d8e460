-- In a settled log a request that nothing hinders is approved.
use Rattle.std.proofs.Common.{◌≡◌, ◌⊎◌, ℕ, zero, suc, ◌+◌, ◌<◌, ◌≤◌, Bool, true, false, List, [], ◌∷◌, take, drop, length, fold, Option, Some, None}
use Rattle.std.proofs.Common.{refl, sym, ap, ◌∙◌, subst, inl, inr, arith, not, ◌-◌, take-append-drop}
use Rattle.std.specs.Prelude.{slice_get, nat_eq, Contains, ◌&&◌}
use Rattle.std.proofs.lemmas.Bool.{cases_Bool, and_from, and_parts, and_right, or_from, le-ltb, eqb-true, both_ways, not-true}
use Rattle.std.proofs.lemmas.Option.{none-some, same_Some}
use Rattle.std.proofs.lemmas.List.{take_all, length-map}
use Rattle.ledger_model.specs.Terms.{ParticipantId}
use Rattle.canton_model.specs.Log.{FollowsTime, TimesFrom, request_in, request_at, time_of, deadline_of, decision_time_of, verdict_of}
use Rattle.world_model.specs.Messages.{Entry, Message, RequestMessage, ResponseMessage, VerdictMessage, Tick, Request, Response, ViewVerdict, Approve}
use Rattle.world_model.specs.Messages.{Decision, Approved}
use Rattle.canton_model.specs.Timeline.{Moment, moment_of, timeline_of, verdict_on, is_past, Decided, outcome_of}
use Rattle.canton_model.specs.Mediation.{is_response_of, has_responded, scan}
use Rattle.canton_model.specs.Inbox.{inbox}
use Rattle.canton_model.specs.Checks.{verdicts_owed}
use Rattle.canton_model.specs.Ledger.{VerdictFits, FitsIfVerdict}
use Rattle.canton_model.specs.Genuine.{IsReading, ResponseFits, FitsIfResponse}
use Rattle.ledger_model.proofs.Lists.{In, in_from_Contains, contains_from_In, in_at, at_in, in_any, from_any, from_filter}
use Rattle.canton_model.proofs.Decided.{verdict_place, entry_at, verdict_message, slice_get_drop}
use Rattle.world_model.specs.Machine.{Machine, GenuineLog}
use Rattle.world_model.specs.Sequencing.{last_time_from, last_time}
use Rattle.world_model.specs.Places.{without_place}
use Rattle.world_model.specs.Mediator.{Progress, Settled, Waiting, approved_or_waiting, after_verdicts, after_message, after_entry, decision_of}
use Rattle.world_model.specs.Rounds.{is_tick}
use Rattle.world_model.specs.Settled as s
use Rattle.world_model.specs.Complete.{Unhindered}
use Rattle.canton_model.proofs.LongerLogs.{scan_grown}
use Rattle.canton_model.proofs.Fits.{framed_of}
use Rattle.world_model.proofs.Progressed.{scan_is}
use Rattle.world_model.proofs.NodeFacts.{confirming_asked}

-- times where no Tick stands: each entry comes one microsecond after the one before
plain_time : (message : Message) (before time : ℕ) → is_tick message ≡ false → FollowsTime message before time → time ≡ before + 1
plain_time Tick before time e h = cc
plain_time (RequestMessage q) before time e h = h
plain_time (ResponseMessage q) before time e h = h
plain_time (VerdictMessage q) before time e h = h

follows_above : (message : Message) (before time : ℕ) → FollowsTime message before time → before < time
follows_above Tick before time h = h
follows_above (RequestMessage q) before time h = omega arith
follows_above (ResponseMessage q) before time h = omega arith
follows_above (VerdictMessage q) before time h = omega arith

abbrev NoTick : List Entry → Type 0
NoTick xs = (i : ℕ) (e : Entry) → slice_get xs i ≡ Some e → is_tick e.message ≡ false

last_plain : (before : ℕ) (xs : List Entry) → TimesFrom before xs → NoTick xs → last_time_from before xs ≡ before + length xs
last_plain before [] h n = omega arith
last_plain before (x ∷ xs) h n =
    let first = plain_time x.message before x.time (n 0 x refl) h.0 in
    let rest = last_plain x.time xs h.1 (λ i e at. n (suc i) e at) in
    let long : length (x ∷ xs) ≡ suc (length xs) = refl in omega arith

-- the last time, where no Tick stands after place k
last_after : (before : ℕ) (log : List Entry) (k : ℕ) (e : Entry) → TimesFrom before log → slice_get log k ≡ Some e
    → ((i : ℕ) (x : Entry) → k < i → slice_get log i ≡ Some x → is_tick x.message ≡ false) → last_time_from before log + k + 1 ≡ e.time + length log
last_after before [] k e h at n = absurd (none-some e at)
last_after before (x ∷ xs) zero e h at n =
    let same : x.time ≡ e.time = ap (λ (y : Entry). y.time) (same_Some x e at) in
    let rest = last_plain x.time xs h.1 (λ i y there. n (suc i) y (omega arith) there) in
    let long : length (x ∷ xs) ≡ suc (length xs) = refl in omega arith
last_after before (x ∷ xs) (suc k) e h at n =
    let rest = last_after x.time xs k e h.1 at (λ i y lt there. n (suc i) y (omega (arith, lt)) there) in
    let long : length (x ∷ xs) ≡ suc (length xs) = refl in omega arith

above_start : (before : ℕ) (xs : List Entry) → TimesFrom before xs → before ≤ last_time_from before xs
above_start before [] h = omega arith
above_start before (x ∷ xs) h = let a = follows_above x.message before x.time h.0 in let r = above_start x.time xs h.1 in omega arith

pub below_last : (before : ℕ) (xs : List Entry) (time : ℕ) → TimesFrom before xs → last_time_from before xs ≤ time → is_past time (timeline_of xs) ≡ false
below_last before [] time h le = refl
below_last before (x ∷ xs) time h le =
    let up = above_start x.time xs h.1 in
    or_from _ _ (le-ltb time x.time (omega (arith, up, le))) (below_last x.time xs time h.1 le)

all_in_time : (before : ℕ) (xs : List Entry) (time : ℕ) (i : ℕ) (e : Entry) → TimesFrom before xs → last_time_from before xs ≤ time
    → slice_get xs i ≡ Some e → e.time ≤ time
all_in_time before [] time i e h le at = absurd (none-some e at)
all_in_time before (x ∷ xs) time zero e h le at =
    let up = above_start x.time xs h.1 in let same : x.time ≡ e.time = ap (λ (y : Entry). y.time) (same_Some x e at) in omega arith
all_in_time before (x ∷ xs) time (suc i) e h le at = all_in_time x.time xs time i e h.1 le at

-- responses that approve
abbrev AllApprove : List ViewVerdict → Type 0
AllApprove verdicts = (v : ViewVerdict) → In v verdicts → v.verdict ≡ Approve

approving : (from : ParticipantId) (verdicts : List ViewVerdict) (missing : List ParticipantId) → AllApprove verdicts
    → after_verdicts from verdicts missing ≡ approved_or_waiting (without_place from missing)
approving from [] missing h = refl
approving from (v ∷ rest) missing h = rw (h v (inl refl)) (approving from rest missing (λ w i. h w (inr i)))

-- what the entries after the request may be
record Quiet (j deadline : ℕ) (xs : List Entry) : Type 0 where
  in_time : (i : ℕ) (e : Entry) → slice_get xs i ≡ Some e → e.time ≤ deadline
  approves : (i : ℕ) (e : Entry) (r : Response) → slice_get xs i ≡ Some e → e.message ≡ ResponseMessage r → r.request ≡ j → AllApprove r.verdicts

quiet_rest : (j deadline : ℕ) (x : Entry) (xs : List Entry) → Quiet j deadline (x ∷ xs) → Quiet j deadline xs
quiet_rest j deadline x xs q = record { in_time = λ i e at. q.in_time (suc i) e at; approves = λ i e r at is same. q.approves (suc i) e r at is same }

-- approved, or waiting for somebody that hasn't responded
record Waits (j : ℕ) (missing : List ParticipantId) (xs : List Entry) (progress : Progress) : Type 0 where
  left : List ParticipantId
  is : progress ≡ Waiting left
  one : (p : ParticipantId) × In p left
  inside : (p : ParticipantId) → In p left → In p missing
  silent : (p : ParticipantId) → In p left → has_responded j xs p ≡ false

abbrev ApprovedOrWaits : ℕ → List ParticipantId → List Entry → Progress → Type 0
ApprovedOrWaits j missing xs progress = (progress ≡ Settled Approved) ⊎ Waits j missing xs progress

settled_fold : (j deadline : ℕ) (d : Decision) (xs : List Entry) → fold (after_entry j deadline) (Settled d) xs ≡ Settled d
settled_fold j deadline d [] = refl
settled_fold j deadline d (x ∷ xs) = settled_fold j deadline d xs

-- with fewer missing, and nothing of those that are left in the first entry
narrow : (j : ℕ) (missing more : List ParticipantId) (x : Entry) (xs : List Entry) (progress : Progress)
    → ((p : ParticipantId) → In p missing → In p more × (is_response_of p j x.message ≡ false)) → ApprovedOrWaits j missing xs progress
    → ApprovedOrWaits j more (x ∷ xs) progress
narrow j missing more x xs progress sub (inl a) = inl a
narrow j missing more x xs progress sub (inr w) =
    inr (record {
      left = w.left;
      is = w.is;
      one = w.one;
      inside = λ p i. (sub p (w.inside p i)).0;
      silent = λ p i. or_from _ _ (sub p (w.inside p i)).1 (w.silent p i);
    })

abbrev Folds : (j deadline : ℕ) → List Entry → Type 0
Folds j deadline xs = (missing : List ParticipantId) → ((p : ParticipantId) × In p missing)
    → ApprovedOrWaits j missing xs (fold (after_entry j deadline) (Waiting missing) xs)

others : (from p j : ℕ) (b : Bool) → not (nat_eq p from) ≡ true → (nat_eq from p && b) ≡ false
others from p j b h =
    elim (cases_Bool (nat_eq from p)) [
      | inl e ↦
          let same : p ≡ from = sym (eqb-true from p e) in
          let other : nat_eq p from ≡ false = not-true _ h in
          let yes' : nat_eq p from ≡ true = ap (λ (n : ℕ). nat_eq n from) same ∙ (ap (nat_eq from) (sym same) ∙ e) in
          absurd (both_ways _ other yes')
      | inr e ↦ rw e refl
    ]

-- nobody is left, or somebody that this entry isn't of
by_left : (j deadline : ℕ) (missing : List ParticipantId) (x : Entry) (xs : List Entry) (left : List ParticipantId) → Folds j deadline xs
    → ((p : ParticipantId) → In p left → In p missing × (is_response_of p j x.message ≡ false))
    → ApprovedOrWaits j missing (x ∷ xs) (fold (after_entry j deadline) (approved_or_waiting left) xs)
by_left j deadline missing x xs [] ih sub = inl (settled_fold j deadline Approved xs)
by_left j deadline missing x xs (q ∷ left) ih sub = narrow j (q ∷ left) missing x xs _ sub (ih (q ∷ left) (q, inl refl))

by_message : (j deadline : ℕ) (missing : List ParticipantId) (x : Entry) (xs : List Entry) (m : Message) → x.message ≡ m
    → ((r : Response) → m ≡ ResponseMessage r → r.request ≡ j → AllApprove r.verdicts) → ((p : ParticipantId) × In p missing) → Folds j deadline xs
    → ApprovedOrWaits j missing (x ∷ xs) (fold (after_entry j deadline) (after_message j missing m) xs)
by_message j deadline missing x xs (RequestMessage q) e ok one ih = narrow j missing missing x xs _ (λ p i. (i, rw e refl)) (ih missing one)
by_message j deadline missing x xs (VerdictMessage q) e ok one ih = narrow j missing missing x xs _ (λ p i. (i, rw e refl)) (ih missing one)
by_message j deadline missing x xs Tick e ok one ih = narrow j missing missing x xs _ (λ p i. (i, rw e refl)) (ih missing one)
by_message j deadline missing x xs (ResponseMessage r) e ok one ih =
    elim (cases_Bool (nat_eq r.request j)) [
      | inr other ↦ rw other (narrow j missing missing x xs _ (λ p i. (i, rw e (and_right (nat_eq r.from p) (nat_eq r.request j) other))) (ih missing one))
      | inl mine ↦
          rw (mine, approving r.from r.verdicts missing (ok r refl (eqb-true _ _ mine)))
          (by_left j deadline missing x xs (without_place r.from missing) ih (λ p i.
          let f = from_filter (λ (q : ParticipantId). not (nat_eq q r.from)) missing p i in
          (f.0, rw e (others r.from p j (nat_eq r.request j) f.1))))
    ]

quiet_fold : (j deadline : ℕ) (xs : List Entry) → Quiet j deadline xs → Folds j deadline xs
quiet_fold j deadline [] q missing one = inr (record { left = missing; is = refl; one = one; inside = λ p i. i; silent = λ p i. refl })
quiet_fold j deadline (x ∷ xs) q missing one =
    rw (le-ltb deadline x.time (q.in_time 0 x refl))
    (by_message j deadline missing x xs x.message refl (λ r is to. q.approves 0 x r refl is to) one (quiet_fold j deadline xs (quiet_rest j deadline x xs q)))

response_is : (message : Message) (p j : ℕ) → is_response_of p j message ≡ true → (r : Response) × (message ≡ ResponseMessage r) × (r.request ≡ j)
response_is (RequestMessage q) p j h = cc
response_is (VerdictMessage q) p j h = cc
response_is Tick p j h = cc
response_is (ResponseMessage r) p j h = (r, refl, eqb-true _ _ (and_parts _ _ h).1)

none_or_some : {X : Type 0} (o : Option X) → (o ≡ None) ⊎ ((x : X) × (o ≡ Some x))
none_or_some None = inl refl
none_or_some (Some x) = inr (x, refl)

entry_there : (o : Option Entry) (q : Request) → request_in o ≡ Some q → (e : Entry) × (o ≡ Some e)
entry_there None q e = absurd (none-some q e)
entry_there (Some x) q e = (x, refl)

module _ (m : Machine) (paused : List ParticipantId) (log : List Entry) (is : IsReading m.reading) (genuine : GenuineLog m log)
    (settled : s.Settled m paused false log) (k : ℕ)
    (u : Unhindered m paused log k) where
  abbrev q : Request
  q = (u.approval).request

  abbrev dead : ℕ
  dead = deadline_of m.params log k

  its_entry : (e : Entry) × (slice_get log k ≡ Some e)
  its_entry = entry_there (slice_get log k) q (u.approval).there

  next_in_time : last_time log + 1 ≤ dead
  next_in_time =
      let e = its_entry in
      let after = last_after 0 log k e.0 ((genuine.timely).times) e.1 u.no_tick in
      let is : dead ≡ (e.0).time + (m.params).response_timeout = ap (λ (o : Option Entry). time_of o + (m.params).response_timeout) e.1 in
      let short = u.short in omega arith

  not_late : s.is_late m.params log k ≡ false
  not_late = let n = next_in_time in le-ltb (decision_time_of m.params log k) (last_time log + 1) (omega arith)

  not_past : is_past (decision_time_of m.params log k) (timeline_of log) ≡ false
  not_past = let n = next_in_time in below_last 0 log (decision_time_of m.params log k) ((genuine.timely).times) (omega arith)

  response_fits : (i : ℕ) (e : Entry) (r : Response) → slice_get log i ≡ Some e → e.message ≡ ResponseMessage r
      → ResponseFits m.reading m.params log i e.time r
  response_fits i e r at is = subst (FitsIfResponse m.reading m.params log i e.time) is (genuine.responses i e at)

  all_approve : (i : ℕ) (e : Entry) (r : Response) → slice_get log i ≡ Some e → e.message ≡ ResponseMessage r → r.request ≡ k → AllApprove r.verdicts
  all_approve i e r at is to v listed =
      let fit = response_fits i e r at is in
      let same : fit.request ≡ q = same_Some _ _ (sym fit.there ∙ (ap (request_at log) to ∙ (u.approval).there)) in
      let owed : r.verdicts ≡ verdicts_owed m.reading m.params r.from (inbox m.reading r.from (take (suc k) log)) k =
      fit.owed ∙ ap (λ (x : ℕ). verdicts_owed m.reading m.params r.from (inbox m.reading r.from (take (suc x) log)) x) to in
      let asked : Contains ((u.approval).request).confirming r.from = subst (λ (x : Request). Contains x.confirming r.from) same fit.confirming in
      let listed' : In v (verdicts_owed m.reading m.params r.from (inbox m.reading r.from (take (suc k) log)) k) = subst (In v) owed listed in
      (u.approval).approves r.from v asked (contains_from_In _ v listed')

  quiet : Quiet k dead (drop (suc k) log)
  quiet =
      record {
        in_time = λ i e at. let n =
            next_in_time in all_in_time 0 log dead (suc k + i) e ((genuine.timely).times) (omega arith) (sym (slice_get_drop (suc k) log i) ∙ at);
        approves = λ i e r at is to. all_approve (suc k + i) e r (sym (slice_get_drop (suc k) log i) ∙ at) is to;
      }

  state : ApprovedOrWaits k q.confirming (drop (suc k) log) (fold (after_entry k dead) (Waiting q.confirming) (drop (suc k) log))
  state =
      let framed = framed_of m.reading m.params log genuine is k q (u.approval).there in
      let path = framed.some_view in
      let p = framed.confirmed path.0 path.1 in
      quiet_fold k dead (drop (suc k) log) quiet q.confirming (p.0, in_from_Contains q.confirming p.0 (framed.asked p.0 path.0 p.1))

  scanned : scan m.params log k ≡ decision_of (fold (after_entry k dead) (Waiting q.confirming) (drop (suc k) log))
  scanned = scan_is m.params log k q (u.approval).there

  -- a response to the request stands after it
  responded_after : (p : ParticipantId) → has_responded k log p ≡ true → has_responded k (drop (suc k) log) p ≡ true
  responded_after p h =
      let w = from_any (λ (e : Entry). is_response_of p k e.message) log h in
      let place = in_at log w.0 w.1 in
      let r = response_is (w.0).message p k w.2 in
      let fit = response_fits place.0 w.0 r.0 place.1 r.1 in
      let after : suc k + (place.0 - suc k) ≡ place.0 = let e = fit.earlier in let t = r.2 in omega arith in
      in_any (λ (e : Entry). is_response_of p k e.message) (drop (suc k) log) w.0
      (at_in (drop (suc k) log) (place.0 - suc k) w.0 (slice_get_drop (suc k) log (place.0 - suc k) ∙ (ap (slice_get log) after ∙ place.1))) w.2

  -- no verdict on it stands, and nothing is past its decision time
  undecided : verdict_on k (timeline_of log) ≡ None → s.is_undecided m.params log k ≡ true
  undecided none =
      let long : length (timeline_of log) ≡ length log = length-map log moment_of in
      let front : take (length log) (timeline_of log) ≡ timeline_of log = take_all (length log) (timeline_of log) (omega arith) in
      let more : take (length log + 1) (timeline_of log) ≡ timeline_of log = take_all (length log + 1) (timeline_of log) (omega arith) in
      rw (front, more, none, not_past) refl

  responded : (p : ParticipantId) → verdict_on k (timeline_of log) ≡ None → In p q.confirming → has_responded k log p ≡ true
  responded p none i =
      let asked = contains_from_In q.confirming p i in
      let here = (u.approval).present p asked in
      elim (cases_Bool (has_responded k log p)) [
        | inl yes' ↦ yes'
        | inr no' ↦
            let owes : s.is_asked_in m.reading p (request_at log k) ≡ true = ap (s.is_asked_in m.reading p) (u.approval).there
            ∙ confirming_asked m.reading p q (framed_of m.reading m.params log genuine is k q (u.approval).there) asked in
            let due : s.is_due m log p k ≡ true = and_from _ _ owes (and_from _ _ (ap not no') (undecided none)) in
            absurd (both_ways _ not_late (settled.responses p k here.0 here.1 due))
      ]

  pub approved : outcome_of (timeline_of log) k (decision_time_of m.params log k) ≡ Decided Approved
  approved = elim (none_or_some (verdict_on k (timeline_of log))) [
    | inl none ↦ elim state [
      | inl done ↦
          let decided : scan m.params log k ≡ Some Approved = scanned ∙ ap decision_of done in
          absurd (both_ways _ not_late (settled.verdicts refl k Approved decided none))
      | inr w ↦
          let p = (w.one).0 in
          let there = responded_after p (responded p none (w.inside p (w.one).1)) in
          absurd (both_ways _ (w.silent p (w.one).1) there)
    ]
    | inr some' ↦
        let d = some'.0 in
        let place = verdict_place k (timeline_of log) d some'.1 in
        let entry = entry_at log place.0 place.1 place.3 in
        let brings : verdict_of (entry.0).message ≡ Some place.2 = ap (λ (x : Moment). x.verdict) entry.2 ∙ place.4 in
        let fit : VerdictFits m.params log place.0 (entry.0).time place.2 =
        subst (FitsIfVerdict m.params log place.0 (entry.0).time) (verdict_message (entry.0).message place.2 brings)
        ((genuine.timely).verdicts place.0 entry.0 entry.1) in
        let early : scan m.params (take place.0 log) k ≡ Some d = ap (scan m.params (take place.0 log)) (sym place.5) ∙ (fit.decided ∙ ap Some place.6) in
        let whole : scan m.params log k ≡ Some d =
        subst (λ (xs : List Entry). scan m.params xs k ≡ Some d) (take-append-drop place.0 log)
        (scan_grown m.params (take place.0 log) (drop place.0 log) k d early) in
        elim state [
          | inl done ↦
              let same : d ≡ Approved = same_Some d Approved (sym whole ∙ (scanned ∙ ap decision_of done)) in
              rw some'.1 (ap Decided same)
          | inr w ↦ absurd (none-some d (sym (scanned ∙ ap decision_of w.is) ∙ whole))
        ]
  ]
