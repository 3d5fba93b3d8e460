-- What one thread answers is what a run says of its results; and a part that is short has its requests approved.
use Rattle.std.proofs.Common.{◌≡◌, ◌⊎◌, ℕ, suc, ◌+◌, ◌<◌, ◌≤◌, Bool, true, false, List, [], ◌∷◌, ◌++◌, take, length, Option, Some, None, refl, sym}
use Rattle.std.proofs.Common.{ap, ◌∙◌, subst, inl, inr, arith, append_assoc, append-nil, le_refl}
use Rattle.std.specs.Prelude.{slice_get, nat_lt, nat_eq, if◌then◌else◌}
use Rattle.std.specs.List.{list_any}
use Rattle.std.proofs.lemmas.Bool.{cases_Bool, cases_lt, and_parts, eqb-true, ltb-true, both_ways}
use Rattle.std.proofs.lemmas.Option.{none-some, same_Some}
use Rattle.std.proofs.lemmas.List.{length-append}
use Rattle.std.proofs.lemmas.Slice.Eq.{bytes_eq-Decides}
use Rattle.std.proofs.Math.Seq.{take-append_seam}
use Rattle.ledger_terms.specs.declared.submission.Submission.{Submission}
use Rattle.canton_model.specs.Log.{request_of, request_in, request_at}
use Rattle.world_model.specs.Messages.{Entry, Message, RequestMessage, ResponseMessage, VerdictMessage, Tick, Request}
use Rattle.canton_model.specs.Timeline.{or_else}
use Rattle.canton_model.specs.Inbox.{Item, inbox}
use Rattle.canton_model.specs.Genuine.{is_request_of}
use Rattle.ledger_model.proofs.Lists.{In, in_from_Contains, contains_from_In, in_append_cases, in_append_left, in_append_right}
use Rattle.world_model.specs.Machine.{Machine}
use Rattle.world_model.specs.Places.{has_place}
use Rattle.world_model.specs.Sequencing.{AppendFault, Already, Unframed, LogFull as Full, TooLate, first_from, if_already, other_fault, append_fault, entry_after, reserved}
use Rattle.world_model.specs.Rounds.{Round, SubmitFault, Paused, Unwanted, Duplicate, LogFull, SubmitResult, Sent, Refused, Results, Why, read_at}
use Rattle.world_model.specs.Rounds.{wanted_at, ReadHolds, FullHolds, DuplicateHolds, RefusalHolds, ResultHolds, ResultsHold}
use Rattle.world_model.specs.Plain.{HandedIn, AnswersWanted, IsPausedAnswer, IsAwakeAnswer, Submitted}
use Rattle.world_model.proofs.Grown.{slice_get_last, request_grown, request_within}
use Rattle.world_model.proofs.Appended.{behind_form, none_such}

abbrev Longer : List Entry → List Entry → Type 0
Longer log all = (more : List Entry) × (all ≡ log ++ more)

-- the place of the first such message
first_at : (test : Message → Bool) (k i : ℕ) (log : List Entry) → first_from test k log ≡ Some i
    → (j : ℕ) × (e : Entry) × (i ≡ k + j) × (slice_get log j ≡ Some e) × (test e.message ≡ true)
first_at test k i [] h = absurd (none-some i h)
first_at test k i (x ∷ log) h =
    elim (cases_Bool (test x.message)) [
      | inl b ↦ let same : Some k ≡ Some i = rw b at h in let s = same_Some k i same in (0, x, omega arith, refl, b)
      | inr b ↦ let r = first_at test (suc k) i log (rw b at h) in (suc r.0, r.1, (let e = r.2 in omega arith), r.3, r.4)
    ]

request_test : (p : ℕ) (command : List ℕ) (message : Message) → is_request_of p command message ≡ true
    → (q : Request) × (message ≡ RequestMessage q) × (q.sender ≡ p) × (q.command ≡ command)
request_test p command (ResponseMessage r) h = cc
request_test p command (VerdictMessage v) h = cc
request_test p command Tick h = cc
request_test p command (RequestMessage q) h =
    let parts = and_parts (nat_eq q.sender p) _ h in (q, refl, eqb-true _ _ parts.0, (bytes_eq-Decides q.command command).0 parts.1)

module _ {F : Type 0} (m : Machine) (why : Why F) (now : ℕ) (round : Round) (raws : List Request) (all : List Entry) (start : ℕ) where
  front : (log : List Entry) → Longer log all → take (length log) all ≡ log
  front log l = ap (take (length log)) l.1 ∙ take-append_seam log l.0

  read_there : (log : List Entry) (what : Submission) → Longer log all → read_at m all what (length log) ≡ read_at m log what (length log)
  read_there log what l =
      let all_of : take (length log) log ≡ log = ap (take (length log)) (sym (append-nil log)) ∙ take-append_seam log [] in
      ap (inbox m.reading what.participant) (front log l ∙ sym all_of)

  wanted_there : (log : List Entry) (what : Submission) → Longer log all → wanted_at m now all what (length log) ≡ wanted_at m now log what (length log)
  wanted_there log what l = ap (λ (items : List Item). m.prepare what items now) (read_there log what l)

  -- the log of an earlier part, and where the results so far stand
  abbrev SentBelow : ℕ → Results F → Type 0
  SentBelow n earlier = (what : Submission) (place read_to : ℕ) → In (what, Sent place read_to) earlier → place < n

  -- each request of the log is of an earlier result, or a raw one
  abbrev AllSent : List Entry → Results F → Type 0
  AllSent log earlier = (k : ℕ) (q : Request) → request_at log k ≡ Some q → ((before : Submission) × (n : ℕ) × In (before, Sent k n) earlier) ⊎ In q raws

  all_still : (log : List Entry) (earlier : Results F) (x : Submission × SubmitResult F) → AllSent log earlier → AllSent log (earlier ++ x ∷ [])
  all_still log earlier x sent k q at = elim (sent k q at) [
    | inl r ↦ inl (r.0, r.1, in_append_left earlier (x ∷ []) (r.0, Sent k r.1) r.2)
    | inr raw ↦ inr raw
  ]

  inside : (log : List Entry) → Longer log all → length log ≤ length all
  inside log l = let t = length-append log l.0 in let e = ap length l.1 in omega arith

  reads : (log : List Entry) (what : Submission) (earlier : Results F) → start ≤ length log → SentBelow (length log) earlier
      → ReadHolds start (length log) earlier what
  reads log what earlier le below =
      record {
        after_start = le;
        after_sent = λ before place read_to c same. below before place read_to (in_from_Contains earlier (before, Sent place read_to) c);
      }

  abbrev Handled : List Entry → Results F → Submission → SubmitResult F → List Entry → Type 0
  Handled log earlier what result next = ResultHolds m why now round raws all start (length all) earlier what result × Longer log next
      × SentBelow (length next) (earlier ++ (what, result) ∷ []) × AllSent next (earlier ++ (what, result) ∷ [])

  -- a result that isn't Sent leaves the log
  no_sent : (log : List Entry) (earlier : Results F) (what : Submission) (fault : SubmitFault F) (n : ℕ) → SentBelow (length log) earlier
      → SentBelow (length log) (earlier ++ (what, Refused fault n) ∷ [])
  no_sent log earlier what fault n below w place read_to i =
      elim (in_append_cases earlier ((what, Refused fault n) ∷ []) (w, Sent place read_to) i) [
        | inl old ↦ below w place read_to old
        | inr new ↦ elim new [
          | inl same ↦ let apart : Refused fault n ≡ Sent place read_to = ap (λ (x : Submission × SubmitResult F). x.1) same in
              cc
          | inr none ↦ absurd none
        ]
      ]

  module _ (log : List Entry) (earlier : Results F) (what : Submission) (le : start ≤ length log) (below : SentBelow (length log) earlier)
      (sent : AllSent log earlier) (awake : has_place round.paused what.participant ≡ false) where
    not_paused : (result : SubmitResult F) → has_place round.paused what.participant ≡ true → (n : ℕ) × (result ≡ Refused Paused n)
    not_paused result h = absurd (both_ways _ awake h)

    refused_so : (fault : SubmitFault F) → Longer log all → RefusalHolds m why now round raws all (length all) earlier what fault (length log)
        → ResultHolds m why now round raws all start (length all) earlier what (Refused fault (length log))
    refused_so fault l r =
        record {
          answer = r;
          within = inside log l;
          read = λ h. reads log what earlier le below;
          paused = not_paused (Refused fault (length log));
        }

    duplicate : (q : Request) (place : ℕ) → Longer log all → wanted_at m now log what (length log) ≡ Some q
        → append_fault m log (RequestMessage q) ≡ Some (Already place) → DuplicateHolds m now all raws earlier what place (length log)
    duplicate q place l w e = by_first (first_from (is_request_of q.sender q.command) 0 log) refl
      where
        by_full : (b : Bool) → (if b then Some (Full (reserved log) (2 + length q.confirming)) else None) ≡ Some (Already place) → ⊥
        by_full true h = cc
        by_full false h = cc

        by_first : (o : Option ℕ) → first_from (is_request_of q.sender q.command) 0 log ≡ o → DuplicateHolds m now all raws earlier what place (length log)
        by_first None h =
            absurd (by_full (nat_lt m.capacity (reserved log + (2 + length q.confirming)))
            (behind_form ((m.reading).is_framed q) _ (Some (Already place)) (λ same. cc) (sym (ap (λ (o : Option ℕ). or_else (if_already o) (other_fault m log (RequestMessage q))) h) ∙ e)))
        by_first (Some i) h =
            let same : Some (Already i) ≡ Some (Already place) =
            sym (ap (λ (o : Option ℕ). or_else (if_already o) (other_fault m log (RequestMessage q))) h) ∙ e in
            let is : i ≡ place = cc in
            let at = first_at (is_request_of q.sender q.command) 0 i log h in
            let r = request_test q.sender q.command (at.1).message at.4 in
            let here : at.0 ≡ place = let s = at.2 in omega arith in
            let there : request_at log place ≡ Some r.0 = ap (request_at log) (sym here) ∙ (ap request_in at.3 ∙ ap (λ (x : Message). request_of x) r.1) in
            let lt = request_within log place r.0 there in
            record {
              request = q;
              wanted = wanted_there log what l ∙ w;
              first = r.0;
              there = ap (λ (xs : List Entry). request_at xs place) l.1 ∙ (request_grown log l.0 place lt ∙ there);
              known = elim (sent place r.0 there) [
                | inl f ↦ inl (f.0, f.1, contains_from_In earlier (f.0, Sent place f.1) f.2)
                | inr raw ↦ inr (contains_from_In raws r.0 raw)
              ];
              sender = r.2;
              command = r.3;
            }

    full : (q : Request) (amount need : ℕ) → Longer log all → wanted_at m now log what (length log) ≡ Some q
        → append_fault m log (RequestMessage q) ≡ Some (Full amount need) → FullHolds m now all (length all) what amount need (length log)
    full q amount need l w e = by_first (first_from (is_request_of q.sender q.command) 0 log) refl
      where
        by_full : (b : Bool) → nat_lt m.capacity (reserved log + (2 + length q.confirming)) ≡ b
            → (if b then Some (Full (reserved log) (2 + length q.confirming)) else None) ≡ Some (Full amount need)
            → (reserved log ≡ amount) × (2 + length q.confirming ≡ need) × (m.capacity < reserved log + (2 + length q.confirming))
        by_full true b h = (cc, cc, ltb-true m.capacity (reserved log + (2 + length q.confirming)) b)
        by_full false b h = cc

        by_first : (o : Option ℕ) → first_from (is_request_of q.sender q.command) 0 log ≡ o → FullHolds m now all (length all) what amount need (length log)
        by_first (Some i) h =
            let same : Some (Already i) ≡ Some (Full amount need) =
            sym (ap (λ (o : Option ℕ). or_else (if_already o) (other_fault m log (RequestMessage q))) h) ∙ e in cc
        by_first None h =
            let f = by_full (nat_lt m.capacity (reserved log + (2 + length q.confirming))) refl
            (behind_form ((m.reading).is_framed q) _ (Some (Full amount need)) (λ same. cc) (sym (ap (λ (o : Option ℕ). or_else (if_already o) (other_fault m log (RequestMessage q))) h) ∙ e)) in
            let long = length-append log l.0 in
            let total = ap length l.1 in
            record {
              request = q;
              wanted = wanted_there log what l ∙ w;
              needs = sym f.1;
              some = length log;
              at_least = le_refl (length log);
              at_most = omega arith;
              amount_is = sym f.0 ∙ ap reserved (sym (front log l));
              full = let a = f.0 in let n = f.1 in let c = f.2 in omega arith;
              fresh = ap (list_any (λ (x : Entry). is_request_of q.sender q.command x.message)) (front log l)
                  ∙ none_such (is_request_of q.sender q.command) 0 log h;
            }

    appended : (q : Request) (next : List Entry) → Longer next all → wanted_at m now log what (length log) ≡ Some q
        → next ≡ log ++ entry_after now log (RequestMessage q) ∷ [] → Handled log earlier what (Sent (length log) (length log)) next
    appended q next l w e =
        let more = entry_after now log (RequestMessage q) ∷ [] in
        let wide : Longer log all = (more ++ l.0, l.1 ∙ (ap (λ (xs : List Entry). xs ++ l.0) e ∙ append_assoc log more l.0)) in
        let there : request_at next (length log) ≡ Some q =
        ap (λ (xs : List Entry). request_at xs (length log)) e ∙ ap request_in (slice_get_last log (entry_after now log (RequestMessage q))) in
        let long : length next ≡ suc (length log) = let a = length-append log more in let one : length more ≡ 1 = refl in let t = ap length e in omega arith in
        let total : length all ≡ length next + length l.0 = ap length l.1 ∙ length-append next l.0 in (
          record {
            answer = record {
              request = q;
              there = ap (λ (xs : List Entry). request_at xs (length log)) l.1 ∙ (request_grown next l.0 (length log) (omega arith) ∙ there);
              wanted = wanted_there log what wide ∙ w;
              read_before = le_refl (length log);
              in_part = omega arith;
            };
            within = inside log wide;
            read = λ h. reads log what earlier le below;
            paused = not_paused (Sent (length log) (length log));
          },
          (more, e),
          λ x place read_to i. elim (in_append_cases earlier ((what, Sent (length log) (length log)) ∷ []) (x, Sent place read_to) i) [
            | inl old ↦ let b = below x place read_to old in omega arith
            | inr new ↦ elim new [
              | inl same ↦ let t : Sent (length log) (length log) ≡ Sent place read_to =
                  ap (λ (y : Submission × SubmitResult F). y.1) same in let here : length log ≡ place = cc in omega arith
              | inr none ↦ absurd none
            ]
          ],
          λ k x at. elim (cases_lt k (length log)) [
            | inl lt ↦
                let old : request_at log k ≡ Some x = sym (request_grown log more k lt) ∙ (ap (λ (xs : List Entry). request_at xs k) (sym e) ∙ at) in
                all_still log earlier (what, Sent (length log) (length log)) sent k x old
            | inr past ↦
                let within = request_within next k x at in
                let here : length log ≡ k = omega arith in
                inl (
                  what,
                  length log,
                  in_append_right earlier ((what, Sent (length log) (length log)) ∷ []) (what, Sent k (length log))
                      (inl (ap (λ (i : ℕ). (what, Sent i (length log))) here)),
                )
          ],
        )

    stopped : (fault : SubmitFault F) (result : SubmitResult F) (next : List Entry) → Longer next all
        → RefusalHolds m why now round raws all (length all) earlier what fault (length log) → result ≡ Refused fault (length log) → next ≡ log
        → Handled log earlier what result next
    stopped fault result next l r e same =
        let l' : Longer log all = subst (λ (xs : List Entry). Longer xs all) same l in
        subst (λ (y : SubmitResult F). Handled log earlier what y next) (sym e)
        (subst (Handled log earlier what (Refused fault (length log))) (sym same) (
          refused_so fault l' r,
          ([], sym (append-nil log)),
          no_sent log earlier what fault (length log) below,
          all_still log earlier (what, Refused fault (length log)) sent,
        ))

    handed : (q : Request) (result : SubmitResult F) (next : List Entry) → Longer next all → wanted_at m now log what (length log) ≡ Some q
        → (o : Option AppendFault) → append_fault m log (RequestMessage q) ≡ o → HandedIn now log q o result next → Handled log earlier what result next
    handed q result next l w None e h = subst (λ (y : SubmitResult F). Handled log earlier what y next) (sym h.0) (appended q next l w h.1)
    handed q result next l w (Some (Already place)) e h =
        stopped (Duplicate place) result next l (duplicate q place (subst (λ (xs : List Entry). Longer xs all) h.1 l) w e) h.0 h.1
    handed q result next l w (Some Unframed) e h = absurd h
    handed q result next l w (Some (Full amount need)) e h =
        stopped (LogFull amount need) result next l (full q amount need (subst (λ (xs : List Entry). Longer xs all) h.1 l) w e) h.0 h.1
    handed q result next l w (Some (TooLate decision time)) e h = absurd h

    awake_handled : (result : SubmitResult F) (next : List Entry) → Longer next all → (o : Option Request) → wanted_at m now log what (length log) ≡ o
        → AnswersWanted m (why what (read_at m log what (length log)) now) now log o result next → Handled log earlier what result next
    awake_handled result next l None w h =
        let l' : Longer log all = subst (λ (xs : List Entry). Longer xs all) h.1 l in
        let verdict_content : why what (read_at m all what (length log)) now ≡ why what (read_at m log what (length log)) now =
        ap (λ (items : List Item). why what items now) (read_there log what l') in
        stopped (Unwanted (why what (read_at m log what (length log)) now)) result next l (wanted_there log what l' ∙ w, verdict_content) h.0 h.1
    awake_handled result next l (Some q) w h = handed q result next l w (append_fault m log (RequestMessage q)) refl h

  paused_handled : (log : List Entry) (earlier : Results F) (what : Submission) (result : SubmitResult F) (next : List Entry)
      → SentBelow (length log) earlier → AllSent log earlier → Longer next all → IsPausedAnswer round log what result next
      → Handled log earlier what result next
  paused_handled log earlier what result next below sent l h =
      let l' : Longer log all = subst (λ (xs : List Entry). Longer xs all) h.4 l in
      let long = length-append log l'.0 in
      let total = ap length l'.1 in
      let le : h.1 ≤ length log = h.2 in
      subst (λ (y : SubmitResult F). Handled log earlier what y next) (sym h.3)
      (subst (Handled log earlier what (Refused Paused h.1)) (sym h.4) (
        record {
          answer = h.0;
          within = omega arith;
          read = λ awake. absurd (both_ways _ awake h.0);
          paused = λ p. (h.1, refl);
        },
        ([], sym (append-nil log)),
        no_sent log earlier what Paused h.1 below,
        all_still log earlier (what, Refused Paused h.1) sent,
      ))

  pub submitted_longer : (log : List Entry) (answers : Results F) (after : List Entry) → Submitted m why now round log answers after → Longer log after
  submitted_longer log [] after h = ([], h ∙ sym (append-nil log))
  submitted_longer log (x ∷ rest) after h =
      let step : Longer log h.0 = by_answer h.1 in
      let more = submitted_longer h.0 rest after h.2 in
      (step.0 ++ more.0, more.1 ∙ (ap (λ (xs : List Entry). xs ++ more.0) step.1 ∙ append_assoc log step.0 more.0))
    where
      by_handed : (q : Request) (o : Option AppendFault) (next : List Entry) → HandedIn now log q o x.1 next → Longer log next
      by_handed q None next h = (entry_after now log (RequestMessage q) ∷ [], h.1)
      by_handed q (Some (Already place)) next h = ([], h.1 ∙ sym (append-nil log))
      by_handed q (Some Unframed) next h = absurd h
      by_handed q (Some (Full amount need)) next h = ([], h.1 ∙ sym (append-nil log))
      by_handed q (Some (TooLate decision time)) next h = absurd h

      by_wanted : (o : Option Request) (next : List Entry) → AnswersWanted m (why x.0 (read_at m log x.0 (length log)) now) now log o x.1 next
          → Longer log next
      by_wanted None next h = ([], h.1 ∙ sym (append-nil log))
      by_wanted (Some q) next h = by_handed q (append_fault m log (RequestMessage q)) next h

      by_answer : IsPausedAnswer round log x.0 x.1 h.0 ⊎ IsAwakeAnswer m why now round log x.0 x.1 h.0 → Longer log h.0
      by_answer (inl p) = ([], p.4 ∙ sym (append-nil log))
      by_answer (inr a) = by_wanted (wanted_at m now log x.0 (length log)) h.0 a.1

  pub results_hold : (log : List Entry) (answers earlier : Results F) (after : List Entry) → start ≤ length log → SentBelow (length log) earlier
      → AllSent log earlier → Longer after all → Submitted m why now round log answers after
      → ResultsHold m why now round raws all start (length all) earlier answers
  results_hold log [] earlier after le below sent l h = tt
  results_hold log (x ∷ rest) earlier after le below sent l h =
      let tail = submitted_longer h.0 rest after h.2 in
      let wide : Longer h.0 all = (tail.0 ++ l.0, l.1 ∙ (ap (λ (xs : List Entry). xs ++ l.0) tail.1 ∙ append_assoc h.0 tail.0 l.0)) in
      let done : Handled log earlier x.0 x.1 h.0 = elim h.1 [
        | inl p ↦ paused_handled log earlier x.0 x.1 h.0 below sent wide p
        | inr a ↦ awake_handled log earlier x.0 le below sent a.0 x.1 h.0 wide (wanted_at m now log x.0 (length log)) refl a.1
      ] in
      let long : length log ≤ length h.0 = let t = length-append log (done.1).0 in let e = ap length (done.1).1 in omega arith in
      (done.0, results_hold h.0 rest (earlier ++ x ∷ []) after (omega (arith, le, long)) done.2 done.3 l h.2)
