-- What clients beside lanes bring back is what a run says of a round.
use Rattle.std.proofs.Common.{◌≡◌, ℕ, suc, ◌+◌, ◌<◌, ◌≤◌, true, false, List, [], ◌∷◌, ◌++◌, take, length, Some, None, refl, sym, ap, ◌∙◌, subst, inl}
use Rattle.std.proofs.Common.{inr, arith, append_assoc, append-nil, le_refl}
use Rattle.std.specs.Prelude.{slice_get}
use Rattle.std.proofs.lemmas.Bool.{cases_Bool, cases_lt, eq-eqb, both_ways}
use Rattle.std.proofs.lemmas.Option.{none-some, same_Some}
use mathlib.Core.List.{IsPrefix}
use Rattle.ledger_terms.specs.declared.submission.Submission.{Submission}
use Rattle.ledger_model.specs.Terms.{ParticipantId}
use Rattle.canton_model.specs.Log.{request_of, request_in, request_at}
use Rattle.world_model.specs.Messages.{Entry, Message, RequestMessage, ResponseMessage, VerdictMessage, Tick, Request}
use Rattle.ledger_model.proofs.Lists.{In, in_append_cases, in_append_left, in_append_right, in_from_Contains, contains_from_In, in_filter, in_at}
use Rattle.world_model.specs.Machine.{Machine, GenuineLog, IsMachine}
use Rattle.world_model.specs.Settled.{left}
use Rattle.world_model.specs.Rounds.{Round, Paused, Unwanted, Duplicate, LogFull, SubmitFault, SubmitResult, Sent, Refused, Results, Why, read_of}
use Rattle.world_model.specs.Rounds.{wanted_at, begun, is_tick, SentHolds, DuplicateHolds, RefusalHolds, AnswerHolds, ResultHolds, ResultsHold}
use Rattle.world_model.specs.Rounds.{PartHolds, RoundHolds}
use Rattle.world_model.proofs.Grown.{request_grown, request_within}
use Rattle.world_model.proofs.Growing.{result_grown}
use Rattle.canton_model.proofs.LongerLogs.{genuine_take}
use Rattle.world_model.proofs.PlainFacts.{passes_add}
use Rattle.world_model.proofs.Ends.{passes_settle}
use Rattle.world_model.proofs.Steps.{entry_of_request}
use Rattle.world_model.proofs.PartFacts.{in_right}
use Rattle.threads_model.specs.Inputs.{is_input, inputs, is_by, results_of, submissions_in}
use Rattle.threads_model.specs.Clients.{StandsAlready, ClientRefusal, ClientAnswer, IsAsleep, IsAwake}
use Rattle.threads_model.specs.Shared.{Joined, SharedPart}
use Rattle.threads_model.proofs.Begins.{begins_then, begins_length, take_same}
use Rattle.threads_model.proofs.Counts.{Apart, sent_places, sent_at_place, all_sent, inputs_more}
use Rattle.threads_model.proofs.Chains.{request_later, request_earlier, sent_grown, chain_sent, answers_begin, ChainAt, chain_head, chain_next}
use Rattle.world_model.proofs.BegunFacts.{AllSent, begun_longer, begun_sent}

-- where results so far stand
abbrev pub SentBelow : {F : Type 0} → ℕ → Results F → Type 0
SentBelow n earlier = (what : Submission) (place read_to : ℕ) → In (what, Sent place read_to) earlier → place < n

request_is_input : (message : Message) (q : Request) → request_of message ≡ Some q → is_input message ≡ true
request_is_input (RequestMessage r) q h = refl
request_is_input (ResponseMessage r) q h = absurd (none-some q h)
request_is_input (VerdictMessage r) q h = absurd (none-some q h)
request_is_input Tick q h = refl

tick_is_input : (message : Message) → is_tick message ≡ true → (is_input message ≡ true) × (request_of message ≡ None)
tick_is_input (RequestMessage r) h = cc
tick_is_input (ResponseMessage r) h = cc
tick_is_input (VerdictMessage r) h = cc
tick_is_input Tick h = (refl, refl)

own_test : (what : Submission) → is_by what.participant what ≡ true
own_test what = eq-eqb what.participant what.participant refl

module _ {F : Type 0} (m : Machine) (why : Why F) (machine : IsMachine m) (now : ℕ) (round : Round) (first log : List Entry) (results : Results F)
    (j : Joined m why now round first log results) where
  -- a Sent result, over the whole log
  pub sent_at : (what : Submission) (place n : ℕ) → In (what, Sent place n) results → SentHolds m now log (length log) what place n × (length first ≤ n)
  sent_at what place n i =
      let c = j.clients what.participant in
      let own : In (what, Sent place n) (results_of what.participant results) =
      in_filter (λ (x : Submission × SubmitResult F). is_by what.participant x.0) results (what, Sent place n) i (own_test what) in
      let s = chain_sent m why now round.paused first (results_of what.participant results) c.last c.answers what place n own in
      (sent_grown m now c.last log what place n c.begins s.0, s.1)

  -- its request is its participant's
  wanted_sender : (what : Submission) (n : ℕ) (q : Request) → wanted_at m now log what n ≡ Some q → q.sender ≡ what.participant
  wanted_sender what n q w = (machine.prepares what (take n log) now q (genuine_take m.reading m.params log n j.genuine) w).sender

  sent_sender : (what : Submission) (place n : ℕ) (q : Request) → In (what, Sent place n) results → request_at log place ≡ Some q → q.sender ≡ what.participant
  sent_sender what place n q i at =
      let s = (sent_at what place n i).0 in
      let same : s.request ≡ q = same_Some s.request q (sym s.there ∙ at) in
      sym (ap (λ (r : Request). r.sender) same) ∙ wanted_sender what n s.request s.wanted

  same_client : (what other : Submission) (place n k : ℕ) → In (what, Sent place n) results → In (other, Sent place k) results
      → other.participant ≡ what.participant
  same_client what other place n k a b =
      let s = (sent_at what place n a).0 in
      sym (sent_sender other place k s.request b s.there) ∙ sent_sender what place n s.request a s.there

  abbrev Chains : Results F → Results F → Type 0
  Chains pre rest = (p : ParticipantId) → ChainAt m why now round.paused first log pre rest p

  all_chains : Chains [] results
  all_chains p =
      let c = j.clients p in
      record { seen = first; last = c.last; answers = c.answers; begins = c.begins; from_first = omega arith; past = λ what place n i mine. absurd i }

  chains_next : (pre : Results F) (x : Submission × SubmitResult F) (rest : Results F) → Chains pre (x ∷ rest) → Chains (pre ++ x ∷ []) rest
  chains_next pre x rest c p = chain_next m why now round.paused first log pre x rest p (c p)

  -- a later Sent result of one of the same participant's stands behind it
  not_later : (pre rest : Results F) → Chains pre rest → (what other : Submission) (place n k : ℕ) → In (what, Sent place n) pre
      → other.participant ≡ what.participant → In (other, Sent place k) rest → ⊥
  not_later pre rest c what other place n k old mine new =
      let p = what.participant in
      let h = c p in
      let own : In (other, Sent place k) (results_of p rest) =
      in_filter (λ (x : Submission × SubmitResult F). is_by p x.0) rest (other, Sent place k) new (eq-eqb other.participant p mine) in
      let s = chain_sent m why now round.paused h.seen (results_of p rest) h.last h.answers other place k own in
      let lt = h.past what place n old refl in
      let le = s.1 in
      let before = (s.0).read_before in
      absurd (omega arith)

  split_in : (pre rest : Results F) → pre ++ rest ≡ results → (y : Submission × SubmitResult F) → In y rest → In y results
  split_in pre rest e y i = subst (In y) e (in_append_right pre rest y i)

  next_split : (pre : Results F) (x : Submission × SubmitResult F) (rest : Results F) → pre ++ x ∷ rest ≡ results → (pre ++ x ∷ []) ++ rest ≡ results
  next_split pre x rest e = append_assoc pre (x ∷ []) rest ∙ e

  apart_from : (pre rest : Results F) → pre ++ rest ≡ results → Chains pre rest → Apart (sent_places rest)
  apart_from pre [] e c = tt
  apart_from pre (x ∷ rest) e c = by_result (apart_from (pre ++ x ∷ []) rest (next_split pre x rest e) (chains_next pre x rest c)) x.1 refl
    where
      new_place : (place n : ℕ) → x.1 ≡ Sent place n → In place (sent_places rest) → ⊥
      new_place place n is i =
          let here : x ≡ (x.0, Sent place n) = ap (λ (r : SubmitResult F). (x.0, r)) is in
          let r = sent_at_place rest place i in
          let a : In (x.0, Sent place n) results = split_in pre (x ∷ rest) e (x.0, Sent place n) (inl here) in
          let b : In (r.0, Sent place r.1) results = split_in pre (x ∷ rest) e (r.0, Sent place r.1) (inr r.2) in
          not_later (pre ++ x ∷ []) rest (chains_next pre x rest c) x.0 r.0 place n r.1 (in_append_right pre (x ∷ []) (x.0, Sent place n) (inl here))
          (same_client x.0 r.0 place n r.1 a b) r.2

      by_result : Apart (sent_places rest) → (s : SubmitResult F) → x.1 ≡ s → Apart (sent_places (x ∷ rest))
      by_result tail (Sent place n) is = rw is (new_place place n is, tail)
      by_result tail (Refused fault n) is = rw is tail

  pub places_apart : Apart (sent_places results)
  places_apart = apart_from [] results refl all_chains

  -- each input behind the round's beginning is a Sent result's request
  pub input_sent : (k : ℕ) (e : Entry) → length first ≤ k → slice_get log k ≡ Some e → is_input e.message ≡ true
      → (what : Submission) × (n : ℕ) × In (what, Sent k n) results
  input_sent k e le at input =
      let rest = (j.begins).0 in
      let whole : first ++ rest ≡ log = (j.begins).1 in
      let sum = inputs_more first rest in
      let total : inputs (first ++ rest) ≡ inputs log = ap inputs whole in
      let count = j.count in
      all_sent first rest results (omega arith) places_apart
      (λ i h.
      let r = sent_at_place results i h in
      let s = sent_at r.0 i r.1 r.2 in
      let le' = s.1 in
      let before = (s.0).read_before in
      let y = entry_of_request (slice_get log i) (s.0).request (s.0).there in
      (omega arith, y.0, ap (λ (xs : List Entry). slice_get xs i) whole ∙ y.1, request_is_input (y.0).message (s.0).request (ap request_of y.2)))
      k e le (ap (λ (xs : List Entry). slice_get xs k) whole ∙ at) input

  pub request_sent : (k : ℕ) (q : Request) → length first ≤ k → request_at log k ≡ Some q → (what : Submission) × (n : ℕ) × In (what, Sent k n) results
  request_sent k q le at =
      let y = entry_of_request (slice_get log k) q at in
      input_sent k y.0 le y.1 (request_is_input (y.0).message q (ap request_of y.2))

  pub no_tick : (e : Entry) → In e (j.begins).0 → is_tick e.message ≡ false
  no_tick e i =
      elim (cases_Bool (is_tick e.message)) [
        | inr b ↦ b
        | inl b ↦
            let rest = (j.begins).0 in
            let t = tick_is_input e.message b in
            let a = in_at rest e i in
            let place = length first + a.0 in
            let at : slice_get log place ≡ Some e = sym (ap (λ (xs : List Entry). slice_get xs place) (j.begins).1) ∙ (get_behind first rest a.0 ∙ a.1) in
            let r = input_sent place e (omega arith) at t.0 in
            let s = (sent_at r.0 place r.1 r.2).0 in
            let none : request_at log place ≡ None = ap request_in at ∙ t.1 in
            absurd (none-some s.request (sym none ∙ s.there))
      ]
    where
      get_behind : (xs ys : List Entry) (i : ℕ) → slice_get (xs ++ ys) (length xs + i) ≡ slice_get ys i
      get_behind [] ys i = let z : 0 + i ≡ i = omega arith in ap (λ (k : ℕ). slice_get ys k) z
      get_behind (x ∷ xs) ys i = let z : length (x ∷ xs) + i ≡ suc (length xs + i) =
          omega arith in ap (λ (k : ℕ). slice_get (x ∷ (xs ++ ys)) k) z ∙ get_behind xs ys i

  -- After the joins answers alone come: `after` is the log when the round ends, and `earlier` are the results of earlier rounds.
  module _ (start : ℕ) (from_start : start ≤ length first) (raws : List Request) (earlier : Results F) (below : SentBelow start earlier)
      (sent : AllSent raws first earlier) (after more : List Entry) (ends : after ≡ log ++ more) where
    grows : IsPrefix log after
    grows = (more, sym ends)

    -- the request that was sent before stands at an earlier result's place
    already : (pre rest : Results F) (what : Submission) (place n : ℕ) (seen next : List Entry)
        → (pre ++ (what, Refused (Duplicate place) n) ∷ rest ≡ results) → Chains (pre ++ (what, Refused (Duplicate place) n) ∷ []) rest
        → IsPrefix next log → ((other : Submission) (k r : ℕ) → other.participant ≡ what.participant → In (other, Sent k r) rest → length next ≤ r)
        → StandsAlready m now next what place n → n ≤ length next → DuplicateHolds m now next raws (earlier ++ pre) what place n
    already pre rest what place n seen next e c begins later h within =
        let at : request_at log place ≡ Some h.first = request_later next log place h.first begins h.there in
        let lt = request_within next place h.first h.there in
        record {
          request = h.request;
          wanted = h.wanted;
          first = h.first;
          there = h.there;
          known = elim (cases_lt place (length first)) [
            | inl old ↦ elim (sent place h.first (request_earlier first log place h.first j.begins old at)) [
              | inl r ↦ inl (r.0, r.1, contains_from_In (earlier ++ pre) (r.0, Sent place r.1) (in_append_left earlier pre (r.0, Sent place r.1) r.2))
              | inr raw ↦ inr (contains_from_In raws h.first raw)
            ]
            | inr new ↦
                let r = request_sent place h.first new at in
                inl (
                  r.0,
                  r.1,
                  contains_from_In (earlier ++ pre) (r.0, Sent place r.1) (in_append_right earlier pre (r.0, Sent place r.1) (in_pre r.0 r.1 r.2 at lt)),
                )
          ];
          sender = h.sender;
          command = h.command;
        }
      where
        mine : (q : Request) → wanted_at m now next what n ≡ Some q → q.sender ≡ what.participant
        mine q w =
            (machine.prepares what (take n next) now q
            (subst (GenuineLog m) (take_same next log n begins within) (genuine_take m.reading m.params log n j.genuine)) w).sender

        in_pre : (other : Submission) (r : ℕ) → In (other, Sent place r) results → request_at log place ≡ Some h.first → place < length next
            → In (other, Sent place r) pre
        in_pre other r i at lt =
            let by : other.participant ≡ what.participant = sym (sent_sender other place r h.first i at) ∙ (h.sender ∙ mine h.request h.wanted) in
            let there : In (other, Sent place r) (pre ++ (what, Refused (Duplicate place) n) ∷ rest) = subst (In (other, Sent place r)) (sym e) i in
            elim (in_append_cases pre ((what, Refused (Duplicate place) n) ∷ rest) (other, Sent place r) there) [
              | inl old ↦ old
              | inr o ↦ elim o [
                | inl same ↦ let apart : Refused (Duplicate place) n ≡ Sent place r = ap (λ (x : Submission × SubmitResult F). x.1) same in cc
                | inr new ↦
                    let le = later other place r by new in
                    let before = ((sent_at other place r i).0).read_before in
                    absurd (omega arith)
              ]
            ]

    -- one result, over what its client had seen after it
    module _ (pre : Results F) (what : Submission) (rest : Results F) (seen next : List Entry) (begins : IsPrefix next log)
        (from_first : length first ≤ length seen)
        (past : (other : Submission) (place n : ℕ) → In (other, Sent place n) pre → other.participant ≡ what.participant → place < length seen) where
      abbrev So : SubmitResult F → Type 0
      So result = ResultHolds m why now round raws next start (length next) (earlier ++ pre) what result

      asleep_holds : (result : SubmitResult F) → IsAsleep round.paused next what result → So result
      asleep_holds result a =
          subst So (sym a.3) (record {
            answer = a.0;
            within = a.2;
            read = λ awake. absurd (both_ways _ awake a.0);
            paused = λ p. (a.1, refl);
          })

      awake_holds : (result : SubmitResult F) → pre ++ (what, result) ∷ rest ≡ results → Chains (pre ++ (what, result) ∷ []) rest
          → ((other : Submission) (k r : ℕ) → other.participant ≡ what.participant → In (other, Sent k r) rest → length next ≤ r)
          → IsAwake m why now round.paused seen what result next → So result
      awake_holds result e c later a =
          record {
            answer = by_result result e c a.within a.answer;
            within = a.within;
            read = λ awake. record {
              after_start = (let le = a.reads in omega arith);
              after_sent = λ other place n i mine.
                  let le = a.reads in
                  elim (in_append_cases earlier pre (other, Sent place n) (in_from_Contains (earlier ++ pre) (other, Sent place n) i)) [
                    | inl old ↦ let lt = below other place n old in omega arith
                    | inr new ↦ let lt = past other place n new mine in omega arith
                  ];
            };
            paused = λ p. absurd (both_ways _ a.awake p);
          }
        where
          by_fault : (fault : SubmitFault F) (n : ℕ) → pre ++ (what, Refused fault n) ∷ rest ≡ results
              → Chains (pre ++ (what, Refused fault n) ∷ []) rest → n ≤ length next → ClientRefusal m why now next what fault n
              → RefusalHolds m why now round raws next (length next) (earlier ++ pre) what fault n
          by_fault Paused n e c within h = absurd h
          by_fault (Unwanted f) n e c within h = h
          by_fault (Duplicate place) n e c within h = already pre rest what place n seen next e c begins later h within
          by_fault (LogFull amount need) n e c within h = h

          by_result : (r : SubmitResult F) → pre ++ (what, r) ∷ rest ≡ results → Chains (pre ++ (what, r) ∷ []) rest → read_of r ≤ length next
              → ClientAnswer m why now next what r → AnswerHolds m why now round raws next (length next) (earlier ++ pre) what r
          by_result (Sent place n) e c within h = h
          by_result (Refused fault n) e c within h = by_fault fault n e c within h

    each_holds : (pre rest : Results F) → pre ++ rest ≡ results → Chains pre rest
        → ResultsHold m why now round raws after start (length after) (earlier ++ pre) rest
    each_holds pre [] e c = tt
    each_holds pre (x ∷ rest) e c =
        let p = (x.0).participant in
        let at = c p in
        let h = chain_head m why now round.paused first log pre x rest p at (own_test x.0) in
        let next = h.0 in
        let up = begins_then next at.last log (answers_begin m why now round.paused next (results_of p rest) at.last h.2) at.begins in
        let later : (other : Submission) (k r : ℕ) → other.participant ≡ p → In (other, Sent k r) rest → length next ≤ r =
        λ other k r mine i.
        (chain_sent m why now round.paused next (results_of p rest) at.last h.2 other k r
        (in_filter (λ (y : Submission × SubmitResult F). is_by p y.0) rest (other, Sent k r) i (eq-eqb other.participant p mine))).1 in
        let c' = chains_next pre x rest c in
        let here : ResultHolds m why now round raws next start (length next) (earlier ++ pre) x.0 x.1 = elim (h.1).1 [
          | inl a ↦ asleep_holds pre x.0 rest at.seen next up at.from_first at.past x.1 a
          | inr a ↦ awake_holds pre x.0 rest at.seen next up at.from_first at.past x.1 e c' later a
        ] in
        let all = begins_then next log after up grows in
        let long = begins_length next after all in
        let grown : ResultHolds m why now round raws (next ++ all.0) start (length after) (earlier ++ pre) x.0 x.1 =
        result_grown m why now round raws next all.0 (length next) (length after) (omega arith) long (earlier ++ pre) (earlier ++ pre) x.0
        (λ y i. i) start x.1 (λ b place n i mine. i) here in (
          subst (λ (xs : List Entry). ResultHolds m why now round raws xs start (length after) (earlier ++ pre) x.0 x.1) all.1 grown,
          subst (λ (ys : Results F). ResultsHold m why now round raws after start (length after) ys rest) (sym (append_assoc earlier pre (x ∷ [])))
              (each_holds (pre ++ x ∷ []) rest (next_split pre x rest e) c'),
        )

    pub results_hold : ResultsHold m why now round raws after start (length after) earlier results
    results_hold =
        subst (λ (ys : Results F). ResultsHold m why now round raws after start (length after) ys results) (append-nil earlier)
        (each_holds [] results refl all_chains)

pub begun_begins : (m : Machine) (now : ℕ) (round : Round) (log : List Entry) → IsPrefix log (begun m now round log)
begun_begins m now round log = let l = begun_longer m now round log in (l.0, sym l.1)

module _ {F : Type 0} (m : Machine) (why : Why F) (now : ℕ) (round : Round) (results : Results F) (before after : List Entry) where
  -- what settling adds
  settling : (h : SharedPart m why now round results before after)
      → (more : List Entry) × (after ≡ h.0 ++ more) × ((e : Entry) → In e more → (is_tick e.message ≡ false) × (request_of e.message ≡ None))
  settling h = let p = passes_add m now round.paused round.holds_verdicts (left m.hosts h.0) h.0 in (p.0, h.2 ∙ p.1, p.2)

  pub shared_longer : SharedPart m why now round results before after → IsPrefix (begun m now round before) after
  shared_longer h =
      let s = settling h in
      begins_then (begun m now round before) h.0 after (h.1).begins (s.0, sym s.1)

  no_request_after : (h : SharedPart m why now round results before after) (k : ℕ) (q : Request) → request_at after k ≡ Some q → request_at h.0 k ≡ Some q
  no_request_after h k q at =
      let s = settling h in
      let at' : request_at (h.0 ++ s.0) k ≡ Some q = ap (λ (xs : List Entry). request_at xs k) (sym s.1) ∙ at in
      elim (cases_lt k (length h.0)) [
        | inl lt ↦ sym (request_grown h.0 s.0 k lt) ∙ at'
        | inr past ↦
            let e = entry_of_request (slice_get (h.0 ++ s.0) k) q at' in
            let is = s.2 e.0 (in_right h.0 s.0 k e.0 past e.1) in
            absurd (none-some q (sym is.1 ∙ ap request_of e.2))
      ]

  pub shared_part : IsMachine m → SharedPart m why now round results before after → PartHolds m now round results before after
  shared_part machine h =
      let first = begun m now round before in
      let j = h.1 in
      let s = settling h in
      let rest = (j.begins).0 in
      record {
        rest = rest ++ s.0;
        is_begun = s.1 ∙ (ap (λ (xs : List Entry). xs ++ s.0) (sym (j.begins).1) ∙ append_assoc first rest s.0);
        no_tick = λ e c. elim (in_append_cases rest s.0 e (in_from_Contains (rest ++ s.0) e c)) [
          | inl i ↦ no_tick m why machine now round first h.0 results j e i
          | inr i ↦ (s.2 e i).0
        ];
        of_results = λ k q le at.
            let r = request_sent m why machine now round first h.0 results j k q le (no_request_after h k q at) in
            (r.0, r.1, contains_from_In results (r.0, Sent k r.1) r.2);
        in_rest = λ what k n c.
            let r = sent_at m why machine now round first h.0 results j what k n (in_from_Contains results (what, Sent k n) c) in
            let le = r.1 in
            let before' = (r.0).read_before in omega arith;
        settled = rw h.2 (passes_settle m now round.paused round.holds_verdicts h.0);
      }

  pub shared_round : IsMachine m → (raws : List Request) (earlier : Results F) → SentBelow (length before) earlier → AllSent raws before earlier
      → submissions_in results ≡ round.submits → SharedPart m why now round results before after
      → RoundHolds m why now round (raws ++ round.raws) earlier results before after
  shared_round machine raws earlier below sent submits h =
      let first = begun m now round before in
      let s = settling h in
      let up = begins_length before first (begun_begins m now round before) in
      record {
        part = shared_part machine h;
        submits = submits;
        each = results_hold m why machine now round first h.0 results h.1 (length first) (le_refl (length first)) (raws ++ round.raws) earlier
            (λ what place n i. let b = below what place n i in omega arith) (begun_sent m now round raws before earlier sent) after s.0 s.1;
      }
