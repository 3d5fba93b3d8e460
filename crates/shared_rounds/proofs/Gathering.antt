-- What all clients of a round brought, put together.
use Rattle.std.proofs.Common.{◌≡◌, ℕ, zero, suc, ◌+◌, ◌<◌, List, [], ◌∷◌, length, map, Some, refl, sym, ap, ◌∙◌, subst, arith}
use Rattle.std.specs.Prelude.{All, slice_get, slice_index_or, sum_by}
use Rattle.std.proofs.lemmas.List.{length-map}
use Rattle.std.proofs.lemmas.List.Sums.{sum_by-cons}
use Rattle.std.proofs.lemmas.Option.{get_or_from_slice_get, slice_get_within}
use mathlib.Core.List.{IsPrefix}
use Rattle.ledger_terms.specs.declared.submission.Submission.{Submission}
use Rattle.ledger_model.specs.Terms.{ParticipantId}
use Rattle.node_core.specs.declared.submit_result.SubmitResult.{SubmitResult}
use Rattle.prepare_request.specs.declared.submit_fault.SubmitFault.{SubmitFault}
use Rattle.threads_model.specs.Inputs.{submissions_of, tickets}
use Rattle.threads_model.specs.Clients.{ClientAnswers}
use Rattle.threads_model.specs.Shared.{ClientHas}
use Rattle.threads_model.specs.Behind.{LogBehind}
use Rattle.world_model.specs.Messages.{Entry}
use Rattle.world_model.specs.Machine.{Machine}
use Rattle.world_model.specs.Rounds as r
use Rattle.world_model.specs.Settled.{sum_below}
use Rattle.world_play.specs.Results.{IsPlainResult, results_of}
use Rattle.world_play.proofs.Passing.{item_at}
use Rattle.world_play.proofs.Plays.{each_of}
use Rattle.sync_shared.specs.Clients.{Seen}
use Rattle.client_threads.specs.declared.served.Served.{Served}
use Rattle.shared_rounds.specs.Joined.{AreAnswered}
use Rattle.shared_rounds.specs.Queues.{queue_at, queued}
use Rattle.shared_rounds.specs.Retired.{list_seen, results_brought, tickets_brought}
use Rattle.client_threads.specs.Served.{IsServed}
use Rattle.client_threads.proofs.Brought.{at_of_map}

below_first : (f : ℕ → ℕ) (n : ℕ) → sum_below f (suc n) ≡ f 0 + sum_below (λ p. f (suc p)) n
below_first f zero = omega arith
below_first f (suc n) = let more = below_first f n in omega arith

-- a sum over a list, by its places
sum_by_places : {X : Type 0} (g : X → ℕ) (xs : List X) (f : ℕ → ℕ) → ((p : ℕ) (x : X) → slice_get xs p ≡ Some x → g x ≡ f p)
    → sum_by g xs ≡ sum_below f (length xs)
sum_by_places g [] f h = refl
sum_by_places g (x ∷ xs) f h =
    let a : sum_by g (x ∷ xs) ≡ g x + sum_by g xs = sum_by-cons g x xs in
    let b = sum_by_places g xs (λ p. f (suc p)) (λ p y e. h (suc p) y e) in
    let c = h 0 x refl in
    let d = below_first f (length xs) in omega arith

some_at : {X : Type 0} (xs : List X) (p : ℕ) → p < length xs → (x : X) × (slice_get xs p ≡ Some x)
some_at [] p lt = absurd (omega (arith, lt))
some_at (x ∷ xs) zero lt = (x, refl)
some_at (x ∷ xs) (suc p) lt = some_at xs p (omega (arith, lt))

-- clients that nobody has used yet
pub all_fresh : (start : List Entry) (clients : List Seen)
    → ((p : ℕ) (c : Seen) → slice_get clients p ≡ Some c → c ≡ record { list = start; tickets = 0; me = p })
    → All (λ (client : Seen). client.tickets ≡ 0) clients
all_fresh start clients new = λ k d lt. ap (λ (s : Seen). s.tickets) (new k (slice_index_or clients k d) (item_at clients k d lt))

-- what each client was served, by the place of its participant
pub each_of_clients : {S : Type 0} (m : Machine) (why : r.Why SubmitFault) (time now : ℕ) (rules paused : List ParticipantId) (start : List Entry)
    (submits : List Submission) (clients : List Seen) (all : List (Served S)) → time ≡ now → rules ≡ paused
    → ((p : ℕ) (c : Seen) → slice_get clients p ≡ Some c → c ≡ record { list = start; tickets = 0; me = p }) → length all ≡ length clients
    → ((p : ℕ) (c : Seen) (s : Served S) → slice_get clients p ≡ Some c → slice_get all p ≡ Some s
    → IsServed m why time rules c.list submits c.me s.client s.results)
    → (p : ℕ) (s : Served S) → slice_get all p ≡ Some s → IsServed m why now paused start submits p s.client s.results
each_of_clients m why time now rules paused start submits clients all same_time same_rules new many served p s e =
    let lt = slice_get_within all p s e in
    let c = some_at clients p (omega (arith, lt, many)) in
    let one =
    subst (λ (d : Seen). IsServed m why time rules d.list submits d.me s.client s.results) (new p c.0 c.1) (served p c.0 s c.1 e) in
    subst (λ (n : ℕ). IsServed m why n paused start submits p s.client s.results) same_time
    (subst (λ (ps : List ParticipantId). IsServed m why time ps start submits p s.client s.results) same_rules one)

module _ {S : Type 0} (m : Machine) (why : r.Why SubmitFault) (now : ℕ) (paused : List ParticipantId) (first : List Entry) (submits : List Submission)
    (all : List (Served S)) (hosts : length all ≡ m.hosts)
    (each : (p : ℕ) (s : Served S) → slice_get all p ≡ Some s → IsServed m why now paused first submits p s.client s.results) (log : List Entry)
    (seen : All (λ (list : List Entry). IsPrefix list log) (map list_seen all)) where
  abbrev queues : List (List SubmitResult)
  queues = map results_brought all

  queue_is : (p : ℕ) (s : Served S) → slice_get all p ≡ Some s → queue_at queues p ≡ s.results
  queue_is p s e = get_or_from_slice_get queues p s.results [] (at_of_map results_brought all p s e)

  client_at : (p : ℕ) (s : Served S) → slice_get all p ≡ Some s → ClientHas m why now paused first log (queued submits queues p)
  client_at p s e =
      let h = each p s e in
      record {
        last = (s.client).list;
        begins = each_of (λ (list : List Entry). IsPrefix list log) (map list_seen all) p (s.client).list seen (at_of_map list_seen all p s e);
        answers =
            subst (λ (rs : List SubmitResult). ClientAnswers m why now paused first (results_of (submissions_of p submits) rs) (s.client).list)
            (sym (queue_is p s e)) h.answers;
      }

  tickets_at : (p : ℕ) (s : Served S) → slice_get all p ≡ Some s → tickets_brought s ≡ tickets (queued submits queues p)
  tickets_at p s e =
      (each p s e).counted ∙ ap (λ (rs : List SubmitResult). tickets (results_of (submissions_of p submits) rs)) (sym (queue_is p s e))

  pub gathered : (counted : ℕ) → LogBehind m first counted log → counted ≡ sum_by tickets_brought all → (own : List (List SubmitResult)) → own ≡ queues
      → AreAnswered m why now paused first submits log own
  gathered counted behind is own same =
      let long : length queues ≡ length all = length-map all results_brought in
      subst (λ (qs : List (List SubmitResult)). AreAnswered m why now paused first submits log qs) (sym same)
      (record {
        genuine = (behind.sequencer).genuine;
        within_capacity = (behind.sequencer).within_capacity;
        begins = behind.begins;
        hosts = long ∙ hosts;
        queues_of = record {
          many = λ p lt.
              let s = some_at all p (omega (arith, lt, long)) in
              ap length (queue_is p s.0 s.1) ∙ (each p s.0 s.1).many;
          plain = λ p lt. let s = some_at all p (omega (arith, lt, long)) in subst (All IsPlainResult) (sym (queue_is p s.0 s.1)) (each p s.0 s.1).plain;
        };
        clients = λ p lt. let s = some_at all p (omega (arith, lt, hosts)) in client_at p s.0 s.1;
        count =
            let a = behind.count in
            let b = sum_by_places tickets_brought all (λ p. tickets (queued submits queues p)) tickets_at in
            let c = ap (sum_below (λ p. tickets (queued submits queues p))) hosts in omega arith;
      })
