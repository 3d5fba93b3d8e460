-- What a participant counts of contracts, and what the ledger says of them.
use Rattle.std.proofs.Common.{◌≡◌, ◌⊎◌, ℕ, suc, ◌<◌, Bool, true, false, List, take, length, Option, Some, None, filter, refl, sym, ap, ◌∙◌, inl, inr}
use Rattle.std.specs.Prelude.{not, ◌&&◌, ◌||◌, ◌++◌}
use Rattle.std.specs.List.{list_any}
use Rattle.std.proofs.lemmas.Bool.{cases_Bool, and_parts, or_cases, not-true, both_ways}
use Rattle.std.proofs.lemmas.Option.{none-some}
use Rattle.ledger_model.specs.Terms.{Hash, Act, Instance, id_of, instance_of, is_create, is_consuming, creates, consumes, ParticipantId}
use Rattle.ledger_model.specs.Forest.{acts, ledger_acts}
use Rattle.ledger_model.specs.Opening.{Shown, roots_in}
use Rattle.ledger_model.specs.Status.{status_after, is_locked_by, is_unknown}
use Rattle.canton_model.specs.Evidence.{acts_of, past_at, pending_at}
use Rattle.canton_model.specs.Log.{Params, Entry, Request, request_at, decision_time_of}
use Rattle.canton_model.specs.Timeline.{timeline_of, is_approved_in, is_decided_at}
use Rattle.canton_model.specs.Reading.{Reading, shown_to}
use Rattle.canton_model.specs.Ledger.{Timely, commit_of, read_by, whole_at, opened_to, requests_of, status_in, is_withheld, commits_below}
use Rattle.canton_model.specs.Inbox.{inbox, confirms_signatory, has_hosted_stakeholder, is_informed, project_whole, is_locked_in_inbox, status_in_inbox}
use Rattle.canton_model.specs.Genuine.{Genuine, IsReading, NoCollision}
use Rattle.canton_model.specs.Causes.{IsLockedIn}
use Rattle.canton_model.proofs.Lawful.{informs}
use Rattle.ledger_model.proofs.Lists.{In, contains_from_In, from_any, from_filter, from_on, in_at, at_in}
use Rattle.ledger_model.proofs.Projected.{filter_project}
use Rattle.canton_model.proofs.Gathered.{in_gather, gather_in, ledger_gathered, consumed_by, known_by}
use Rattle.canton_model.proofs.Decided.{final_of_log}
use Rattle.canton_model.proofs.HostStatus.{same_status}
use Rattle.canton_model.proofs.InboxGrows.{same_counted, same_pending}
use Rattle.canton_model.proofs.Approved.{opens_of, guard_shown}
use Rattle.canton_model.proofs.FromGenuine.{confirms_signatory_of, r, sound, hosted, opened_to_some, opened_request, some_shown, shown_in_whole, checked_of_log, filter_none, whole_is}

-- what is locked at a participant is locked
pub locked_in_log : (reading : Reading) (params : Params) (log : List Entry) → Timely params log → (p k : ℕ) (c : Hash) → is_locked_in_inbox reading params (inbox reading p (take (suc k) log)) k c ≡ true → IsLockedIn reading params log k c
locked_in_log reading params log timely p k c h =
    let nobody : ParticipantId → Hash → Bool = λ x y. false in
    let test : Act → Bool = λ a. creates c a || consumes c a in
    let pending = pending_at (requests_of reading params log nobody) p k in
    let locked : list_any test pending ≡ true = rw (← same_pending reading params log p timely k nobody) h in
    let w = from_any test pending locked in
    let m = in_gather (λ n. not (is_decided_at (timeline_of log) n (decision_time_of params log n) k)) (λ n. filter reading.is_authentic (acts (opened_to reading p (request_at log n)))) k w.0 w.1 in
    let there = from_filter reading.is_authentic (acts (opened_to reading p (request_at log m.0))) w.0 m.3 in
    record {
      place = m.0;
      below = m.1;
      undecided = not-true _ m.2;
      participant = p;
      act = w.0;
      is_opened = contains_from_In _ w.0 there.0;
      authentic = there.1;
      changes = w.2;
    }

-- what is known of a contract is by some action
known_act : (past : List Act) (c : Hash) → is_unknown (status_after past c) ≡ false → (a : Act) × In a past × ((consumes c a ≡ true) ⊎ (creates c a ≡ true))
known_act past c h =
    elim (cases_Bool (list_any (consumes c) past)) [
      | inl used ↦ let w = from_any (consumes c) past used in (w.0, w.1, inl w.2)
      | inr free ↦ elim (cases_Bool (list_any (creates c) past)) [
        | inl made ↦ let w = from_any (creates c) past made in (w.0, w.1, inr w.2)
        | inr none ↦ let no : true ≡ false = rw (free, none) at h in cc
      ]
    ]

act_known : (past : List Act) (c : Hash) (a : Act) → In a past → (consumes c a ≡ true) ⊎ (creates c a ≡ true) → is_unknown (status_after past c) ≡ false
act_known past c a i (inl used) =
    let m = and_parts _ _ used in ap is_unknown (consumed_by past c a i (from_on c a m.0) m.1)
act_known past c a i (inr made) = let m = and_parts _ _ made in known_by past c a i (from_on c a m.0) m.1

module _ (reading : Reading) (params : Params) (log : List Entry) (lawful : IsReading reading) (genuine : Genuine reading params log) (distinct : NoCollision reading log) where
  abbrev guards : ParticipantId → Hash → Bool
  guards = confirms_signatory_of reading params log lawful genuine distinct

  -- what is known at a participant is known to the ledger
  pub known_in_log : (p k : ℕ) (c : Hash) → k < length log → is_unknown (status_in_inbox reading (inbox reading p (take (suc k) log)) k c) ≡ false → is_unknown (status_in reading log k c) ≡ false
  known_in_log p k c lt h =
      let past = past_at (r reading params log lawful genuine distinct) p k in
      let known : is_unknown (status_after past c) ≡ false = rw (← same_counted reading params log p genuine.timely k guards) h in
      let w = known_act past c known in
      let m = in_gather (λ n. (r reading params log lawful genuine distinct).is_approved_at n k) (λ n. filter reading.is_authentic (acts (opened_to reading p (request_at log n)))) k w.0 w.1 in
      let final = final_of_log params log genuine.timely reading guards in
      let ok : is_approved_in m.0 (timeline_of log) ≡ true = elim (cases_Bool (is_decided_at (timeline_of log) m.0 (decision_time_of params log m.0) k)) [
        | inl decided ↦ final.stays m.0 k m.1 lt decided ∙ m.2
        | inr undecided ↦ absurd (both_ways _ (final.undecided m.0 k m.1 lt undecided) m.2)
      ] in
      let opened = (from_filter reading.is_authentic (acts (opened_to reading p (request_at log m.0))) w.0 m.3).0 in
      let place = in_at (acts (opened_to reading p (request_at log m.0))) w.0 opened in
      let q = opened_request reading p (request_at log m.0) place.0 w.0 place.1 in
      let s = some_shown (shown_to reading p q.0) place.0 w.0 q.2 in
      let whole = shown_in_whole reading params log lawful genuine distinct m.0 p q.0 s.0 w.0 ok q.1 s.1 (at_in (acts (s.0).roots) place.0 w.0 s.2) in
      let gathered = gather_in (λ n. is_approved_in n (timeline_of log)) (λ n. acts_of (whole_at reading log n)) k m.0 w.0 m.1 ok whole in
      let there : In w.0 (ledger_acts (commits_below reading log k)) = rw (ledger_gathered (λ n. is_approved_in n (timeline_of log)) (whole_at reading log) k) gathered in
      act_known (ledger_acts (commits_below reading log k)) c w.0 there w.2

  module _ (p q j : ℕ) (a : Act) (there : In a (acts (opened_to reading q (request_at log j)))) (real : reading.is_authentic a ≡ true) where
    abbrev contract : Hash
    contract = id_of a.action

    abbrev changes_it : Act → Bool
    changes_it b = reading.is_authentic b && (creates contract b || consumes contract b)

    abbrev IsApproved : ℕ → Type 0
    IsApproved k = is_approved_in k (timeline_of log) ≡ true

    changed : (b : Act) → changes_it b ≡ true → (id_of b.action ≡ contract) × ((is_create b.action ≡ true) ⊎ (is_consuming b.action ≡ true))
    changed b t =
        elim (or_cases _ _ (and_parts _ _ t).1) [
          | inl made ↦ let m = and_parts _ _ made in (from_on contract b m.0, inl m.1)
          | inr used ↦ let m = and_parts _ _ used in (from_on contract b m.0, inr m.1)
        ]

    -- each change of it by an approved request is of the same instance
    one : (k : ℕ) (b : Act) → IsApproved k → In b (acts_of (whole_at reading log k)) → changes_it b ≡ true → instance_of b.action ≡ instance_of a.action
    one k b ok h t =
        let o = opened_to_some reading params log lawful genuine distinct k b ok h in
        distinct.one_instance o.0 k q j b a o.1 (contains_from_In _ a there) (and_parts _ _ t).0 real (changed b t).0

    told : has_hosted_stakeholder reading p a ≡ true → (k : ℕ) (b : Act) → IsApproved k → In b (acts_of (whole_at reading log k)) → changes_it b ≡ true → is_informed reading p b ≡ true
    told host k b ok h t =
        (informs reading lawful).stakeholders_informed p b (changed b t).1
        (ap (λ (x : Instance). list_any (reading.hosts p) ((reading.language).signatories x ++ (reading.language).observers x)) (one k b ok h t) ∙ host)

    abbrev SameChanges : ℕ → Type 0
    SameChanges k = filter changes_it (acts (opened_to reading p (request_at log k))) ≡ filter changes_it (acts_of (whole_at reading log k))

    -- at who hosts a stakeholder of it, where nothing is withheld
    host_changes : has_hosted_stakeholder reading p a ≡ true → (k : ℕ) → IsApproved k → is_withheld reading log p k ≡ false → (o : Option Request) → request_at log k ≡ o → filter changes_it (acts (opened_to reading p o)) ≡ filter changes_it (acts_of (commit_of k (read_by reading.whole o)))
    host_changes host k ok free None e = refl
    host_changes host k ok free (Some x) e =
        let s = sound reading params log lawful genuine distinct k x ok e in
        let projected = (opens_of reading params log lawful genuine distinct p).projected k x e ok free ∙ ap (project_whole reading p) s.is_whole in
        rw (projected, s.is_whole)
        (filter_project (is_informed reading p) changes_it (s.transaction).roots (λ b i t. told host k b ok (rw (whole_is reading params log lawful genuine distinct k x ok e) i) t))

    -- at who confirms a signatory of it
    guard_changes : confirms_signatory reading p a ≡ true → (k : ℕ) → IsApproved k → (x : Request) → request_at log k ≡ Some x → (o : Option Shown) → shown_to reading p x ≡ o → filter changes_it (acts (roots_in o)) ≡ filter changes_it (acts_of (whole_at reading log k))
    guard_changes signs k ok x e (Some s) is =
        let y = sound reading params log lawful genuine distinct k x ok e in
        let same = whole_is reading params log lawful genuine distinct k x ok e in
        rw (y.opens p s is, same)
        (filter_project (is_informed reading p) changes_it (y.transaction).roots
        (λ b i t. told (hosted reading params log lawful genuine distinct p a signs) k b ok (rw same i) t))
    guard_changes signs k ok x e None is =
        sym (filter_none changes_it (acts_of (whole_at reading log k)) (λ b i t.
        let it_signs : confirms_signatory reading p b ≡ true = ap (λ (y : Instance). list_any (reading.confirms p) ((reading.language).signatories y)) (one k b ok i t) ∙ signs in
        let in_s = rw (whole_is reading params log lawful genuine distinct k x ok e) at i in
        let shown = guard_shown reading params log lawful genuine distinct k x p b ok e in_s it_signs in
        none-some shown.0 (sym is ∙ shown.1)))

    guard_place : confirms_signatory reading p a ≡ true → (k : ℕ) → IsApproved k → (o : Option Request) → request_at log k ≡ o → filter changes_it (acts (opened_to reading p o)) ≡ filter changes_it (acts_of (commit_of k (read_by reading.whole o)))
    guard_place signs k ok None e = refl
    guard_place signs k ok (Some x) e =
        guard_changes signs k ok x e (shown_to reading p x) refl
        ∙ ap (λ (o : Option Request). filter changes_it (acts_of (commit_of k (read_by reading.whole o)))) e

    agrees : (k : ℕ) → ((m : ℕ) → m < k → IsApproved m → SameChanges m) → k < length log → is_locked_in_inbox reading params (inbox reading p (take (suc k) log)) k contract ≡ false → status_in_inbox reading (inbox reading p (take (suc k) log)) k contract ≡ status_in reading log k contract
    agrees k shows lt free =
        let unlocked : is_locked_by (pending_at (r reading params log lawful genuine distinct) p k) contract ≡ false = rw (← same_pending reading params log p genuine.timely k guards) free in
        ap (λ (xs : List Act). status_after xs contract) (same_counted reading params log p genuine.timely k guards)
        ∙ same_status (r reading params log lawful genuine distinct) (length log) p contract k
        (record { shows = λ m lt' ok. shows m lt' ok })
        (final_of_log params log genuine.timely reading guards)
        (checked_of_log reading params log lawful genuine distinct)
        lt unlocked

    pub status_of_guard : confirms_signatory reading p a ≡ true → (k : ℕ) → k < length log → is_locked_in_inbox reading params (inbox reading p (take (suc k) log)) k contract ≡ false → status_in_inbox reading (inbox reading p (take (suc k) log)) k contract ≡ status_in reading log k contract
    status_of_guard signs k lt free = agrees k (λ m lt' ok. guard_place signs m ok (request_at log m) refl) lt free

    pub status_of_host : has_hosted_stakeholder reading p a ≡ true → (k : ℕ) → ((m : ℕ) → m < k → is_withheld reading log p m ≡ false) → k < length log → is_locked_in_inbox reading params (inbox reading p (take (suc k) log)) k contract ≡ false → status_in_inbox reading (inbox reading p (take (suc k) log)) k contract ≡ status_in reading log k contract
    status_of_host host k unheld lt free = agrees k (λ m lt' ok. host_changes host m ok (unheld m lt') (request_at log m) refl) lt free
