-- Opened and Checked hold of a genuine log without collisions.
use Rattle.std.proofs.Common.{◌≡◌, ℕ, ◌<◌, Bool, true, false, List, [], ◌∷◌, take, length, Option, Some, None, filter, refl, sym, ap, ◌∙◌, subst, inl, inr}
use Rattle.std.specs.Prelude.{slice_get, ◌&&◌, Contains}
use Rattle.std.specs.List.{list_any}
use Rattle.std.proofs.lemmas.Bool.{cases_Bool, and_from, and_parts, and_cases, or_left, both_ways, not-false}
use Rattle.std.proofs.lemmas.Option.{same_Some, none-some}
use Rattle.std.proofs.lemmas.List.Folds.{list_any-append}
use Rattle.ledger_model.specs.Terms.{Hash, Act, id_of, instance_of, is_on, ParticipantId}
use Rattle.ledger_model.specs.Forest.{acts, project, ledger_acts}
use Rattle.ledger_model.specs.Consistency.{Consistent, SameContract}
use Rattle.canton_model.specs.Evidence.{Requests, acts_of, gather, authentic_on, Opened, Passes, Checked}
use Rattle.canton_model.specs.Log.{Params, Entry, Request, request_at}
use Rattle.canton_model.specs.Timeline.{timeline_of, is_approved_in}
use Rattle.ledger_model.specs.Opening.{Transaction, OpenedView, Shown, roots_in}
use Rattle.canton_model.specs.Reading.{Reading, shown_to}
use Rattle.canton_model.specs.Ledger.{commit_of, read_by, whole_at, opened_to, requests_of, ledger, is_guard}
use Rattle.canton_model.specs.Inbox.{confirms_signatory, has_hosted_stakeholder, is_informed}
use Rattle.canton_model.specs.Checks.{Check}
use Rattle.canton_model.specs.Genuine.{Genuine, IsReading, IsSound, NoCollision}
use Rattle.canton_model.proofs.Lawful.{Informs, informs}
use Rattle.ledger_model.proofs.Lists.{In, in_from_Contains, contains_from_In, in_filter, from_filter, in_any, from_any, in_at, at_in, on_from, from_on}
use Rattle.canton_model.proofs.Gathered.{in_gather, gather_in, ledger_gathered}
use Rattle.ledger_model.proofs.Projected.{filter_project, in_project}
use Rattle.canton_model.proofs.Decided.{final_of_log}
use Rattle.canton_model.proofs.InboxGrows.{same_counted, same_pending}
use Rattle.canton_model.proofs.OneLedger.{one_ledger}
use Rattle.canton_model.proofs.Approved.{its_checks, unshown, sound_of, guard_shown}

-- the request and the transaction behind an action of a whole
record Behind (reading : Reading) (log : List Entry) (k : ℕ) (a : Act) : Type 0 where
  request : Request
  there : request_at log k ≡ Some request
  transaction : Transaction
  is_whole : reading.whole request ≡ Some transaction
  in_it : In a (acts transaction.roots)

behind_whole : (reading : Reading) (log : List Entry) (k : ℕ) (a : Act) (q : Request) → request_at log k ≡ Some q → (w : Option Transaction) → reading.whole q ≡ w → In a (acts_of (commit_of k w)) → Behind reading log k a
behind_whole reading log k a q e None is h = absurd h
behind_whole reading log k a q e (Some t) is h = record { request = q; there = e; transaction = t; is_whole = is; in_it = h }

behind_request : (reading : Reading) (log : List Entry) (k : ℕ) (a : Act) (o : Option Request) → request_at log k ≡ o → In a (acts_of (commit_of k (read_by reading.whole o))) → Behind reading log k a
behind_request reading log k a None e h = absurd h
behind_request reading log k a (Some q) e h = behind_whole reading log k a q e (reading.whole q) refl h

behind : (reading : Reading) (log : List Entry) (k : ℕ) (a : Act) → In a (acts_of (whole_at reading log k)) → Behind reading log k a
behind reading log k a h = behind_request reading log k a (request_at log k) refl h

pub opened_request : (reading : Reading) (p : ParticipantId) (o : Option Request) (i : ℕ) (a : Act) → slice_get (acts (opened_to reading p o)) i ≡ Some a → (q : Request) × (o ≡ Some q) × (slice_get (acts (roots_in (shown_to reading p q))) i ≡ Some a)
opened_request reading p None i a h = absurd (none-some a h)
opened_request reading p (Some q) i a h = (q, refl, h)

pub filter_none : (test : Act → Bool) (xs : List Act) → ((a : Act) → In a xs → test a ≡ true → ⊥) → filter test xs ≡ []
filter_none test [] h = refl
filter_none test (x ∷ xs) h = elim (cases_Bool (test x)) [ inl yes' ↦ absurd (h x (inl refl) yes') | inr no' ↦ rw no' (filter_none test xs (λ a i t. h a (inr i) t)) ]

-- what is opened is shown
pub some_shown : (o : Option Shown) (i : ℕ) (a : Act) → slice_get (acts (roots_in o)) i ≡ Some a → (s : Shown) × (o ≡ Some s) × (slice_get (acts s.roots) i ≡ Some a)
some_shown None i a h = absurd (none-some a h)
some_shown (Some s) i a h = (s, refl, h)

-- a test that fails of a hosted action
pub second : (x y : Bool) → x ≡ true → (x && y) ≡ false → y ≡ false
second x y h e = elim (and_cases x y e) [ inl no' ↦ absurd (both_ways x no' h) | inr out ↦ out ]

module _ (reading : Reading) (params : Params) (log : List Entry) (lawful : IsReading reading) (genuine : Genuine reading params log) (distinct : NoCollision reading log) where
  abbrev informed : Informs reading
  informed = informs reading lawful

  -- p confirms a signatory of the instance that the ledger's actions on the contract carry
  abbrev pub confirms_signatory_of : ParticipantId → Hash → Bool
  confirms_signatory_of = is_guard reading log

  abbrev pub r : Requests
  r = requests_of reading params log confirms_signatory_of

  abbrev whole_acts : ℕ → List Act
  whole_acts k = acts_of (whole_at reading log k)

  abbrev IsApproved : ℕ → Type 0
  IsApproved k = is_approved_in k (timeline_of log) ≡ true

  abbrev pub sound : (k : ℕ) (q : Request) → IsApproved k → request_at log k ≡ Some q → IsSound reading q
  sound k q ok at = sound_of reading params log lawful genuine distinct k q ok at

  -- what is shown of an approved request is the projection of its whole
  pub opened_is : (k : ℕ) (q : Request) (p : ParticipantId) (s : Shown) (t : Transaction) → IsApproved k → request_at log k ≡ Some q → shown_to reading p q ≡ Some s → reading.whole q ≡ Some t → s.roots ≡ project (is_informed reading p) t.roots
  opened_is k q p s t ok at is whole =
      let x = sound k q ok at in
      x.opens p s is ∙ ap (λ (y : Transaction). project (is_informed reading p) y.roots) (same_Some _ _ (sym x.is_whole ∙ whole))

  opened_here : (k : ℕ) (q : Request) (p : ParticipantId) (s : Shown) → request_at log k ≡ Some q → shown_to reading p q ≡ Some s → acts (opened_to reading p (request_at log k)) ≡ acts s.roots
  opened_here k q p s at is = ap (λ (o : Option Request). acts (opened_to reading p o)) at ∙ ap (λ (o : Option Shown). acts (roots_in o)) is

  -- an action of an approved request, opened to one that confirms a signatory of it: each reason fails of it
  record Seen (k i : ℕ) (p : ParticipantId) (s : Shown) (a : Act) : Type 0 where
    view : OpenedView
    fails : (c : Check) → In c (its_checks reading params log lawful genuine k p s view) → c.is_shown_by (i, a) ≡ false

  seen : (k i : ℕ) (q : Request) (p : ParticipantId) (s : Shown) (a : Act) → IsApproved k → request_at log k ≡ Some q → shown_to reading p q ≡ Some s → slice_get (acts s.roots) i ≡ Some a → confirms_signatory reading p a ≡ true → Seen k i p s a
  seen k i q p s a ok at is there signs =
      let v = (sound k q ok at).viewed p s i a is there signs in
      record {
        view = v.0;
        fails = λ c listed. unshown reading params log lawful genuine k i q p s v.0 a c ok at is (in_from_Contains s.views v.0 v.1) (in_from_Contains _ (v.0).path v.3) (in_from_Contains (v.0).core (i, a) v.2) listed;
      }

  -- an action of an approved request, as it is opened to somebody that confirms a signatory of it
  record Guarded (k : ℕ) (a : Act) : Type 0 where
    participant : ParticipantId
    request : Request
    there : request_at log k ≡ Some request
    shown : Shown
    is_shown : shown_to reading participant request ≡ Some shown
    signs : confirms_signatory reading participant a ≡ true
    is_in : In a (acts shown.roots)

  in_shown : (k : ℕ) (q : Request) (p : ParticipantId) (s : Shown) (t : Transaction) (a : Act) → IsApproved k → request_at log k ≡ Some q → shown_to reading p q ≡ Some s → reading.whole q ≡ Some t → In a (acts t.roots) → is_informed reading p a ≡ true → In a (acts s.roots)
  in_shown k q p s t a ok at is whole h told =
      let same = filter_project (is_informed reading p) (is_informed reading p) t.roots (λ b i e. e) in
      let kept : In a (filter (is_informed reading p) (acts (project (is_informed reading p) t.roots))) = rw same (in_filter (is_informed reading p) (acts t.roots) a h told) in
      rw (opened_is k q p s t ok at is whole) (from_filter (is_informed reading p) (acts (project (is_informed reading p) t.roots)) a kept).0

  in_sound : (k : ℕ) (q : Request) (t : Transaction) (a : Act) (ok : IsApproved k) (at : request_at log k ≡ Some q) → reading.whole q ≡ Some t → In a (acts t.roots) → In a (acts ((sound k q ok at).transaction).roots)
  in_sound k q t a ok at whole h =
      let s = sound k q ok at in
      let same_t : s.transaction ≡ t = same_Some _ _ (sym s.is_whole ∙ whole) in
      rw same_t h

  guarded_action : (k : ℕ) (a : Act) → IsApproved k → In a (whole_acts k) → Guarded k a
  guarded_action k a ok h =
      let b = behind reading log k a h in
      let s = sound k b.request ok b.there in
      let in_s = in_sound k b.request b.transaction a ok b.there b.is_whole b.in_it in
      let g = s.confirmed a (contains_from_In (acts (s.transaction).roots) a in_s) in
      let shown = guard_shown reading params log lawful genuine distinct k b.request g.0 a ok b.there in_s g.1 in
      record {
        participant = g.0;
        request = b.request;
        there = b.there;
        shown = shown.0;
        is_shown = shown.1;
        signs = g.1;
        is_in = in_shown k b.request g.0 shown.0 b.transaction a ok b.there shown.1 b.is_whole b.in_it (informed.signatories_informed g.0 a g.1);
      }

  pub authentic : (k : ℕ) (a : Act) → IsApproved k → In a (whole_acts k) → reading.is_authentic a ≡ true
  authentic k a ok h =
      let g = guarded_action k a ok h in
      let place = in_at (acts (g.shown).roots) a g.is_in in
      not-false _ ((seen k place.0 g.request g.participant g.shown a ok g.there g.is_shown place.1 g.signs).fails _ (inl refl))

  -- it is opened to somebody
  pub opened_to_some : (k : ℕ) (a : Act) → IsApproved k → In a (whole_acts k) → (p : ParticipantId) × Contains (acts (opened_to reading p (request_at log k))) a
  opened_to_some k a ok h =
      let g = guarded_action k a ok h in
      (g.participant, contains_from_In _ a (rw (opened_here k g.request g.participant g.shown g.there g.is_shown) g.is_in))

  -- all actions of the ledger on one contract carry one instance
  pub one_instance : (k m : ℕ) (a b : Act) → IsApproved k → IsApproved m → In a (whole_acts k) → In b (whole_acts m) → SameContract a b → instance_of a.action ≡ instance_of b.action
  one_instance k m a b ok ok' ha hb same =
      let pa = opened_to_some k a ok ha in
      let pb = opened_to_some m b ok' hb in
      distinct.one_instance pa.0 k pb.0 m a b pa.1 pb.1 (authentic k a ok ha) (authentic m b ok' hb) same

  in_ledger : (k : ℕ) (a : Act) → k < length log → IsApproved k → In a (whole_acts k) → In a (ledger_acts (ledger reading log))
  in_ledger k a lt ok h =
      rw (ledger_gathered (λ n. is_approved_in n (timeline_of log)) (whole_at reading log) (length log))
      (gather_in (λ n. is_approved_in n (timeline_of log)) (λ n. acts_of (whole_at reading log n)) (length log) k a lt ok h)

  -- who guards a contract confirms a signatory of each of the ledger's actions on it
  signs : (k p : ℕ) (c : Hash) (a : Act) → IsApproved k → In a (whole_acts k) → id_of a.action ≡ c → confirms_signatory_of p c ≡ true → confirms_signatory reading p a ≡ true
  signs k p c a ok h same g =
      let w = from_any (λ (b : Act). is_on c b && list_any (reading.confirms p) ((reading.language).signatories (instance_of b.action))) (ledger_acts (ledger reading log)) g in
      let parts = and_parts _ _ w.2 in
      let there : In w.0 (gather (λ n. is_approved_in n (timeline_of log)) (λ n. acts_of (whole_at reading log n)) (length log)) =
      subst (λ (xs : List Act). In w.0 xs) (ledger_gathered (λ n. is_approved_in n (timeline_of log)) (whole_at reading log) (length log)) w.1 in
      let m = in_gather (λ n. is_approved_in n (timeline_of log)) (λ n. acts_of (whole_at reading log n)) (length log) w.0 there in
      let on : SameContract a w.0 = same ∙ sym (from_on c w.0 parts.0) in
      rw (one_instance k m.0 a w.0 ok m.2 h m.3 on) parts.1

  pub whole_is : (k : ℕ) (q : Request) (ok : IsApproved k) (at : request_at log k ≡ Some q) → whole_at reading log k ≡ commit_of k (Some (sound k q ok at).transaction)
  whole_is k q ok at = ap (λ (o : Option Request). commit_of k (read_by reading.whole o)) at ∙ ap (commit_of k) (sound k q ok at).is_whole

  pub shown_in_whole : (k p : ℕ) (q : Request) (s : Shown) (a : Act) → IsApproved k → request_at log k ≡ Some q → shown_to reading p q ≡ Some s → In a (acts s.roots) → In a (whole_acts k)
  shown_in_whole k p q s a ok at is h =
      let x = sound k q ok at in
      let h' : In a (acts (project (is_informed reading p) (x.transaction).roots)) = rw (x.opens p s is) at h in
      rw (whole_is k q ok at) (in_project (is_informed reading p) (x.transaction).roots a h')

  guarded_shown : (k p : ℕ) (c : Hash) (q : Request) (o : Option Shown) → shown_to reading p q ≡ o → IsApproved k → request_at log k ≡ Some q → confirms_signatory_of p c ≡ true → filter (authentic_on r c) (acts (roots_in o)) ≡ filter (authentic_on r c) (whole_acts k)
  guarded_shown k p c q (Some s) is ok at g =
      let x = sound k q ok at in
      rw (x.opens p s is, whole_is k q ok at)
      (filter_project (is_informed reading p) (authentic_on r c) (x.transaction).roots (λ a i t.
      let inside : In a (whole_acts k) = rw (whole_is k q ok at) i in
      informed.signatories_informed p a (signs k p c a ok inside (from_on c a (and_parts _ _ t).0) g)))
  guarded_shown k p c q None is ok at g =
      sym (filter_none (authentic_on r c) (whole_acts k) (λ a i t.
      let s = signs k p c a ok i (from_on c a (and_parts _ _ t).0) g in
      let in_s : In a (acts ((sound k q ok at).transaction).roots) = rw (whole_is k q ok at) at i in
      let shown = guard_shown reading params log lawful genuine distinct k q p a ok at in_s s in
      none-some shown.0 (sym is ∙ shown.1)))

  guarded_place : (k p : ℕ) (c : Hash) (o : Option Request) → request_at log k ≡ o → IsApproved k → confirms_signatory_of p c ≡ true → filter (authentic_on r c) (acts (opened_to reading p o)) ≡ filter (authentic_on r c) (acts_of (commit_of k (read_by reading.whole o)))
  guarded_place k p c None e ok g = refl
  guarded_place k p c (Some q) e ok g =
      guarded_shown k p c q (shown_to reading p q) refl ok e g
      ∙ ap (λ (o : Option Request). filter (authentic_on r c) (acts_of (commit_of k (read_by reading.whole o)))) e

  pub opened_of_log : Opened r (length log)
  opened_of_log =
      record {
        part = λ p k a lt ok h.
            let there = in_from_Contains (acts (opened_to reading p (request_at log k))) a h in
            let place = in_at (acts (opened_to reading p (request_at log k))) a there in
            let q = opened_request reading p (request_at log k) place.0 a place.1 in
            let s = some_shown (shown_to reading p q.0) place.0 a q.2 in
            contains_from_In (whole_acts k) a (shown_in_whole k p q.0 s.0 a ok q.1 s.1 (at_in (acts (s.0).roots) place.0 a s.2));
        confirmed = λ p k c lt ok g. guarded_place k p c (request_at log k) refl ok g;
        confirmer = λ k a lt ok h.
            let there = in_from_Contains (whole_acts k) a h in
            let g = guarded_action k a ok there in
            (g.participant, in_any (λ (x : Act). is_on (id_of a.action) x && list_any (reading.confirms g.participant) ((reading.language).signatories (instance_of x.action))) (ledger_acts (ledger reading log)) a (in_ledger k a lt ok there) (and_from _ _ (on_from (id_of a.action) a refl) g.signs));
      }

  pub hosted : (p : ParticipantId) (a : Act) → confirms_signatory reading p a ≡ true → has_hosted_stakeholder reading p a ≡ true
  hosted p a h =
      list_any-append (reading.hosts p) ((reading.language).signatories (instance_of a.action)) ((reading.language).observers (instance_of a.action))
      ∙ or_left _ _ (informed.confirms_hosted p ((reading.language).signatories (instance_of a.action)) h)

  passes : (p k i : ℕ) (q : Request) (a : Act) → IsApproved k → request_at log k ≡ Some q → slice_get (acts (roots_in (shown_to reading p q))) i ≡ Some a → confirms_signatory_of p (id_of a.action) ≡ true → Passes r p k (take i (acts (opened_to reading p (request_at log k)))) a
  passes p k i q a ok at there g =
      let w = some_shown (shown_to reading p q) i a there in
      let inside = shown_in_whole k p q w.0 a ok at w.1 (at_in (acts (w.0).roots) i a w.2) in
      let s = signs k p (id_of a.action) a ok inside refl g in
      let h = hosted p a s in
      let f = (seen k i q p w.0 a ok at w.1 w.2 s).fails in
      let past = same_counted reading params log p genuine.timely k confirms_signatory_of in
      let pending = same_pending reading params log p genuine.timely k confirms_signatory_of in
      let same_opened = opened_here k q p w.0 at w.1 in
      record {
        not_locked = rw (← pending) (second _ _ h (f _ (inr (inr (inr (inl refl))))));
        not_inactive = rw (← past, same_opened) (second _ _ h (f _ (inr (inr (inr (inr (inl refl)))))));
        fresh = rw (← past) (second _ _ h (f _ (inr (inr (inr (inr (inr (inl refl))))))));
        ordered = rw same_opened (second _ _ h (f _ (inr (inr (inr (inr (inr (inr (inl refl)))))))));
      }

  pub checked_of_log : Checked r (length log)
  checked_of_log =
      record {
        authentic = λ k a lt ok h. authentic k a ok (in_from_Contains (whole_acts k) a h);
        one_instance = λ k m a b lt lt' ok ok' ha hb same. one_instance k m a b ok ok' (in_from_Contains (whole_acts k) a ha) (in_from_Contains (whole_acts m) b hb) same;
        passed = λ p k i a lt ok e g.
            let q = opened_request reading p (request_at log k) i a e in
            passes p k i q.0 a ok q.1 q.2 g;
      }

  pub consistent_of_log : Consistent (ledger_acts (ledger reading log))
  consistent_of_log = one_ledger r (length log) opened_of_log (final_of_log params log genuine.timely reading confirms_signatory_of) checked_of_log
