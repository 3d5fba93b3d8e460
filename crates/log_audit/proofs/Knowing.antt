-- Inboxes over a log, and what they tell of it.
use Rattle.std.proofs.Common.{◌≡◌, ℕ, zero, suc, ◌+◌, ◌<◌, ◌≤◌, ◌^◌, Bool, true, false, List, [], ◌∷◌, ◌++◌, take, map, length, Option, Some, None, slice_set, refl, sym, ap, ◌∙◌, subst, inl, inr, arith}
use Rattle.std.specs.Prelude.{slice_get, slice_index_or}
use Rattle.std.proofs.lemmas.Bool.{cases_lt}
use Rattle.std.proofs.lemmas.List.{length-append}
use Rattle.std.proofs.lemmas.Option.{same_Some}
use Rattle.ledger_terms.specs.declared.topology.Topology.{Topology}
use Rattle.lang_eval.specs.Found.{Packages}
use Rattle.ledger_model.specs.Terms.{Hash, ParticipantId, Path}
use Rattle.ledger_model.specs.declared.status.Status.{Status}
use Rattle.canton_model.specs.Log.{Params, FollowsTime, time_at_end}
use Rattle.canton_model.specs.Reading.{Reading, is_some_path}
use Rattle.canton_model.specs.Genuine.{Genuine, FitsIfRequest, EntryFits}
use Rattle.canton_model.specs.Inbox.{Item, Notice, inbox, is_locked_in_inbox, item_time, items_after, last_time, notice_at, notice_in}
use Rattle.canton_model.specs.Checks.{verdicts_owed}
use Rattle.canton_model.proofs.InboxFacts.{slice_get_take}
use Rattle.world_model.specs.Messages.{Entry, Message, RequestMessage, ResponseMessage, VerdictMessage, Tick, Request, ViewVerdict}
use Rattle.world_model.specs.Machine.{confirms_some_view}
use Rattle.world_model.specs.Node.{owes_at}
use Rattle.world_model.proofs.NodeFacts.{inbox_length, owed_is}
use Rattle.framed_form.specs.FramedReading.{framed_reading}
use Rattle.node_inbox.specs.Entries.{item_from}
use Rattle.pruned_inbox.specs.Start.{Start, no_start, status_kept, verdict_in_offer, verdicts_by}
use Rattle.pruned_inbox.proofs.Pruned.{owed_at_first}
use Rattle.node_inbox.specs.InboxState.{InboxState, owed_kept, params_of, reading_of, with_item}
use Rattle.node_inbox.proofs.Grows.{inbox_reads}
use Rattle.audit_model.proofs.Judging.{fits_there}
use Rattle.audit_model.proofs.Deciding.{true_false}
use Rattle.log_audit.specs.Inboxes.{HaveRead, MayRead, inbox_of}

-- the last item's time is the last entry's
last_of : (reading : Reading) (p : ParticipantId) (before log : List Entry) → last_time (items_after reading p before log) ≡ time_at_end log
last_of reading p before [] = refl
last_of reading p before (x ∷ []) = refl
last_of reading p before (x ∷ y ∷ log) = last_of reading p (before ++ x ∷ []) (y ∷ log)

later : (message : Message) (before time : ℕ) → FollowsTime message before time → before < time
later Tick before time h = h
later (RequestMessage q) before time h = omega (arith, h)
later (ResponseMessage r) before time h = omega (arith, h)
later (VerdictMessage v) before time h = omega (arith, h)

module _ (reading : Reading) (params : Params) (log : List Entry) (entry : Entry) (genuine : Genuine reading params (log ++ entry ∷ [])) where
  fits : EntryFits reading params log entry
  fits = fits_there reading params log entry [] genuine

  pub rises : (p : ParticipantId) → last_time (inbox reading p log) < entry.time
  rises p = let last = last_of reading p [] log in let next = later entry.message (time_at_end log) entry.time fits.time in omega (arith, last, next)

  pub framed_here : (q : Request) → entry.message ≡ RequestMessage q → reading.is_framed q ≡ true
  framed_here q is = let f : FitsIfRequest reading log (length log) (RequestMessage q) = subst (FitsIfRequest reading log (length log)) is fits.request in f.is_framed

  pub few_items : (p : ParticipantId) → length log < 2 ^ 63 → length (inbox reading p log) < 2 ^ 63
  few_items p few = let long = inbox_length reading p [] log in omega (arith, long, few)

-- ---- lists

got : {X : Type 0} (xs : List X) (i : ℕ) (x : X) → i < length xs → x ≡ slice_index_or xs i x → slice_get xs i ≡ Some x
got [] i x lt is = absurd (omega (arith, lt))
got (y ∷ xs) zero x lt is = ap Some (sym is)
got (y ∷ xs) (suc i) x lt is = got xs i x (omega (arith, lt)) is

get_set_same : {X : Type 0} (xs : List X) (i : ℕ) (x : X) → i < length xs → slice_get (slice_set xs i x) i ≡ Some x
get_set_same [] i x lt = absurd (omega (arith, lt))
get_set_same (y ∷ xs) zero x lt = refl
get_set_same (y ∷ xs) (suc i) x lt = get_set_same xs i x (omega (arith, lt))

get_set_other : {X : Type 0} (xs : List X) (i k : ℕ) (x : X) → ¬ (k ≡ i) → slice_get (slice_set xs i x) k ≡ slice_get xs k
get_set_other [] i k x other = refl
get_set_other (y ∷ xs) zero zero x other = absurd (other refl)
get_set_other (y ∷ xs) zero (suc k) x other = refl
get_set_other (y ∷ xs) (suc i) zero x other = refl
get_set_other (y ∷ xs) (suc i) (suc k) x other = get_set_other xs i k x (λ e. other (ap suc e))

length_set : {X : Type 0} (xs : List X) (i : ℕ) (x : X) → length (slice_set xs i x) ≡ length xs
length_set [] i x = refl
length_set (y ∷ xs) zero x = refl
length_set (y ∷ xs) (suc i) x = ap suc (length_set xs i x)

-- ---- what is owed

no_path : (paths : List Path) → is_some_path paths ≡ false → paths ≡ []
no_path [] h = refl
no_path (path ∷ paths) h = absurd (true_false refl h)

none_by : (reading : Reading) (params : Params) (p : ParticipantId) (time : ℕ) (status : Hash → Status) (locked : Hash → Bool) (o : Option Notice)
    → confirms_some_view o ≡ false → verdicts_by reading params p time status locked o ≡ []
none_by reading params p time status locked None h = refl
none_by reading params p time status locked (Some notice) h =
    ap (map (λ (path : Path). record { view = path; verdict = verdict_in_offer reading params p notice.sender time status locked path notice.offer }))
    (no_path notice.confirmed h)

-- who owes nothing there owes the empty list
pub nothing_at : (reading : Reading) (params : Params) (p : ParticipantId) (start : Start) (items : List Item) (k : ℕ) → owes_at reading p items k ≡ false
    → [] ≡ owed_kept reading params p start items k
nothing_at reading params p start items k h =
    let front = take (suc k) items in
    let there : slice_get front k ≡ slice_get items k = slice_get_take (suc k) items k (omega arith) in
    sym (none_by reading params p (item_time (slice_get front k)) (status_kept reading start front k) (is_locked_in_inbox reading params front k)
    (notice_at front k) (ap (λ (o : Option Item). confirms_some_view (notice_in o)) there ∙ h))

pub owed_here : (topology : Topology) (packages : Packages) (log : List Entry) (inboxes : List InboxState) → HaveRead topology packages inboxes log
    → (p place : ℕ) (i : InboxState) → p < length inboxes → i ≡ slice_index_or inboxes p i → (verdicts : List ViewVerdict)
    → verdicts ≡ owed_kept (reading_of i) (params_of i) i.me i.start i.items place
    → verdicts ≡ verdicts_owed (framed_reading topology packages) topology.params p (inbox (framed_reading topology packages) p (take (suc place) log)) place
owed_here topology packages log inboxes knows p place i lt is verdicts e =
    let same : i ≡ inbox_of topology packages log p = same_Some i (inbox_of topology packages log p) (sym (got inboxes p i lt is) ∙ knows.each p lt) in
    let reading = framed_reading topology packages in
    e
    ∙ (ap (λ (x : InboxState). owed_kept (reading_of x) (params_of x) x.me x.start x.items place) same
    ∙ (owed_at_first reading topology.params p (take (suc place) (inbox reading p log)) place
    ∙ owed_is reading topology.params p log place))

-- ---- one entry more, for one participant after another

pub record Reads (first : List InboxState) (entry : Entry) (at : ℕ) (now : List InboxState) : Type 0 where
  pub hosts : length now ≡ length first
  pub done : (topology : Topology) (packages : Packages) (log : List Entry) → HaveRead topology packages first log → (k : ℕ) → k < at → k < length now
      → slice_get now k ≡ Some (inbox_of topology packages (log ++ entry ∷ []) k)
  pub rest : (k : ℕ) → at ≤ k → slice_get now k ≡ slice_get first k

pub reads_none : (first : List InboxState) (entry : Entry) → Reads first entry 0 first
reads_none first entry = record { hosts = refl; done = λ t p log knows k lt. absurd (omega (arith, lt)); rest = λ k le. refl }

module _ (first : List InboxState) (entry : Entry) (at : ℕ) (now : List InboxState) (r : Reads first entry at now) (old : InboxState)
    (within : at < length now) (is : old ≡ slice_index_or now at old) where
  was : (topology : Topology) (packages : Packages) (log : List Entry) → HaveRead topology packages first log → old ≡ inbox_of topology packages log at
  was topology packages log knows =
      let hosts = r.hosts in
      same_Some old (inbox_of topology packages log at)
      (sym (got now at old within is) ∙ (r.rest at (omega arith) ∙ knows.each at (omega (arith, within, hosts))))

  pub may_read : MayRead first entry
      → (length old.items < 2 ^ 63) × (last_time old.items < entry.time)
      × ((q : Request) → entry.message ≡ RequestMessage q → (reading_of old).is_framed q ≡ true)
  may_read may =
      let reading = framed_reading may.topology may.packages in
      let params = (may.topology).params in
      let same = was may.topology may.packages may.log may.knows in
      subst (λ (i : InboxState). (length i.items < 2 ^ 63) × (last_time i.items < entry.time)
      × ((q : Request) → entry.message ≡ RequestMessage q → (reading_of i).is_framed q ≡ true)) (sym same)
      (few_items reading params may.log entry may.genuine at may.few, rises reading params may.log entry may.genuine at, framed_here reading params may.log entry may.genuine)

  pub reads_one : (new : InboxState) → new ≡ with_item old (item_from (reading_of old) old.me old.items entry)
      → Reads first entry (at + 1) (slice_set now at new)
  reads_one new e =
      record {
        hosts = length_set now at new ∙ r.hosts;
        done = λ topology packages log knows k lt inside.
            elim (cases_lt k at) [
              | inl below ↦
                  let long = length_set now at new in
                  get_set_other now at k new (λ same. omega (arith, same, below)) ∙ r.done topology packages log knows k below (omega (arith, inside, long))
              | inr above ↦
                  let here : at ≡ k = omega (arith, lt, above) in
                  let same = was topology packages log knows in
                  let value : new ≡ inbox_of topology packages (log ++ entry ∷ []) at =
                  e
                  ∙ (ap (λ (i : InboxState). with_item i (item_from (reading_of i) i.me i.items entry)) same
                  ∙ ap (λ (items : List Item).
                  record { topology = topology; packages = packages; me = at; base = 0; base_time = 0; start = no_start; items = items })
                  (inbox_reads (framed_reading topology packages) at (inbox (framed_reading topology packages) at log) log entry refl)) in
                  subst (λ (i : ℕ). slice_get (slice_set now at new) i ≡ Some (inbox_of topology packages (log ++ entry ∷ []) i)) here
                  (get_set_same now at new within ∙ ap Some value)
            ];
        rest = λ k le. get_set_other now at k new (λ same. omega (arith, same, le)) ∙ r.rest k (omega (arith, le));
      }

pub reads_all : (first : List InboxState) (entry : Entry) (at : ℕ) (now : List InboxState) → Reads first entry at now → length now ≤ at
    → (topology : Topology) (packages : Packages) (log : List Entry) → HaveRead topology packages first log → HaveRead topology packages now (log ++ entry ∷ [])
reads_all first entry at now r le topology packages log knows =
    record { hosts = r.hosts ∙ knows.hosts; each = λ p lt. r.done topology packages log knows p (omega (arith, lt, le)) lt }

-- ---- at the start

pub record Begun (topology : Topology) (packages : Packages) (at : ℕ) (inboxes : List InboxState) : Type 0 where
  pub counted : length inboxes ≡ at
  pub each : (p : ℕ) → p < length inboxes → slice_get inboxes p ≡ Some (inbox_of topology packages [] p)

pub begun_none : (topology : Topology) (packages : Packages) → Begun topology packages 0 []
begun_none topology packages = record { counted = refl; each = λ p lt. absurd (omega (arith, lt)) }

get_push : {X : Type 0} (xs : List X) (x : X) (k : ℕ) → k < length xs → slice_get (xs ++ x ∷ []) k ≡ slice_get xs k
get_push [] x k lt = absurd (omega (arith, lt))
get_push (y ∷ xs) x zero lt = refl
get_push (y ∷ xs) x (suc k) lt = get_push xs x k (omega (arith, lt))

get_last : {X : Type 0} (xs : List X) (x : X) → slice_get (xs ++ x ∷ []) (length xs) ≡ Some x
get_last [] x = refl
get_last (y ∷ xs) x = get_last xs x

pub begun_more : (topology : Topology) (packages : Packages) (at : ℕ) (inboxes : List InboxState) → Begun topology packages at inboxes
    → Begun topology packages (at + 1) (inboxes ++ inbox_of topology packages [] at ∷ [])
begun_more topology packages at inboxes b =
    let new = inbox_of topology packages [] at in
    let long = length-append inboxes (new ∷ []) in
    let one : length (new ∷ []) ≡ 1 = refl in
    let counted = b.counted in
    record {
      counted = omega (arith, long, one, counted);
      each = λ p lt. elim (cases_lt p (length inboxes)) [
        | inl below ↦ get_push inboxes new p below ∙ b.each p below
        | inr above ↦
            let here : length inboxes ≡ p = omega (arith, lt, long, one, above) in
            let value : Some new ≡ Some (inbox_of topology packages [] p) = ap (λ (i : ℕ). Some (inbox_of topology packages [] i)) (sym counted ∙ here) in
            subst (λ (i : ℕ). slice_get (inboxes ++ new ∷ []) i ≡ Some (inbox_of topology packages [] p)) here (get_last inboxes new ∙ value)
      ];
    }

pub begun_all : (topology : Topology) (packages : Packages) (at : ℕ) (inboxes : List InboxState) → Begun topology packages at inboxes
    → at ≡ length topology.hosts → HaveRead topology packages inboxes []
begun_all topology packages at inboxes b e = record { hosts = b.counted ∙ e; each = b.each }
