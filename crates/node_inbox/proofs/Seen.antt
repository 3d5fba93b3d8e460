-- What is kept of requests, and what the items say of them.
use Rattle.std.proofs.Common.{◌≡◌, ℕ, zero, suc, ◌+◌, ◌-◌, ◌<◌, ◌≤◌, Bool, true, false, List, [], ◌∷◌, length, filter, take, Option, Some, None, is_some, refl, sym, ap, ◌∙◌, subst, arith}
use Rattle.std.specs.Borrow.{Bor}
use Rattle.std.specs.Prelude.{IfSome, slice_get, option_copied, option_map, if◌then◌else◌, ◌&&◌, ◌||◌}
use Rattle.std.proofs.lemmas.List.{take_all}
use Rattle.std.proofs.lemmas.Option.{none-some, same_Some}
use Rattle.ledger_terms.specs.declared.topology.Topology.{Topology}
use Rattle.ledger_model.specs.Forest.{acts}
use Rattle.ledger_model.specs.Opening.{roots_in}
use Rattle.ledger_model.specs.Terms.{ParticipantId}
use Rattle.canton_model.specs.Log.{Params}
use Rattle.canton_model.specs.declared.decision.Decision.{Decision}
use Rattle.canton_model.specs.declared.decision.Decision.TheVariants.{Approved, Rejected, TimedOut}
use Rattle.canton_model.specs.declared.verdict.Verdict.{Verdict}
use Rattle.canton_model.specs.Timeline.{Decided, is_approval, kind_of, outcome_from, outcome_of, verdict_on, is_past}
use Rattle.canton_model.specs.Inbox as model
use Rattle.canton_model.specs.Inbox.{Content, Item, clean, clean_time, decision_time_in, is_decided_in, is_received, item_time, last_time, moments, Notice, notice_at, notice_by, notice_in, opened_at, shown_in_notice}
use Rattle.lang_eval.specs.Found.{Packages}
use Rattle.pruned_inbox.specs.Received.{is_received_in}
use Rattle.pruned_inbox.specs.Start.{Start}
use Rattle.interpret.specs.Ids.{is_authentic}
use Rattle.request_track.specs.Pairs.{Pair, clean_of, outcome_at}
use Rattle.request_track.proofs.CleanSame.{clean_same}
use Rattle.canton_model.proofs.InboxFacts.{clean_is_clean}
use Rattle.framed_form.specs.FramedReading.{framed_reading}
use Rattle.inbox_registry.specs.ChangeLists.{changes_of}
use Rattle.inbox_registry.specs.Changes.{authentic_at}
use Rattle.inbox_registry.specs.Requests.{outcome_received, pairs_in}
use Rattle.inbox_registry.specs.Registry.{Registered}
use Rattle.inbox_registry.proofs.Tracked.{as_many_moments, outcome_is, tracks}
use Rattle.node_inbox.specs.Approved.{KeepChanges, roots_kept}
use Rattle.node_inbox.specs.Coming.{IsTelling, is_told}
use Rattle.node_inbox.specs.Decided.{is_closed, is_without_verdict}
use Rattle.node_inbox.specs.Items.{model_content, model_item, model_items, notice_of}
use Rattle.node_inbox.specs.Kept.{AreKept, IsInbox, IsKept, kept_at, request_in, request_in_item}
use Rattle.node_inbox.specs.Offers.{opened_changes}
use Rattle.node_inbox.specs.declared.kept_item.KeptContent.{KeptContent}
use Rattle.node_inbox.specs.declared.kept_item.KeptContent.TheVariants as kept
use Rattle.node_inbox.specs.declared.kept_item.KeptItem.{KeptItem}
use Rattle.node_inbox.specs.declared.kept_item.KeptRequest.{KeptRequest}
use Rattle.node_inbox.specs.declared.telling.ComingVerdict.{ComingVerdict}

-- ---- items by their places

pub model_get : (items : List KeptItem) (k : ℕ) → slice_get (model_items items) k ≡ option_map model_item (slice_get items k)
model_get [] k = refl
model_get (x ∷ xs) zero = refl
model_get (x ∷ xs) (suc k) = model_get xs k

item_of : (content : KeptContent) (r : KeptRequest) → request_in content ≡ Some r → content ≡ kept.Received r
item_of (kept.Received x) r e = ap kept.Received (same_Some x r e)
item_of (kept.Told v) r e = absurd (none-some r e)
item_of kept.Nothing r e = absurd (none-some r e)

-- what is learnt of what is kept
pub kept_notice : (items : List KeptItem) (k : ℕ) → notice_at (model_items items) k ≡ option_map notice_of (kept_at items k)
kept_notice items k = ap notice_in (model_get items k) ∙ by (slice_get items k)
  where
    of_content : (content : KeptContent) → notice_by (model_content content) ≡ option_map notice_of (request_in content)
    of_content (kept.Received x) = refl
    of_content (kept.Told v) = refl
    of_content kept.Nothing = refl

    by : (o : Option KeptItem) → notice_in (option_map model_item o) ≡ option_map notice_of (request_in_item o)
    by None = refl
    by (Some item) = of_content item.content

-- nothing is learnt where nothing was received
pub none_learnt : (o : Option Item) → is_received_in o ≡ false → notice_in o ≡ None
none_learnt None e = refl
none_learnt (Some item) e = of_content item.content e
  where
    of_content : (content : Content) → is_received content ≡ false → notice_by content ≡ None
    of_content (model.Received notice) e = absurd (cc)
    of_content (model.Told v) e = refl
    of_content model.Nothing e = refl

-- what is opened of it
pub opened_is : (items : List KeptItem) (k : ℕ) → roots_kept (kept_at items k) ≡ opened_at (model_items items) k
opened_is items k = by (kept_at items k) ∙ ap (λ (o : Option Notice). roots_in (shown_in_notice o)) (sym (kept_notice items k))
  where
    by : (o : Option KeptRequest) → roots_kept o ≡ roots_in (shown_in_notice (option_map notice_of o))
    by None = refl
    by (Some r) = refl

pub with_changes : (items : List KeptItem) (k : ℕ) (o : Option (Bor KeptRequest)) → KeepChanges items → option_copied o ≡ kept_at items k
    → IfSome o (λ (r : Bor KeptRequest). (r.now.changes).items ≡ opened_changes r.now.offer)
with_changes items k None keep at = tt
with_changes items k (Some r) keep at = keep k r.now (sym at)

module _ (topology : Topology) (packages : Packages) (me : ParticipantId) (start : Start) (items : List KeptItem) (each : AreKept topology packages me start items) where
  -- a request that is kept
  pub found_at : (k : ℕ) (r : KeptRequest) → kept_at items k ≡ Some r → IsKept topology packages me start (take (suc k) (model_items items)) k r
  found_at k r e = by (slice_get items k) refl e
    where
      by : (o : Option KeptItem) → slice_get items k ≡ o → request_in_item o ≡ Some r → IsKept topology packages me start (take (suc k) (model_items items)) k r
      by None at e = absurd (none-some r e)
      by (Some item) at e = of_content item.content (each k item at) e
        where
          of_content : (content : KeptContent)
              → (elim content as (λ x. Type 0) [
                | kept.Received x ↦ IsKept topology packages me start (take (suc k) (model_items items)) k x
                | kept.Told v ↦ is_some (notice_at (take k (take (suc k) (model_items items))) v.request) ≡ true
                | kept.Nothing ↦ Unit {0}
              ])
              → request_in content ≡ Some r → IsKept topology packages me start (take (suc k) (model_items items)) k r
          of_content (kept.Received x) i e = subst (IsKept topology packages me start (take (suc k) (model_items items)) k) (same_Some x r e) i
          of_content (kept.Told v) i e = absurd (none-some r e)
          of_content kept.Nothing i e = absurd (none-some r e)

  -- what is learnt of it
  pub noticed : (k : ℕ) (r : KeptRequest) → kept_at items k ≡ Some r → notice_at (model_items items) k ≡ Some (notice_of r)
  noticed k r e = kept_notice items k ∙ ap (λ (o : Option KeptRequest). option_map notice_of o) e

  pub none_noticed : (k : ℕ) → kept_at items k ≡ None → notice_at (model_items items) k ≡ None
  none_noticed k e = kept_notice items k ∙ ap (λ (o : Option KeptRequest). option_map notice_of o) e

  -- what it changes
  pub keep_changes : KeepChanges items
  keep_changes k r e = (found_at k r e).changes

-- ---- outcomes

told_kind : (o : Option Decision) (b : Bool) → is_told (Some (kind_of (outcome_from o b))) ≡ is_some o
told_kind None true = refl
told_kind None false = refl
told_kind (Some Approved) b = refl
told_kind (Some (Rejected from view reason)) b = refl
told_kind (Some (TimedOut missing)) b = refl

closed_kind : (o : Option Decision) (b : Bool) → is_closed (Some (kind_of (outcome_from o b))) ≡ (is_some o || b)
closed_kind None true = refl
closed_kind None false = refl
closed_kind (Some Approved) b = refl
closed_kind (Some (Rejected from view reason)) b = refl
closed_kind (Some (TimedOut missing)) b = refl

-- whether a verdict was told of a request that was received
pub told_before : (params : Params) (items : List Item) (m : ℕ) (notice : Notice) → notice_at items m ≡ Some notice
    → is_told (outcome_received params items m) ≡ is_some (verdict_on m (moments items))
told_before params items m notice e =
    ap (λ (o : Option Notice). is_told (option_map (λ (n : Notice). kind_of (outcome_of (moments items) m (decision_time_in params items m))) o)) e
    ∙ told_kind (verdict_on m (moments items)) (is_past (decision_time_in params items m) (moments items))

-- whether it is decided
pub closed_is : (params : Params) (items : List Item) (m : ℕ)
    → is_closed (outcome_received params items m) ≡ (is_some (notice_at items m) && is_decided_in params items m (length items))
closed_is params items m = by (notice_at items m)
  where
    over : is_decided_in params items m (length items) ≡ (is_some (verdict_on m (moments items)) || is_past (decision_time_in params items m) (moments items))
    over =
        rw (
          take_all (length items) (moments items) (omega (arith, as_many_moments items)),
          take_all (length items + 1) (moments items) (omega (arith, as_many_moments items)),
        ) refl

    by : (o : Option Notice)
        → is_closed (option_map (λ (n : Notice). kind_of (outcome_of (moments items) m (decision_time_in params items m))) o)
        ≡ (is_some o && is_decided_in params items m (length items))
    by None = refl
    by (Some notice) = closed_kind (verdict_on m (moments items)) (is_past (decision_time_in params items m) (moments items)) ∙ sym over

-- no verdict was told of it
pub none_told : (params : Params) (items : List Item) (m : ℕ) → is_without_verdict (outcome_received params items m) ≡ true → verdict_on m (moments items) ≡ None
none_told params items m e = by (notice_at items m) (verdict_on m (moments items)) e
  where
    past : Bool
    past = is_past (decision_time_in params items m) (moments items)

    by : (o : Option Notice) (d : Option Decision) → is_without_verdict (option_map (λ (n : Notice). kind_of (outcome_from d past)) o) ≡ true → d ≡ None
    by None d e = absurd (cc)
    by (Some notice) None e = refl
    by (Some notice) (Some Approved) e = absurd (cc)
    by (Some notice) (Some (Rejected from view reason)) e = absurd (cc)
    by (Some notice) (Some (TimedOut missing)) e = absurd (cc)

-- ---- questions

module _ (topology : Topology) (packages : Packages) (me : ParticipantId) (items : List KeptItem) (stands : Registered) (i : IsInbox topology packages me items stands) where
  pub outcome_at_is : (m : ℕ) → outcome_at (stands.tracking).pairs m ≡ outcome_received topology.params (model_items items) m
  outcome_at_is m = ap (λ (ps : List Pair). outcome_at ps m) i.follows.pairs ∙ outcome_is topology.params (model_items items) m

  pub clean_is : clean_of (stands.tracking).pairs (stands.tracking).cursor ≡ clean topology.params (model_items items)
  clean_is =
      ap (λ (ps : List Pair). clean_of ps (stands.tracking).cursor) i.follows.pairs
      ∙ ap (clean_of (pairs_in topology.params (model_items items))) i.follows.cursor
      ∙ clean_same topology.params (model_items items) (pairs_in topology.params (model_items items)) (tracks topology.params (model_items items))

  -- what a verdict on a request that is kept brings
  changes_at : (k : ℕ) (r : KeptRequest) → kept_at items k ≡ Some r
      → r.changes.items ≡ changes_of (authentic_at (framed_reading topology packages) (model_items items) k)
  changes_at k r e =
      (found_at topology packages me stands.start items i.each k r e).changes
      ∙ ap (λ (o : Option Notice). changes_of (filter is_authentic (acts (roots_in (shown_in_notice o))))) (sym (noticed topology packages me stands.start items i.each k r e))

  pub tells_first : (v : Verdict) (r : KeptRequest) (coming : ComingVerdict) → kept_at items v.request ≡ Some r
      → is_told (outcome_at (stands.tracking).pairs v.request) ≡ false
      → coming.verdict ≡ v → coming.first ≡ Some (kind_of (Decided v.decision))
      → coming.changes.items ≡ (if is_approval (Some v.decision) then r.changes.items else [])
      → IsTelling (framed_reading topology packages) (model_items items) v coming
  tells_first v r coming e told is first changes =
      let notice = noticed topology packages me stands.start items i.each v.request r e in
      let none : is_some (verdict_on v.request (moments (model_items items))) ≡ false =
      sym (told_before topology.params (model_items items) v.request (notice_of r) notice) ∙ ap is_told (sym (outcome_at_is v.request)) ∙ told in
      record {
        received = ap is_some notice;
        verdict_is = is;
        first_is = rw none first;
        changes_are = rw none (changes ∙ by (is_approval (Some v.decision)));
      }
    where
      by : (b : Bool) → (if b then r.changes.items else [])
          ≡ changes_of (if b then authentic_at (framed_reading topology packages) (model_items items) v.request else [])
      by true = changes_at v.request r e
      by false = refl

  pub tells_later : (v : Verdict) (r : KeptRequest) (coming : ComingVerdict) → kept_at items v.request ≡ Some r
      → is_told (outcome_at (stands.tracking).pairs v.request) ≡ true
      → coming.verdict ≡ v → coming.first ≡ None → coming.changes.items ≡ []
      → IsTelling (framed_reading topology packages) (model_items items) v coming
  tells_later v r coming e told is first changes =
      let notice = noticed topology packages me stands.start items i.each v.request r e in
      let some : is_some (verdict_on v.request (moments (model_items items))) ≡ true =
      sym (told_before topology.params (model_items items) v.request (notice_of r) notice) ∙ ap is_told (sym (outcome_at_is v.request)) ∙ told in
      record {
        received = ap is_some notice;
        verdict_is = is;
        first_is = rw some first;
        changes_are = rw some changes;
      }

-- ---- the time before the clean place

time_before : (items : List Item) (n : ℕ) → n < length items → last_time (take (suc n) items) ≡ item_time (slice_get items n)
time_before [] n lt = absurd (omega arith)
time_before (x ∷ []) zero lt = refl
time_before (x ∷ y ∷ rest) zero lt = refl
time_before (x ∷ []) (suc n) lt = absurd (omega (arith, lt))
time_before (x ∷ y ∷ rest) (suc n) lt = time_before (y ∷ rest) n (omega (arith, lt))

pub time_at_clean : (items : List Item) (n : ℕ) → 0 < n → n ≤ length items → last_time (take n items) ≡ item_time (slice_get items (n - 1))
time_at_clean items zero pos le = absurd (omega arith)
time_at_clean items (suc n) pos le = let w : suc n - 1 ≡ n = omega arith in rw w (time_before items n (omega (arith, le)))

pub clean_time_is : (params : Params) (items : List Item) (n t : ℕ) → n ≡ clean params items → 0 < n → t ≡ item_time (slice_get items (n - 1)) → t ≡ clean_time params items
clean_time_is params items n t is pos e =
    let le : n ≤ length items = (let w = (clean_is_clean params items).within in omega (arith, w, is)) in
    e ∙ sym (time_at_clean items n pos le) ∙ ap (λ (k : ℕ). last_time (take k items)) is
