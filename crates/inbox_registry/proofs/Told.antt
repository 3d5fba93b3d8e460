-- What a store that follows an inbox says of contracts is what the inbox says.
use Rattle.std.proofs.Common.{◌≡◌, ℕ, zero, suc, ◌+◌, ◌<◌, Bool, true, false, List, [], ◌∷◌, ◌++◌, length, take, map, filter, Option, Some, None, is_some}
use Rattle.std.proofs.Common.{refl, sym, ap, subst, ◌∙◌, inl, inr, arith, append-nil, append_assoc}
use Rattle.std.specs.Prelude.{if◌then◌else◌, ◌&&◌, ◌||◌, not, slice_get}
use Rattle.std.specs.List.{list_any}
use Rattle.std.proofs.lemmas.Bool.{cases_eq, eq-eqb, ne_eqb}
use Rattle.std.proofs.lemmas.List.{map-append, take_all}
use Rattle.std.proofs.lemmas.List.Folds.{list_any-append}
use Rattle.ledger_terms.specs.declared.act.Act.{Act}
use Rattle.ledger_model.specs.Forest.{acts}
use Rattle.ledger_model.specs.Opening.{roots_in}
use Rattle.ledger_model.specs.Terms.{Hash, creates, consumes}
use Rattle.ledger_model.specs.Status.{is_locked_by}
use Rattle.ledger_model.specs.declared.status.Status.{Status}
use Rattle.ledger_terms.specs.declared.active_row.ActiveRow.{ActiveRow}
use Rattle.std.specs.Str.{bytes_eq}
use Rattle.pruned_inbox.specs.Received.{is_received_at, is_received_in}
use Rattle.pruned_inbox.specs.Start.{Start, has_row, is_gone, status_kept, status_since}
use Rattle.inbox_registry.specs.Registry.{known_status}
use Rattle.ledger_model.specs.declared.status.Status.TheVariants.{Unknown, Active, Consumed}
use Rattle.canton_model.specs.Evidence.{gather}
use Rattle.canton_model.specs.Log.{Params}
use Rattle.canton_model.specs.Reading.{Reading}
use Rattle.canton_model.specs.declared.decision.Decision.{Decision}
use Rattle.canton_model.specs.declared.verdict.Verdict.{Verdict}
use Rattle.canton_model.specs.Timeline.{Moment, decision_on, verdict_on, is_past, is_approval, is_approved_in}
use Rattle.canton_model.specs.Inbox.{Content, Item, Received, Told, Nothing, moments, is_received, is_decided_in, decision_time_in, past_in}
use Rattle.canton_model.specs.Inbox.{notice_by, shown_in_notice, shown_in, verdict_in, is_locked_in_inbox}
use Rattle.canton_model.proofs.InboxFacts.{gather_same}
use Rattle.contract_store.specs.Below.{at_place}
use Rattle.contract_store.specs.Stored.{is_held}
use Rattle.contract_store.specs.Written.{Placed, acts_of, holding, written}
use Rattle.contract_store.specs.declared.hold.Hold.{Hold}
use Rattle.contract_store.specs.declared.row.StoreRow.{StoreRow}
use Rattle.contract_store.proofs.Following.{status_follows, locked_follows}
use Rattle.request_track.specs.CleanLaw.{is_open_at, is_open_item}
use Rattle.request_track.specs.Pairs.{Pair}
use Rattle.inbox_registry.specs.Changes.{authentic_at, changes_of_verdict, changes_after, changes_in, changes_since, creation_of, placed_below, pending_changes}
use Rattle.inbox_registry.specs.Order.{IsBelow, IsInOrder, VerdictsBehind}
use Rattle.inbox_registry.specs.Requests.{pairs_in}
use Rattle.inbox_registry.proofs.Grown.{authentic_before, moments_push, one_longer}
use Rattle.inbox_registry.proofs.Order.{VerdictsBelow, behind_below, behind_more, no_verdict_yet}
use Rattle.inbox_registry.proofs.Outcomes.{verdict_same, verdict_new, verdict_first}
use Rattle.inbox_registry.proofs.PlacedBelow.{acts_below, acts_placed}
use Rattle.inbox_registry.proofs.Tracked.{as_many_moments, tracks}

pub take_front : {X : Type 0} (xs ys : List X) → take (length xs) (xs ++ ys) ≡ xs
take_front [] ys = refl
take_front (x ∷ xs) ys = ap (λ zs. x ∷ zs) (take_front xs ys)

or_last : (g f : Bool) → (g || f) ≡ (f || (g || false))
or_last true true = refl
or_last true false = refl
or_last false true = refl
or_last false false = refl

or_assoc : (a b c : Bool) → ((a || b) || c) ≡ (a || (b || c))
or_assoc true b c = refl
or_assoc false b c = refl

or_swap : (a b c : Bool) → ((a || b) || c) ≡ (b || (a || c))
or_swap true true c = refl
or_swap true false c = refl
or_swap false b c = refl

any_acts : (P : Act → Bool) (b : Bool) (xs : List Act) → list_any P (if b then xs else []) ≡ (b && list_any P xs)
any_acts P true xs = refl
any_acts P false xs = refl

-- one request more is kept
any_more : (P : Act → Bool) (keeps keeps' : ℕ → Bool) (f : ℕ → List Act) (j n : ℕ) → j < n → keeps j ≡ false → keeps' j ≡ true
    → ((m : ℕ) → (m ≡ j → ⊥) → keeps' m ≡ keeps m) → list_any P (gather keeps' f n) ≡ (list_any P (f j) || list_any P (gather keeps f n))
any_more P keeps keeps' f j zero lt off on others = absurd (omega arith)
any_more P keeps keeps' f j (suc k) lt off on others = elim (cases_eq j k) [
  | inl same ↦
      let before : gather keeps' f k ≡ gather keeps f k =
      gather_same keeps' keeps f f k (λ m l. ap (λ (b : Bool). if b then f m else []) (others m (λ e. omega (arith, e, same, l)))) in
      let here : keeps' k ≡ true = ap keeps' (sym same) ∙ on in
      let gone : keeps k ≡ false = ap keeps (sym same) ∙ off in
      list_any-append P (gather keeps' f k) (if keeps' k then f k else [])
      ∙ ap (λ (b : Bool). list_any P (gather keeps' f k) || list_any P (if b then f k else [])) here
      ∙ ap (λ (xs : List Act). list_any P xs || list_any P (f k)) before
      ∙ or_last (list_any P (gather keeps f k)) (list_any P (f k))
      ∙ ap (λ (m : ℕ). list_any P (f m) || (list_any P (gather keeps f k) || false)) (sym same)
      ∙ ap (λ (b : Bool). list_any P (f j) || (list_any P (gather keeps f k) || list_any P (if b then f k else []))) (sym gone)
      ∙ ap (λ (b : Bool). list_any P (f j) || b) (sym (list_any-append P (gather keeps f k) (if keeps k then f k else [])))
  | inr apart ↦
      let rest = any_more P keeps keeps' f j k (omega (arith, lt, apart)) off on others in
      list_any-append P (gather keeps' f k) (if keeps' k then f k else [])
      ∙ ap (λ (b : Bool). b || list_any P (if keeps' k then f k else [])) rest
      ∙ ap (λ (b : Bool). (list_any P (f j) || list_any P (gather keeps f k)) || list_any P (if b then f k else [])) (others k (λ e. apart (sym e)))
      ∙ or_assoc (list_any P (f j)) (list_any P (gather keeps f k)) (list_any P (if keeps k then f k else []))
      ∙ ap (λ (b : Bool). list_any P (f j) || b) (sym (list_any-append P (gather keeps f k) (if keeps k then f k else [])))
]

module _ (reading : Reading) (P : Act → Bool) where
  abbrev approved : List Item → ℕ → Bool
  approved items m = is_approved_in m (moments items)

  -- what the approved requests do
  abbrev pub approved_acts : List Item → List Act
  approved_acts items = gather (approved items) (authentic_at reading items) (length items)

  module _ (before : List Item) (x : Item) (below : VerdictsBelow (length before) before) (is_below : IsBelow (length before) (verdict_in x.content)) where
    abbrev mx : Moment
    mx = record { time = x.time; verdict = verdict_in x.content }

    no_decision : (o : Option Verdict) → IsBelow (length before) o → decision_on (length before) o ≡ None
    no_decision None b = refl
    no_decision (Some v) b = let lt : v.request < length before = b in rw (ne_eqb v.request (length before) (λ e. omega (arith, e, lt))) refl

    not_itself : approved (before ++ x ∷ []) (length before) ≡ false
    not_itself =
        ap (λ (ms : List Moment). is_approved_in (length before) ms) (moments_push before x)
        ∙ ap is_approval (verdict_same (length before) (moments before) mx (no_decision (verdict_in x.content) is_below)
        ∙ no_verdict_yet (length before) (length before) before below (omega arith))

    without_last : list_any P (approved_acts (before ++ x ∷ [])) ≡ list_any P (gather (approved (before ++ x ∷ [])) (authentic_at reading before) (length before))
    without_last =
        ap (λ (n : ℕ). list_any P (gather (approved (before ++ x ∷ [])) (authentic_at reading (before ++ x ∷ [])) n)) (one_longer before x)
        ∙ ap (λ (b : Bool). list_any P (gather (approved (before ++ x ∷ [])) (authentic_at reading (before ++ x ∷ [])) (length before)
        ++ (if b then authentic_at reading (before ++ x ∷ []) (length before) else []))) not_itself
        ∙ ap (list_any P) (append-nil (gather (approved (before ++ x ∷ [])) (authentic_at reading (before ++ x ∷ [])) (length before)))
        ∙ ap (list_any P) (gather_same (approved (before ++ x ∷ [])) (approved (before ++ x ∷ [])) (authentic_at reading (before ++ x ∷ []))
        (authentic_at reading before) (length before)
        (λ m lt. ap (λ (as' : List Act). if approved (before ++ x ∷ []) m then as' else []) (authentic_before reading before x m lt)))

    approved_push : (m : ℕ) → approved (before ++ x ∷ []) m ≡ is_approval (verdict_on m (moments before ++ mx ∷ []))
    approved_push m = ap (λ (ms : List Moment). is_approved_in m ms) (moments_push before x)

    where_same : ((m : ℕ) → is_approval (verdict_on m (moments before ++ mx ∷ [])) ≡ approved before m)
        → list_any P (approved_acts (before ++ x ∷ [])) ≡ list_any P (approved_acts before)
    where_same h =
        without_last
        ∙ ap (list_any P) (gather_same (approved (before ++ x ∷ [])) (approved before) (authentic_at reading before) (authentic_at reading before) (length before)
        (λ m lt. ap (λ (b : Bool). if b then authentic_at reading before m else []) (approved_push m ∙ h m)))

    other_verdict : (v : Verdict) → verdict_in x.content ≡ Some v → (m : ℕ) → (m ≡ v.request → ⊥)
        → is_approval (verdict_on m (moments before ++ mx ∷ [])) ≡ approved before m
    other_verdict v e m n =
        ap is_approval (verdict_same m (moments before) mx (ap (decision_on m) e ∙ rw (ne_eqb v.request m (λ w. n (sym w))) refl))

    this_verdict : (v : Verdict) → verdict_in x.content ≡ Some v → decision_on v.request (verdict_in x.content) ≡ Some v.decision
    this_verdict v e = ap (decision_on v.request) e ∙ rw (eq-eqb v.request v.request refl) refl

    told : (v : Verdict) → verdict_in x.content ≡ Some v → (w : Option Decision) → verdict_on v.request (moments before) ≡ w → (a : Bool)
        → is_approval (Some v.decision) ≡ a
        → list_any P (approved_acts (before ++ x ∷ [])) ≡ (list_any P (acts_of (if (not (is_some w) && a)
        then map (at_place v.request) (authentic_at reading before v.request) else [])) || list_any P (approved_acts before))
    told v e (Some d) first a is = where_same (λ m. elim (cases_eq m v.request) [
      | inl same ↦ rw same (ap is_approval (verdict_first v.request (moments before) mx d first))
      | inr other ↦ other_verdict v e m other
    ])
    told v e None first false is = where_same (λ m. elim (cases_eq m v.request) [
      | inl same ↦ rw same (ap is_approval (verdict_new v.request (moments before) mx v.decision first (this_verdict v e)) ∙ is ∙ sym (ap is_approval first))
      | inr other ↦ other_verdict v e m other
    ])
    told v e None first true is =
        let lt : v.request < length before = subst (IsBelow (length before)) e is_below in
        without_last
        ∙ any_more P (approved before) (approved (before ++ x ∷ [])) (authentic_at reading before) v.request (length before) lt (ap is_approval first)
        (approved_push v.request ∙ ap is_approval (verdict_new v.request (moments before) mx v.decision first (this_verdict v e)) ∙ is)
        (λ m n. approved_push m ∙ other_verdict v e m n)
        ∙ ap (λ (as' : List Act). list_any P as' || list_any P (approved_acts before)) (sym (acts_placed v.request (authentic_at reading before v.request)))

    any_push : list_any P (approved_acts (before ++ x ∷ []))
        ≡ (list_any P (acts_of (changes_of_verdict reading before (verdict_in x.content))) || list_any P (approved_acts before))
    any_push = by (verdict_in x.content) refl
      where
        by : (o : Option Verdict) → verdict_in x.content ≡ o
            → list_any P (approved_acts (before ++ x ∷ [])) ≡ (list_any P (acts_of (changes_of_verdict reading before o)) || list_any P (approved_acts before))
        by None e = where_same (λ m. ap is_approval (verdict_same m (moments before) mx (ap (decision_on m) e)))
        by (Some v) e = told v e (verdict_on v.request (moments before)) refl (is_approval (Some v.decision)) refl

  any_after : (before rest : List Item) → VerdictsBehind 0 before → VerdictsBehind (length before) rest
      → (list_any P (acts_of (changes_after reading before rest)) || list_any P (approved_acts before)) ≡ list_any P (approved_acts (before ++ rest))
  any_after before [] b r = ap (λ (xs : List Item). list_any P (approved_acts xs)) (sym (append-nil before))
  any_after before (x ∷ rest) b r =
      let n = one_longer before x in
      let zero_more : length before ≡ 0 + length before = omega arith in
      let later : VerdictsBehind (length (before ++ x ∷ [])) rest = rw n r.1 in
      let here = any_push before x (behind_below 0 (length before) before (omega arith) b) r.0 in
      let cv = acts_of (changes_of_verdict reading before (verdict_in x.content)) in
      let ca = acts_of (changes_after reading (before ++ x ∷ []) rest) in
      ap (λ (as' : List Act). list_any P as' || list_any P (approved_acts before))
      (map-append (λ (p : Placed). p.act) (changes_of_verdict reading before (verdict_in x.content)) (changes_after reading (before ++ x ∷ []) rest))
      ∙ ap (λ (t : Bool). t || list_any P (approved_acts before)) (list_any-append P cv ca)
      ∙ or_swap (list_any P cv) (list_any P ca) (list_any P (approved_acts before))
      ∙ ap (λ (t : Bool). list_any P ca || t) (sym here)
      ∙ any_after (before ++ x ∷ []) rest (behind_more 0 before x b (rw zero_more at r.0)) later
      ∙ ap (λ (xs : List Item). list_any P (approved_acts xs)) (append_assoc before (x ∷ []) rest)

  or_nothing : (b : Bool) → b ≡ (b || false)
  or_nothing true = refl
  or_nothing false = refl

  pub any_in : (items : List Item) → IsInOrder items → list_any P (acts_of (changes_in reading items)) ≡ list_any P (approved_acts items)
  any_in items o = or_nothing (list_any P (acts_of (changes_in reading items))) ∙ any_after [] items tt o.behind

-- ---- where nothing was received

pub nothing_there : (reading : Reading) (items : List Item) (m : ℕ) → is_received_at items m ≡ false → authentic_at reading items m ≡ []
nothing_there reading items m e = by (slice_get items m) e
  where
    by : (o : Option Item) → is_received_in o ≡ false → filter reading.is_authentic (acts (roots_in (shown_in o))) ≡ []
    by None e = refl
    by (Some item) e = of_content item.content e
      where
        of_content : (content : Content) → is_received content ≡ false → filter reading.is_authentic (acts (roots_in (shown_in_notice (notice_by content)))) ≡ []
        of_content (Received notice) e = absurd (cc)
        of_content (Told v) e = refl
        of_content Nothing e = refl

-- ---- what a start leaves, as Creates

no_change : (t : Bool) → false ≡ (t && false)
no_change true = refl
no_change false = refl

whole_change : (t : Bool) → (t && true) ≡ t
whole_change true = refl
whole_change false = refl

pub left_unused : (c : Hash) (rows : List ActiveRow) → list_any (consumes c) (acts_of (map creation_of rows)) ≡ false
left_unused c [] = refl
left_unused c (row ∷ rows) =
    ap (λ (t : Bool). t || list_any (consumes c) (acts_of (map creation_of rows))) (sym (no_change (bytes_eq row.known.id c))) ∙ left_unused c rows

left_made : (c : Hash) (rows : List ActiveRow) → list_any (creates c) (acts_of (map creation_of rows)) ≡ has_row rows c
left_made c [] = refl
left_made c (row ∷ rows) =
    ap (λ (t : Bool). t || list_any (creates c) (acts_of (map creation_of rows))) (whole_change (bytes_eq row.known.id c))
    ∙ ap (λ (t : Bool). bytes_eq row.known.id c || t) (left_made c rows)

abbrev since_start : Bool → Bool → Bool → Status
since_start gone used made = if gone || used then Consumed else if made then Active else Unknown

gone_first : (gone used made : Bool) → (if gone then Consumed else if used then Consumed else if made then Active else Unknown) ≡ since_start gone used made
gone_first true used made = refl
gone_first false used made = refl

-- what rows say of a contract into which these actions were written behind the Creates of a start
pub known_after : (start : Start) (ps : List Placed) (c : Hash) → known_status start (written (map creation_of start.active ++ ps) []) c ≡ status_since start (acts_of ps) c
known_after start ps c =
    let begun = map creation_of start.active in
    let all : acts_of (begun ++ ps) ≡ acts_of begun ++ acts_of ps = map-append (λ (p : Placed). p.act) begun ps in
    let used : list_any (consumes c) (acts_of (begun ++ ps)) ≡ list_any (consumes c) (acts_of ps) =
    ap (list_any (consumes c)) all
    ∙ list_any-append (consumes c) (acts_of begun) (acts_of ps)
    ∙ ap (λ (t : Bool). t || list_any (consumes c) (acts_of ps)) (left_unused c start.active) in
    let made : list_any (creates c) (acts_of (begun ++ ps)) ≡ (has_row start.active c || list_any (creates c) (acts_of ps)) =
    ap (list_any (creates c)) all
    ∙ list_any-append (creates c) (acts_of begun) (acts_of ps)
    ∙ ap (λ (t : Bool). t || list_any (creates c) (acts_of ps)) (left_made c start.active) in
    ap (λ (s : Status). if is_gone start c then Consumed else s) (status_follows (begun ++ ps) c)
    ∙ gone_first (is_gone start c) (list_any (consumes c) (acts_of (begun ++ ps))) (list_any (creates c) (acts_of (begun ++ ps)))
    ∙ ap (λ (t : Bool). since_start (is_gone start c) t (list_any (creates c) (acts_of (begun ++ ps)))) used
    ∙ ap (since_start (is_gone start c) (list_any (consumes c) (acts_of ps))) made

module _ (reading : Reading) (items : List Item) (x : Item) where
  front : take (length items) (moments (items ++ x ∷ [])) ≡ moments items
  front =
      ap (take (length items)) (moments_push items x)
      ∙ ap (λ (n : ℕ). take n (moments items ++ record { time = x.time; verdict = verdict_in x.content } ∷ [])) (sym (as_many_moments items))
      ∙ take_front (moments items) (record { time = x.time; verdict = verdict_in x.content } ∷ [])

  past_is : past_in reading (items ++ x ∷ []) (length items) ≡ gather (λ m. is_approved_in m (moments items)) (authentic_at reading items) (length items)
  past_is =
      gather_same (λ m. is_approved_in m (take (length items) (moments (items ++ x ∷ [])))) (λ m. is_approved_in m (moments items))
      (authentic_at reading (items ++ x ∷ [])) (authentic_at reading items) (length items) (λ m lt.
      ap (λ (ms : List Moment). if is_approved_in m ms then authentic_at reading (items ++ x ∷ []) m else []) front
      ∙ ap (λ (as' : List Act). if is_approved_in m (moments items) then as' else []) (authentic_before reading items x m lt))

  -- the status of a contract, where one item more stands behind these
  pub status_told : (start : Start) (rows : List StoreRow) (c : Hash) → IsInOrder items → rows ≡ written (changes_since reading start items) []
      → known_status start rows c ≡ status_kept reading start (items ++ x ∷ []) (length items) c
  status_told start rows c o e =
      let done = acts_of (changes_in reading items) in
      ap (λ (rs : List StoreRow). known_status start rs c) e
      ∙ known_after start (changes_in reading items) c
      ∙ ap (λ (t : Bool). since_start (is_gone start c) t (has_row start.active c || list_any (creates c) done)) (any_in reading (consumes c) items o)
      ∙ ap (λ (t : Bool). since_start (is_gone start c) (list_any (consumes c) (approved_acts reading (consumes c) items)) (has_row start.active c || t))
      (any_in reading (creates c) items o)
      ∙ ap (λ (as' : List Act). status_since start as' c) (sym past_is)

  acts_if_open : (params : Params) (all : List Item) (m : ℕ) (o : Option Item) → slice_get all m ≡ o
      → (if is_open_item params all m o then filter reading.is_authentic (acts (roots_in (shown_in o))) else [])
      ≡ (if not (is_decided_in params all m (length all)) then filter reading.is_authentic (acts (roots_in (shown_in o))) else [])
  acts_if_open params all m None e = by (not (is_decided_in params all m (length all)))
    where
      by : (b : Bool) → ◌≡◌ {A = List Act} [] (if b then [] else [])
      by true = refl
      by false = refl
  acts_if_open params all m (Some item) e = of_content item.content (not (is_decided_in params all m (length all)))
    where
      of_content : (content : Content) (b : Bool)
          → (if (is_received content && b) then filter reading.is_authentic (acts (roots_in (shown_in_notice (notice_by content)))) else [])
          ≡ (if b then filter reading.is_authentic (acts (roots_in (shown_in_notice (notice_by content)))) else [])
      of_content (Received notice) b = refl
      of_content (Told v) true = refl
      of_content (Told v) false = refl
      of_content Nothing true = refl
      of_content Nothing false = refl

  -- where the last brings no verdict, what is decided over all is decided at its place
  decided_at_last : (params : Params) (m : ℕ) → verdict_in x.content ≡ None
      → is_decided_in params (items ++ x ∷ []) m (length (items ++ x ∷ [])) ≡ is_decided_in params (items ++ x ∷ []) m (length items)
  decided_at_last params m none =
      let all = items ++ x ∷ [] in
      let d = decision_time_in params all m in
      let many : length (moments all) ≡ length all = as_many_moments all in
      let n : length all ≡ suc (length items) = one_longer items x in
      let whole : take (length all) (moments all) ≡ moments all = take_all (length all) (moments all) (omega (arith, many)) in
      let more : take (length all + 1) (moments all) ≡ moments all = take_all (length all + 1) (moments all) (omega (arith, many)) in
      let to_here : take (length items + 1) (moments all) ≡ moments all = take_all (length items + 1) (moments all) (omega (arith, many, n)) in
      let same : verdict_on m (moments all) ≡ verdict_on m (moments items) =
      ap (verdict_on m) (moments_push items x) ∙ verdict_same m (moments items) (record { time = x.time; verdict = verdict_in x.content }) (ap (decision_on m) none) in
      ap (λ (ms : List Moment). is_some (verdict_on m ms) || is_past d (take (length all + 1) (moments all))) whole
      ∙ ap (λ (ms : List Moment). is_some (verdict_on m (moments all)) || is_past d ms) (more ∙ sym to_here)
      ∙ ap (λ (w : Option Decision). is_some w || is_past d (take (length items + 1) (moments all))) (same ∙ ap (verdict_on m) (sym front))

  -- whether a contract is locked at the place of a request that comes behind these
  pub locked_told : (params : Params) (pairs : List Pair) (holds : List Hold) (c : Hash) → verdict_in x.content ≡ None
      → pairs ≡ pairs_in params (items ++ x ∷ []) → holds ≡ holding (placed_below (is_open_at pairs) (authentic_at reading items) (length items))
      → is_held holds c ≡ is_locked_in_inbox reading params (items ++ x ∷ []) (length items) c
  locked_told params pairs holds c none e h =
      ap (λ (hs : List Hold). is_held hs c) h
      ∙ locked_follows (placed_below (is_open_at pairs) (authentic_at reading items) (length items)) c
      ∙ ap (λ (as' : List Act). is_locked_by as' c) (acts_below (is_open_at pairs) (authentic_at reading items) (length items)
      ∙ gather_same (is_open_at pairs) (λ m. not (is_decided_in params (items ++ x ∷ []) m (length items))) (authentic_at reading items)
      (authentic_at reading (items ++ x ∷ [])) (length items) (λ m lt.
      ap (λ (as' : List Act). if is_open_at pairs m then as' else []) (sym (authentic_before reading items x m lt))
      ∙ ap (λ (b : Bool). if b then authentic_at reading (items ++ x ∷ []) m else [])
      (ap (λ (ps : List Pair). is_open_at ps m) e ∙ tracks params (items ++ x ∷ []) m)
      ∙ acts_if_open params (items ++ x ∷ []) m (slice_get (items ++ x ∷ []) m) refl
      ∙ ap (λ (b : Bool). if not b then authentic_at reading (items ++ x ∷ []) m else []) (decided_at_last params m none)))

module _ (reading : Reading) (items : List Item) where
  all_past : past_in reading items (length items) ≡ gather (λ m. is_approved_in m (moments items)) (authentic_at reading items) (length items)
  all_past =
      ap (λ (ms : List Moment). gather (λ m. is_approved_in m ms) (authentic_at reading items) (length items))
      (take_all (length items) (moments items) (omega (arith, as_many_moments items)))

  -- the status of a contract at the end of an inbox
  pub status_now : (start : Start) (rows : List StoreRow) (c : Hash) → IsInOrder items → rows ≡ written (changes_since reading start items) []
      → known_status start rows c ≡ status_kept reading start items (length items) c
  status_now start rows c o e =
      let done = acts_of (changes_in reading items) in
      ap (λ (rs : List StoreRow). known_status start rs c) e
      ∙ known_after start (changes_in reading items) c
      ∙ ap (λ (t : Bool). since_start (is_gone start c) t (has_row start.active c || list_any (creates c) done)) (any_in reading (consumes c) items o)
      ∙ ap (λ (t : Bool). since_start (is_gone start c) (list_any (consumes c) (approved_acts reading (consumes c) items)) (has_row start.active c || t))
      (any_in reading (creates c) items o)
      ∙ ap (λ (as' : List Act). status_since start as' c) (sym all_past)

  -- whether a contract is locked there
  pub locked_now : (params : Params) (holds : List Hold) (c : Hash) → holds ≡ holding (pending_changes reading params items)
      → is_held holds c ≡ is_locked_in_inbox reading params items (length items) c
  locked_now params holds c h =
      ap (λ (hs : List Hold). is_held hs c) h
      ∙ locked_follows (pending_changes reading params items) c
      ∙ ap (λ (as' : List Act). is_locked_by as' c)
      (acts_below (λ m. not (is_decided_in params items m (length items))) (authentic_at reading items) (length items))
