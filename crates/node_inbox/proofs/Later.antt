-- What approved requests write below a place, one item more.
use Rattle.std.proofs.Common.{◌≡◌, ◌⊎◌, ℕ, zero, suc, ◌+◌, ◌<◌, ◌≤◌, Bool, true, false, List, [], ◌∷◌, ◌++◌, length, map, filter, Option, Some, None, is_some, refl, sym, ap, ◌∙◌, subst, inl, inr, arith}
use Rattle.std.specs.Prelude.{if◌then◌else◌, ◌&&◌, ◌||◌, nat_eq, not}
use Rattle.std.specs.List.{list_any}
use Rattle.std.proofs.lemmas.Bool.{cases_Bool, cases_lt, eq-eqb, eqb-true, ne_eqb, or_parts}
use Rattle.std.proofs.lemmas.Option.{none-some}
use Rattle.std.proofs.lemmas.List.{map-append}
use Rattle.std.proofs.lemmas.List.Folds.{list_any-append}
use Rattle.ledger_terms.specs.declared.act.Act.{Act}
use Rattle.ledger_terms.specs.declared.active_row.ActiveRow.{ActiveRow}
use Rattle.ledger_model.specs.Status.{status_after}
use Rattle.ledger_model.specs.Terms.{Hash, ParticipantId, consumes, creates, id_of}
use Rattle.ledger_model.specs.declared.status.Status.TheVariants.{Unknown, Active, Consumed}
use Rattle.canton_model.specs.Evidence.{gather}
use Rattle.canton_model.specs.Inbox.{Item, authentic_below, created_at_place, created_below, first_of_each, moments, verdict_in}
use Rattle.canton_model.specs.Reading.{Reading}
use Rattle.canton_model.specs.Timeline.{Moment, decision_on, is_approval, is_approved_in, verdict_on}
use Rattle.canton_model.specs.declared.decision.Decision.{Decision}
use Rattle.canton_model.specs.declared.verdict.Verdict.{Verdict}
use Rattle.canton_model.proofs.InboxFacts.{gather_same}
use Rattle.pruned_inbox.specs.Start.{Start, active_kept, is_active_since}
use Rattle.contract_store.specs.Below.{at_place, placed_below, writes_of}
use Rattle.contract_store.specs.Rows.{status_in}
use Rattle.contract_store.specs.Written.{Placed, acts_of, written}
use Rattle.contract_store.proofs.Following.{status_follows}
use Rattle.inbox_registry.specs.Changes.{acts_of_verdict, authentic_at, changes_in, changes_since, creation_of}
use Rattle.inbox_registry.specs.Order.{IsBelow, IsInOrder, VerdictsBehind}
use Rattle.inbox_registry.proofs.Grown.{authentic_before, moments_push}
use Rattle.inbox_registry.proofs.Order.{below_end, no_verdict_yet}
use Rattle.inbox_registry.proofs.Outcomes.{verdict_first, verdict_new, verdict_same}
use Rattle.inbox_registry.proofs.Told.{any_in}
use Rattle.node_inbox.specs.AddedIds.{is_unknown}
use Rattle.node_inbox.specs.KeptActive.{AreFresh, CreateOnly, begun_below}

last_below : (k : ℕ) (items : List Item) (x : Item) → VerdictsBehind k (items ++ x ∷ []) → IsBelow (k + length items) (verdict_in x.content)
last_below k [] x b = let n : k + 0 ≡ k = omega arith in rw n b.0
last_below k (y ∷ items) x b = let n : k + suc (length items) ≡ suc k + length items = omega arith in rw n (last_below (suc k) items x b.1)

create_weaker : (test test' : Hash → Bool) (xs : List Act) → ((c : Hash) → test c ≡ true → test' c ≡ true) → CreateOnly test xs → CreateOnly test' xs
create_weaker test test' [] w h = tt
create_weaker test test' (x ∷ xs) w h = (λ is. w (id_of x.action) (h.0 is), create_weaker test test' xs w h.1)

-- ---- what is unknown of a longer past

pub unknown_parts : (past : List Act) (c : Hash) → is_unknown (status_after past c) ≡ true → (list_any (consumes c) past ≡ false) × (list_any (creates c) past ≡ false)
unknown_parts past c e = by (list_any (consumes c) past) (list_any (creates c) past) e
  where
    by : (co cr : Bool) → is_unknown (if co then Consumed else if cr then Active else Unknown) ≡ true → (co ≡ false) × (cr ≡ false)
    by true cr e = absurd (cc)
    by false true e = absurd (cc)
    by false false e = (refl, refl)

unknown_from : (past : List Act) (c : Hash) → list_any (consumes c) past ≡ false → list_any (creates c) past ≡ false → is_unknown (status_after past c) ≡ true
unknown_from past c co cr = rw (co, cr) refl

any_shorter : (P : Act → Bool) (keeps : ℕ → Bool) (f : ℕ → List Act) (n m : ℕ) → n ≤ m → list_any P (gather keeps f m) ≡ false → list_any P (gather keeps f n) ≡ false
any_shorter P keeps f n zero le e = let same : n ≡ 0 = omega (arith, le) in rw same refl
any_shorter P keeps f n (suc m) le e = elim (cases_lt n (suc m)) [
  | inl lt ↦ any_shorter P keeps f n m (omega (arith, lt))
      (or_parts (list_any P (gather keeps f m)) (list_any P (if keeps m then f m else [])) (sym (list_any-append P (gather keeps f m) (if keeps m then f m else [])) ∙ e)).0
  | inr ge ↦ let same : n ≡ suc m = omega (arith, le, ge) in rw same e
]

acts_both : (ps qs : List Placed) → acts_of (ps ++ qs) ≡ acts_of ps ++ acts_of qs
acts_both ps qs = map-append (λ (p : Placed). p.act) ps qs

acts_at : (k : ℕ) (as' : List Act) → acts_of (map (at_place k) as') ≡ as'
acts_at k [] = refl
acts_at k (a ∷ as') = ap (λ bs. a ∷ bs) (acts_at k as')

pub acts_below : (reading : Reading) (items : List Item) (n : ℕ) → acts_of (placed_below reading items n) ≡ authentic_below reading items n
acts_below reading items zero = refl
acts_below reading items (suc k) =
    acts_both (placed_below reading items k) (map (at_place k) (writes_of reading items k))
    ∙ (ap (λ (bs : List Act). bs ++ acts_of (map (at_place k) (writes_of reading items k))) (acts_below reading items k)
    ∙ ap (λ (bs : List Act). authentic_below reading items k ++ bs) (acts_at k (writes_of reading items k)))

pub acts_begun : (reading : Reading) (start : Start) (items : List Item) (n : ℕ)
    → acts_of (begun_below reading start items n) ≡ acts_of (map creation_of start.active) ++ authentic_below reading items n
acts_begun reading start items n =
    acts_both (map creation_of start.active) (placed_below reading items n)
    ∙ ap (λ (bs : List Act). acts_of (map creation_of start.active) ++ bs) (acts_below reading items n)

module _ (reading : Reading) (items : List Item) (o : IsInOrder items) where
  -- what the store knows nothing of, nothing is known of below a place
  pub unknown_below : (start : Start) (n : ℕ) → n ≤ length items → (c : Hash)
      → is_unknown (status_in (written (changes_since reading start items) []) c) ≡ true
      → is_unknown (status_after (acts_of (begun_below reading start items n)) c) ≡ true
  unknown_below start n le c e =
      let begun = acts_of (map creation_of start.active) in
      let whole = unknown_parts (acts_of (changes_since reading start items)) c
      (ap is_unknown (sym (status_follows (changes_since reading start items) c)) ∙ e) in
      let none : (P : Act → Bool) → list_any P (acts_of (changes_since reading start items)) ≡ false
      → list_any P (acts_of (begun_below reading start items n)) ≡ false = λ P out.
      let parts = or_parts (list_any P begun) (list_any P (acts_of (changes_in reading items)))
      (sym (ap (list_any P) (acts_both (map creation_of start.active) (changes_in reading items)) ∙ list_any-append P begun (acts_of (changes_in reading items))) ∙ out) in
      ap (list_any P) (acts_begun reading start items n)
      ∙ (list_any-append P begun (authentic_below reading items n)
      ∙ (ap (λ (t : Bool). t || list_any P (authentic_below reading items n)) parts.0
      ∙ any_shorter P (λ m. is_approved_in m (moments items)) (authentic_at reading items) n (length items) le
      (sym (any_in reading P items o) ∙ parts.1))) in
      unknown_from (acts_of (begun_below reading start items n)) c (none (consumes c) whole.0) (none (creates c) whole.1)

  pub create_below : (start : Start) (n : ℕ) → n ≤ length items → (xs : List Act)
      → CreateOnly (λ c. is_unknown (status_in (written (changes_since reading start items) []) c)) xs
      → CreateOnly (λ c. is_unknown (status_after (acts_of (begun_below reading start items n)) c)) xs
  create_below start n le xs h =
      create_weaker (λ c. is_unknown (status_in (written (changes_since reading start items) []) c))
      (λ c. is_unknown (status_after (acts_of (begun_below reading start items n)) c)) xs (unknown_below start n le) h

  -- no request behind the last is approved
  pub nothing_behind : (k : ℕ) → length items ≤ k → writes_of reading items k ≡ []
  nothing_behind k le =
      ap (λ (b : Bool). if b then authentic_at reading items k else []) (ap is_approval (no_verdict_yet (length items) k items (below_end items o) le))

  -- ---- one item more

  module _ (x : Item) (o' : IsInOrder (items ++ x ∷ [])) where
    abbrev more : List Item
    more = items ++ x ∷ []

    abbrev mx : Moment
    mx = record { time = x.time; verdict = verdict_in x.content }

    written_by : (k : ℕ) (b : Bool) (xs : List Act) → is_approved_in k (moments more) ≡ b → authentic_at reading more k ≡ xs
        → writes_of reading more k ≡ (if b then xs else [])
    written_by k b xs e f = ap (λ (t : Bool). if t then authentic_at reading more k else []) e ∙ ap (λ (as' : List Act). if b then as' else []) f

    same_approval : (k : ℕ) → decision_on k (verdict_in x.content) ≡ None → is_approved_in k (moments more) ≡ is_approved_in k (moments items)
    same_approval k e = ap (is_approved_in k) (moments_push items x) ∙ ap is_approval (verdict_same k (moments items) mx e)

    writes_same : (k : ℕ) → k < length items → decision_on k (verdict_in x.content) ≡ None → writes_of reading more k ≡ writes_of reading items k
    writes_same k lt e = written_by k (is_approved_in k (moments items)) (authentic_at reading items k) (same_approval k e) (authentic_before reading items x k lt)

    no_decision : (k : ℕ) (v : Option Verdict) → length items ≤ k → IsBelow (length items) v → decision_on k v ≡ None
    no_decision k None le b = refl
    no_decision k (Some v) le b = let lt : v.request < length items = b in rw (ne_eqb v.request k (λ e. omega (arith, e, lt, le))) refl

    below_last : IsBelow (length items) (verdict_in x.content)
    below_last = let n : 0 + length items ≡ length items = omega arith in rw n at (last_below 0 items x o'.behind)

    writes_none : (k : ℕ) → length items ≤ k → writes_of reading more k ≡ []
    writes_none k le =
        written_by k false (authentic_at reading more k)
        (same_approval k (no_decision k (verdict_in x.content) le below_last)
        ∙ ap is_approval (no_verdict_yet (length items) k items (below_end items o) le)) refl

    -- a verdict changes at most what its own request writes
    writes_told : (v : Verdict) → verdict_in x.content ≡ Some v → v.request < length items
        → (writes_of reading more v.request ≡ writes_of reading items v.request) ⊎ (writes_of reading more v.request ≡ acts_of_verdict reading items v)
    writes_told v e lt = by (verdict_on v.request (moments items)) refl
      where
        this : decision_on v.request (verdict_in x.content) ≡ Some v.decision
        this = ap (decision_on v.request) e ∙ rw (eq-eqb v.request v.request refl) refl

        by : (d : Option Decision) → verdict_on v.request (moments items) ≡ d
            → (writes_of reading more v.request ≡ writes_of reading items v.request)
            ⊎ (writes_of reading more v.request ≡ (if (not (is_some (verdict_on v.request (moments items))) && is_approval (Some v.decision))
            then authentic_at reading items v.request else []))
        by (Some d) first =
            inl (written_by v.request (is_approved_in v.request (moments items)) (authentic_at reading items v.request)
            (ap (is_approved_in v.request) (moments_push items x) ∙ ap is_approval (verdict_first v.request (moments items) mx d first))
            (authentic_before reading items x v.request lt))
        by None first =
            inr (written_by v.request (is_approval (Some v.decision)) (authentic_at reading items v.request)
            (ap (is_approved_in v.request) (moments_push items x) ∙ ap is_approval (verdict_new v.request (moments items) mx v.decision first this))
            (authentic_before reading items x v.request lt)
            ∙ ap (λ (d : Option Decision). if (not (is_some d) && is_approval (Some v.decision)) then authentic_at reading items v.request else []) (sym first))

    module _ (n : ℕ) (le : n ≤ length items) (none : (k : ℕ) → k < n → decision_on k (verdict_in x.content) ≡ None) where
      placed_stay : (m : ℕ) → m ≤ n → placed_below reading more m ≡ placed_below reading items m
      placed_stay zero h = refl
      placed_stay (suc k) h =
          ap (λ (ps : List Placed). ps ++ map (at_place k) (writes_of reading more k)) (placed_stay k (omega (arith, h)))
          ∙ ap (λ (as' : List Act). placed_below reading items k ++ map (at_place k) as') (writes_same k (omega (arith, h, le)) (none k (omega (arith, h))))

      past_stays : authentic_below reading more n ≡ authentic_below reading items n
      past_stays =
          gather_same (λ m. is_approved_in m (moments more)) (λ m. is_approved_in m (moments items)) (authentic_at reading more) (authentic_at reading items) n
          (λ k lt. writes_same k (omega (arith, lt, le)) (none k lt))

      created_stay : (m : ℕ) → m ≤ n → created_below reading more m ≡ created_below reading items m
      created_stay zero h = refl
      created_stay (suc k) h =
          ap (λ (rows : List ActiveRow). rows ++ created_at_place k (writes_of reading more k)) (created_stay k (omega (arith, h)))
          ∙ ap (λ (as' : List Act). created_below reading items k ++ created_at_place k as') (writes_same k (omega (arith, h, le)) (none k (omega (arith, h))))

      pub active_stays : (start : Start) (p : ParticipantId) → active_kept reading p start more n ≡ active_kept reading p start items n
      active_stays start p =
          ap (λ (since : List Act). filter (is_active_since reading p start since) (first_of_each (start.active ++ created_below reading more n))) past_stays
          ∙ ap (λ (rows : List ActiveRow). filter (is_active_since reading p start (authentic_below reading items n)) (first_of_each (start.active ++ rows)))
          (created_stay n (omega arith))

      module _ (start : Start) where
        begun_stays : begun_below reading start more n ≡ begun_below reading start items n
        begun_stays = ap (λ (ps : List Placed). map creation_of start.active ++ ps) (placed_stay n (omega arith))

        abbrev is_fresh : Hash → Bool
        is_fresh c = is_unknown (status_after (acts_of (begun_below reading start items n)) c)

        pub fresh_stays : AreFresh reading start items n
            → ((v : Verdict) → verdict_in x.content ≡ Some v → CreateOnly is_fresh (acts_of_verdict reading items v))
            → AreFresh reading start more n
        fresh_stays fresh new k h =
            subst (λ (ps : List Placed). CreateOnly (λ c. is_unknown (status_after (acts_of ps) c)) (writes_of reading more k)) (sym begun_stays)
            (elim (cases_lt k (length items)) [
              | inl lt ↦ here lt (decision_on k (verdict_in x.content)) refl
              | inr ge ↦ subst (CreateOnly is_fresh) (sym (writes_none k ge)) tt
            ])
          where
            on_it : (v : Option Verdict) (d : Decision) → decision_on k v ≡ Some d → (w : Verdict) × (v ≡ Some w) × (w.request ≡ k)
            on_it None d e = absurd (cc)
            on_it (Some w) d e = elim (cases_Bool (nat_eq w.request k)) [
              | inl b ↦ (w, refl, eqb-true w.request k b)
              | inr b ↦ absurd (none-some d (rw b at e))
            ]

            here : k < length items → (d : Option Decision) → decision_on k (verdict_in x.content) ≡ d → CreateOnly is_fresh (writes_of reading more k)
            here lt None e = subst (CreateOnly is_fresh) (sym (writes_same k lt e)) (fresh k h)
            here lt (Some d) e =
                let w = on_it (verdict_in x.content) d e in
                let same : (w.0).request ≡ k = w.2 in
                elim (writes_told w.0 w.1 (omega (arith, same, lt))) [
                  | inl old ↦ subst (λ (j : ℕ). CreateOnly is_fresh (writes_of reading more j)) same
                      (subst (CreateOnly is_fresh) (sym old) (fresh (w.0).request (omega (arith, same, h))))
                  | inr first ↦ subst (λ (j : ℕ). CreateOnly is_fresh (writes_of reading more j)) same
                      (subst (CreateOnly is_fresh) (sym first) (new w.0 w.1))
                ]
