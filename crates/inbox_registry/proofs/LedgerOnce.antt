-- What a consistent ledger creates once, the approved requests of an inbox create once.
use Rattle.std.proofs.Common.{◌≡◌, ℕ, zero, suc, ◌+◌, ◌<◌, ◌≤◌, Bool, true, false, cond, List, [], ◌∷◌, ◌++◌, length, take, map, filter, Option, Some, None}
use Rattle.std.proofs.Common.{refl, sym, ap, subst, ◌∙◌, inl, inr, arith, length-take-le}
use Rattle.std.specs.Prelude.{if◌then◌else◌, ◌&&◌, slice_get}
use Rattle.std.specs.Str.{bytes_eq}
use Rattle.std.proofs.lemmas.Bool.{cases_Bool, cases_eq, and_parts}
use Rattle.std.proofs.lemmas.List.{take-map, length-map}
use Rattle.ledger_terms.specs.declared.act.Act.{Act}
use Rattle.ledger_terms.specs.declared.active_row.ActiveRow.{ActiveRow}
use Rattle.ledger_model.specs.Consistency.{SameContract}
use Rattle.ledger_model.specs.Forest.{Forest, NoRoots, Root, acts, preorder, project, ledger_acts}
use Rattle.ledger_model.specs.Opening.{Transaction, roots_in}
use Rattle.ledger_model.specs.Terms.{Hash, ParticipantId, id_of, is_create, creates}
use Rattle.ledger_model.proofs.Projected.{preorder_join}
use Rattle.canton_model.specs.Evidence.{acts_of as whole_acts_of, gather}
use Rattle.canton_model.specs.Log.{Params, request_at}
use Rattle.canton_model.specs.declared.entry.Entry.{Entry}
use Rattle.canton_model.specs.declared.request.Request.{Request}
use Rattle.canton_model.specs.Ledger.{Timely, commit_of, whole_at, ledger, is_withheld}
use Rattle.canton_model.specs.Reading.{Reading, is_recipient}
use Rattle.canton_model.specs.declared.decision.Decision.{Decision}
use Rattle.canton_model.specs.Timeline.{Moment, moment_of, timeline_of, or_else, decision_on, verdict_on, is_approval, is_approved_in}
use Rattle.canton_model.specs.Inbox.{Item, inbox, moments, opened_at, is_informed, project_whole}
use Rattle.canton_model.specs.Inbox.{active_row, authentic_below, created_at_place, created_below}
use Rattle.canton_model.proofs.Gathered.{ledger_gathered}
use Rattle.canton_model.proofs.InboxFacts.{mapped, OpensApproved, request_same, opened_of, opened_none, silent, same_verdicts, withheld_shut}
use Rattle.canton_model.proofs.InboxGrows.{inbox_is_mapped}
use Rattle.contract_store.specs.ActiveLaw.{created_rows}
use Rattle.contract_store.specs.Written.{acts_of}
use Rattle.contract_store.proofs.Maps.{same_bytes}
use Rattle.inbox_registry.specs.Changes.{changes_in}
use Rattle.inbox_registry.specs.Offered.{CreatedOnce}
use Rattle.inbox_registry.specs.Order.{VerdictsBehind}
use Rattle.inbox_registry.proofs.Blocks.{created_placed, created_below_end}
use Rattle.inbox_registry.proofs.InboxOrder.{behind_after}
use Rattle.inbox_registry.proofs.Once.{is_row_of, as_many_rows, as_many_placed}

-- no Create follows another action on its contract
abbrev NoneAgain : List Act → Type 0
NoneAgain all =
    (i j : ℕ) (a b : Act) → i < j → slice_get all i ≡ Some a → slice_get all j ≡ Some b → SameContract a b → is_create b.action ≡ true → ⊥

count_append : {X : Type 0} (f : X → Bool) (xs ys : List X) → length (filter f (xs ++ ys)) ≡ length (filter f xs) + length (filter f ys)
count_append f [] ys = omega arith
count_append f (x ∷ xs) ys = by (f x) (count_append f xs ys)
  where
    by : (t : Bool) → length (filter f (xs ++ ys)) ≡ length (filter f xs) + length (filter f ys)
        → length (cond t (x ∷ filter f (xs ++ ys)) (filter f (xs ++ ys))) ≡ length (cond t (x ∷ filter f xs) (filter f xs)) + length (filter f ys)
    by true e = omega (arith, e)
    by false e = e

-- an Approved verdict stays the first
approved_longer : (j n : ℕ) (ms : List Moment) → is_approval (verdict_on j (take n ms)) ≡ true → is_approval (verdict_on j ms) ≡ true
approved_longer j zero ms h = absurd (cc)
approved_longer j (suc n) [] h = absurd (cc)
approved_longer j (suc n) (m ∷ ms) h = by (decision_on j m.verdict) h (approved_longer j n ms)
  where
    by : (o : Option Decision) → is_approval (or_else o (verdict_on j (take n ms))) ≡ true
        → (is_approval (verdict_on j (take n ms)) ≡ true → is_approval (verdict_on j ms) ≡ true) → is_approval (or_else o (verdict_on j ms)) ≡ true
    by None h rest = rest h
    by (Some d) h rest = h

module _ (c : Hash) where
  abbrev made : List Act → ℕ
  made xs = length (filter (creates c) xs)

  made_cons : (x : Act) (xs ys : List Act) → made xs ≤ made ys → made (x ∷ xs) ≤ made (x ∷ ys)
  made_cons x xs ys h = by (creates c x)
    where
      by : (t : Bool) → length (cond t (x ∷ filter (creates c) xs) (filter (creates c) xs)) ≤ length (cond t (x ∷ filter (creates c) ys) (filter (creates c) ys))
      by true = omega (arith, h)
      by false = h

  made_behind : (x : Act) (xs ys : List Act) → made xs ≤ made ys → made xs ≤ made (x ∷ ys)
  made_behind x xs ys h = by (creates c x)
    where
      by : (t : Bool) → made xs ≤ length (cond t (x ∷ filter (creates c) ys) (filter (creates c) ys))
      by true = omega (arith, h)
      by false = h

  made_both : (xs xs' ys ys' : List Act) → made xs ≤ made ys → made xs' ≤ made ys' → made (xs ++ xs') ≤ made (ys ++ ys')
  made_both xs xs' ys ys' h h' =
      let e = count_append (creates c) xs xs' in let e' = count_append (creates c) ys ys' in omega (arith, e, e', h, h')

  made_filter : (f : Act → Bool) (xs : List Act) → made (filter f xs) ≤ made xs
  made_filter f [] = omega arith
  made_filter f (x ∷ xs) = by (f x) (made_filter f xs)
    where
      by : (t : Bool) → made (filter f xs) ≤ made xs → made (cond t (x ∷ filter f xs) (filter f xs)) ≤ made (x ∷ xs)
      by true h = made_cons x (filter f xs) xs h
      by false h = made_behind x (filter f xs) xs h

  made_project : (keeps : Act → Bool) (f : Forest Act) → made (preorder (project keeps f)) ≤ made (preorder f)
  made_project keeps NoRoots = omega arith
  made_project keeps (Root root below others) =
      let inside = made_project keeps below in
      let after = made_project keeps others in
      elim (cases_Bool (keeps root)) [
        | inl kept ↦ rw kept
            (made_cons root (preorder below ++ preorder (project keeps others)) (preorder below ++ preorder others)
            (made_both (preorder below) (preorder (project keeps others)) (preorder below) (preorder others) (omega arith) after))
        | inr dropped ↦ rw (dropped, preorder_join (project keeps below) (project keeps others))
            (made_behind root (preorder (project keeps below) ++ preorder (project keeps others)) (preorder below ++ preorder others)
            (made_both (preorder (project keeps below)) (preorder (project keeps others)) (preorder below) (preorder others) inside after))
      ]

  none_made : (xs : List Act) → ((j : ℕ) (b : Act) → slice_get xs j ≡ Some b → creates c b ≡ false) → made xs ≤ 0
  none_made [] h = omega arith
  none_made (x ∷ xs) h = rw (h 0 x refl) (none_made xs (λ j b e. h (suc j) b e))

  at_most_one : (xs : List Act) → NoneAgain xs → made xs ≤ 1
  at_most_one [] once = omega arith
  at_most_one (x ∷ xs) once = by (creates c x) refl (at_most_one xs (λ i j a b lt ei ej s m. once (suc i) (suc j) a b (omega (arith, lt)) ei ej s m))
    where
      here : (e : creates c x ≡ true) (b : Act) → creates c b ≡ true → SameContract x b
      here e b d = same_bytes _ _ (and_parts _ _ e).0 ∙ sym (same_bytes _ _ (and_parts _ _ d).0)

      no_other : creates c x ≡ true → (j : ℕ) (b : Act) → slice_get xs j ≡ Some b → creates c b ≡ false
      no_other e j b at' = elim (cases_Bool (creates c b)) [
        | inl yes' ↦ absurd (once 0 (suc j) x b (omega arith) refl at' (here e b yes') (and_parts _ _ yes').1)
        | inr no' ↦ no'
      ]

      by : (t : Bool) → creates c x ≡ t → made xs ≤ 1 → length (cond t (x ∷ filter (creates c) xs) (filter (creates c) xs)) ≤ 1
      by true e rest = let none = none_made xs (no_other e) in omega (arith, none)
      by false e rest = rest

  -- what is created at a place, and below one
  made_at : (k : ℕ) (as' : List Act) → length (filter (is_row_of c) (created_at_place k as')) ≡ made as'
  made_at k [] = refl
  made_at k (a ∷ as') = by (is_create a.action) (bytes_eq (id_of a.action) c) refl (made_at k as')
    where
      by : (cr o : Bool) → bytes_eq (id_of a.action) c ≡ o → length (filter (is_row_of c) (created_at_place k as')) ≡ made as'
          → length (filter (is_row_of c) (map (active_row k)
          (cond cr (a ∷ filter (λ (act : Act). is_create act.action) as') (filter (λ (act : Act). is_create act.action) as'))))
          ≡ length (cond (o && cr) (a ∷ filter (creates c) as') (filter (creates c) as'))
      by true true e rest = rw e (ap suc rest)
      by true false e rest = rw e rest
      by false true e rest = rest
      by false false e rest = rest

  made_below : (reading : Reading) (items : List Item) (n : ℕ)
      → length (filter (is_row_of c) (created_below reading items n)) ≡ made (authentic_below reading items n)
  made_below reading items zero = refl
  made_below reading items (suc k) =
      let block = if is_approved_in k (moments items) then filter reading.is_authentic (acts (opened_at items k)) else [] in
      count_append (is_row_of c) (created_below reading items k) (created_at_place k block)
      ∙ ap (λ (m : ℕ). m + length (filter (is_row_of c) (created_at_place k block))) (made_below reading items k)
      ∙ ap (λ (m : ℕ). made (authentic_below reading items k) + m) (made_at k block)
      ∙ sym (count_append (creates c) (authentic_below reading items k) block)

  made_in : (reading : Reading) (items : List Item) → VerdictsBehind 0 items
      → made (authentic_below reading items (length items)) ≡ made (acts_of (changes_in reading items))
  made_in reading items behind =
      sym (made_below reading items (length items))
      ∙ ap (λ (rows : List ActiveRow). length (filter (is_row_of c) rows)) (sym (created_placed reading items behind (length items)))
      ∙ as_many_placed (length items) (created_rows (changes_in reading items)) (created_below_end reading items behind) c
      ∙ as_many_rows c (changes_in reading items)

  module _ (reading : Reading) (params : Params) (log : List Entry) (p : ParticipantId) (n : ℕ) (timely : Timely params log) (within : n ≤ length log)
      (opens : OpensApproved reading p log) where
    abbrev its : List Item
    its = mapped reading p (take n log)

    abbrev approved : ℕ → Bool
    approved k = is_approved_in k (timeline_of log)

    abbrev approved_here : ℕ → Bool
    approved_here k = is_approved_in k (moments its)

    abbrev whole_acts : ℕ → List Act
    whole_acts k = whole_acts_of (whole_at reading log k)

    abbrev opened_acts : ℕ → List Act
    opened_acts k = filter reading.is_authentic (acts (opened_at its k))

    nothing : (k m : ℕ) → opened_at its k ≡ NoRoots → made (if approved_here k then opened_acts k else []) ≤ m
    nothing k m shut = rw shut (by (approved_here k))
      where
        by : (t : Bool) → made (if t then filter reading.is_authentic (acts NoRoots) else []) ≤ m
        by true = omega arith
        by false = omega arith

    of_whole : (k : ℕ) (w : Option Transaction) → made (filter reading.is_authentic (acts (project_whole reading p w))) ≤ made (whole_acts_of (commit_of k w))
    of_whole k None = omega arith
    of_whole k (Some t) =
        let one = made_filter reading.is_authentic (acts (project (is_informed reading p) t.roots)) in
        let two = made_project (is_informed reading p) t.roots in
        omega (arith, one, two)

    approves : (k : ℕ) (q : Request) → k < n → request_at log k ≡ Some q → is_recipient reading p q ≡ true → approved_here k ≡ true → approved k ≡ true
    approves k q lt e here h =
        let read : request_at (take n log) k ≡ Some q = request_same reading params log p n timely within k lt ∙ e in
        approved_longer k n (timeline_of log)
        (ap (λ (ms : List Moment). is_approval (verdict_on k ms)) (take-map moment_of n log)
        ∙ ap is_approval (sym (same_verdicts reading p (take n log) k q read here (take n log))) ∙ h)

    -- what is opened of an approved request is part of its whole, and nothing where its place is withheld
    at_place : (k : ℕ) → k < n → (o : Option Request) → request_at log k ≡ o
        → made (if approved_here k then opened_acts k else []) ≤ made (if approved k then whole_acts k else [])
    at_place k lt None e = nothing k _ (opened_none reading params log p n timely within k lt e)
    at_place k lt (Some q) e =
        let opened = opened_of reading params log p n timely within k q lt e in
        elim (cases_Bool (is_recipient reading p q)) [
          | inr away ↦ nothing k _ (opened ∙ ap roots_in (silent reading p q away))
          | inl here ↦ elim (cases_Bool (approved_here k)) [
            | inr rejected ↦ rw rejected (omega arith)
            | inl accepted ↦
                let ok = approves k q lt e here accepted in
                elim (cases_Bool (is_withheld reading log p k)) [
                  | inl held ↦ nothing k _ (opened ∙ ap roots_in (withheld_shut reading log p k q e held))
                  | inr free ↦ rw (accepted, ok, opened ∙ opens.projected k q e ok free, e) (of_whole k (reading.whole q))
                ]
          ]
        ]

    up_to : (k : ℕ) → k ≤ n → made (gather approved_here opened_acts k) ≤ made (gather approved whole_acts k)
    up_to zero le = omega arith
    up_to (suc k) le =
        made_both (gather approved_here opened_acts k) (if approved_here k then opened_acts k else []) (gather approved whole_acts k)
        (if approved k then whole_acts k else []) (up_to k (omega (arith, le))) (at_place k (omega (arith, le)) (request_at log k) refl)

    further : (k m : ℕ) → k ≤ m → made (gather approved whole_acts k) ≤ made (gather approved whole_acts m)
    further k m le = elim (cases_eq k m) [
      | inl same ↦ subst (λ (j : ℕ). made (gather approved whole_acts k) ≤ made (gather approved whole_acts j)) same (omega arith)
      | inr apart ↦ before m (omega (arith, le, apart))
    ]
      where
        before : (m : ℕ) → k < m → made (gather approved whole_acts k) ≤ made (gather approved whole_acts m)
        before zero lt = absurd (omega (arith, lt))
        before (suc m) lt = elim (cases_eq k m) [
          | inl same ↦
              let e = count_append (creates c) (gather approved whole_acts m) (if approved m then whole_acts m else []) in
              let here : made (gather approved whole_acts k) ≤ made (gather approved whole_acts m) =
              subst (λ (j : ℕ). made (gather approved whole_acts k) ≤ made (gather approved whole_acts j)) same (omega arith) in
              omega (arith, e, here)
          | inr apart ↦
              let e = count_append (creates c) (gather approved whole_acts m) (if approved m then whole_acts m else []) in
              let rest = before m (omega (arith, lt, apart)) in
              omega (arith, e, rest)
        ]

    made_here : NoneAgain (ledger_acts (ledger reading log)) → made (authentic_below reading its (length its)) ≤ 1
    made_here once =
        let as_long : length its ≡ n = length-map (take n log) _ ∙ length-take-le n log within in
        let here = up_to n (omega arith) in
        let more = further n (length log) within in
        let ledger_one : made (gather approved whole_acts (length log)) ≤ 1 =
        subst (λ (xs : List Act). made xs ≤ 1) (ledger_gathered approved (whole_at reading log) (length log)) (at_most_one (ledger_acts (ledger reading log)) once) in
        rw as_long (omega (arith, here, more, ledger_one))

pub created_once_in_inbox : (reading : Reading) (params : Params) (log : List Entry) (p : ParticipantId) (n : ℕ) → Timely params log
    → OpensApproved reading p log → n ≤ length log → NoneAgain (ledger_acts (ledger reading log))
    → CreatedOnce (changes_in reading (inbox reading p (take n log)))
created_once_in_inbox reading params log p n timely opens within once c =
    let here : made c (authentic_below reading (inbox reading p (take n log)) (length (inbox reading p (take n log)))) ≤ 1 =
    subst (λ (items : List Item). made c (authentic_below reading items (length items)) ≤ 1) (sym (inbox_is_mapped reading params log p n timely))
    (made_here c reading params log p n timely within opens once) in
    subst (λ (m : ℕ). m ≤ 1) (made_in c reading (inbox reading p (take n log)) (behind_after reading p [] (take n log))) here
