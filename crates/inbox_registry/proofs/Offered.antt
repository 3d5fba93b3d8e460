-- What a participant offers are the active contracts.
use Rattle.std.proofs.Common.{◌≡◌, ℕ, suc, ◌<◌, ◌≤◌, Bool, true, false, cond, All, List, [], ◌∷◌, ◌++◌, length, map, filter, refl, sym, ap, subst, ◌∙◌, inl, inr, arith}
use Rattle.std.specs.Prelude.{◌&&◌, ◌||◌, not, if◌then◌else◌}
use Rattle.std.specs.List.{list_any}
use Rattle.std.proofs.lemmas.Bool.{cases_Bool}
use Rattle.std.proofs.lemmas.List.{map-append}
use Rattle.std.proofs.lemmas.List.Elements.{All-head, All-nil, All-tail}
use Rattle.std.proofs.lemmas.List.Folds.{list_any-append}
use Rattle.ledger_terms.specs.declared.act.Act.{Act}
use Rattle.ledger_terms.specs.declared.active_row.ActiveRow.{ActiveRow}
use Rattle.ledger_model.specs.Terms.{Hash, ParticipantId, consumes, creates}
use Rattle.canton_model.specs.Reading.{Reading}
use Rattle.canton_model.specs.Timeline.{is_approved_in}
use Rattle.canton_model.specs.Inbox.{Item, moments, created_at_place, created_below, first_of_each, is_active_row, is_stakeholder_hosted, authentic_below}
use Rattle.contract_store.specs.Active.{active_rows}
use Rattle.contract_store.specs.ActiveLaw.{InOrder, NoneBefore, created_rows, is_left}
use Rattle.contract_store.specs.Written.{Placed, written, acts_of}
use Rattle.contract_store.proofs.Maps.{equal_bytes}
use Rattle.contract_store.proofs.Soonest.{NotBefore}
use Rattle.pruned_inbox.specs.Start.{Start, active_kept, is_active_since, is_gone, no_start}
use Rattle.inbox_registry.specs.Changes.{NoneGone, StandsBelow, changes_in, changes_since, creation_of}
use Rattle.inbox_registry.specs.Offered.{CreatedOnce, OfferedIsActive, OfferedIsNodeActive}
use Rattle.inbox_registry.specs.Order.{IsInOrder}
use Rattle.inbox_registry.proofs.Blocks.{created_append, created_placed, created_below_end, here}
use Rattle.inbox_registry.proofs.ByPlace.{Rises, by_place, AllBelow, below_both, below_filter, below_more, is_at, placed_already, placed_split, sorted, sorted_is, active_sorted, filter_placed}
use Rattle.inbox_registry.proofs.Once.{as_many_placed, as_many_rows, first_once, is_row_of, rows_once, placed_once}
use Rattle.inbox_registry.proofs.Told.{any_in, left_unused, nothing_there}
use Rattle.inbox_registry.proofs.Unplaced.{actives_once}

-- two tests one after the other are a third
filter_both : (f g h : ActiveRow → Bool) (rows : List ActiveRow) → ((a : ActiveRow) → h a ≡ (f a && g a)) → filter f (filter g rows) ≡ filter h rows
filter_both f g h [] same = refl
filter_both f g h (a ∷ rows) same =
    let rest = filter_both f g h rows same in
    let here = same a in
    elim (cases_Bool (f a)) [
      | inl yes' ↦ elim (cases_Bool (g a)) [ inl also ↦ rw (also, yes', here, yes', also, rest) refl | inr out ↦ rw (out, here, yes', out, rest) refl ]
      | inr no' ↦ elim (cases_Bool (g a)) [ inl also ↦ rw (also, no', here, no', rest) refl | inr out ↦ rw (out, here, no', rest) refl ]
    ]

-- the active rows are what is left of the creations, place by place
active_placed : (n : ℕ) (ps : List Placed) → CreatedOnce ps → AllBelow n (created_rows ps)
    → active_rows (written ps []) ≡ filter (is_left (acts_of ps)) (by_place n (created_rows ps))
active_placed n ps once below =
    active_sorted (written ps [])
    ∙ ap sorted (actives_once ps once ∙ ap (filter (is_left (acts_of ps))) (first_once (created_rows ps) (rows_once ps once)))
    ∙ sorted_is n (filter (is_left (acts_of ps)) (created_rows ps)) (below_filter n (is_left (acts_of ps)) (created_rows ps) below)
    ∙ sym (filter_placed (is_left (acts_of ps)) n (created_rows ps))

-- ---- what a start leaves, as rows

made_rows : (rows : List ActiveRow) → created_rows (map creation_of rows) ≡ rows
made_rows [] = refl
made_rows (row ∷ rows) = ap (λ (rs : List ActiveRow). row ∷ rs) (made_rows rows)

not_before : (n : ℕ) (rows : List ActiveRow) → NoneBefore n (map creation_of rows) → NotBefore n rows
not_before n [] r = tt
not_before n (row ∷ rows) r = (r.0, not_before n rows r.1)

rises : (rows : List ActiveRow) → InOrder (map creation_of rows) → Rises rows
rises [] r = tt
rises (row ∷ rows) r = (not_before row.created_at rows r.0, rises rows r.1)

all_below : (b : ℕ) (rows : List ActiveRow) → All (λ (row : ActiveRow). row.created_at < b) rows → AllBelow b rows
all_below b [] r = tt
all_below b (row ∷ rows) r =
    (All-head (λ (a : ActiveRow). a.created_at < b) row rows r, all_below b rows (All-tail (λ (a : ActiveRow). a.created_at < b) row rows r))

module _ (reading : Reading) (party : ParticipantId) (b : ℕ) (start : Start) (items : List Item) (o : IsInOrder items) (stands : StandsBelow b start items)
    (once : CreatedOnce (changes_since reading start items)) (none_gone : NoneGone start (changes_since reading start items)) where
  abbrev ps : List Placed
  ps = changes_since reading start items

  abbrev n : ℕ
  n = length items

  abbrev since : List Act
  since = authentic_below reading items n

  rows_are : created_rows ps ≡ start.active ++ created_rows (changes_in reading items)
  rows_are =
      created_append (map creation_of start.active) (changes_in reading items)
      ∙ ap (λ (rows : List ActiveRow). rows ++ created_rows (changes_in reading items)) (made_rows start.active)

  none_early : (k : ℕ) → k < b → filter (is_at k) (created_rows (changes_in reading items)) ≡ []
  none_early k lt =
      here reading items o.behind k
      ∙ ap (λ (xs : List Act). created_at_place k (if is_approved_in k (moments items) then xs else [])) (nothing_there reading items k (stands.silent k lt))
      ∙ either (is_approved_in k (moments items))
    where
      either : (t : Bool) → created_at_place k (if t then [] else []) ≡ []
      either true = refl
      either false = refl

  -- where the base is above the end nothing is there
  placed : b ≤ n → by_place n (created_rows ps) ≡ start.active ++ created_below reading items n
  placed le =
      ap (by_place n) rows_are
      ∙ placed_split b n start.active (created_rows (changes_in reading items)) le (all_below b start.active stands.below) none_early
      ∙ ap (λ (rows : List ActiveRow). rows ++ by_place n (created_rows (changes_in reading items)))
      (placed_already b start.active (rises start.active stands.order) (all_below b start.active stands.below))
      ∙ ap (λ (rows : List ActiveRow). start.active ++ rows) (created_placed reading items o.behind n)

  below_end : b ≤ n → AllBelow n (created_rows ps)
  below_end le =
      subst (AllBelow n) (sym rows_are)
      (below_both n start.active (created_rows (changes_in reading items)) (below_more b n start.active le (all_below b start.active stands.below))
      (created_below_end reading items o.behind))

  used : (c : Hash) → list_any (consumes c) (acts_of ps) ≡ list_any (consumes c) since
  used c =
      ap (list_any (consumes c)) (map-append (λ (p : Placed). p.act) (map creation_of start.active) (changes_in reading items))
      ∙ list_any-append (consumes c) (acts_of (map creation_of start.active)) (acts_of (changes_in reading items))
      ∙ ap (λ (t : Bool). t || list_any (consumes c) (acts_of (changes_in reading items))) (left_unused c start.active)
      ∙ any_in reading (consumes c) items o

  abbrev hosted : ActiveRow → Bool
  hosted a = is_stakeholder_hosted reading party a.known.instance

  -- a row of what was created isn't gone
  abbrev is_kept : ActiveRow → Bool
  is_kept a = not (is_gone start a.known.id)

  kept_all : (rows : List ActiveRow) → ((c : Hash) → is_gone start c ≡ true → length (filter (is_row_of c) rows) ≤ 0) → filter is_kept rows ≡ rows
  kept_all [] h = refl
  kept_all (a ∷ rows) h = elim (cases_Bool (is_gone start a.known.id)) [
    | inl gone ↦ absurd (some_there (h a.known.id gone) (equal_bytes a.known.id))
    | inr out ↦ rw out (ap (λ (rs : List ActiveRow). a ∷ rs) (kept_all rows (λ c g. fewer c (h c g))))
  ]
    where
      some_there : length (filter (is_row_of a.known.id) (a ∷ rows)) ≤ 0 → is_row_of a.known.id a ≡ true → ⊥
      some_there k e =
          let w : suc (length (filter (is_row_of a.known.id) rows)) ≤ 0 =
          subst (λ (t : Bool). length (cond t (a ∷ filter (is_row_of a.known.id) rows) (filter (is_row_of a.known.id) rows)) ≤ 0) e k in
          omega (arith, w)

      fewer : (c : Hash) → length (filter (is_row_of c) (a ∷ rows)) ≤ 0 → length (filter (is_row_of c) rows) ≤ 0
      fewer c k = by (is_row_of c a) k
        where
          by : (t : Bool) → length (cond t (a ∷ filter (is_row_of c) rows) (filter (is_row_of c) rows)) ≤ 0 → length (filter (is_row_of c) rows) ≤ 0
          by true k = omega (arith, k)
          by false k = k

  none_counted : (f : Act → Bool) (xs : List Act) → list_any f xs ≡ false → length (filter f xs) ≤ 0
  none_counted f [] e = omega arith
  none_counted f (x ∷ xs) e = elim (cases_Bool (f x)) [
    | inl yes' ↦ let wrong : true ≡ false = sym (ap (λ (t : Bool). t || list_any f xs) yes') ∙ e in absurd (cc)
    | inr no' ↦ rw no' (none_counted f xs (sym (ap (λ (t : Bool). t || list_any f xs) no') ∙ e))
  ]

  none_of_gone : b ≤ n → (c : Hash) → is_gone start c ≡ true → length (filter (is_row_of c) (by_place n (created_rows ps))) ≤ 0
  none_of_gone le c gone =
      subst (λ (k : ℕ). k ≤ 0) (sym (as_many_placed n (created_rows ps) (below_end le) c ∙ as_many_rows c ps)) (none_counted (creates c) (acts_of ps) (none_gone c gone))

  both_turned : (a h : Bool) → (h && a) ≡ (a && h)
  both_turned true true = refl
  both_turned true false = refl
  both_turned false true = refl
  both_turned false false = refl

  pub offered_within : b ≤ n → filter hosted (active_rows (written ps [])) ≡ active_kept reading party start items n
  offered_within le =
      let all = by_place n (created_rows ps) in
      ap (filter hosted) (active_placed n ps once (below_end le))
      ∙ filter_both hosted (is_left (acts_of ps)) (is_active_row reading party since) all
      (λ a. ap (λ (t : Bool). hosted a && not t) (sym (used a.known.id)))
      ∙ ap (filter (is_active_row reading party since)) (sym (kept_all all (none_of_gone le)))
      ∙ filter_both (is_active_row reading party since) is_kept (is_active_since reading party start since) all
      (λ a. both_turned (is_active_row reading party since a) (is_kept a))
      ∙ ap (filter (is_active_since reading party start since)) (sym (first_once all (placed_once n (created_rows ps) (below_end le) (rows_once ps once))))
      ∙ ap (λ (rows : List ActiveRow). filter (is_active_since reading party start since) (first_of_each rows)) (placed le)

pub offered_is_active : OfferedIsActive
offered_is_active reading party b start items o stands once none_gone le = offered_within reading party b start items o stands once none_gone le

pub offered_is_node_active : OfferedIsNodeActive
offered_is_node_active reading party items o once =
    offered_is_active reading party 0 no_start items o (record { order = tt; below = All-nil (λ (a : ActiveRow). a.created_at < 0); silent = λ m lt. absurd (omega (arith, lt)) }) once
    (λ c gone. let wrong : true ≡ false = sym gone in absurd (cc)) (omega arith)
