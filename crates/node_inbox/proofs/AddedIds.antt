-- The ids of contracts with a hosted stakeholder, as changes bring them into a store.
use Rattle.std.proofs.Common.{◌≡◌, ℕ, ◌+◌, ◌<◌, ◌≤◌, Bool, true, false, ◌&&◌, if◌then◌else◌, cond, List, [], ◌∷◌, ◌++◌, length, drop, take, get_or, map, Option, Some, None, is_some, inl, inr, refl, sym, ap, ◌∙◌, subst, append-nil, append_assoc, true≢false, arith}
use Rattle.std.specs.Prelude.{◌||◌, nat_le, not}
use Rattle.std.specs.Str.{bytes_eq}
use Rattle.indexmap.specs.IndexMap.{IndexMap, get, keys}
use Rattle.std.proofs.lemmas.Bool.{cases_Bool, leb-false, leb-true}
use Rattle.std.specs.List.{list_any}
use Rattle.std.proofs.lemmas.List.{drop_more, get_or-take, length-take, map_more, take_all}
use Rattle.std.proofs.Math.Nat.{min-le_left}
use Rattle.std.proofs.lemmas.List.Folds.{list_any-append}
use Rattle.std.proofs.Math.ListN.{drop_of_length-le}
use Rattle.ledger_terms.specs.declared.known.Known.{Known}
use Rattle.ledger_model.specs.Terms.{Hash, ParticipantId, is_consuming, is_create}
use Rattle.canton_model.specs.Inbox.{is_stakeholder_hosted}
use Rattle.canton_model.specs.Reading.{Reading}
use Rattle.contract_store.specs.Rows.{consumed, created, is_of, put, row_of, smaller, status_in, status_of, with_consumed, with_created}
use Rattle.contract_store.specs.Written.{Placed, contract_of, write, written}
use Rattle.contract_store.specs.declared.row.StoreRow.{StoreRow}
use Rattle.contract_store.proofs.Maps.{equal_bytes, same_bytes, there}
use Rattle.inbox_registry.specs.ChangeLists.{id_in, write_change, write_changes}
use Rattle.inbox_registry.specs.declared.change.Change.{Change}
use Rattle.prepare_request.specs.Hosted.{AreTold, is_among}
use Rattle.node_inbox.specs.AddedIds.{added_behind, added_by, are_new, is_new, is_on, is_unheard, is_unknown}

either : (a b : Hash) → bytes_eq a b ≡ bytes_eq b a
either a b = elim (cases_Bool (bytes_eq a b)) [
  | inl same ↦ same ∙ sym (ap (λ c. bytes_eq b c) (same_bytes a b same) ∙ equal_bytes b)
  | inr apart ↦ elim (cases_Bool (bytes_eq b a)) [
    | inl same ↦ absurd (true≢false (sym (equal_bytes a) ∙ (ap (bytes_eq a) (sym (same_bytes b a same)) ∙ apart)))
    | inr other ↦ apart ∙ sym other
  ]
]

-- ---- ids put among others

-- a key that is put into a map is among its keys, with those that were
pub put_among : {X S : Type 0} (m n : IndexMap (List ℕ) X S) (k : List ℕ) (v : X)
    (put : (q : List ℕ) → get bytes_eq n q ≡ cond (bytes_eq k q) (Some v) (get bytes_eq m q)) (q : List ℕ)
    → is_among (keys n) q ≡ (bytes_eq k q || is_among (keys m) q)
put_among m n k v put q = sym (there n q) ∙ (ap is_some (put q) ∙ by (bytes_eq k q))
  where
    by : (b : Bool) → is_some (cond b (Some v) (get bytes_eq m q)) ≡ (b || is_among (keys m) q)
    by true = refl
    by false = there m q

or_behind : (r x h : Bool) → (r || (x || h)) ≡ ((x || r) || h)
or_behind true true h = refl
or_behind true false h = refl
or_behind false x h = by x
  where
    by : (t : Bool) → (t || h) ≡ ((t || false) || h)
    by true = refl
    by false = refl

pub put_step : (ids : List Hash) (i : ℕ) (x : Hash) (old new : List Hash) (c : Hash) (all : Bool) → i < length ids → x ≡ get_or ids i x
    → is_among new c ≡ (bytes_eq x c || is_among old c) → (is_among (drop i ids) c || is_among old c) ≡ all
    → (is_among (drop (i + 1) ids) c || is_among new c) ≡ all
put_step ids i x old new c all lt at among before =
    let rest = drop (i + 1) ids in
    let next : drop i ids ≡ x ∷ rest = drop_more ids i x lt ∙ ap (λ (y : Hash). y ∷ rest) (sym at) in
    ap (λ (b : Bool). is_among rest c || b) (among ∙ ap (λ (b : Bool). b || is_among old c) (either x c))
    ∙ (or_behind (is_among rest c) (bytes_eq c x) (is_among old c)
    ∙ (ap (λ (xs : List Hash). is_among xs c || is_among old c) (sym next) ∙ before))

pub put_end : (ids : List Hash) (i : ℕ) (old : List Hash) (c : Hash) (all : Bool) → length ids ≤ i → (is_among (drop i ids) c || is_among old c) ≡ all
    → is_among old c ≡ all
put_end ids i old c all past before = rw (drop_of_length-le ids past) at before

-- ---- the first changes, and the contracts of later ones

-- whether one of them is on a contract
pub on_one : (changes : List Change) (c : Hash) → list_any (is_on c) changes ≡ is_among (map id_in changes) c
on_one [] c = refl
on_one (change ∷ changes) c = ap (λ (b : Bool). bytes_eq c change.known.id || b) (on_one changes c)

-- the contracts of first changes and later ones
pub among_both : (first : List Change) (later : List Hash) (c : Hash)
    → is_among (map id_in first ++ later) c ≡ (list_any (is_on c) first || is_among later c)
among_both first later c =
    list_any-append (bytes_eq c) (map id_in first) later ∙ ap (λ (b : Bool). b || is_among later c) (sym (on_one first c))

first_more : (x y : Bool) (a l : Bool) → x ≡ y → ((a || (x || false)) || l) ≡ (y || (a || l))
first_more x y a l e = ap (λ (b : Bool). (a || (b || false)) || l) e ∙ by a y
  where
    by : (a y : Bool) → ((a || (y || false)) || l) ≡ (y || (a || l))
    by true true = refl
    by true false = refl
    by false true = refl
    by false false = refl

later_more : (x a l : Bool) → (a || (x || l)) ≡ (x || (a || l))
later_more true true l = refl
later_more true false l = refl
later_more false a l = refl

-- one change more is among the first ones, or its contract is put to those of later ones
pub changed_step : (changes : List Change) (n i : ℕ) (x : Change) (few : List Change) (old new : List Hash)
    → few ≡ take n changes → i < length changes → x ≡ get_or changes i x
    → ((c : Hash) → is_among new c ≡ ((nat_le (length few) i && bytes_eq x.known.id c) || is_among old c)) → (c : Hash)
    → is_among (map id_in (take (i + 1) few) ++ new) c ≡ (bytes_eq x.known.id c || is_among (map id_in (take i few) ++ old) c)
changed_step changes n i x few old new is_few lt at among c = by (nat_le (length few) i) refl (among c)
  where
    both : (first : List Change) (later : List Hash) → is_among (map id_in first ++ later) c ≡ (is_among (map id_in first) c || is_among later c)
    both first later = list_any-append (bytes_eq c) (map id_in first) later

    by : (b : Bool) → nat_le (length few) i ≡ b → is_among new c ≡ ((b && bytes_eq x.known.id c) || is_among old c)
        → is_among (map id_in (take (i + 1) few) ++ new) c ≡ (bytes_eq x.known.id c || is_among (map id_in (take i few) ++ old) c)
    by true e put =
        let all : length few ≤ i = leb-true (length few) i e in
        let more : length few ≤ i + 1 = omega (arith, all) in
        ap (λ (xs : List Change). is_among (map id_in xs ++ new) c) (take_all (i + 1) few more)
        ∙ (both few new
        ∙ (ap (λ (b : Bool). is_among (map id_in few) c || b) put
        ∙ (later_more (bytes_eq x.known.id c) (is_among (map id_in few) c) (is_among old c)
        ∙ ap (λ (b : Bool). bytes_eq x.known.id c || b)
        (sym (both few old) ∙ ap (λ (xs : List Change). is_among (map id_in xs ++ old) c) (sym (take_all i few all))))))
    by false e put =
        let here : i < length few = leb-false (length few) i e in
        let short : length few ≤ n = rw (is_few, length-take n changes) (min-le_left n (length changes)) in
        let same : get_or few i x ≡ x =
        ap (λ (xs : List Change). get_or xs i x) is_few ∙ (get_or-take n changes i x (omega (arith, here, short)) ∙ sym at) in
        let ids : List Hash = map id_in (take i few) in
        let last : Change = get_or few i x in
        both (take (i + 1) few) new
        ∙ (ap (λ (xs : List Hash). is_among xs c || is_among new c) (map_more id_in few i x here)
        ∙ (ap (λ (b : Bool). b || is_among new c) (list_any-append (bytes_eq c) ids (last.known.id ∷ []))
        ∙ (ap (λ (b : Bool). (is_among ids c || (bytes_eq c last.known.id || false)) || b) put
        ∙ (first_more (bytes_eq c last.known.id) (bytes_eq x.known.id c) (is_among ids c) (is_among old c)
        (ap (λ (y : Change). bytes_eq c y.known.id) same ∙ either c x.known.id)
        ∙ ap (λ (b : Bool). bytes_eq x.known.id c || b) (sym (both (take i few) old))))))

-- ---- changes one after another

module _ (reading : Reading) (p : ParticipantId) (rows : List StoreRow) where
  added_alike : (s t : List Hash) → ((c : Hash) → is_among s c ≡ is_among t c) → (changes : List Change)
      → added_behind reading p rows s changes ≡ added_behind reading p rows t changes
  added_alike s t same [] = refl
  added_alike s t same (change ∷ rest) =
      ap (λ (b : Bool). (if (change.is_create && (is_unknown (status_in rows change.known.id) && not b)) && is_stakeholder_hosted reading p change.known.instance
      then change.known.id ∷ [] else []) ++ added_behind reading p rows (change.known.id ∷ s) rest) (same change.known.id)
      ∙ ap (λ (ids : List Hash). added_by reading p rows t change ++ ids)
      (added_alike (change.known.id ∷ s) (change.known.id ∷ t) (λ c. ap (λ (b : Bool). bytes_eq c change.known.id || b) (same c)) rest)

  pub added_step : (changes : List Change) (i : ℕ) (x : Change) (old new all s t : List Hash) → i < length changes → x ≡ get_or changes i x
      → new ≡ old ++ added_by reading p rows s x → ((c : Hash) → is_among t c ≡ (bytes_eq x.known.id c || is_among s c))
      → old ++ added_behind reading p rows s (drop i changes) ≡ all → new ++ added_behind reading p rows t (drop (i + 1) changes) ≡ all
  added_step changes i x old new all s t lt at grown among before =
      let rest = drop (i + 1) changes in
      let next : drop i changes ≡ x ∷ rest = drop_more changes i x lt ∙ ap (λ (y : Change). y ∷ rest) (sym at) in
      ap (λ (ids : List Hash). ids ++ added_behind reading p rows t rest) grown
      ∙ (append_assoc old (added_by reading p rows s x) (added_behind reading p rows t rest)
      ∙ (ap (λ (ids : List Hash). old ++ (added_by reading p rows s x ++ ids))
      (added_alike t (x.known.id ∷ s) (λ c. among c ∙ ap (λ (b : Bool). b || is_among s c) (either x.known.id c)) rest)
      ∙ (ap (λ (cs : List Change). old ++ added_behind reading p rows s cs) (sym next) ∙ before)))

  pub added_end : (changes : List Change) (i : ℕ) (old all s : List Hash) → length changes ≤ i → old ++ added_behind reading p rows s (drop i changes) ≡ all
      → old ≡ all
  added_end changes i old all s past before = sym (append-nil old) ∙ (rw (drop_of_length-le changes past) at before)

-- whether all that these create is new
module _ (rows : List StoreRow) where
  new_alike : (s t : List Hash) → ((c : Hash) → is_among s c ≡ is_among t c) → (changes : List Change)
      → are_new rows s changes ≡ are_new rows t changes
  new_alike s t same [] = refl
  new_alike s t same (change ∷ rest) =
      ap (λ (b : Bool). (not change.is_create || (is_unknown (status_in rows change.known.id) && not b)) && are_new rows (change.known.id ∷ s) rest)
      (same change.known.id)
      ∙ ap (λ (b : Bool). (not change.is_create || is_unheard rows t change.known.id) && b)
      (new_alike (change.known.id ∷ s) (change.known.id ∷ t) (λ c. ap (λ (b : Bool). bytes_eq c change.known.id || b) (same c)) rest)

  pub new_step : (changes : List Change) (i : ℕ) (x : Change) (old new all : Bool) (s t : List Hash) → i < length changes → x ≡ get_or changes i x
      → new ≡ (old && (is_new rows s x || not x.is_create)) → ((c : Hash) → is_among t c ≡ (bytes_eq x.known.id c || is_among s c))
      → (old && are_new rows s (drop i changes)) ≡ all → (new && are_new rows t (drop (i + 1) changes)) ≡ all
  new_step changes i x old new all s t lt at grown among before =
      let rest = drop (i + 1) changes in
      let next : drop i changes ≡ x ∷ rest = drop_more changes i x lt ∙ ap (λ (y : Change). y ∷ rest) (sym at) in
      ap (λ (b : Bool). b && are_new rows t rest) grown
      ∙ (ap (λ (b : Bool). (old && (is_new rows s x || not x.is_create)) && b)
      (new_alike t (x.known.id ∷ s) (λ c. among c ∙ ap (λ (b : Bool). b || is_among s c) (either x.known.id c)) rest)
      ∙ (by old x.is_create (is_unheard rows s x.known.id) (are_new rows (x.known.id ∷ s) rest)
      ∙ (ap (λ (cs : List Change). old && are_new rows s cs) (sym next) ∙ before)))
    where
      by : (o cr u r : Bool) → ((o && ((cr && u) || not cr)) && r) ≡ (o && ((not cr || u) && r))
      by true true true r = refl
      by true true false r = refl
      by true false u r = refl
      by false cr u r = refl

  pub new_end : (changes : List Change) (i : ℕ) (old all : Bool) (s : List Hash) → length changes ≤ i → (old && are_new rows s (drop i changes)) ≡ all
      → old ≡ all
  new_end changes i old all s past before = by old ∙ (rw (drop_of_length-le changes past) at before)
    where
      by : (b : Bool) → b ≡ (b && true)
      by true = refl
      by false = refl

-- ---- rows that say something of their contracts

abbrev Says : StoreRow → Type 0
Says row = is_unknown (status_of (Some row)) ≡ false

abbrev pub AllSay : List StoreRow → Type 0
AllSay [] = Unit {0}
AllSay (row ∷ rows) = Says row × AllSay rows

created_says : (place : ℕ) (row : StoreRow) → Says (with_created place row)
created_says place row = by row.consumed_at
  where
    by : (o : Option ℕ) → Says (record { known = row.known; created_at = Some (smaller row.created_at place); consumed_at = o })
    by None = refl
    by (Some q) = refl

say_put : (f : StoreRow → StoreRow) (new : StoreRow) → ((row : StoreRow) → Says (f row)) → Says new → (rows : List StoreRow) → AllSay rows → AllSay (put f new rows)
say_put f new changed fresh [] say = (fresh, tt)
say_put f new changed fresh (row ∷ rows) say = by (is_of new.known.id row) (say_put f new changed fresh rows say.1)
  where
    by : (b : Bool) → AllSay (put f new rows) → AllSay (if b then f row ∷ rows else row ∷ put f new rows)
    by true rest = (changed row, say.1)
    by false rest = (say.0, rest)

say_written : (ps : List Placed) (rows : List StoreRow) → AllSay rows → AllSay (written ps rows)
say_written [] rows say = say
say_written (x ∷ ps) rows say = say_written ps (write x rows) (by (is_create x.act.action) (is_consuming x.act.action))
  where
    by : (cr co : Bool) → AllSay (if cr then created (contract_of x.act) x.place rows else if co then consumed (contract_of x.act) x.place rows else rows)
    by true co = say_put (with_created x.place) _ (created_says x.place) refl rows say
    by false true = say_put (with_consumed x.place) _ (λ row. refl) refl rows say
    by false false = say

pub all_say : (ps : List Placed) (rows : List StoreRow) → rows ≡ written ps [] → AllSay rows
all_say ps rows e = subst AllSay (sym e) (say_written ps [] tt)

-- nothing is known exactly of a contract without a row
unknown_is : (rows : List StoreRow) (c : Hash) → AllSay rows → is_unknown (status_in rows c) ≡ not (is_some (row_of c rows))
unknown_is [] c say = refl
unknown_is (row ∷ rows) c say = by (is_of c row) (unknown_is rows c say.1)
  where
    by : (b : Bool) → is_unknown (status_in rows c) ≡ not (is_some (row_of c rows))
        → is_unknown (status_of (cond b (Some row) (row_of c rows))) ≡ not (is_some (cond b (Some row) (row_of c rows)))
    by true rest = say.0
    by false rest = rest

-- ---- which contracts have rows

has_row : (f : StoreRow → StoreRow) → ((s : StoreRow) → (f s).known.id ≡ s.known.id) → (new : StoreRow) (rows : List StoreRow) (c : Hash)
    → is_some (row_of c (put f new rows)) ≡ (is_of c new || is_some (row_of c rows))
has_row f same_id new [] c = by (is_of c new)
  where
    by : (t : Bool) → is_some (cond t (Some new) None) ≡ (t || false)
    by true = refl
    by false = refl
has_row f same_id new (x ∷ rows) c = by (is_of new.known.id x) refl (has_row f same_id new rows c)
  where
    here : (t : Bool) → is_some (cond t (Some (f x)) (row_of c rows)) ≡ (t || is_some (cond t (Some x) (row_of c rows)))
    here true = refl
    here false = refl

    there : (s t : Bool) → is_some (row_of c (put f new rows)) ≡ (t || is_some (row_of c rows))
        → is_some (cond s (Some x) (row_of c (put f new rows))) ≡ (t || is_some (cond s (Some x) (row_of c rows)))
    there true true rest = refl
    there true false rest = refl
    there false t rest = rest

    by : (b : Bool) → is_of new.known.id x ≡ b → is_some (row_of c (put f new rows)) ≡ (is_of c new || is_some (row_of c rows))
        → is_some (row_of c (if b then f x ∷ rows else x ∷ put f new rows)) ≡ (is_of c new || is_some (row_of c (x ∷ rows)))
    by true e rest =
        let same : x.known.id ≡ new.known.id = same_bytes x.known.id new.known.id e in
        let f_is : is_of c (f x) ≡ is_of c x = ap (λ id. bytes_eq id c) (same_id x) in
        let new_is : is_of c x ≡ is_of c new = ap (λ id. bytes_eq id c) same in
        ap (λ (t : Bool). is_some (cond t (Some (f x)) (row_of c rows))) f_is
        ∙ (here (is_of c x) ∙ ap (λ (t : Bool). t || is_some (row_of c (x ∷ rows))) new_is)
    by false e rest = there (is_of c x) (is_of c new) rest

has_row_after : (place : ℕ) (change : Change) (rows : List StoreRow) (c : Hash)
    → is_some (row_of c (write_change place change rows)) ≡ (bytes_eq change.known.id c || is_some (row_of c rows))
has_row_after place change rows c = by change.is_create
  where
    by : (b : Bool) → is_some (row_of c (if b then created change.known place rows else consumed change.known place rows))
        ≡ (bytes_eq change.known.id c || is_some (row_of c rows))
    by true = has_row (with_created place) (λ s. refl) _ rows c
    by false = has_row (with_consumed place) (λ s. refl) _ rows c

-- ---- what ids tell

or_swap : (a b c : Bool) → ((a || b) || c) ≡ (b || (a || c))
or_swap true true c = refl
or_swap true false c = refl
or_swap false b c = refl

or_in : (a b c : Bool) → (a || (b || c)) ≡ (b || (a || c))
or_in true true c = refl
or_in true false c = refl
or_in false b c = refl

no_new : (a b : Bool) → (not a && not b) ≡ not (a || b)
no_new true b = refl
no_new false b = refl

-- what is proved of ids and one change
pub record TellsOn (reading : Reading) (p : ParticipantId) : Type 0 where
  pub hosted : (ids more : List Hash) (rows : List StoreRow) (known : Known) (place : ℕ) → AreTold reading p ids rows → row_of known.id rows ≡ None
      → is_stakeholder_hosted reading p known.instance ≡ true → ((c : Hash) → is_among more c ≡ (bytes_eq known.id c || is_among ids c))
      → AreTold reading p more (created known place rows)
  pub other : (ids : List Hash) (rows : List StoreRow) (known : Known) (place : ℕ) → AreTold reading p ids rows → row_of known.id rows ≡ None
      → is_stakeholder_hosted reading p known.instance ≡ false → AreTold reading p ids (created known place rows)
  pub again : (ids : List Hash) (rows : List StoreRow) (known : Known) (place : ℕ) (row : StoreRow) → AreTold reading p ids rows
      → row_of known.id rows ≡ Some row → AreTold reading p ids (created known place rows)
  pub consumed : (ids : List Hash) (rows : List StoreRow) (known : Known) (place : ℕ) → AreTold reading p ids rows
      → AreTold reading p ids (consumed known place rows)

module _ (reading : Reading) (p : ParticipantId) where
  same_told : (ids more : List Hash) (rows : List StoreRow) → ((c : Hash) → is_among more c ≡ is_among ids c) → AreTold reading p ids rows
      → AreTold reading p more rows
  same_told ids more rows same told =
      record { tell = λ row there e. same row.known.id ∙ told.tell row there e; of_rows = λ c e. same c ∙ told.of_rows c e }

  module _ (on : TellsOn reading p) (place : ℕ) (before : List StoreRow) (say : AllSay before) where
    new_is : (rows : List StoreRow) (changed : List Hash) (change : Change)
        → ((c : Hash) → is_some (row_of c rows) ≡ (is_some (row_of c before) || is_among changed c))
        → is_new before changed change ≡ (change.is_create && not (is_some (row_of change.known.id rows)))
    new_is rows changed change have =
        ap (λ (b : Bool). change.is_create && b)
        (ap (λ (b : Bool). b && not (is_among changed change.known.id)) (unknown_is before change.known.id say)
        ∙ (no_new (is_some (row_of change.known.id before)) (is_among changed change.known.id) ∙ ap not (sym (have change.known.id))))

    abbrev is_hosted : Change → Bool
    is_hosted change = is_stakeholder_hosted reading p change.known.instance

    one_told : (rows : List StoreRow) (ids changed : List Hash) (change : Change)
        → ((c : Hash) → is_some (row_of c rows) ≡ (is_some (row_of c before) || is_among changed c)) → AreTold reading p ids rows
        → AreTold reading p (added_by reading p before changed change ++ ids) (write_change place change rows)
    one_told rows ids changed change have told =
        subst (λ (b : Bool). AreTold reading p ((if b && is_hosted change then change.known.id ∷ [] else []) ++ ids) (write_change place change rows))
        (sym (new_is rows changed change have)) (by change.is_create (row_of change.known.id rows) refl (is_hosted change) refl)
      where
        by : (cr : Bool) (o : Option StoreRow) → row_of change.known.id rows ≡ o → (h : Bool) → is_hosted change ≡ h
            → AreTold reading p ((if (cr && not (is_some o)) && h then change.known.id ∷ [] else []) ++ ids)
            (if cr then created change.known place rows else consumed change.known place rows)
        by false o e h hosts = on.consumed ids rows change.known place told
        by true (Some row) e h hosts = on.again ids rows change.known place row told e
        by true None e true hosts =
            on.hosted ids (change.known.id ∷ ids) rows change.known place told e hosts
            (λ c. ap (λ (b : Bool). b || is_among ids c) (either c change.known.id))
        by true None e false hosts = on.other ids rows change.known place told e hosts

    -- the ids tell of the contracts after all changes
    pub all_told : (changes : List Change) (rows : List StoreRow) (ids changed more : List Hash)
        → ((c : Hash) → is_some (row_of c rows) ≡ (is_some (row_of c before) || is_among changed c)) → AreTold reading p ids rows
        → ((c : Hash) → is_among more c ≡ (is_among (added_behind reading p before changed changes) c || is_among ids c))
        → AreTold reading p more (write_changes place changes rows)
    all_told [] rows ids changed more have told among = same_told ids more rows among told
    all_told (change ∷ changes) rows ids changed more have told among =
        let added : List Hash = added_by reading p before changed change in
        let rest : List Hash = added_behind reading p before (change.known.id ∷ changed) changes in
        all_told changes (write_change place change rows) (added ++ ids) (change.known.id ∷ changed) more
        (λ c. has_row_after place change rows c
        ∙ (ap (λ (b : Bool). bytes_eq change.known.id c || b) (have c)
        ∙ (or_in (bytes_eq change.known.id c) (is_some (row_of c before)) (is_among changed c)
        ∙ ap (λ (b : Bool). is_some (row_of c before) || (b || is_among changed c)) (either change.known.id c))))
        (one_told rows ids changed change have told)
        (λ c. among c
        ∙ (ap (λ (b : Bool). b || is_among ids c) (list_any-append (bytes_eq c) added rest)
        ∙ (or_swap (is_among added c) (is_among rest c) (is_among ids c)
        ∙ ap (λ (b : Bool). is_among rest c || b) (sym (list_any-append (bytes_eq c) added ids)))))
