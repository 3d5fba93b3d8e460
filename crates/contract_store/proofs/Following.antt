-- A store follows the actions that are written into it.
use Rattle.std.proofs.Common.{◌≡◌, ℕ, Bool, true, false, cond, List, [], ◌∷◌, Option, Some, None, is_some, refl, ap, ◌∙◌, subst}
use Rattle.std.specs.Prelude.{if◌then◌else◌, ◌||◌, ◌&&◌, not, nat_eq}
use Rattle.std.specs.List.{list_any}
use Rattle.std.specs.Str.{bytes_eq}
use Rattle.ledger_terms.specs.declared.action.Action.{Action}
use Rattle.ledger_terms.specs.declared.action.Action.TheVariants.{Create, Exercise, Fetch}
use Rattle.ledger_model.specs.Terms.{Hash, id_of, is_create, is_consuming, creates, consumes}
use Rattle.ledger_model.specs.Status.{status_after, is_locked_by}
use Rattle.ledger_model.specs.declared.status.Status.TheVariants.{Unknown, Active, Consumed}
use Rattle.contract_store.specs.declared.row.StoreRow.{StoreRow}
use Rattle.contract_store.specs.Rows.{is_of, row_of, row_id, put, created, consumed, with_created, with_consumed, status_of, status_in}
use Rattle.contract_store.specs.Holds.{released}
use Rattle.contract_store.specs.Stored.{is_held}
use Rattle.contract_store.specs.Written.{Placed, contract_of, is_change, write, written, holding, acts_of, without}
use Rattle.contract_store.proofs.Maps.{same_bytes}

-- what the contract's row becomes, or the new one
abbrev changed : (StoreRow → StoreRow) → StoreRow → Option StoreRow → StoreRow
changed f new None = new
changed f new (Some row) = f row

row_of-put : (f : StoreRow → StoreRow) → ((r : StoreRow) → row_id (f r) ≡ row_id r) → (new : StoreRow) (c : Hash) (rows : List StoreRow)
    → row_of c (put f new rows) ≡ (if bytes_eq (row_id new) c then Some (changed f new (row_of (row_id new) rows)) else row_of c rows)
row_of-put f keeps new c [] = refl
row_of-put f keeps new c (r ∷ rows) = by (is_of (row_id new) r) refl (bytes_eq (row_id new) c) refl (row_of-put f keeps new c rows)
  where
    by : (t : Bool) → is_of (row_id new) r ≡ t → (u : Bool) → bytes_eq (row_id new) c ≡ u
        → row_of c (put f new rows) ≡ (if u then Some (changed f new (row_of (row_id new) rows)) else row_of c rows)
        → row_of c (if t then f r ∷ rows else r ∷ put f new rows) ≡
        (if u then Some (changed f new (cond t (Some r) (row_of (row_id new) rows))) else cond (is_of c r) (Some r) (row_of c rows))
    by true e true h rest =
        (let w : row_id r ≡ row_id new = same_bytes (row_id r) (row_id new) e in
        let v : is_of c (f r) ≡ true = ap (λ k. bytes_eq k c) (keeps r ∙ w) ∙ h in
        rw v refl)
    by true e false h rest =
        (let w : row_id r ≡ row_id new = same_bytes (row_id r) (row_id new) e in
        let v : is_of c (f r) ≡ false = ap (λ k. bytes_eq k c) (keeps r ∙ w) ∙ h in
        let x : is_of c r ≡ false = ap (λ k. bytes_eq k c) w ∙ h in
        rw (v, x) refl)
    by false e true h rest =
        (let w : row_id new ≡ c = same_bytes (row_id new) c h in
        let v : is_of c r ≡ false = subst (λ k. bytes_eq (row_id r) k ≡ false) w e in
        rw v rest)
    by false e false h rest = ap (λ (o : Option StoreRow). cond (is_of c r) (Some r) o) rest

abbrev says : (StoreRow → Bool) → Option StoreRow → Bool
says p None = false
says p (Some row) = p row

abbrev was_created : StoreRow → Bool
was_created row = is_some row.created_at

abbrev was_consumed : StoreRow → Bool
was_consumed row = is_some row.consumed_at

pub no_more : (b : Bool) → b ≡ (b || false)
no_more true = refl
no_more false = refl

pub one_more : (b : Bool) → true ≡ (b || true)
one_more true = refl
one_more false = refl

off : (b u : Bool) → b ≡ (b || (u && false))
off b true = no_more b
off b false = no_more b

abbrev pub new_created : Placed → StoreRow
new_created p = record { known = contract_of p.act; created_at = Some p.place; consumed_at = None }

abbrev pub new_consumed : Placed → StoreRow
new_consumed p = record { known = contract_of p.act; created_at = None; consumed_at = Some p.place }

module _ (p : Placed) (rows : List StoreRow) (c : Hash) where
  abbrev id_here : Hash
  id_here = id_of p.act.action

  abbrev after : Bool → Bool → List StoreRow
  after cr co = if cr then created (contract_of p.act) p.place rows else if co then consumed (contract_of p.act) p.place rows else rows

  row_created : (u : Bool) → bytes_eq id_here c ≡ u
      → row_of c (created (contract_of p.act) p.place rows) ≡
      (if u then Some (changed (with_created p.place) (new_created p) (row_of id_here rows)) else row_of c rows)
  row_created u h =
      row_of-put (with_created p.place) (λ r. refl) (new_created p) c rows
      ∙ ap (λ t. if t then Some (changed (with_created p.place) (new_created p) (row_of id_here rows)) else row_of c rows) h

  row_consumed : (u : Bool) → bytes_eq id_here c ≡ u
      → row_of c (consumed (contract_of p.act) p.place rows) ≡
      (if u then Some (changed (with_consumed p.place) (new_consumed p) (row_of id_here rows)) else row_of c rows)
  row_consumed u h =
      row_of-put (with_consumed p.place) (λ r. refl) (new_consumed p) c rows
      ∙ ap (λ t. if t then Some (changed (with_consumed p.place) (new_consumed p) (row_of id_here rows)) else row_of c rows) h

  is_created_now : (o : Option StoreRow) → was_created (changed (with_created p.place) (new_created p) o) ≡ true
  is_created_now None = refl
  is_created_now (Some r) = refl

  created_still : (o : Option StoreRow) → was_created (changed (with_consumed p.place) (new_consumed p) o) ≡ says was_created o
  created_still None = refl
  created_still (Some r) = refl

  is_consumed_now : (o : Option StoreRow) → was_consumed (changed (with_consumed p.place) (new_consumed p) o) ≡ true
  is_consumed_now None = refl
  is_consumed_now (Some r) = refl

  consumed_still : (o : Option StoreRow) → was_consumed (changed (with_created p.place) (new_created p) o) ≡ says was_consumed o
  consumed_still None = refl
  consumed_still (Some r) = refl

  created-after : (cr co : Bool) → says was_created (row_of c (after cr co)) ≡ (says was_created (row_of c rows) || (bytes_eq id_here c && cr))
  created-after true co = by (bytes_eq id_here c) refl
    where
      by : (u : Bool) → bytes_eq id_here c ≡ u
          → says was_created (row_of c (created (contract_of p.act) p.place rows)) ≡ (says was_created (row_of c rows) || (u && true))
      by true h = ap (says was_created) (row_created true h) ∙ is_created_now (row_of id_here rows) ∙ one_more (says was_created (row_of c rows))
      by false h = ap (says was_created) (row_created false h) ∙ no_more (says was_created (row_of c rows))
  created-after false true = by (bytes_eq id_here c) refl
    where
      by : (u : Bool) → bytes_eq id_here c ≡ u
          → says was_created (row_of c (consumed (contract_of p.act) p.place rows)) ≡ (says was_created (row_of c rows) || (u && false))
      by true h =
          ap (says was_created) (row_consumed true h) ∙ created_still (row_of id_here rows)
          ∙ ap (λ k. says was_created (row_of k rows)) (same_bytes id_here c h) ∙ off (says was_created (row_of c rows)) true
      by false h = ap (says was_created) (row_consumed false h) ∙ no_more (says was_created (row_of c rows))
  created-after false false = off (says was_created (row_of c rows)) (bytes_eq id_here c)

  consumed-after : (cr co : Bool) → (cr && co) ≡ false
      → says was_consumed (row_of c (after cr co)) ≡ (says was_consumed (row_of c rows) || (bytes_eq id_here c && co))
  consumed-after true true e = absurd (cc)
  consumed-after true false e = by (bytes_eq id_here c) refl
    where
      by : (u : Bool) → bytes_eq id_here c ≡ u
          → says was_consumed (row_of c (created (contract_of p.act) p.place rows)) ≡ (says was_consumed (row_of c rows) || (u && false))
      by true h =
          ap (says was_consumed) (row_created true h) ∙ consumed_still (row_of id_here rows)
          ∙ ap (λ k. says was_consumed (row_of k rows)) (same_bytes id_here c h) ∙ off (says was_consumed (row_of c rows)) true
      by false h = ap (says was_consumed) (row_created false h) ∙ no_more (says was_consumed (row_of c rows))
  consumed-after false true e = by (bytes_eq id_here c) refl
    where
      by : (u : Bool) → bytes_eq id_here c ≡ u
          → says was_consumed (row_of c (consumed (contract_of p.act) p.place rows)) ≡ (says was_consumed (row_of c rows) || (u && true))
      by true h = ap (says was_consumed) (row_consumed true h) ∙ is_consumed_now (row_of id_here rows) ∙ one_more (says was_consumed (row_of c rows))
      by false h = ap (says was_consumed) (row_consumed false h) ∙ no_more (says was_consumed (row_of c rows))
  consumed-after false false e = off (says was_consumed (row_of c rows)) (bytes_eq id_here c)

pub never_both : (a : Action) → (is_create a && is_consuming a) ≡ false
never_both (Create id instance) = refl
never_both (Exercise id salt instance choice args actors consuming result) = refl
never_both (Fetch id salt instance actors) = refl

pub or_or : (a b c : Bool) → ((a || b) || c) ≡ (a || (b || c))
or_or true b c = refl
or_or false b c = refl

-- after all of them
created-written : (ps : List Placed) (rows : List StoreRow) (c : Hash)
    → says was_created (row_of c (written ps rows)) ≡ (says was_created (row_of c rows) || list_any (creates c) (acts_of ps))
created-written [] rows c = no_more (says was_created (row_of c rows))
created-written (p ∷ ps) rows c =
    created-written ps (write p rows) c
    ∙ ap (λ b. b || list_any (creates c) (acts_of ps)) (created-after p rows c (is_create p.act.action) (is_consuming p.act.action))
    ∙ or_or (says was_created (row_of c rows)) (creates c p.act) (list_any (creates c) (acts_of ps))

consumed-written : (ps : List Placed) (rows : List StoreRow) (c : Hash)
    → says was_consumed (row_of c (written ps rows)) ≡ (says was_consumed (row_of c rows) || list_any (consumes c) (acts_of ps))
consumed-written [] rows c = no_more (says was_consumed (row_of c rows))
consumed-written (p ∷ ps) rows c =
    consumed-written ps (write p rows) c
    ∙ ap (λ b. b || list_any (consumes c) (acts_of ps))
    (consumed-after p rows c (is_create p.act.action) (is_consuming p.act.action) (never_both p.act.action))
    ∙ or_or (says was_consumed (row_of c rows)) (consumes c p.act) (list_any (consumes c) (acts_of ps))

status_says : (o : Option StoreRow) → status_of o ≡ (if says was_consumed o then Consumed else if says was_created o then Active else Unknown)
status_says None = refl
status_says (Some row) = refl

pub status_follows : (ps : List Placed) (c : Hash) → status_in (written ps []) c ≡ status_after (acts_of ps) c
status_follows ps c =
    status_says (row_of c (written ps []))
    ∙ ap (λ b. if b then Consumed else if says was_created (row_of c (written ps [])) then Active else Unknown) (consumed-written ps [] c)
    ∙ ap (λ b. if list_any (consumes c) (acts_of ps) then Consumed else if b then Active else Unknown) (created-written ps [] c)

change_on : (a b u : Bool) → ((u && a) || (u && b)) ≡ (u && (a || b))
change_on a b true = refl
change_on a b false = refl

-- the holds of the actions
pub locked_follows : (ps : List Placed) (c : Hash) → is_held (holding ps) c ≡ is_locked_by (acts_of ps) c
locked_follows [] c = refl
locked_follows (p ∷ ps) c =
    by (is_create p.act.action || is_consuming p.act.action)
    ∙ rw (locked_follows ps c, change_on (is_create p.act.action) (is_consuming p.act.action) (bytes_eq (id_of p.act.action) c)) refl
  where
    by : (t : Bool)
        → is_held (if t then record { id = id_of p.act.action; place = p.place } ∷ holding ps else holding ps) c ≡
        ((bytes_eq (id_of p.act.action) c && t) || is_held (holding ps) c)
    by true = ap (λ u. u || is_held (holding ps) c) (and_true (bytes_eq (id_of p.act.action) c))
      where
        and_true : (u : Bool) → u ≡ (u && true)
        and_true true = refl
        and_true false = refl
    by false = ap (λ u. u || is_held (holding ps) c) (and_false (bytes_eq (id_of p.act.action) c))
      where
        and_false : (u : Bool) → false ≡ (u && false)
        and_false true = refl
        and_false false = refl

pub released_follows : (ps : List Placed) (place : ℕ) → released place (holding ps) ≡ holding (without place ps)
released_follows [] place = refl
released_follows (p ∷ ps) place = by (is_change p.act) refl (not (nat_eq p.place place)) refl (released_follows ps place)
  where
    by : (t : Bool) → is_change p.act ≡ t → (u : Bool) → not (nat_eq p.place place) ≡ u → released place (holding ps) ≡ holding (without place ps)
        → released place (if t then record { id = id_of p.act.action; place = p.place } ∷ holding ps else holding ps) ≡ holding
        (cond u (p ∷ without place ps) (without place ps))
    by true e true h rest = rw (h, e) (ap (λ hs. record { id = id_of p.act.action; place = p.place } ∷ hs) rest)
    by true e false h rest = rw h rest
    by false e true h rest = rw e rest
    by false e false h rest = rest
