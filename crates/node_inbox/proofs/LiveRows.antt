-- A change of a contract, as it is put behind the contract's id.
use Rattle.std.proofs.Common.{◌≡◌, ℕ, Bool, true, false, cond, List, [], ◌∷◌, Some, None, refl, sym, ap, ◌∙◌}
use Rattle.std.specs.Prelude.{if◌then◌else◌, is_some}
use Rattle.std.specs.Map.{lookup, values_of}
use Rattle.std.specs.Str.{bytes_eq}
use Rattle.indexmap.specs.IndexMap.{insert_entry}
use Rattle.ledger_terms.specs.declared.known.Known.{Known}
use Rattle.ledger_model.specs.Terms.{Hash}
use Rattle.ledger_model.specs.declared.status.Status.TheVariants.{Unknown, Active, Consumed}
use Rattle.contract_store.specs.Rows.{is_of, put, created, consumed, row_of, status_in, status_of}
use Rattle.contract_store.specs.declared.row.StoreRow.{StoreRow}
use Rattle.contract_store.proofs.Maps.{same_bytes, equal_bytes}
use Rattle.inbox_registry.specs.ChangeLists.{write_change}
use Rattle.inbox_registry.specs.declared.change.Change.{Change}
use Rattle.node_inbox.specs.KeptActive.{is_consumed}
use Rattle.node_inbox.specs.LiveRows.{AreById, changed_row, has_consumed_row, new_row, row_after}

bytes_sym : (a b : Hash) → bytes_eq a b ≡ bytes_eq b a
bytes_sym a b = by (bytes_eq a b) refl (bytes_eq b a) refl
  where
    by : (x : Bool) → bytes_eq a b ≡ x → (y : Bool) → bytes_eq b a ≡ y → x ≡ y
    by true e true h = refl
    by false e false h = refl
    by true e false h = (let w = same_bytes a b e in let u : true ≡ false = sym (equal_bytes b) ∙ ap (bytes_eq b) (sym w) ∙ h in cc)
    by false e true h = (let w = same_bytes b a h in let u : true ≡ false = sym (equal_bytes a) ∙ ap (bytes_eq a) (sym w) ∙ e in cc)

-- the row of a contract that has none
abbrev row_by : ℕ → Change → StoreRow
row_by place change = row_after place change None

known_changed : (place : ℕ) (is_create : Bool) (row : StoreRow) → (changed_row place is_create row).known ≡ row.known
known_changed place true row = refl
known_changed place false row = refl

as_put : (place : ℕ) (change : Change) (rows : List StoreRow)
    → write_change place change rows ≡ put (changed_row place change.is_create) (row_by place change) rows
as_put place change rows = by change.is_create
  where
    by : (b : Bool) → (if b then created change.known place rows else consumed change.known place rows)
        ≡ put (changed_row place b) (changed_row place b (new_row change.known)) rows
    by true = refl
    by false = refl

module _ (place : ℕ) (change : Change) where
  abbrev id_in : Hash
  id_in = change.known.id

  abbrev after : List (Hash × StoreRow) → StoreRow
  after entries = row_after place change (lookup (bytes_eq id_in) entries)

  -- the row of the id is the contract's
  same_test : (entry : Hash × StoreRow) → entry.0 ≡ entry.1.known.id → is_of (row_by place change).known.id entry.1 ≡ bytes_eq id_in entry.0
  same_test entry keyed =
      ap (λ (k : Known). bytes_eq entry.1.known.id k.id) (known_changed place change.is_create (new_row change.known))
      ∙ ap (λ (id : Hash). bytes_eq id id_in) (sym keyed)
      ∙ bytes_sym entry.0 id_in

  inserted : (entries : List (Hash × StoreRow)) → AreById entries
      → values_of (insert_entry bytes_eq entries id_in (after entries)) ≡ put (changed_row place change.is_create) (row_by place change) (values_of entries)
  inserted [] keyed = refl
  inserted (entry ∷ entries) keyed =
      by (bytes_eq id_in entry.0) (inserted entries keyed.1)
      ∙ ap (λ (b : Bool). if b then changed_row place change.is_create entry.1 ∷ values_of entries
      else entry.1 ∷ put (changed_row place change.is_create) (row_by place change) (values_of entries)) (sym (same_test entry keyed.0))
    where
      by : (b : Bool)
          → values_of (insert_entry bytes_eq entries id_in (after entries)) ≡ put (changed_row place change.is_create) (row_by place change) (values_of entries)
          → values_of (if b then (entry.0, row_after place change (cond b (Some entry.1) (lookup (bytes_eq id_in) entries))) ∷ entries
          else entry ∷ insert_entry bytes_eq entries id_in (row_after place change (cond b (Some entry.1) (lookup (bytes_eq id_in) entries))))
          ≡ (if b then changed_row place change.is_create entry.1 ∷ values_of entries
          else entry.1 ∷ put (changed_row place change.is_create) (row_by place change) (values_of entries))
      by true rest = refl
      by false rest = ap (λ (rows : List StoreRow). entry.1 ∷ rows) rest

  -- a change writes the row behind its contract's id
  pub writes : (entries : List (Hash × StoreRow)) → AreById entries
      → values_of (insert_entry bytes_eq entries id_in (after entries)) ≡ write_change place change (values_of entries)
  writes entries keyed = inserted entries keyed ∙ sym (as_put place change (values_of entries))

  -- and each row stays behind its own
  pub stays_by_id : (entries : List (Hash × StoreRow)) → AreById entries → AreById (insert_entry bytes_eq entries id_in (after entries))
  stays_by_id [] keyed = (ap (λ (k : Known). k.id) (sym (known_changed place change.is_create (new_row change.known))), tt)
  stays_by_id (entry ∷ entries) keyed = by (bytes_eq id_in entry.0) (stays_by_id entries keyed.1)
    where
      by : (b : Bool) → AreById (insert_entry bytes_eq entries id_in (after entries))
          → AreById (if b then (entry.0, row_after place change (cond b (Some entry.1) (lookup (bytes_eq id_in) entries))) ∷ entries
          else entry ∷ insert_entry bytes_eq entries id_in (row_after place change (cond b (Some entry.1) (lookup (bytes_eq id_in) entries))))
      by true rest = (keyed.0 ∙ ap (λ (k : Known). k.id) (sym (known_changed place change.is_create entry.1)), keyed.1)
      by false rest = (keyed.0, rest)

-- the contract of an id was consumed where the row behind it says so
pub consumed_behind : (id : Hash) (entries : List (Hash × StoreRow)) → AreById entries
    → is_consumed (status_in (values_of entries) id) ≡ has_consumed_row (lookup (bytes_eq id) entries)
consumed_behind id [] keyed = refl
consumed_behind id (entry ∷ entries) keyed =
    ap (λ (b : Bool). is_consumed (status_of (cond b (Some entry.1) (row_of id (values_of entries))))) same
    ∙ by (bytes_eq id entry.0) (consumed_behind id entries keyed.1)
  where
    same : is_of id entry.1 ≡ bytes_eq id entry.0
    same = ap (λ (h : Hash). bytes_eq h id) (sym keyed.0) ∙ bytes_sym entry.0 id

    here : (consumed created : Bool) → is_consumed (if consumed then Consumed else if created then Active else Unknown) ≡ consumed
    here true created = refl
    here false true = refl
    here false false = refl

    by : (b : Bool) → is_consumed (status_in (values_of entries) id) ≡ has_consumed_row (lookup (bytes_eq id) entries)
        → is_consumed (status_of (cond b (Some entry.1) (row_of id (values_of entries))))
        ≡ has_consumed_row (cond b (Some entry.1) (lookup (bytes_eq id) entries))
    by true rest = here (is_some entry.1.consumed_at) (is_some entry.1.created_at)
    by false rest = rest
