-- Ids tell of a store's contracts after each change of a row.
use Rattle.std.proofs.Common.{◌≡◌, ℕ, Bool, true, false, if◌then◌else◌, List, [], ◌∷◌, Option, Some}
use Rattle.std.proofs.Common.{None, find, refl, sym, ap, ◌∙◌, subst, inl, inr, true≢false}
use Rattle.std.specs.Prelude.{◌||◌, ◌⊎◌}
use Rattle.std.specs.Str.{bytes_eq}
use Rattle.std.proofs.lemmas.Bool.{cases_Bool}
use Rattle.std.proofs.lemmas.Option.{none-some}
use Rattle.ledger_terms.specs.declared.active_row.ActiveRow.{ActiveRow}
use Rattle.ledger_terms.specs.declared.known.Known.{Known}
use Rattle.ledger_model.specs.Terms.{Hash, ParticipantId}
use Rattle.ledger_model.proofs.Lists.{In, contains_from_In, in_from_Contains}
use Rattle.canton_model.specs.Inbox.{is_stakeholder_hosted}
use Rattle.canton_model.specs.Reading.{Reading}
use Rattle.contract_store.specs.Active.{row_if_active}
use Rattle.contract_store.specs.Rows.{consumed, created, is_of, put, row_of, smaller, with_consumed, with_created}
use Rattle.contract_store.specs.declared.row.StoreRow.{StoreRow}
use Rattle.contract_store.proofs.Maps.{equal_bytes, same_bytes}
use Rattle.prepare_request.specs.Hosted.{AreTold, TellHosted, is_among}

-- ---- rows after a change

abbrev Changed : (StoreRow → StoreRow) → List StoreRow → StoreRow → Type 0
Changed f rows r = (s : StoreRow) × In s rows × (f s ≡ r)

abbrev Added : StoreRow → List StoreRow → StoreRow → Type 0
Added new rows r = (row_of new.known.id rows ≡ None) × (new ≡ r)

-- a row after a change was there, or is what one became, or is new
in_put : (f : StoreRow → StoreRow) (new : StoreRow) (rows : List StoreRow) (r : StoreRow) → In r (put f new rows)
    → In r rows ⊎ (Changed f rows r ⊎ Added new rows r)
in_put f new [] r (inl e) = inr (inr (refl, e))
in_put f new [] r (inr t) = absurd t
in_put f new (x ∷ rows) r h = by (is_of new.known.id x) refl h (λ t. in_put f new rows r t)
  where
    later : is_of new.known.id x ≡ false → In r rows ⊎ (Changed f rows r ⊎ Added new rows r)
        → In r (x ∷ rows) ⊎ (Changed f (x ∷ rows) r ⊎ Added new (x ∷ rows) r)
    later e (inl t) = inl (inr t)
    later e (inr (inl c)) = inr (inl (c.0, inr c.1, c.2))
    later e (inr (inr a)) = inr (inr (ap (λ b. if b then Some x else row_of new.known.id rows) e ∙ a.0, a.1))

    by : (b : Bool) → is_of new.known.id x ≡ b → In r (if b then f x ∷ rows else x ∷ put f new rows)
        → (In r (put f new rows) → In r rows ⊎ (Changed f rows r ⊎ Added new rows r))
        → In r (x ∷ rows) ⊎ (Changed f (x ∷ rows) r ⊎ Added new (x ∷ rows) r)
    by true e (inl same) rest = inr (inl (x, inl refl, same))
    by true e (inr t) rest = inl (inr t)
    by false e (inl same) rest = inl (inl same)
    by false e (inr t) rest = later e (rest t)

-- where a test finds none
parts : (p : StoreRow → Bool) (x : StoreRow) (rows : List StoreRow) → find p (x ∷ rows) ≡ None → (p x ≡ false) × (find p rows ≡ None)
parts p x rows e = elim (cases_Bool (p x)) [ inl b ↦ absurd (none-some x (sym (rw b at e))) | inr b ↦ (b, rw b at e) ]

none_of : (p : StoreRow → Bool) (rows : List StoreRow) (r : StoreRow) → find p rows ≡ None → In r rows → p r ≡ false
none_of p [] r e i = absurd i
none_of p (x ∷ rows) r e (inl same) = ap p (sym same) ∙ (parts p x rows e).0
none_of p (x ∷ rows) r e (inr t) = none_of p rows r (parts p x rows e).1 t

module _ (f : StoreRow → StoreRow) (same_id : (s : StoreRow) → (f s).known.id ≡ s.known.id) (new : StoreRow) where
  -- a contract without a row after a change had none, and isn't the one that changed
  none_put : (rows : List StoreRow) (c : Hash) → row_of c (put f new rows) ≡ None → (row_of c rows ≡ None) × (is_of c new ≡ false)
  none_put [] c e = (refl, (parts (is_of c) new [] e).0)
  none_put (x ∷ rows) c e = by (is_of new.known.id x) refl e (λ h. none_put rows c h)
    where
      both : is_of c x ≡ false → row_of c rows ≡ None → row_of c (x ∷ rows) ≡ None
      both g h = ap (λ b. if b then Some x else row_of c rows) g ∙ h

      by : (b : Bool) → is_of new.known.id x ≡ b → row_of c (if b then f x ∷ rows else x ∷ put f new rows) ≡ None
          → (row_of c (put f new rows) ≡ None → (row_of c rows ≡ None) × (is_of c new ≡ false))
          → (row_of c (x ∷ rows) ≡ None) × (is_of c new ≡ false)
      by true i h rest =
          let p = parts (is_of c) (f x) rows h in
          let own : is_of c x ≡ false = ap (λ id. bytes_eq id c) (sym (same_id x)) ∙ p.0 in
          (both own p.1, ap (λ id. bytes_eq id c) (sym (same_bytes x.known.id new.known.id i)) ∙ own)
      by false i h rest = let p = parts (is_of c) x (put f new rows) h in let r = rest p.1 in (both p.0 r.0, r.1)

apart : (a b : Hash) → bytes_eq a b ≡ false → bytes_eq b a ≡ false
apart a b e = elim (cases_Bool (bytes_eq b a)) [
  | inl same ↦ absurd (true≢false (sym (equal_bytes a) ∙ (ap (bytes_eq a) (sym (same_bytes b a same)) ∙ e)))
  | inr other ↦ other
]

-- ---- what the ids tell

no_place : (place : ℕ) → Some place ≡ None → ⊥
no_place place e = none-some place (sym e)

module _ (reading : Reading) (p : ParticipantId) where
  abbrev hosts : Known → Bool
  hosts k = is_stakeholder_hosted reading p k.instance

  pub none_told : AreTold reading p [] []
  none_told = record { tell = λ row there e. absurd (in_from_Contains [] row there); of_rows = λ c e. refl }

  not_consumed : (created_at consumed_at : Option ℕ) (known : Known) (a : ActiveRow) → row_if_active created_at consumed_at known ≡ Some a
      → (consumed_at ≡ None) × (known ≡ a.known)
  not_consumed (Some place) None known a e = (refl, (let w : ActiveRow = record { created_at = place; known = known } in let v : w ≡ a = cc in ap (λ (x : ActiveRow). x.known) v))
  not_consumed None None known a e = absurd (cc)
  not_consumed None (Some q) known a e = absurd (cc)
  not_consumed (Some place) (Some q) known a e = absurd (cc)

  module _ (ids : List Hash) (rows : List StoreRow) (told : AreTold reading p ids rows) where
    pub tells : TellHosted reading p ids rows
    tells row a there e =
        let w = not_consumed row.created_at row.consumed_at row.known a e in
        subst (λ (k : Known). is_among ids k.id ≡ hosts k) w.1 (told.tell row there w.0)

    abbrev tells_of : StoreRow → Type 0
    tells_of r = r.consumed_at ≡ None → is_among ids r.known.id ≡ hosts r.known

    old_row : (r : StoreRow) → In r rows → tells_of r
    old_row r i e = told.tell r (contains_from_In rows r i) e

    module _ (known : Known) (place : ℕ) where
      abbrev fresh : StoreRow
      fresh = record { known = known; created_at = Some place; consumed_at = None }

      abbrev spent : StoreRow
      spent = record { known = known; created_at = None; consumed_at = Some place }

      -- the contract is consumed
      pub told_consumed : AreTold reading p ids (consumed known place rows)
      told_consumed =
          record {
            tell = λ r there. by r (in_put (with_consumed place) spent rows r (in_from_Contains (consumed known place rows) r there));
            of_rows = λ c e. told.of_rows c (none_put (with_consumed place) (λ s. refl) spent rows c e).0;
          }
        where
          by : (r : StoreRow) → In r rows ⊎ (Changed (with_consumed place) rows r ⊎ Added spent rows r) → tells_of r
          by r (inl i) = old_row r i
          by r (inr (inl c)) = subst tells_of c.2 (λ e. absurd (no_place (smaller (c.0).consumed_at place) e))
          by r (inr (inr a)) = subst tells_of a.1 (λ e. absurd (no_place place e))

      -- it is created, and had a row
      pub told_again : (row : StoreRow) → row_of known.id rows ≡ Some row → AreTold reading p ids (created known place rows)
      told_again row has =
          record {
            tell = λ r there. by r (in_put (with_created place) fresh rows r (in_from_Contains (created known place rows) r there));
            of_rows = λ c e. told.of_rows c (none_put (with_created place) (λ s. refl) fresh rows c e).0;
          }
        where
          by : (r : StoreRow) → In r rows ⊎ (Changed (with_created place) rows r ⊎ Added fresh rows r) → tells_of r
          by r (inl i) = old_row r i
          by r (inr (inl c)) = subst tells_of c.2 (λ e. old_row c.0 c.1 e)
          by r (inr (inr a)) = absurd (none-some row (sym a.0 ∙ has))

      module _ (is_new : row_of known.id rows ≡ None) where
        -- it is created, and nobody hosts a stakeholder of it
        pub told_other : hosts known ≡ false → AreTold reading p ids (created known place rows)
        told_other nobody =
            record {
              tell = λ r there. by r (in_put (with_created place) fresh rows r (in_from_Contains (created known place rows) r there));
              of_rows = λ c e. told.of_rows c (none_put (with_created place) (λ s. refl) fresh rows c e).0;
            }
          where
            by : (r : StoreRow) → In r rows ⊎ (Changed (with_created place) rows r ⊎ Added fresh rows r) → tells_of r
            by r (inl i) = old_row r i
            by r (inr (inl c)) = subst tells_of c.2 (λ e. old_row c.0 c.1 e)
            by r (inr (inr a)) = subst tells_of a.1 (λ e. told.of_rows known.id is_new ∙ sym nobody)

        module _ (more : List Hash) (among : (c : Hash) → is_among more c ≡ (bytes_eq known.id c || is_among ids c)) where
          abbrev tells_more : StoreRow → Type 0
          tells_more r = r.consumed_at ≡ None → is_among more r.known.id ≡ hosts r.known

          -- what had a row has another id
          kept : (s : StoreRow) → In s rows → tells_more s
          kept s i e =
              among s.known.id
              ∙ (ap (λ b. b || is_among ids s.known.id) (apart s.known.id known.id (none_of (is_of known.id) rows s is_new i)) ∙ old_row s i e)

          -- it is created, and the participant hosts a stakeholder of it
          pub told_hosted : hosts known ≡ true → AreTold reading p more (created known place rows)
          told_hosted somebody =
              record {
                tell = λ r there. by r (in_put (with_created place) fresh rows r (in_from_Contains (created known place rows) r there));
                of_rows = λ c e.
                    (let w = none_put (with_created place) (λ s. refl) fresh rows c e in
                    among c ∙ (ap (λ b. b || is_among ids c) w.1 ∙ told.of_rows c w.0));
              }
            where
              by : (r : StoreRow) → In r rows ⊎ (Changed (with_created place) rows r ⊎ Added fresh rows r) → tells_more r
              by r (inl i) = kept r i
              by r (inr (inl c)) = subst tells_more c.2 (λ e. kept c.0 c.1 e)
              by r (inr (inr a)) =
                  subst tells_more a.1
                  (λ e. among known.id ∙ (ap (λ b. b || is_among ids known.id) (equal_bytes known.id) ∙ sym somebody))
