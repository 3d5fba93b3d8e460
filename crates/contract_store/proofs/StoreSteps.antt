-- What a store's calls do to all that its maps lead to.
use Rattle.std.proofs.Common.{◌≡◌, ℕ, zero, suc, Bool, true, false, cond, List, [], ◌∷◌, map, Option, Some, None, is_some, refl, sym, ap, ◌∙◌, arith, nat_eq}
use Rattle.std.specs.Prelude.{IsSome, slice_get, ◌||◌, ◌&&◌}
use Rattle.std.specs.List.{list_any}
use Rattle.std.specs.Str.{bytes_eq}
use Rattle.std.proofs.lemmas.Bool.{or_left, or_right}
use Rattle.indexmap.specs.IndexMap.{IndexMap, get, keys}
use Rattle.contract_store.specs.declared.hold.Hold.{Hold}
use Rattle.contract_store.specs.declared.hold.KeptHold.{KeptHold}
use Rattle.contract_store.specs.declared.row.KeptRow.{KeptRow}
use Rattle.contract_store.specs.declared.contract_places.ContractPlaces.{ContractPlaces}
use Rattle.contract_store.specs.Leads.{row_behind, hold_behind}
use Rattle.contract_store.specs.Chains.{Link, is_live_at, NoneFrom, IsLast, Chains}
use Rattle.contract_store.specs.Holds.{link_on, holds_of, LeadsToHolds}
use Rattle.contract_store.specs.KeptRows.{LeadsToRows}
use Rattle.contract_store.specs.Stored.{is_ready, is_held, LeadsToAll, Grows}
use Rattle.contract_store.proofs.Maps.{same_bytes, equal_bytes, there}
use Rattle.contract_store.proofs.ChainSteps.{chains_as}
use Rattle.contract_store.proofs.HoldSteps.{holds_cons, same_places, equal_places}

-- what is ready is a key
pub ready_there : {X S : Type 0} (m : IndexMap (List ℕ) X S) (c : List ℕ) → is_ready (keys m) c ≡ true → IsSome (get bytes_eq m c)
ready_there m c h = there m c ∙ h

pub there_ready : {X S : Type 0} (m : IndexMap (List ℕ) X S) (c : List ℕ) → IsSome (get bytes_eq m c) → is_ready (keys m) c ≡ true
there_ready m c h = sym (there m c) ∙ h

pub empty_chains : {K : Type 0} (eq : K → K → Bool) (f : K → Option ℕ) → ((k : K) → f k ≡ None) → Chains eq [] f
empty_chains eq f none = record {
  last = λ k. record { none = λ j l h at. absurd (cc); here = λ i e. absurd (let w : None ≡ Some i = sym (none k) ∙ e in cc) };
  linked = record { below = λ i l at. absurd (cc); alike = λ i j l at e. absurd (cc); between = λ i j l m at to h u. absurd (cc) };
}

pub empty_leads : (ids : List ℕ → Option ContractPlaces) (salts : List ℕ → Option ℕ) (places : ℕ → Option ℕ) → ((c : List ℕ) → ids c ≡ None)
    → ((c : List ℕ) → salts c ≡ None) → ((p : ℕ) → places p ≡ None) → LeadsToAll [] [] ids salts places
empty_leads ids salts places no_id no_salt no_place = record {
  to_rows = record { by_id = λ c. ap row_behind (no_id c); by_salt = empty_chains bytes_eq _ no_salt; one_each = tt };
  to_holds = record { on = empty_chains bytes_eq _ (λ c. ap hold_behind (no_id c)); at = empty_chains nat_eq _ no_place };
}

module _ (rows : List KeptRow) (holds : List KeptHold) (ids : List ℕ → Option ContractPlaces) (salts : List ℕ → Option ℕ) (places : ℕ → Option ℕ)
    (leads : LeadsToAll rows holds ids salts places) where
  same_holds : (ids' : List ℕ → Option ContractPlaces) → ((c : List ℕ) → hold_behind (ids' c) ≡ hold_behind (ids c))
      → LeadsToHolds holds (λ c. hold_behind (ids' c)) places
  same_holds ids' e = record {
    on = chains_as bytes_eq same_bytes equal_bytes (map link_on holds) (λ c. hold_behind (ids c)) (λ c. hold_behind (ids' c)) leads.to_holds.on e;
    at = leads.to_holds.at;
  }

  same_rows : (ids' : List ℕ → Option ContractPlaces) → ((c : List ℕ) → row_behind (ids' c) ≡ row_behind (ids c)) → LeadsToRows rows (λ c. row_behind (ids' c)) salts
  same_rows ids' e = record {
    by_id = λ c. e c ∙ leads.to_rows.by_id c;
    by_salt = leads.to_rows.by_salt;
    one_each = leads.to_rows.one_each;
  }

  pub rows_changed : (rows' : List KeptRow) (ids' : List ℕ → Option ContractPlaces) (salts' : List ℕ → Option ℕ)
      → LeadsToRows rows' (λ c. row_behind (ids' c)) salts' → ((c : List ℕ) → hold_behind (ids' c) ≡ hold_behind (ids c))
      → LeadsToAll rows' holds ids' salts' places
  rows_changed rows' ids' salts' to_rows e = record { to_rows = to_rows; to_holds = same_holds ids' e }

  pub holds_changed : (holds' : List KeptHold) (ids' : List ℕ → Option ContractPlaces) (places' : ℕ → Option ℕ)
      → LeadsToHolds holds' (λ c. hold_behind (ids' c)) places'
      → ((c : List ℕ) → row_behind (ids' c) ≡ row_behind (ids c)) → LeadsToAll rows holds' ids' salts places'
  holds_changed holds' ids' places' to_holds e = record { to_rows = same_rows ids' e; to_holds = to_holds }

  pub keys_grown : (ids' : List ℕ → Option ContractPlaces) → Grows ids ids' → LeadsToAll rows holds ids' salts places
  keys_grown ids' g = record { to_rows = same_rows ids' g.by_row; to_holds = same_holds ids' g.by_hold }

abbrev on_it : List ℕ → Hold → Bool
on_it c h = bytes_eq h.id c

cons_any : (c : List ℕ) (s : KeptHold) (slots : List KeptHold)
    → list_any (on_it c) (holds_of (s ∷ slots)) ≡ (is_live_at bytes_eq c (link_on s) || list_any (on_it c) (holds_of slots))
cons_any c s slots = ap (list_any (on_it c)) (holds_cons s slots) ∙ by s.live
  where
    by : (b : Bool)
        → list_any (on_it c) (cond b (s.hold ∷ holds_of slots) (holds_of slots)) ≡ ((b && bytes_eq s.hold.id c) || list_any (on_it c) (holds_of slots))
    by true = refl
    by false = refl

none_held : (c : List ℕ) (slots : List KeptHold) → NoneFrom bytes_eq (map link_on slots) c 0 → list_any (on_it c) (holds_of slots) ≡ false
none_held c [] none = refl
none_held c (s ∷ slots) none =
    cons_any c s slots ∙ rw (none 0 (link_on s) (omega arith) refl) (none_held c slots (λ j l h at. none (suc j) l (omega arith) at))

some_held : (c : List ℕ) (slots : List KeptHold) (i : ℕ) (l : Link (List ℕ)) → slice_get (map link_on slots) i ≡ Some l
    → is_live_at bytes_eq c l ≡ true → list_any (on_it c) (holds_of slots) ≡ true
some_held c [] i l at e = absurd (cc)
some_held c (s ∷ slots) zero l at e =
    (let w : link_on s ≡ l = cc in
    cons_any c s slots ∙ or_left (is_live_at bytes_eq c (link_on s)) (list_any (on_it c) (holds_of slots)) (ap (is_live_at bytes_eq c) w ∙ e))
some_held c (s ∷ slots) (suc i) l at e =
    cons_any c s slots ∙ or_right (is_live_at bytes_eq c (link_on s)) (list_any (on_it c) (holds_of slots)) (some_held c slots i l at e)

-- a contract is held exactly where its id leads to a hold
pub held : (c : List ℕ) (slots : List KeptHold) (o : Option ℕ) → IsLast bytes_eq (map link_on slots) c o → is_some o ≡ is_held (holds_of slots) c
held c slots None last = sym (none_held c slots last.none)
held c slots (Some i) last = (let l = last.here i refl in sym (some_held c slots i l.0 l.1 l.2))

-- more room for salts and places
pub room_grown : (rows : List KeptRow) (holds : List KeptHold) (ids : List ℕ → Option ContractPlaces) (salts salts' : List ℕ → Option ℕ)
    (places places' : ℕ → Option ℕ) → LeadsToAll rows holds ids salts places → ((c : List ℕ) → salts' c ≡ salts c) → ((p : ℕ) → places' p ≡ places p)
    → LeadsToAll rows holds ids salts' places'
room_grown rows holds ids salts salts' places places' leads d e = record {
  to_rows = record {
    by_id = leads.to_rows.by_id;
    by_salt = chains_as bytes_eq same_bytes equal_bytes _ salts salts' leads.to_rows.by_salt d;
    one_each = leads.to_rows.one_each;
  };
  to_holds = record { on = leads.to_holds.on; at = chains_as nat_eq same_places equal_places _ places places' leads.to_holds.at e };
}
