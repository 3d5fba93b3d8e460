-- Sets of ids, in order.
use Rattle.std.proofs.Common.{◌≡◌, ℕ, zero, suc, Bool, true, false, List, [], ◌∷◌, ◌++◌, map, take, Some, refl, sym, ap, ◌∙◌, subst, inl, inr, arith}
use Rattle.std.specs.Prelude.{◌||◌, slice_get}
use Rattle.std.specs.List.{list_any}
use Rattle.std.specs.Str.{bytes_eq}
use Rattle.indexmap.specs.IndexMap.{IndexMap, insert_entry, keys}
use Rattle.std.proofs.lemmas.Bool.{cases_Bool, eq-eqb, le-ltb, or_parts}
use Rattle.std.proofs.lemmas.Option.{none-some, same_Some}
use Rattle.std.proofs.lemmas.Slice.Eq.{bytes_eq-Decides}
use Rattle.ledger_terms.specs.Parties.{AllAbove, IsRising, name_below}
use Rattle.ledger_model.specs.Terms.{Hash}

turned : (a b : Hash) → bytes_eq a b ≡ bytes_eq b a
turned a b =
    elim (cases_Bool (bytes_eq b a)) [
      | inl same ↦ (bytes_eq-Decides a b).1 (sym ((bytes_eq-Decides b a).0 same)) ∙ sym same
      | inr other ↦ elim (cases_Bool (bytes_eq a b)) [
        | inr also ↦ also ∙ sym other
        | inl same ↦ let wrong : true ≡ false = sym ((bytes_eq-Decides b a).1 (sym ((bytes_eq-Decides a b).0 same))) ∙ other in absurd (cc)
      ]
    ]

-- the same from the other side
pub any_turned : (c : Hash) (ids : List Hash) → list_any (bytes_eq c) ids ≡ list_any (λ (id : Hash). bytes_eq id c) ids
any_turned c [] = refl
any_turned c (id ∷ ids) =
    ap (λ (t : Bool). t || list_any (bytes_eq c) ids) (turned c id) ∙ ap (λ (t : Bool). bytes_eq id c || t) (any_turned c ids)

never_below : (a : Hash) → name_below a a ≡ false
never_below [] = refl
never_below (x ∷ a) = rw (le-ltb x x (omega arith), eq-eqb x x refl) (never_below a)

above_at : (a : Hash) (more : List Hash) (i : ℕ) (x : Hash) → AllAbove a more → slice_get more i ≡ Some x → name_below a x ≡ true
above_at a [] i x h at = absurd (none-some x at)
above_at a (b ∷ bs) zero x h at = subst (λ (y : Hash). name_below a y ≡ true) (same_Some b x at) h.0
above_at a (b ∷ bs) (suc i) x h at = above_at a bs i x h.1 at

-- none before it in a rising list is the same
pub rising_apart : (ids : List Hash) (i : ℕ) (x : Hash) → IsRising ids → slice_get ids i ≡ Some x → list_any (bytes_eq x) (take i ids) ≡ false
rising_apart [] i x r at = absurd (none-some x at)
rising_apart (a ∷ more) zero x r at = refl
rising_apart (a ∷ more) (suc i) x r at =
    let below = above_at a more i x r.0 at in
    elim (cases_Bool (bytes_eq x a)) [
      | inr apart ↦ rw apart (rising_apart more i x r.1 at)
      | inl same ↦
          let wrong : true ≡ false = sym below ∙ (ap (name_below a) ((bytes_eq-Decides x a).0 same) ∙ never_below a) in absurd (cc)
    ]

-- an id that isn't there goes last
first_pushed : {X : Type 0} (entries : List (Hash × X)) (id : Hash) (v : X) → list_any (bytes_eq id) (map (λ (e : Hash × X). e.0) entries) ≡ false
    → map (λ (e : Hash × X). e.0) (insert_entry bytes_eq entries id v) ≡ map (λ (e : Hash × X). e.0) entries ++ id ∷ []
first_pushed [] id v none = refl
first_pushed (e ∷ es) id v none =
    let parts = or_parts (bytes_eq id e.0) (list_any (bytes_eq id) (map (λ (x : Hash × _). x.0) es)) none in
    rw parts.0 (ap (λ (ids : List Hash). e.0 ∷ ids) (first_pushed es id v parts.1))

pub keys_pushed : {X S : Type 0} (m n : IndexMap Hash X S) (id : Hash) (v : X) → n.entries ≡ insert_entry bytes_eq m.entries id v
    → list_any (bytes_eq id) (keys m) ≡ false → keys n ≡ keys m ++ id ∷ []
keys_pushed m n id v put none = ap (λ (entries : List (Hash × _)). map (λ (e : Hash × _). e.0) entries) put ∙ first_pushed m.entries id v none
