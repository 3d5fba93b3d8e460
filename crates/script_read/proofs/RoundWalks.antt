-- How many parties a set has, and how many items a list.
use Rattle.std.proofs.Common.{◌≡◌, ℕ, ◌≤◌, Bool, true, false, cond, List, [], ◌∷◌, length, Ok, sym, subst, arith}
use Rattle.serde_json.specs.Data.{Data, Items}
use Rattle.ledger_terms.specs.Parties.{name_below, same_name, with_party, with_parties, set_of}
use Rattle.json_walk.specs.Walk.{Place, items_of, item_count, within_limit, few_items_of}
use Rattle.json_walk.specs.declared.limit.Limit.{Limit}
use Rattle.json_walk.proofs.Kept.{after, given, limit_kept}

-- ---- sets

cond_more : (b : Bool) (x y : List (List ℕ)) (n : ℕ) → n ≤ length x → n ≤ length y → n ≤ length (cond b x y)
cond_more true x y n p q = p
cond_more false x y n p q = q

with_party_some : (a : List ℕ) (s : List (List ℕ)) → (1 ≤ length (with_party a s)) × (length s ≤ length (with_party a s))
with_party_some a [] = (omega arith, omega arith)
with_party_some a (b ∷ bs) =
    let r = with_party_some a bs in (
      cond_more (name_below b a) (b ∷ with_party a bs) _ 1 (omega arith) (cond_more (same_name b a) (b ∷ bs) (a ∷ b ∷ bs) 1 (omega arith) (omega arith)),
      cond_more (name_below b a) (b ∷ with_party a bs) _ (length (b ∷ bs)) (omega (arith, r.1)) (cond_more (same_name b a) (b ∷ bs) (a ∷ b ∷ bs) (length (b ∷ bs)) (omega arith) (omega arith)),
    )

with_parties_some : (names s : List (List ℕ)) → length s ≤ length (with_parties names s)
with_parties_some [] s = omega arith
with_parties_some (a ∷ names) s = omega (arith, with_parties_some names (with_party a s), (with_party_some a s).1)

pub set_some : (names : List (List ℕ)) → 1 ≤ length names → 1 ≤ length (set_of names)
set_some [] h = absurd (omega arith)
set_some (a ∷ names) h = omega (arith, with_parties_some names (with_party a []), (with_party_some a []).0)

-- ---- lists

-- the items of a list that keeps a limit
pub few_read : (at : Place) (limit : Limit) (d : Data) (items : Items) → few_items_of at limit d ≡ Ok items → (items_of at d ≡ Ok items) × (limit.least ≤ item_count items) × (item_count items ≤ limit.most)
unfolding few_items_of
few_read at limit d items h =
    let b = after (items_of at d) _ items h in
    let c = after (within_limit at limit (item_count b.0)) _ items b.2 in
    let few = limit_kept at limit (item_count b.0) c.0 c.1 in
    subst (λ (items : Items). (items_of at d ≡ Ok items) × (limit.least ≤ item_count items) × (item_count items ≤ limit.most)) (sym (given b.0 items c.2)) (b.1, few.0, few.1)
