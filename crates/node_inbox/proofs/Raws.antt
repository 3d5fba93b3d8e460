-- The items of an inbox, apart from it.
use Rattle.std.proofs.Common.{◌≡◌, ℕ, zero, suc, ◌+◌, ◌<◌, ◌≤◌, List, [], ◌∷◌, ◌++◌, drop, get_or, length, map, take, Some}
use Rattle.std.proofs.Common.{refl, sym, ap, ◌∙◌, subst, arith, append-nil, append_assoc}
use Rattle.std.specs.Prelude.{slice_get}
use Rattle.std.proofs.lemmas.List.{drop_more}
use Rattle.std.proofs.lemmas.Option.{none-some, same_Some}
use Rattle.std.proofs.Math.ListN.{drop_of_length-le}
use Rattle.ledger_terms.specs.declared.topology.Topology.{Topology}
use Rattle.ledger_model.specs.Terms.{ParticipantId}
use Rattle.canton_model.specs.Inbox.{Item}
use Rattle.lang_eval.specs.Found.{Packages}
use Rattle.node_state.specs.declared.item.Item.{Item as RawItem}
use Rattle.pruned_inbox.specs.Start.{Start}
use Rattle.node_inbox.specs.Items.{model_item, model_items}
use Rattle.node_inbox.specs.Kept.{AreKept}
use Rattle.node_inbox.specs.Raw.{AreCame, IsCame, item_by, raw_item, raw_items, raw_what}
use Rattle.node_inbox.specs.declared.kept_item.KeptItem.{KeptItem}
use Rattle.node_inbox.proofs.Came.{comes_again, raw_as}

pub drop_map : {X Y : Type 0} (f : X → Y) (n : ℕ) (xs : List X) → map f (drop n xs) ≡ drop n (map f xs)
drop_map f zero xs = refl
drop_map f (suc n) [] = refl
drop_map f (suc n) (x ∷ xs) = drop_map f n xs

get_drop : {X : Type 0} (n k : ℕ) (xs : List X) → slice_get (drop n xs) k ≡ slice_get xs (n + k)
get_drop zero k xs = let same : k ≡ 0 + k = omega arith in ap (slice_get xs) same
get_drop (suc n) k [] = refl
get_drop (suc n) k (x ∷ xs) = let same : suc (n + k) ≡ suc n + k = omega arith in get_drop n k xs ∙ ap (slice_get (x ∷ xs)) same

take_front : {X : Type 0} (k : ℕ) (xs : List X) → take k (take (suc k) xs) ≡ take k xs
take_front zero [] = refl
take_front zero (x ∷ xs) = refl
take_front (suc k) [] = refl
take_front (suc k) (x ∷ xs) = ap (λ (ys : List _). x ∷ ys) (take_front k xs)

-- one more behind those that were there
pub raw_next : (items : List KeptItem) (place : ℕ) (item : KeptItem) (raw new : List RawItem) → place < length items → item ≡ get_or items place item
    → new ≡ raw ++ raw_item item ∷ [] → new ++ raw_items (drop (place + 1) items) ≡ raw ++ raw_items (drop place items)
raw_next items place item raw new within at is =
    let rest = raw_items (drop (place + 1) items) in
    let front : drop place items ≡ item ∷ drop (place + 1) items =
    drop_more items place item within ∙ ap (λ (x : KeptItem). x ∷ drop (place + 1) items) (sym at) in
    ap (λ (xs : List RawItem). xs ++ rest) is
    ∙ (append_assoc raw (raw_item item ∷ []) rest ∙ ap (λ (xs : List KeptItem). raw ++ raw_items xs) (sym front))

pub raw_end : (items : List KeptItem) (place : ℕ) (raw : List RawItem) → length items ≤ place → raw ≡ raw ++ raw_items (drop place items)
raw_end items place raw past =
    sym (append-nil raw) ∙ ap (λ (xs : List KeptItem). raw ++ raw_items xs) (sym (drop_of_length-le items past))

-- an item there is that of a kept one
kept_there : (items : List KeptItem) (n : ℕ) (item : RawItem) → slice_get (raw_items items) n ≡ Some item
    → (kept : KeptItem) × (slice_get items n ≡ Some kept) × (raw_item kept ≡ item)
kept_there [] n item at = absurd (none-some item at)
kept_there (x ∷ xs) zero item at = (x, refl, same_Some (raw_item x) item at)
kept_there (x ∷ xs) (suc n) item at = kept_there xs n item at

module _ (topology : Topology) (packages : Packages) (me : ParticipantId) (start : Start) (items : List KeptItem) (each : AreKept topology packages me start items) where
  as_kept : (xs : List KeptItem) → ((k : ℕ) (item : KeptItem) → slice_get xs k ≡ Some item → item_by topology (raw_item item) ≡ model_item item)
      → map (item_by topology) (raw_items xs) ≡ model_items xs
  as_kept [] same = refl
  as_kept (x ∷ xs) same =
      ap (λ (y : Item). y ∷ map (item_by topology) (raw_items xs)) (same 0 x refl)
      ∙ ap (λ (ys : List Item). model_item x ∷ ys) (as_kept xs (λ k item at. same (suc k) item at))

  all_as : map (item_by topology) (raw_items items) ≡ model_items items
  all_as = as_kept items (λ k item at. raw_as topology packages me start (take (suc k) (model_items items)) k item.time item.content (each k item at))

  pub raw_are : (base : ℕ) → map (item_by topology) (drop base (raw_items items)) ≡ drop base (model_items items)
  raw_are base = drop_map (item_by topology) base (raw_items items) ∙ ap (drop base) all_as

  pub raw_came : (base : ℕ) → AreCame topology packages me base (model_items items) (drop base (raw_items items))
  raw_came base k item at =
      let there = kept_there items (base + k) item (sym (get_drop base k (raw_items items)) ∙ at) in
      let kept = there.0 in
      let came = comes_again topology packages me start (take (suc (base + k)) (model_items items)) (base + k) kept.content (each (base + k) kept there.1) in
      subst (λ (raw : RawItem). IsCame topology packages me (take (base + k) (model_items items)) raw.what) there.2
      (subst (λ (front : List Item). IsCame topology packages me front (raw_what kept.content)) (take_front (base + k) (model_items items)) came)
