-- One item is put behind those that were read.
use Rattle.std.proofs.Common.{◌≡◌, ℕ, zero, suc, ◌+◌, ◌-◌, ◌^◌, ◌<◌, ◌≤◌, List, [], ◌∷◌, ◌++◌, length, take, Some}
use Rattle.std.proofs.Common.{refl, sym, ap, ◌∙◌, subst, inl, inr, arith}
use Rattle.std.specs.Prelude.{slice_get}
use Rattle.std.proofs.lemmas.Bool.{cases_order}
use Rattle.std.proofs.lemmas.List.{take_all}
use Rattle.std.proofs.lemmas.Option.{none-some, same_Some, slice_get_past}
use Rattle.ledger_terms.specs.declared.topology.Topology.{Topology}
use Rattle.ledger_model.specs.Terms.{ParticipantId}
use Rattle.canton_model.specs.Inbox.{Item, Nothing, last_time, verdict_in}
use Rattle.lang_eval.specs.Found.{Packages}
use Rattle.pruned_inbox.specs.Start.{Start}
use Rattle.contract_store.specs.Stored.{Stored}
use Rattle.request_track.specs.Pairs.{expired}
use Rattle.framed_form.specs.FramedReading.{framed_reading}
use Rattle.inbox_registry.specs.Order.{IsBelow, IsInOrder}
use Rattle.inbox_registry.specs.Registry.{Follows, Registered}
use Rattle.inbox_registry.specs.Steps.{HoldsFollow, InStep}
use Rattle.inbox_registry.proofs.Followed.{follows_nothing}
use Rattle.inbox_registry.proofs.Order.{in_order_push}
use Rattle.inbox_registry.proofs.Tracked.{in_step}
use Rattle.node_inbox.specs.Items.{model_item, model_items}
use Rattle.node_inbox.specs.Kept.{AreKept, IsInbox, IsKeptContent}
use Rattle.node_inbox.specs.Reads.{HasRead, IsUnread, item_with}
use Rattle.node_inbox.specs.declared.kept_item.KeptContent.TheVariants as kept
use Rattle.node_inbox.specs.declared.kept_item.KeptItem.{KeptItem}

-- ---- places

get_push : {X : Type 0} (xs : List X) (y : X) (k : ℕ) → k < length xs → slice_get (xs ++ y ∷ []) k ≡ slice_get xs k
get_push [] y k h = absurd (omega arith)
get_push (x ∷ xs) y zero h = refl
get_push (x ∷ xs) y (suc k) h = get_push xs y k (omega (arith, h))

get_end : {X : Type 0} (xs : List X) (y : X) → slice_get (xs ++ y ∷ []) (length xs) ≡ Some y
get_end [] y = refl
get_end (x ∷ xs) y = get_end xs y

take_push : {X : Type 0} (xs ys : List X) (k : ℕ) → k ≤ length xs → take k (xs ++ ys) ≡ take k xs
take_push xs ys zero h = refl
take_push [] ys (suc k) h = absurd (omega arith)
take_push (x ∷ xs) ys (suc k) h = ap (λ zs. x ∷ zs) (take_push xs ys k (omega (arith, h)))

long : {X : Type 0} (xs : List X) (y : X) → length (xs ++ y ∷ []) ≡ suc (length xs)
long [] y = refl
long (x ∷ xs) y = ap suc (long xs y)

pub as_many : (xs : List KeptItem) → length (model_items xs) ≡ length xs
as_many [] = refl
as_many (x ∷ xs) = ap suc (as_many xs)

pub model_push : (xs : List KeptItem) (y : KeptItem) → model_items (xs ++ y ∷ []) ≡ model_items xs ++ model_item y ∷ []
model_push [] y = refl
model_push (x ∷ xs) y = ap (λ (zs : List Item). model_item x ∷ zs) (model_push xs y)

module _ (topology : Topology) (packages : Packages) (me : ParticipantId) where
  -- the start stays
  started : (all : List KeptItem) (stands stands' : Registered) → stands'.start ≡ stands.start
      → Follows (framed_reading topology packages) topology.params stands.start (model_items all) stands'
      → IsInOrder (model_items all) → AreKept topology packages me stands.start all → IsInbox topology packages me all stands'
  started all stands stands' same follows order each =
      record {
        follows = subst (λ (start : Start). Follows (framed_reading topology packages) topology.params start (model_items all) stands') (sym same) follows;
        order = order;
        each = subst (λ (start : Start). AreKept topology packages me start all) (sym same) each;
      }

  -- ---- nothing was read

  pub unread : (old new : List KeptItem) (stands stands' : Registered) → IsInbox topology packages me old stands → new ≡ old
      → (stands'.store).rows ≡ (stands.store).rows → (stands'.store).holds ≡ (stands.store).holds
      → (stands'.tracking).pairs ≡ (stands.tracking).pairs → (stands'.tracking).cursor ≡ (stands.tracking).cursor
      → stands'.start ≡ stands.start → IsUnread topology packages me old new stands.start stands'
  unread old new stands stands' i same rows holds pairs cursor start =
      let f = i.follows in
      record {
        inbox = subst (λ (kept : List KeptItem). IsInbox topology packages me kept stands') (sym same)
            (started old stands stands' start (record { rows = rows ∙ f.rows; holds = holds ∙ f.holds; pairs = pairs ∙ f.pairs; cursor = cursor ∙ f.cursor }) i.order i.each);
        start_is = start;
        items = same;
      }

  -- ---- one item more

  each_push : (start : Start) (xs : List KeptItem) (y : KeptItem) → AreKept topology packages me start xs
      → IsKeptContent topology packages me start (model_items xs ++ model_item y ∷ []) (length xs) y.content → AreKept topology packages me start (xs ++ y ∷ [])
  each_push start xs y each new k item at = elim (cases_order k (length xs)) [
    | inl here ↦
        let same : y ≡ item = same_Some y item (sym (get_end xs y) ∙ ap (slice_get (xs ++ y ∷ [])) (sym here) ∙ at) in
        let n = as_many xs in
        let whole : take (suc k) (model_items (xs ++ y ∷ [])) ≡ model_items xs ++ model_item y ∷ [] =
        ap (take (suc k)) (model_push xs y) ∙ take_all (suc k) (model_items xs ++ model_item y ∷ []) (let l = long (model_items xs) (model_item y) in omega (arith, l, n, here)) in
        rw (whole, here, ← same) new
    | inr apart ↦ elim apart [
      | inl below ↦
          let n = as_many xs in
          let front : take (suc k) (model_items (xs ++ y ∷ [])) ≡ take (suc k) (model_items xs) =
          ap (take (suc k)) (model_push xs y) ∙ take_push (model_items xs) (model_item y ∷ []) (suc k) (omega (arith, n, below)) in
          rw front (each k item (sym (get_push xs y k below) ∙ at))
      | inr above ↦
          absurd (none-some item (sym (slice_get_past (xs ++ y ∷ []) k (let l = long xs y in omega (arith, l, above))) ∙ at))
    ]
  ]

  pub has_read : (old new : List KeptItem) (y : KeptItem) (stands stands' : Registered) → IsInbox topology packages me old stands
      → last_time (model_items old) < y.time → IsBelow (length (model_items old)) (verdict_in (model_item y).content)
      → IsKeptContent topology packages me stands.start (model_items old ++ model_item y ∷ []) (length old) y.content
      → Follows (framed_reading topology packages) topology.params stands.start (model_items old ++ model_item y ∷ []) stands'
      → new ≡ old ++ y ∷ [] → stands'.start ≡ stands.start
      → HasRead topology packages me old new stands.start stands' (model_item y)
  has_read old new y stands stands' i later below kept' follows put start =
      record {
        inbox = subst (λ (all : List KeptItem). IsInbox topology packages me all stands') (sym put)
            (started (old ++ y ∷ []) stands stands' start (rw (model_push old y) follows)
            (rw (model_push old y) (in_order_push (model_items old) (model_item y) i.order later below)) (each_push stands.start old y i.each kept'));
        start_is = start;
        items = ap model_items put ∙ model_push old y;
      }

  -- what a tracker keeps is in step
  pub steps : (old : List KeptItem) (stands : Registered) → IsInbox topology packages me old stands → InStep (stands.tracking).pairs
  steps old stands i = rw (i.follows.pairs) (in_step topology.params (model_items old) i.order.rise)

  pub read_nothing : (old new : List KeptItem) (time : ℕ) (stands mid stands' : Registered) → IsInbox topology packages me old stands
      → last_time (model_items old) < time → time ≤ 2 ^ 64 - 1
      → (mid.store).rows ≡ (stands.store).rows → (mid.tracking).pairs ≡ expired time (stands.tracking).pairs
      → HoldsFollow (stands.tracking).pairs (mid.tracking).pairs (stands.store).holds (mid.store).holds
      → (mid.tracking).cursor ≡ (stands.tracking).cursor
      → stands'.store ≡ mid.store → (stands'.tracking).pairs ≡ (mid.tracking).pairs → (stands'.tracking).cursor ≡ (mid.tracking).cursor + 1
      → new ≡ old ++ record { time = time; content = kept.Nothing } ∷ [] → stands'.start ≡ stands.start
      → HasRead topology packages me old new stands.start stands' (item_with time Nothing)
  read_nothing old new time stands mid stands' i later fits rows pairs holds cursor store' pairs' cursor' put start =
      has_read old new (record { time = time; content = kept.Nothing }) stands stands' i later tt tt
      (follows_nothing (framed_reading topology packages) topology.params stands.start (model_items old) (item_with time Nothing) stands stands' refl refl fits i.follows
      (ap (λ (s : Stored). s.rows) store' ∙ rows) (pairs' ∙ pairs)
      (λ f n e. ap (λ (s : Stored). s.holds) store' ∙ held f n e)
      (cursor' ∙ ap (λ (n : ℕ). n + 1) cursor)) put start
    where
      held : HoldsFollow (stands.tracking).pairs (stands'.tracking).pairs (stands.store).holds (mid.store).holds
      held = subst (λ ps. HoldsFollow (stands.tracking).pairs ps (stands.store).holds (mid.store).holds) (sym pairs') holds
