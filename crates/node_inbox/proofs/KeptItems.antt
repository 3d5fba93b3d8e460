-- Items that begin at a base.
use Rattle.std.proofs.Common.{◌≡◌, ℕ, zero, suc, ◌+◌, ◌-◌, ◌<◌, ◌≤◌, false, List, ◌∷◌, ◌++◌, length, drop, get_or, Option, Some, None, refl, sym, ap, ◌∙◌, arith}
use Rattle.std.specs.Prelude.{option_map, slice_get}
use Rattle.std.proofs.lemmas.Option.{get_or_from_slice_get, none-some, same_Some, slice_get_read}
use Rattle.canton_model.specs.Inbox.{Item, Nothing, item_time}
use Rattle.pruned_inbox.specs.Forgotten.{silent_front}
use Rattle.pruned_inbox.specs.Received.{is_received_at}
use Rattle.node_inbox.specs.Items.{model_item, model_items}
use Rattle.node_inbox.specs.Kept.{request_in, request_in_item}
use Rattle.node_inbox.specs.KeptItems.{content_in, silent_kept, time_in}
use Rattle.node_inbox.specs.declared.kept_item.KeptContent.{KeptContent}
use Rattle.node_inbox.specs.declared.kept_item.KeptContent.TheVariants as kept
use Rattle.node_inbox.specs.declared.kept_item.KeptItem.{KeptItem}
use Rattle.node_inbox.proofs.Seen.{model_get}

pub silent_models : (b t : ℕ) → model_items (silent_kept b t) ≡ silent_front b t
silent_models zero t = refl
silent_models (suc b) t = ap (λ (items : List Item). record { time = t - b; content = Nothing } ∷ items) (silent_models b t)

pub kept_length : (b t : ℕ) (rest : List KeptItem) → length (silent_kept b t ++ rest) ≡ b + length rest
kept_length zero t rest = let same : length rest ≡ 0 + length rest = omega arith in same
kept_length (suc b) t rest =
    let next : suc (b + length rest) ≡ suc b + length rest = omega arith in
    ap suc (kept_length b t rest) ∙ next

pub kept_from : (b t : ℕ) (rest : List KeptItem) → drop b (silent_kept b t ++ rest) ≡ rest
kept_from zero t rest = refl
kept_from (suc b) t rest = kept_from b t rest

-- ---- below the base

silent_get : (b t k : ℕ) (rest : List KeptItem) → k < b
    → slice_get (silent_kept b t ++ rest) k ≡ Some (record { time = t - (b - 1 - k); content = kept.Nothing })
silent_get zero t k rest lt = absurd (omega (arith, lt))
silent_get (suc b) t zero rest lt =
    let first : b ≡ suc b - 1 - 0 = omega arith in
    ap (λ (n : ℕ). Some (record { time = t - n; content = kept.Nothing })) first
silent_get (suc b) t (suc k) rest lt =
    let same : b - 1 - k ≡ suc b - 1 - suc k = omega (arith, lt) in
    silent_get b t k rest (omega (arith, lt)) ∙ ap (λ (n : ℕ). Some (record { time = t - n; content = kept.Nothing })) same

pub silent_content : (b t k : ℕ) (rest : List KeptItem) → k < b → content_in (slice_get (silent_kept b t ++ rest) k) ≡ Some kept.Nothing
silent_content b t k rest lt = ap content_in (silent_get b t k rest lt)

pub silent_time : (b t k : ℕ) (rest : List KeptItem) → k < b → time_in (slice_get (silent_kept b t ++ rest) k) ≡ t - (b - 1 - k)
silent_time b t k rest lt = ap time_in (silent_get b t k rest lt)

pub silent_item : (b t k : ℕ) (rest : List KeptItem) (content : KeptContent) → content ≡ kept.Nothing → k < b
    → ◌≡◌ {A = KeptItem} (record { time = t - (b - 1 - k); content = content })
    (get_or (silent_kept b t ++ rest) k (record { time = t - (b - 1 - k); content = content }))
silent_item b t k rest content none lt =
    let at = silent_get b t k rest lt ∙ ap (λ (c : KeptContent). Some (record { time = t - (b - 1 - k); content = c })) (sym none) in
    sym (get_or_from_slice_get (silent_kept b t ++ rest) k _ _ at)

pub silent_unreceived : (b t k : ℕ) (rest : List KeptItem) → k < b → is_received_at (model_items (silent_kept b t ++ rest)) k ≡ false
silent_unreceived zero t k rest lt = absurd (omega (arith, lt))
silent_unreceived (suc b) t zero rest lt = refl
silent_unreceived (suc b) t (suc k) rest lt = silent_unreceived b t k rest (omega (arith, lt))

-- ---- from the base on

pub kept_get : (b t k : ℕ) (rest : List KeptItem) → b ≤ k → slice_get (silent_kept b t ++ rest) k ≡ slice_get rest (k - b)
kept_get zero t k rest le =
    let same : k ≡ k - 0 = omega arith in
    ap (slice_get rest) same
kept_get (suc b) t zero rest le = absurd (omega (arith, le))
kept_get (suc b) t (suc k) rest le =
    let same : k - b ≡ suc k - suc b = omega arith in
    kept_get b t k rest (omega (arith, le)) ∙ ap (slice_get rest) same

pub kept_item : (b t k : ℕ) (rest : List KeptItem) (item : KeptItem) → b ≤ k → k - b < length rest → item ≡ get_or rest (k - b) item
    → item ≡ get_or (silent_kept b t ++ rest) k item
kept_item b t k rest item low far at =
    sym (get_or_from_slice_get (silent_kept b t ++ rest) k item item
    (kept_get b t k rest low ∙ slice_get_read rest (length rest) (k - b) item refl far at))

-- ---- what is asked at a place

pub request_kept : (o : Option KeptItem) (content : KeptContent) → content_in o ≡ Some content → request_in_item o ≡ request_in content
request_kept None content e = absurd (none-some content e)
request_kept (Some item) content e = ap request_in (same_Some item.content content e)

pub none_kept : (o : Option KeptItem) → content_in o ≡ None → request_in_item o ≡ None
none_kept None e = refl
none_kept (Some item) e = absurd (none-some item.content (sym e))

pub time_kept : (items : List KeptItem) (k : ℕ) → time_in (slice_get items k) ≡ item_time (slice_get (model_items items) k)
time_kept items k = by (slice_get items k) ∙ ap item_time (sym (model_get items k))
  where
    by : (o : Option KeptItem) → time_in o ≡ item_time (option_map model_item o)
    by None = refl
    by (Some item) = refl
