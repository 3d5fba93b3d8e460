-- The clean place of a tracker is the model's, where its pairs are undecided as the participant's inbox says.
use Rattle.std.specs.Prelude.{◌≡◌, ℕ, Bool, false, List, Option, Some, None, length, slice_get, nat_eq, not, ◌&&◌}
use Rattle.std.specs.List.{list_any}
use Rattle.canton_model.specs.Log.{Params}
use Rattle.canton_model.specs.Inbox.{Item, clean, is_received, is_decided_in}
use Rattle.request_track.specs.Pairs.{Pair, is_open, clean_of}

-- whether one of these tracked requests stands at the place m and is undecided
abbrev pub is_open_at : List Pair → ℕ → Bool
is_open_at pairs m = list_any (λ (p : Pair). nat_eq p.0 m && is_open p) pairs

-- whether the item at the place m of an inbox is a request that isn't decided over the whole inbox; false where no item stands there (None)
abbrev pub is_open_item : Params → List Item → ℕ → Option Item → Bool
is_open_item params items m None = false
is_open_item params items m (Some item) = is_received item.content && not (is_decided_in params items m (length items))

-- At each place an undecided request is tracked exactly where the inbox has a request that isn't decided over the whole of it.
abbrev pub Tracks : Params → List Item → List Pair → Type 0
Tracks params items pairs = (m : ℕ) → is_open_at pairs m ≡ is_open_item params items m (slice_get items m)

-- The clean place by the tracked requests is the model's clean place of the inbox, where they are what `Tracks` says. It is the law `clean_is_clean`.
abbrev pub CleanIsClean : Type 0
CleanIsClean = (params : Params) (items : List Item) (pairs : List Pair) → Tracks params items pairs → clean_of pairs (length items) ≡ clean params items
