-- Items and views, taken from the front one at a time.
use Rattle.std.proofs.Common.{◌≡◌, ℕ, zero, suc, ◌+◌, ◌-◌, ◌<◌, ◌≤◌, Bool, true, false, List, [], ◌∷◌, ◌++◌, length, drop, Option, Some}
use Rattle.std.proofs.Common.{refl, sym, ap, ◌∙◌, subst, arith, append-nil}
use Rattle.std.specs.Prelude.{slice_get, option_map, if◌then◌else◌}
use Rattle.std.proofs.lemmas.Option.{slice_get_past}
use Rattle.ledger_terms.specs.declared.act.Act.{Act}
use Rattle.ledger_terms.specs.Forest.{Forest, NoRoots, join}
use Rattle.ledger_terms.specs.Grown.{tree_of}
use Rattle.ledger_terms.specs.Trees.{Actions}
use Rattle.ledger_terms.proofs.Grow.{join-end}
use Rattle.ledger_model.specs.Opening.{roots_in}
use Rattle.ledger_model.specs.declared.commit.Commit.{Commit}
use Rattle.canton_model.specs.Inbox.{Item, Notice, moments, opened_at, notice_by, part_if, parts_below, shown_in, shown_in_notice}
use Rattle.canton_model.specs.Log.{Params}
use Rattle.canton_model.specs.Timeline.{is_approved_in}
use Rattle.canton_model.specs.declared.outcome.Outcome.{Outcome}
use Rattle.request_track.specs.Pairs.{outcome_at}
use Rattle.pruned_inbox.specs.Received.{is_received_at}
use Rattle.inbox_registry.specs.Requests.{outcome_received}
use Rattle.inbox_registry.specs.Registry.{Registered}
use Rattle.view_split.specs.Placed.{placed_forest}
use Rattle.view_split.specs.SeenViews.{put_back}
use Rattle.view_split.specs.Split.{assembled}
use Rattle.view_split.specs.declared.placed_view.PlacedView.{PlacedView}
use Rattle.node_inbox.specs.Approved.{TellsOutcomes, is_approved, part_of}
use Rattle.node_inbox.specs.Items.{model_content, model_item, model_items}
use Rattle.node_inbox.specs.declared.kept_item.KeptContent.{KeptContent}
use Rattle.node_inbox.specs.declared.kept_item.KeptContent.TheVariants.{Received, Told, Nothing}
use Rattle.node_inbox.specs.declared.kept_item.KeptItem.{KeptItem}
use Rattle.node_inbox.proofs.ActFacts.{placed_step}
use Rattle.node_inbox.proofs.Approved.{approved_is_told, part_of_approved}
use Rattle.node_inbox.proofs.Seen.{model_get, none_learnt}

-- ---- views

pub placed_front : (before ps : List PlacedView) (p : PlacedView) (all out new tree : Actions) → before ≡ p ∷ ps
    → new ≡ join out tree → tree ≡ assembled (tree_of p.view)
    → join out (put_back (placed_forest before)) ≡ all → join new (put_back (placed_forest ps)) ≡ all
placed_front before ps p all out new tree steps grown put keeps =
    placed_step (p ∷ ps) 0 p all out new tree (omega arith) refl grown put
    (subst (λ (xs : List PlacedView). join out (put_back (placed_forest xs)) ≡ all) steps keeps)

pub placed_none : (left : List PlacedView) (all out : Actions) → left ≡ [] → join out (put_back (placed_forest left)) ≡ all → out ≡ all
placed_none left all out none keeps =
    sym (join-end out) ∙ subst (λ (xs : List PlacedView). join out (put_back (placed_forest xs)) ≡ all) none keeps

-- ---- items

-- so many are taken, and what they open is put down
abbrev pub Takes : (items left : List KeptItem) (bound k : ℕ) (commits : List Commit) → Type 0
Takes items left bound k commits = (left ≡ drop k items) × (k ≤ bound) × (commits ≡ parts_below (model_items items) k)

front_of : (xs : List KeptItem) (k : ℕ) (x : KeptItem) (rest : List KeptItem) → x ∷ rest ≡ drop k xs
    → (slice_get xs k ≡ Some x) × (rest ≡ drop (suc k) xs)
front_of [] zero x rest e = absurd (omega (arith, ap length e))
front_of [] (suc k) x rest e = absurd (omega (arith, ap length e))
front_of (y ∷ xs) zero x rest e = (ap (λ (l : List KeptItem). slice_get l 0) (sym e), ap (λ (l : List KeptItem). drop 1 l) e)
front_of (y ∷ xs) (suc k) x rest e = front_of xs k x rest e

none_left : (xs : List KeptItem) (k : ℕ) → [] ≡ drop k xs → length xs ≤ k
none_left [] k e = omega arith
none_left (x ∷ xs) zero e = absurd (omega (arith, ap length e))
none_left (x ∷ xs) (suc k) e = omega (arith, none_left xs k e)

opened_of : (items : List KeptItem) (k : ℕ) (item : KeptItem) → slice_get items k ≡ Some item
    → opened_at (model_items items) k ≡ roots_in (shown_in_notice (notice_by (model_content item.content)))
opened_of items k item found = ap (λ (o : Option Item). roots_in (shown_in o)) (model_get items k ∙ ap (λ (o : Option KeptItem). option_map model_item o) found)

no_part : (b : Bool) (k : ℕ) → part_if b k NoRoots ≡ []
no_part true k = refl
no_part false k = refl

part_is : (params : Params) (ms : List Item) (k : ℕ) (told : Option Outcome) (content : KeptContent)
    → told ≡ outcome_received params ms k → opened_at ms k ≡ roots_in (shown_in_notice (notice_by (model_content content)))
    → part_of (is_approved told) k content ≡ part_if (is_approved_in k (moments ms)) k (opened_at ms k)
part_is params ms k told (Received kept) is opens =
    ap (λ (f : Forest Act). part_if true k (if is_approved told then f else NoRoots)) (sym opens)
    ∙ (ap (part_if true k) (approved_is_told params ms k told is) ∙ part_of_approved ms k)
part_is params ms k told (Told verdict) is opens = sym (ap (part_if (is_approved_in k (moments ms)) k) opens ∙ no_part (is_approved_in k (moments ms)) k)
part_is params ms k told Nothing is opens = sym (ap (part_if (is_approved_in k (moments ms)) k) opens ∙ no_part (is_approved_in k (moments ms)) k)

pub taken_step : (params : Params) (stands : Registered) (items before left : List KeptItem) (bound k : ℕ) (item : KeptItem) (commits new : List Commit)
    → TellsOutcomes params (model_items items) stands → k < bound → before ≡ item ∷ left
    → new ≡ commits ++ part_of (is_approved (outcome_at (stands.tracking).pairs k)) k item.content
    → Takes items before bound k commits → Takes items left bound (k + 1) new
taken_step params stands items before left bound k item commits new tells more steps grown takes =
    let ms = model_items items in
    let front = front_of items k item left (sym steps ∙ takes.0) in
    let part = part_is params ms k (outcome_at (stands.tracking).pairs k) item.content (tells k) (opened_of items k item front.0) in
    let next : k + 1 ≡ suc k = omega arith in
    rw next (
      front.1,
      omega (arith, more),
      grown
          ∙ (ap (λ (c : List Commit). c ++ part_of (is_approved (outcome_at (stands.tracking).pairs k)) k item.content) takes.2
          ∙ ap (λ (p : List Commit). parts_below ms k ++ p) part),
    )

-- as far as wanted
pub taken_far : (items left : List KeptItem) (bound k : ℕ) (commits : List Commit) → bound ≤ k → Takes items left bound k commits
    → commits ≡ parts_below (model_items items) bound
taken_far items left bound k commits far takes =
    let same : k ≡ bound = omega (arith, far, takes.1) in takes.2 ∙ ap (parts_below (model_items items)) same

as_many : (items : List KeptItem) → length (model_items items) ≡ length items
as_many [] = refl
as_many (x ∷ xs) = ap suc (as_many xs)

nothing_past : (ms : List Item) (k more : ℕ) → length ms ≤ k → parts_below ms (more + k) ≡ parts_below ms k
nothing_past ms k zero past = let same : 0 + k ≡ k = omega arith in ap (parts_below ms) same
nothing_past ms k (suc more) past =
    let next : suc more + k ≡ suc (more + k) = omega arith in
    let none : opened_at ms (more + k) ≡ NoRoots = ap (λ (o : Option Item). roots_in (shown_in o)) (slice_get_past ms (more + k) (omega (arith, past))) in
    let b = is_approved_in (more + k) (moments ms) in
    ap (parts_below ms) next
    ∙ (ap (λ (p : List Commit). parts_below ms (more + k) ++ p) (ap (part_if b (more + k)) none ∙ no_part b (more + k))
    ∙ (append-nil (parts_below ms (more + k)) ∙ nothing_past ms k more past))

-- or all of them
pub taken_all : (items left : List KeptItem) (bound k : ℕ) (commits : List Commit) → left ≡ [] → Takes items left bound k commits
    → commits ≡ parts_below (model_items items) bound
taken_all items left bound k commits none takes =
    let ms = model_items items in
    let past : length ms ≤ k = omega (arith, as_many items, none_left items k (sym none ∙ takes.0)) in
    let same : (bound - k) + k ≡ bound = omega (arith, takes.1) in
    takes.2 ∙ (sym (nothing_past ms k (bound - k) past) ∙ ap (parts_below ms) same)

-- ---- where nothing was received

opens_nothing : (ms : List Item) (k : ℕ) → is_received_at ms k ≡ false → opened_at ms k ≡ NoRoots
opens_nothing ms k e = ap (λ (o : Option Notice). roots_in (shown_in_notice o)) (none_learnt (slice_get ms k) e)

pub parts_none : (ms : List Item) (n : ℕ) → ((k : ℕ) → k < n → is_received_at ms k ≡ false) → [] ≡ parts_below ms n
parts_none ms zero silent = refl
parts_none ms (suc k) silent =
    let b = is_approved_in k (moments ms) in
    parts_none ms k (λ m lt. silent m (omega (arith, lt)))
    ∙ (sym (append-nil (parts_below ms k))
    ∙ ap (λ (p : List Commit). parts_below ms k ++ p) (sym (ap (part_if b k) (opens_nothing ms k (silent k (omega arith))) ∙ no_part b k)))
