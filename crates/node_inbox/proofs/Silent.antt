-- Silent items.
use Rattle.std.proofs.Common.{◌≡◌, ℕ, zero, suc, ◌+◌, ◌-◌, ◌≤◌, Bool, true, false, List, [], ◌∷◌, ◌++◌, length, map, Option, Some, refl, sym, ap, ◌∙◌, subst, arith}
use Rattle.std.specs.Prelude.{if◌then◌else◌, not, option_map, slice_get}
use Rattle.std.proofs.lemmas.Option.{none-some, same_Some}
use Rattle.ledger_terms.specs.declared.act.Act.{Act}
use Rattle.ledger_terms.specs.declared.topology.Topology.{Topology}
use Rattle.ledger_model.specs.Terms.{ParticipantId}
use Rattle.canton_model.specs.Inbox.{Content, Item, Nothing, Received, Told, is_decided_in, moments}
use Rattle.canton_model.specs.Log.{Params}
use Rattle.canton_model.specs.Reading.{Reading}
use Rattle.canton_model.specs.Timeline.{Moment}
use Rattle.lang_eval.specs.Found.{Packages}
use Rattle.contract_store.specs.Below.{at_place}
use Rattle.contract_store.specs.Written.{Placed}
use Rattle.pruned_inbox.specs.Forgotten.{silent_front}
use Rattle.pruned_inbox.specs.Received.{is_received_at}
use Rattle.pruned_inbox.specs.Start.{Start}
use Rattle.inbox_registry.specs.Changes.{authentic_at, changes_after, changes_in, pending_changes, placed_below}
use Rattle.inbox_registry.specs.Order.{AllLater, IsInOrder, Rise, VerdictsBehind}
use Rattle.inbox_registry.specs.Requests.{pairs_from, pairs_in}
use Rattle.inbox_registry.proofs.Told.{nothing_there}
use Rattle.node_inbox.specs.Items.{model_content, model_item, model_items}
use Rattle.node_inbox.specs.Kept.{AreKept, IsKeptContent}
use Rattle.node_inbox.specs.declared.kept_item.KeptContent.{KeptContent}
use Rattle.node_inbox.specs.declared.kept_item.KeptContent.TheVariants as kept
use Rattle.node_inbox.specs.declared.kept_item.KeptItem.{KeptItem}
use Rattle.node_inbox.proofs.Seen.{model_get}

pub silent_length : (b t : ℕ) → length (silent_front b t) ≡ b
silent_length zero t = refl
silent_length (suc b) t = ap suc (silent_length b t)

pub silent_unreceived : (b t m : ℕ) → is_received_at (silent_front b t) m ≡ false
silent_unreceived zero t m = refl
silent_unreceived (suc b) t zero = refl
silent_unreceived (suc b) t (suc m) = silent_unreceived b t m

-- ---- in order

all_later : (time b t : ℕ) → b ≤ t + 1 → time + b ≤ t → AllLater time (silent_front b t)
all_later time zero t fits early = tt
all_later time (suc b) t fits early = (omega (arith, fits, early), all_later time b t (omega (arith, fits)) (omega (arith, early)))

silent_rise : (b t : ℕ) → b ≤ t + 1 → Rise (silent_front b t)
silent_rise zero t fits = tt
silent_rise (suc b) t fits = (all_later (t - b) b t (omega (arith, fits)) (omega (arith, fits)), silent_rise b t (omega (arith, fits)))

silent_behind : (k b t : ℕ) → VerdictsBehind k (silent_front b t)
silent_behind k zero t = tt
silent_behind k (suc b) t = (tt, silent_behind (suc k) b t)

pub silent_in_order : (b t : ℕ) → b ≤ t + 1 → IsInOrder (silent_front b t)
silent_in_order b t fits = record { rise = silent_rise b t fits; behind = silent_behind 0 b t }

-- ---- nothing comes of them

silent_changes : (reading : Reading) (before : List Item) (b t : ℕ) → changes_after reading before (silent_front b t) ≡ []
silent_changes reading before zero t = refl
silent_changes reading before (suc b) t = silent_changes reading (before ++ record { time = t - b; content = Nothing } ∷ []) b t

pub none_changed : (reading : Reading) (b t : ℕ) → changes_in reading (silent_front b t) ≡ []
none_changed reading b t = silent_changes reading [] b t

none_placed : (keeps : ℕ → Bool) (f : ℕ → List Act) (n : ℕ) → ((m : ℕ) → f m ≡ []) → placed_below keeps f n ≡ []
none_placed keeps f zero none = refl
none_placed keeps f (suc k) none =
    ap (λ (ps : List Placed). ps ++ (if keeps k then map (at_place k) (f k) else [])) (none_placed keeps f k none)
    ∙ (ap (λ (as' : List Act). if keeps k then map (at_place k) as' else []) (none k) ∙ either (keeps k))
  where
    either : (t : Bool) → ◌≡◌ {A = List Placed} (if t then [] else []) []
    either true = refl
    either false = refl

pub none_pending : (reading : Reading) (params : Params) (b t : ℕ) → pending_changes reading params (silent_front b t) ≡ []
none_pending reading params b t =
    none_placed (λ m. not (is_decided_in params (silent_front b t) m (length (silent_front b t)))) (authentic_at reading (silent_front b t))
    (length (silent_front b t)) (λ m. nothing_there reading (silent_front b t) m (silent_unreceived b t m))

silent_pairs : (params : Params) (moments : List Moment) (k b t : ℕ) → pairs_from params moments k (silent_front b t) ≡ []
silent_pairs params moments k zero t = refl
silent_pairs params moments k (suc b) t = silent_pairs params moments (suc k) b t

pub none_tracked : (params : Params) (b t : ℕ) → pairs_in params (silent_front b t) ≡ []
none_tracked params b t = silent_pairs params (moments (silent_front b t)) 0 b t

-- ---- as they are kept

content_at : (b t k : ℕ) (item : Item) → slice_get (silent_front b t) k ≡ Some item → item.content ≡ Nothing
content_at zero t k item at = absurd (none-some item at)
content_at (suc b) t zero item at = ap (λ (x : Item). x.content) (sym (same_Some _ item at))
content_at (suc b) t (suc k) item at = content_at b t k item at

of_nothing : (topology : Topology) (packages : Packages) (me : ParticipantId) (start : Start) (items : List Item) (k : ℕ) (content : KeptContent)
    → model_content content ≡ Nothing → IsKeptContent topology packages me start items k content
of_nothing topology packages me start items k (kept.Received r) e = absurd (apart e)
  where
    is_request : Content → Type 0
    is_request (Received notice) = Unit {0}
    is_request (Told v) = ⊥
    is_request Nothing = ⊥

    apart : model_content (kept.Received r) ≡ Nothing → ⊥
    apart e = subst is_request e tt
of_nothing topology packages me start items k (kept.Told v) e = absurd (apart e)
  where
    is_verdict : Content → Type 0
    is_verdict (Received notice) = ⊥
    is_verdict (Told v) = Unit {0}
    is_verdict Nothing = ⊥

    apart : model_content (kept.Told v) ≡ Nothing → ⊥
    apart e = subst is_verdict e tt
of_nothing topology packages me start items k kept.Nothing e = tt

pub silent_kept : (topology : Topology) (packages : Packages) (me : ParticipantId) (start : Start) (items : List KeptItem) (b t : ℕ)
    → model_items items ≡ silent_front b t → AreKept topology packages me start items
silent_kept topology packages me start items b t same k item at =
    let there : slice_get (silent_front b t) k ≡ Some (model_item item) =
    ap (λ (xs : List Item). slice_get xs k) (sym same) ∙ (model_get items k ∙ ap (λ (o : Option KeptItem). option_map model_item o) at) in
    of_nothing topology packages me start _ k item.content (content_at b t k (model_item item) there)
