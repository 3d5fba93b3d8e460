-- Where an inbox begins, one item more, and with nothing behind its base.
use Rattle.std.proofs.Common.{◌≡◌, ℕ, ◌<◌, [], ◌∷◌, ◌++◌, map, List, refl, sym, ap, subst, ◌∙◌, append-nil, arith}
use Rattle.std.proofs.lemmas.List.Elements.{All-nil}
use Rattle.std.specs.Prelude.{Result, Ok, Err, OnErr, OnOk}
use Rattle.ledger_terms.specs.declared.topology.Topology.{Topology}
use Rattle.ledger_terms.specs.declared.active_row.ActiveRow.{ActiveRow}
use Rattle.ledger_model.specs.Terms.{Hash, ParticipantId}
use Rattle.canton_model.specs.Inbox.{Item}
use Rattle.canton_model.specs.Log.{Params}
use Rattle.canton_model.specs.Reading.{Reading}
use Rattle.lang_eval.specs.Found.{Packages}
use Rattle.contract_store.specs.Written.{Placed, holding, written}
use Rattle.framed_form.specs.FramedReading.{framed_reading}
use Rattle.pruned_inbox.specs.Forgotten.{silent_front}
use Rattle.pruned_inbox.specs.Received.{is_received_in}
use Rattle.pruned_inbox.specs.Start.{Start, no_start}
use Rattle.inbox_registry.specs.Changes.{NoneGone, changes_since, creation_of}
use Rattle.inbox_registry.specs.Offered.{CreatedOnce}
use Rattle.inbox_registry.specs.Order.{IsInOrder}
use Rattle.inbox_registry.specs.Registry.{Follows, Registered}
use Rattle.inbox_registry.proofs.Grown.{get_before, one_longer}
use Rattle.node_inbox.specs.Beginnings.{IsBeginning}
use Rattle.node_inbox.specs.InboxState.{InboxState, begun_at}
use Rattle.node_inbox.specs.Items.{model_items}
use Rattle.node_inbox.specs.Kept.{BeginsAt, IsInbox}
use Rattle.node_inbox.specs.Offered.{AreOnce}
use Rattle.node_inbox.specs.Reads.{HasRead, IsUnread}
use Rattle.node_inbox.specs.declared.kept_item.KeptItem.{KeptItem}
use Rattle.node_inbox.proofs.Silent.{none_changed, none_pending, none_tracked, silent_in_order, silent_kept, silent_length, silent_unreceived}

pub begins_more : (base : ℕ) (start : Start) (items : List Item) (x : Item) → BeginsAt base start items → BeginsAt base start (items ++ x ∷ [])
begins_more base start items x begins =
    let within = begins.within in
    record {
      within = (let n = one_longer items x in omega (arith, within, n));
      stands = record {
        order = begins.stands.order;
        below = begins.stands.below;
        silent = λ m lt. ap is_received_in (get_before items x m (omega (arith, lt, within))) ∙ begins.stands.silent m lt;
      };
    }

module _ (topology : Topology) (packages : Packages) (me : ParticipantId) (base : ℕ) (old new : List KeptItem) (start : Start) (stands : Registered) where
  abbrev At : Start → List Item → Type 0
  At from items = BeginsAt base from items

  pub begins_read : (x : Item) → HasRead topology packages me old new start stands x → At start (model_items old) → At stands.start (model_items new)
  begins_read x h begins =
      subst (λ (from : Start). At from (model_items new)) (sym h.start_is)
      (subst (At start) (sym h.items) (begins_more base start (model_items old) x begins))

  pub begins_unread : IsUnread topology packages me old new start stands → At start (model_items old) → At stands.start (model_items new)
  begins_unread u begins =
      subst (λ (from : Start). At from (model_items new)) (sym u.start_is)
      (subst (λ (items : List KeptItem). At start (model_items items)) (sym u.items) begins)

  pub begins_anyway : {X E : Type 0} (r : Result X E) (x : Item) → OnOk r (HasRead topology packages me old new start stands x)
      → OnErr r (IsUnread topology packages me old new start stands) → At start (model_items old) → At stands.start (model_items new)
  begins_anyway (Ok u) x ok err begins = begins_read x ok begins
  begins_anyway (Err e) x ok err begins = begins_unread err begins

-- ---- nothing was read behind the base

pub start_same : (s t : Start) → s.active ≡ t.active → s.gone ≡ t.gone → s ≡ t
start_same s t active gone =
    ap (λ (rows : List ActiveRow). record { active = rows; gone = s.gone }) active
    ∙ ap (λ (ids : List Hash). record { active = t.active; gone = ids }) gone

module _ (reading : Reading) (start : Start) (base base_time : ℕ) where
  abbrev front : List Item
  front = silent_front base base_time

  since_begun : changes_since reading start front ≡ map creation_of start.active
  since_begun =
      ap (λ (ps : List Placed). map creation_of start.active ++ ps) (none_changed reading base base_time) ∙ append-nil (map creation_of start.active)

  pub once_begun : IsBeginning base base_time start → AreOnce reading start front
  once_begun is =
      record {
        once = subst CreatedOnce (sym since_begun) is.once;
        none_gone = subst (NoneGone start) (sym since_begun) is.none_gone;
      }

  pub begins_begun : IsBeginning base base_time start → BeginsAt base start front
  begins_begun is =
      let long = silent_length base base_time in
      record {
        within = omega (arith, long);
        stands = record { order = is.order; below = is.below; silent = λ m lt. silent_unreceived base base_time m };
      }

  pub follows_begun : (params : Params) (stands : Registered) → (stands.store).rows ≡ written (map creation_of start.active) []
      → (stands.store).holds ≡ [] → (stands.tracking).pairs ≡ [] → (stands.tracking).cursor ≡ base → Follows reading params start front stands
  follows_begun params stands rows holds pairs cursor =
      record {
        rows = rows ∙ ap (λ (ps : List Placed). written ps []) (sym since_begun);
        holds = holds ∙ ap holding (sym (none_pending reading params base base_time));
        pairs = pairs ∙ sym (none_tracked params base base_time);
        cursor = cursor ∙ sym (silent_length base base_time);
      }

-- nothing was left at the first place
pub begins_new : IsBeginning 0 0 no_start
begins_new =
    record {
      few = omega arith;
      early = omega arith;
      order = tt;
      below = All-nil (λ (row : ActiveRow). row.created_at < 0);
      once = λ c. omega arith;
      none_gone = λ c e. refl;
      ascend = tt;
    }

module _ (topology : Topology) (packages : Packages) (me : ParticipantId) (base base_time : ℕ) where
  -- as many silent items as stand below the base, and the contracts of the start
  pub is_begun : (start : Start) (items : List KeptItem) (stands : Registered) → IsBeginning base base_time start → model_items items ≡ silent_front base base_time
      → stands.start ≡ start → (stands.store).rows ≡ written (map creation_of start.active) [] → (stands.store).holds ≡ []
      → (stands.tracking).pairs ≡ [] → (stands.tracking).cursor ≡ base → IsInbox topology packages me items stands
  is_begun start items stands is same from rows holds pairs cursor =
      let reading = framed_reading topology packages in
      let begun = follows_begun reading start base base_time topology.params stands rows holds pairs cursor in
      record {
        follows = subst (λ (start : Start). Follows reading topology.params start (model_items items) stands) (sym from)
            (subst (λ (items : List Item). Follows reading topology.params start items stands) (sym same) begun);
        order = subst IsInOrder (sym same) (silent_in_order base base_time is.early);
        each = silent_kept topology packages me stands.start items base base_time same;
      }

  abbrev state_by : Start → List Item → InboxState
  state_by start items =
      record { topology = topology; packages = packages; me = me; base = base; base_time = base_time; start = start; items = items }

  pub state_begun : (start from : Start) (items : List Item) → from ≡ start → items ≡ silent_front base base_time
      → state_by from items ≡ begun_at topology packages me base base_time start
  state_begun start from items same is = ap (λ (s : Start). state_by s items) same ∙ ap (state_by start) is
