-- What an inbox keeps of its answers, one item more.
use Rattle.std.proofs.Common.{◌≡◌, ℕ, ◌<◌, ◌≤◌, Bool, true, false, List, [], ◌∷◌, ◌++◌, length, Option, Some, None, refl, sym, ap, ◌∙◌, subst, arith}
use Rattle.std.specs.Prelude.{Result, Ok, Err, OnOk, OnErr, nat_le, ◌&&◌, if◌then◌else◌}
use Rattle.std.proofs.lemmas.Bool.{and_parts, leb-true, ne_eqb}
use Rattle.std.proofs.lemmas.Option.{none-some, same_Some}
use Rattle.ledger_terms.specs.declared.topology.Topology.{Topology}
use Rattle.ledger_model.specs.Status.{status_after}
use Rattle.ledger_model.specs.Terms.{ParticipantId}
use Rattle.canton_model.specs.Inbox.{Item, Told, parts_below, verdict_in}
use Rattle.canton_model.specs.Log.{Params}
use Rattle.canton_model.specs.Reading.{Reading}
use Rattle.canton_model.specs.Timeline.{decision_on}
use Rattle.canton_model.specs.declared.verdict.Verdict.{Verdict}
use Rattle.lang_eval.specs.Found.{Packages}
use Rattle.pruned_inbox.specs.Start.{Start}
use Rattle.contract_store.specs.Written.{acts_of, written}
use Rattle.contract_store.specs.declared.row.StoreRow.{StoreRow}
use Rattle.framed_form.specs.FramedReading.{framed_reading}
use Rattle.inbox_registry.specs.ChangeLists.{changes_of}
use Rattle.inbox_registry.specs.Changes.{acts_of_verdict, changes_since}
use Rattle.inbox_registry.specs.Order.{IsInOrder}
use Rattle.inbox_registry.specs.Registry.{Registered}
use Rattle.inbox_registry.specs.declared.change.Change.{Change}
use Rattle.inbox_registry.proofs.Grown.{one_longer}
use Rattle.node_inbox.specs.AddedIds.{AreNew, is_unknown}
use Rattle.node_inbox.specs.Coming.{IsTelling}
use Rattle.node_inbox.specs.Items.{model_items}
use Rattle.node_inbox.specs.Kept.{BeginsAt, IsInbox}
use Rattle.node_inbox.specs.KeptActive.{AreActive, AreActiveIf, AreFresh, CreateOnly, IsKeptIf, are_at_most, begun_below, not_behind}
use Rattle.node_inbox.specs.Places.{AreApproved, AreKeptIf, approved_below, parts_at}
use Rattle.node_inbox.specs.Reads.{HasRead, IsUnread, item_with}
use Rattle.node_inbox.specs.declared.approved_places.ApprovedPlaces.{ApprovedPlaces}
use Rattle.node_inbox.specs.declared.kept_active.KeptActive.{KeptActive}
use Rattle.node_inbox.specs.declared.kept_item.KeptItem.{KeptItem}
use Rattle.node_inbox.specs.declared.telling.ComingVerdict.{ComingVerdict}
use Rattle.node_inbox.proofs.Later.{active_stays, create_below, fresh_stays, nothing_behind}
use Rattle.node_inbox.proofs.NewContracts.{all_unknown}
use Rattle.node_inbox.proofs.Places.{approved_same, approved_told, none_approved, parts_are, unreceived_approved}

-- ---- the active contracts

-- what stands behind all items is fresh
pub end_fresh : (reading : Reading) (start : Start) (items : List Item) → IsInOrder items → AreFresh reading start items (length items)
end_fresh reading start items o k h =
    subst (CreateOnly (λ c. is_unknown (status_after (acts_of (begun_below reading start items (length items))) c))) (sym (nothing_behind reading items o k h)) tt

module _ (reading : Reading) (p : ParticipantId) (start : Start) (items : List Item) (x : Item) (o : IsInOrder items) (o' : IsInOrder (items ++ x ∷ [])) (kept : KeptActive)
    (are : AreActive reading p start items kept) where
  active_same : verdict_in x.content ≡ None → AreActive reading p start (items ++ x ∷ []) kept
  active_same none =
      let on : (k : ℕ) → k < kept.place → decision_on k (verdict_in x.content) ≡ None = λ k lt. ap (decision_on k) none in
      record {
        within = omega (arith, are.within, one_longer items x);
        rows = are.rows ∙ sym (active_stays reading items o x o' kept.place are.within on start p);
        fresh = fresh_stays reading items o x o' kept.place are.within on start are.fresh (λ v e. absurd (none-some v (sym none ∙ e)));
      }

  active_told : (v : Verdict) → verdict_in x.content ≡ Some v → kept.place ≤ v.request
      → AreNew start (written (changes_since reading start items) []) (changes_of (acts_of_verdict reading items v))
      → AreActive reading p start (items ++ x ∷ []) kept
  active_told v some le new =
      let on : (k : ℕ) → k < kept.place → decision_on k (verdict_in x.content) ≡ None =
      λ k lt. ap (decision_on k) some ∙ rw (ne_eqb v.request k (λ e. omega (arith, e, lt, le))) refl in
      record {
        within = omega (arith, are.within, one_longer items x);
        rows = are.rows ∙ sym (active_stays reading items o x o' kept.place are.within on start p);
        fresh = fresh_stays reading items o x o' kept.place are.within on start are.fresh
            (λ w e. subst (λ (u : Verdict). CreateOnly (λ c. is_unknown (status_after (acts_of (begun_below reading start items kept.place)) c)) (acts_of_verdict reading items u))
            (same_Some v w (sym some ∙ e))
            (create_below reading items o start kept.place are.within (acts_of_verdict reading items v)
            (all_unknown (written (changes_since reading start items) []) (acts_of_verdict reading items v) [] new.unheard)));
      }

-- ---- both, as an inbox reads

module _ (topology : Topology) (packages : Packages) (me : ParticipantId) (old new : List KeptItem) (stands stands' : Registered)
    (i : IsInbox topology packages me old stands) (approved : ApprovedPlaces) (active : Option KeptActive) where
  abbrev reading : Reading
  reading = framed_reading topology packages

  abbrev pub KeepBoth : Start → List KeptItem → ApprovedPlaces → Option KeptActive → Type 0
  KeepBoth start items as' cs = AreApproved topology.params (model_items items) as' × AreActiveIf reading me start (model_items items) cs

  in_order : (x : Item) → HasRead topology packages me old new stands.start stands' x → IsInOrder (model_items old ++ x ∷ [])
  in_order x h = subst IsInOrder h.items h.inbox.order

  same_if : (x : Item) (o' : IsInOrder (model_items old ++ x ∷ [])) (o : Option KeptActive) → verdict_in x.content ≡ None
      → AreActiveIf reading me stands.start (model_items old) o → AreActiveIf reading me stands.start (model_items old ++ x ∷ []) o
  same_if x o' None none are = tt
  same_if x o' (Some kept) none are = active_same reading me stands.start (model_items old) x i.order o' kept are none

  -- whether an item that is no verdict was read or not
  pub both_anyway : {X E : Type 0} (r : Result X E) (x : Item) → verdict_in x.content ≡ None → OnOk r (HasRead topology packages me old new stands.start stands' x)
      → OnErr r (IsUnread topology packages me old new stands.start stands') → KeepBoth stands.start old approved active → KeepBoth stands'.start new approved active
  both_anyway (Ok u) x none ok err both =
      subst (λ (start : Start). KeepBoth start new approved active) (sym ok.start_is) (
        subst (λ (items : List Item). AreApproved topology.params items approved) (sym ok.items) (approved_same topology.params (model_items old) x approved none both.0),
        subst (λ (items : List Item). AreActiveIf reading me stands.start items active) (sym ok.items) (same_if x (in_order x ok) active none both.1),
      )
  both_anyway (Err e) x none ok err both =
      subst (λ (start : Start). KeepBoth start new approved active) (sym err.start_is)
      (subst (λ (items : List KeptItem). KeepBoth stands.start items approved active) (sym err.items) both)

  -- a verdict
  pub approved_verdict : (coming : ComingVerdict) (time : ℕ) → HasRead topology packages me old new stands.start stands' (item_with time (Told coming.verdict))
      → (base : ℕ) → BeginsAt base stands'.start (model_items new)
      → (after : ApprovedPlaces) → AreKeptIf (nat_le approved.below (coming.verdict).request) base approved after
      → AreApproved topology.params (model_items old) approved → AreApproved topology.params (model_items new) after
  approved_verdict coming time h base begins after kept are = by (nat_le approved.below (coming.verdict).request) refl kept
    where
      by : (b : Bool) → nat_le approved.below (coming.verdict).request ≡ b → AreKeptIf b base approved after → AreApproved topology.params (model_items new) after
      by true le same =
          subst (AreApproved topology.params (model_items new)) (sym same)
          (subst (λ (items : List Item). AreApproved topology.params items approved) (sym h.items)
          (approved_told topology.params (model_items old) (item_with time (Told coming.verdict)) approved coming.verdict refl (leb-true approved.below (coming.verdict).request le) are))
      by false le none = unreceived_approved topology.params (model_items new) base after begins.within begins.stands.silent none.0 none.1

  told_if : (coming : ComingVerdict) (time : ℕ) (o' : IsInOrder (model_items old ++ item_with time (Told coming.verdict) ∷ [])) (o : Option KeptActive)
      → IsTelling reading (model_items old) coming.verdict coming → AreNew stands.start (stands.store).rows coming.changes.items
      → are_at_most o (coming.verdict).request ≡ true → AreActiveIf reading me stands.start (model_items old) o
      → AreActiveIf reading me stands.start (model_items old ++ item_with time (Told coming.verdict) ∷ []) o
  told_if coming time o' None tells new le are = tt
  told_if coming time o' (Some kept) tells new le are =
      active_told reading me stands.start (model_items old) (item_with time (Told coming.verdict)) i.order o' kept are
      coming.verdict refl (leb-true kept.place (coming.verdict).request le)
      (subst (λ (rows : List StoreRow). AreNew stands.start rows (changes_of (acts_of_verdict reading (model_items old) coming.verdict))) i.follows.rows
      (subst (λ (cs : List Change). AreNew stands.start (stands.store).rows cs) tells.changes_are new))

  pub active_verdict : (coming : ComingVerdict) (time : ℕ) → IsTelling reading (model_items old) coming.verdict coming
      → HasRead topology packages me old new stands.start stands' (item_with time (Told coming.verdict))
      → (is_new is_behind : Bool) → (is_new ≡ true → AreNew stands.start (stands.store).rows coming.changes.items)
      → is_behind ≡ are_at_most active (coming.verdict).request
      → (after : Option KeptActive) → IsKeptIf (is_new && is_behind) active after
      → AreActiveIf reading me stands.start (model_items old) active → AreActiveIf reading me stands'.start (model_items new) after
  active_verdict coming time tells h is_new is_behind new_is behind_is after kept are = by (is_new && is_behind) refl kept
    where
      by : (b : Bool) → (is_new && is_behind) ≡ b → IsKeptIf b active after → AreActiveIf reading me stands'.start (model_items new) after
      by true both same =
          let parts = and_parts is_new is_behind both in
          subst (AreActiveIf reading me stands'.start (model_items new)) (sym same)
          (subst (λ (start : Start). AreActiveIf reading me start (model_items new) active) (sym h.start_is)
          (subst (λ (items : List Item). AreActiveIf reading me stands.start items active) (sym h.items)
          (told_if coming time (in_order (item_with time (Told coming.verdict)) h) active tells (new_is parts.0) (sym behind_is ∙ parts.1) are)))
      by false both none = subst (AreActiveIf reading me stands'.start (model_items new)) (sym none) tt

-- ---- those that aren't behind a place

module _ (params : Params) (items : List Item) (approved none : ApprovedPlaces) (end : ℕ) (are : AreApproved params items approved)
    (first : none.below ≡ 0) (empty : none.places ≡ []) where
  pub not_behind_places : (known : ApprovedPlaces) → known ≡ (if nat_le approved.below end then approved else none)
      → (known.places ≡ approved_below params items known.below) × (known.below ≤ end)
  not_behind_places known is = by (nat_le approved.below end) refl is
    where
      by : (b : Bool) → nat_le approved.below end ≡ b → known ≡ (if b then approved else none)
          → (known.places ≡ approved_below params items known.below) × (known.below ≤ end)
      by true le same = (
        (subst (AreApproved params items) (sym same) are).places,
        (let w : approved.below ≤ end = leb-true approved.below end le in subst (λ (a : ApprovedPlaces). a.below ≤ end) (sym same) w),
      )
      by false le same = (
        (subst (AreApproved params items) (sym same) (none_approved params items none first empty)).places,
        (let w : none.below ≤ end = omega (arith, first) in subst (λ (a : ApprovedPlaces). a.below ≤ end) (sym same) w),
      )

  -- what they open
  pub not_behind_are : (known : ApprovedPlaces) → known ≡ (if nat_le approved.below end then approved else none)
      → (parts_at items known.places ≡ parts_below items known.below) × (known.below ≤ end)
  not_behind_are known is =
      let are = not_behind_places known is in (ap (parts_at items) are.0 ∙ parts_are params items known.below, are.1)

-- those that aren't behind a place
pub not_behind_active : (reading : Reading) (p : ParticipantId) (start : Start) (items : List Item) (kept : Option KeptActive) (end : ℕ) (known : KeptActive)
    → AreActiveIf reading p start items kept → not_behind kept end ≡ Some known → AreActive reading p start items known × (known.place ≤ end)
not_behind_active rules p start items None end known are e = absurd (none-some known e)
not_behind_active rules p start items (Some kept) end known are e = by (nat_le kept.place end) refl e
  where
    by : (b : Bool) → nat_le kept.place end ≡ b → (if b then Some kept else None) ≡ Some known → AreActive rules p start items known × (known.place ≤ end)
    by true le e =
        let same : kept ≡ known = same_Some kept known e in (
          subst (AreActive rules p start items) same are,
          subst (λ (a : KeptActive). a.place ≤ end) same (leb-true kept.place end le),
        )
    by false le e = absurd (none-some known e)
