-- A verdict is put behind the items that were read.
use Rattle.std.proofs.Common.{◌≡◌, ℕ, ◌+◌, ◌-◌, ◌^◌, ◌<◌, ◌≤◌, true, false, List, [], ◌∷◌, ◌++◌, length, take, Option, Some, None, is_some, refl, sym, ap, ◌∙◌, subst, inl, inr, le_refl}
use Rattle.std.specs.Prelude.{IfSome, IfNone, Result, Ok, Err, OnErr, if◌then◌else◌}
use Rattle.std.proofs.lemmas.Bool.{cases_lt}
use Rattle.std.proofs.lemmas.List.{take-append-le, take_all}
use Rattle.std.proofs.lemmas.Option.{slice_get_past}
use Rattle.ledger_terms.specs.declared.topology.Topology.{Topology}
use Rattle.ledger_model.specs.Terms.{ParticipantId}
use Rattle.canton_model.specs.declared.decision.Decision.{Decision}
use Rattle.canton_model.specs.declared.outcome.Outcome.{Outcome as Kind}
use Rattle.canton_model.specs.declared.verdict.Verdict.{Verdict}
use Rattle.canton_model.specs.Timeline.{Decided, kind_of, verdict_on}
use Rattle.canton_model.specs.Inbox.{Item, Told, last_time, moments, notice_at, notice_in}
use Rattle.canton_model.specs.Reading.{Reading}
use Rattle.lang_eval.specs.Found.{Packages}
use Rattle.request_track.specs.Pairs.{expired}
use Rattle.framed_form.specs.FramedReading.{framed_reading}
use Rattle.inbox_registry.specs.ChangeLists.{write_changes}
use Rattle.inbox_registry.specs.Registry.{Follows, Registered}
use Rattle.inbox_registry.specs.Steps.{HoldsFollow}
use Rattle.inbox_registry.specs.declared.change.Change.{Change}
use Rattle.inbox_registry.proofs.Followed.{follows_later, follows_verdict}
use Rattle.node_inbox.specs.Coming.{IsTelling}
use Rattle.node_inbox.specs.Items.{model_items}
use Rattle.node_inbox.specs.Kept.{IsInbox}
use Rattle.node_inbox.specs.Reads.{HasRead, IsSettled, item_with}
use Rattle.node_inbox.specs.declared.kept_item.KeptContent.TheVariants as kept
use Rattle.node_inbox.specs.declared.kept_item.KeptItem.{KeptItem}
use Rattle.node_inbox.specs.declared.telling.ComingVerdict.{ComingVerdict}
use Rattle.node_inbox.proofs.Put.{as_many, has_read}

pub on_err : {X E P : Type 0} (r : Result X E) → P → OnErr r P
on_err (Ok x) p = tt
on_err (Err e) p = p

-- what is received stands within the inbox
pub received_within : (items : List Item) (k : ℕ) → is_some (notice_at items k) ≡ true → k < length items
received_within items k e = elim (cases_lt k (length items)) [
  | inl lt ↦ lt
  | inr past ↦ absurd (let none : is_some (notice_at items k) ≡ false = ap (λ (o : Option Item). is_some (notice_in o)) (slice_get_past items k past) in
      let no : true ≡ false = sym e ∙ none in cc)
]

module _ (topology : Topology) (packages : Packages) (me : ParticipantId) (old : List KeptItem) (coming : ComingVerdict) (time : ℕ)
    (tells : IsTelling (framed_reading topology packages) (model_items old) coming.verdict coming) where
  abbrev reading : Reading
  reading = framed_reading topology packages

  abbrev v : Verdict
  v = coming.verdict

  abbrev x : Item
  x = item_with time (Told coming.verdict)

  follows : (stands mid after stands' : Registered) → IsInbox topology packages me old stands → time ≤ 2 ^ 64 - 1
      → (mid.store).rows ≡ (stands.store).rows → (mid.tracking).pairs ≡ expired time (stands.tracking).pairs
      → HoldsFollow (stands.tracking).pairs (mid.tracking).pairs (stands.store).holds (mid.store).holds
      → (mid.tracking).cursor ≡ (stands.tracking).cursor
      → stands'.store ≡ after.store → (stands'.tracking).pairs ≡ (after.tracking).pairs → (stands'.tracking).cursor ≡ (after.tracking).cursor + 1
      → (w : Option Decision) → verdict_on v.request (moments (model_items old)) ≡ w
      → IfSome (if is_some w then None else Some (kind_of (Decided v.decision))) (λ o. IsSettled mid after v.request o coming.changes.items)
      → IfNone (if is_some w then None else Some (kind_of (Decided v.decision))) (after ≡ mid)
      → Follows reading topology.params stands.start (model_items old ++ x ∷ []) stands'
  follows stands mid after stands' i fits rows pairs holds cursor store' pairs' cursor' (Some d) told some none =
      let same : after ≡ mid = none in
      let rows2 : (stands'.store).rows ≡ (stands.store).rows = ap (λ s. s.rows) store' ∙ ap (λ (s : Registered). (s.store).rows) same ∙ rows in
      let pairs2 : (stands'.tracking).pairs ≡ (mid.tracking).pairs = pairs' ∙ ap (λ (s : Registered). (s.tracking).pairs) same in
      let holds2 : (stands'.store).holds ≡ (mid.store).holds = ap (λ s. s.holds) store' ∙ ap (λ (s : Registered). (s.store).holds) same in
      let held : HoldsFollow (stands.tracking).pairs (stands'.tracking).pairs (stands.store).holds (mid.store).holds =
      subst (λ ps. HoldsFollow (stands.tracking).pairs ps (stands.store).holds (mid.store).holds) (sym pairs2) holds in
      let at : (after.tracking).cursor ≡ (stands.tracking).cursor = ap (λ (s : Registered). (s.tracking).cursor) same ∙ cursor in
      follows_later reading topology.params stands.start (model_items old) x v d stands stands' refl refl told fits i.follows rows2 (pairs2 ∙ pairs)
      (λ f n e. holds2 ∙ held f n e) (cursor' ∙ ap (λ (n : ℕ). n + 1) at)
  follows stands mid after stands' i fits rows pairs holds cursor store' pairs' cursor' None first some none =
      let s : IsSettled mid after v.request (kind_of (Decided v.decision)) coming.changes.items = some in
      follows_verdict reading topology.params stands.start (model_items old) x v stands mid stands' refl refl first fits i.order i.follows rows pairs holds
      (ap (λ t. t.rows) store' ∙ s.rows ∙ ap (λ (cs : List Change). write_changes v.request cs (mid.store).rows) tells.changes_are)
      (ap (λ t. t.holds) store' ∙ s.holds)
      (pairs' ∙ s.pairs)
      (cursor' ∙ ap (λ (n : ℕ). n + 1) (s.cursor ∙ cursor))

  pub read_verdict : (new : List KeptItem) (stands mid after stands' : Registered) → IsInbox topology packages me old stands
      → last_time (model_items old) < time → time ≤ 2 ^ 64 - 1
      → (mid.store).rows ≡ (stands.store).rows → (mid.tracking).pairs ≡ expired time (stands.tracking).pairs
      → HoldsFollow (stands.tracking).pairs (mid.tracking).pairs (stands.store).holds (mid.store).holds
      → (mid.tracking).cursor ≡ (stands.tracking).cursor
      → stands'.store ≡ after.store → (stands'.tracking).pairs ≡ (after.tracking).pairs → (stands'.tracking).cursor ≡ (after.tracking).cursor + 1
      → IfSome coming.first (λ o. IsSettled mid after v.request o coming.changes.items) → IfNone coming.first (after ≡ mid)
      → new ≡ old ++ record { time = time; content = kept.Told coming.verdict } ∷ []
      → mid.start ≡ stands.start → stands'.start ≡ after.start
      → HasRead topology packages me old new stands.start stands' (item_with time (Told coming.verdict))
  read_verdict new stands mid after stands' i later fits rows pairs holds cursor store' pairs' cursor' some none put start start' =
      has_read topology packages me old new (record { time = time; content = kept.Told coming.verdict }) stands stands' i later
      (received_within (model_items old) v.request tells.received) told
      (follows stands mid after stands' i fits rows pairs holds cursor store' pairs' cursor' (verdict_on v.request (moments (model_items old))) refl
      (subst (λ (w : Option Kind). IfSome w (λ o. IsSettled mid after v.request o coming.changes.items)) tells.first_is some)
      (subst (λ (w : Option Kind). IfNone w (after ≡ mid)) tells.first_is none)) put (start' ∙ (settled_start coming.first some none ∙ start))
    where
      front : take (length old) (model_items old ++ x ∷ []) ≡ model_items old
      front =
          ap (λ (n : ℕ). take n (model_items old ++ x ∷ [])) (sym (as_many old))
          ∙ (take-append-le (length (model_items old)) (model_items old) (x ∷ []) (le_refl (length (model_items old)))
          ∙ take_all (length (model_items old)) (model_items old) (le_refl (length (model_items old))))

      told : is_some (notice_at (take (length old) (model_items old ++ x ∷ [])) v.request) ≡ true
      told = ap (λ (items : List Item). is_some (notice_at items v.request)) front ∙ tells.received

      settled_start : (w : Option Kind) → IfSome w (λ o. IsSettled mid after v.request o coming.changes.items) → IfNone w (after ≡ mid) → after.start ≡ mid.start
      settled_start None s n = ap (λ (t : Registered). t.start) n
      settled_start (Some o) s n = s.start
