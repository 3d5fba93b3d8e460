-- The ids of an inbox tell of its contracts, one item more.
use Rattle.std.proofs.Common.{◌≡◌, ℕ, Bool, true, false, cond, if◌then◌else◌, List, [], ◌∷◌, ◌++◌, filter, Option, Some, None, is_some, inl, inr, refl, sym, ap, ◌∙◌, subst}
use Rattle.std.specs.Prelude.{◌||◌, ◌&&◌, nat_le, Result, Ok, Err, OnOk, OnErr}
use Rattle.std.proofs.lemmas.Bool.{and_parts}
use Rattle.ledger_terms.specs.declared.active_row.ActiveRow.{ActiveRow}
use Rattle.ledger_terms.specs.declared.known.Known.{Known}
use Rattle.ledger_terms.specs.declared.topology.Topology.{Topology}
use Rattle.ledger_model.specs.Terms.{Hash, ParticipantId}
use Rattle.ledger_model.proofs.Lists.{In, contains_from_In}
use Rattle.canton_model.specs.Inbox.{Item, Told, verdict_in}
use Rattle.canton_model.specs.Reading.{Reading}
use Rattle.lang_eval.specs.Found.{Packages}
use Rattle.contract_store.specs.Active.{active, active_rows, in_order, in_order_if, knowns}
use Rattle.contract_store.specs.Rows.{row_of}
use Rattle.contract_store.specs.Written.{written}
use Rattle.contract_store.specs.declared.row.StoreRow.{StoreRow}
use Rattle.framed_form.specs.FramedReading.{framed_reading}
use Rattle.inbox_registry.specs.ChangeLists.{changes_of, write_changes}
use Rattle.pruned_inbox.specs.Start.{Start}
use Rattle.inbox_registry.specs.Changes.{acts_of_verdict, changes_since}
use Rattle.inbox_registry.specs.Registry.{Registered}
use Rattle.inbox_registry.specs.declared.change.Change.{Change}
use Rattle.inbox_registry.proofs.Grown.{rows_same, rows_written}
use Rattle.prepare_request.specs.Hosted.{AreTold, TellHosted, has_hosted_id, hosted_rows, is_among}
use Rattle.node_inbox.specs.AddedIds.{AreNew, added_behind}
use Rattle.node_inbox.specs.Coming.{IsTelling}
use Rattle.node_inbox.specs.Items.{model_items}
use Rattle.node_inbox.specs.Kept.{IsInbox}
use Rattle.node_inbox.specs.Listed.{is_offered}
use Rattle.node_inbox.specs.Offered.{AreOnceIf, offered}
use Rattle.node_inbox.specs.Reads.{HasRead, IsUnread, item_with}
use Rattle.node_inbox.specs.declared.kept_item.KeptItem.{KeptItem}
use Rattle.node_inbox.specs.declared.telling.ComingVerdict.{ComingVerdict}
use Rattle.node_inbox.proofs.AddedIds.{TellsOn, all_say, all_told}
use Rattle.node_inbox.proofs.NewContracts.{once_same, once_told}

module _ (topology : Topology) (packages : Packages) (me : ParticipantId) (old new : List KeptItem) (stands stands' : Registered)
    (i : IsInbox topology packages me old stands) (ids : List Hash) where
  abbrev reading : Reading
  reading = framed_reading topology packages

  abbrev at_rows : List Hash → Registered → Type 0
  at_rows known s = AreTold reading me known (s.store).rows

  -- nothing was read
  pub told_unread : IsUnread topology packages me old new stands.start stands' → at_rows ids stands → at_rows ids stands'
  told_unread u told =
      subst (λ rows. AreTold reading me ids rows)
      (i.follows.rows ∙ (ap (λ (items : List KeptItem). written (changes_since reading stands.start (model_items items)) []) (sym u.items)
      ∙ (ap (λ (start : Start). written (changes_since reading start (model_items new)) []) (sym u.start_is) ∙ sym u.inbox.follows.rows))) told

  -- with one item more, from the same start
  rows_now : (x : Item) → HasRead topology packages me old new stands.start stands' x
      → written (changes_since reading stands.start (model_items old ++ x ∷ [])) [] ≡ (stands'.store).rows
  rows_now x h =
      ap (λ (items : List Item). written (changes_since reading stands.start items) []) (sym h.items)
      ∙ (ap (λ (start : Start). written (changes_since reading start (model_items new)) []) (sym h.start_is) ∙ sym h.inbox.follows.rows)

  -- an item that is no verdict
  pub told_same : (x : Item) → verdict_in x.content ≡ None → HasRead topology packages me old new stands.start stands' x → at_rows ids stands → at_rows ids stands'
  told_same x none h told =
      subst (λ rows. AreTold reading me ids rows)
      (rows_same reading stands.start (model_items old) x (stands.store).rows none i.follows.rows ∙ rows_now x h) told

  -- a verdict
  pub told_verdict : TellsOn reading me → (coming : ComingVerdict) (time : ℕ) (more : List Hash) → IsTelling reading (model_items old) coming.verdict coming
      → HasRead topology packages me old new stands.start stands' (item_with time (Told coming.verdict)) → at_rows ids stands
      → ((c : Hash) → is_among more c ≡ (is_among (added_behind reading me (stands.store).rows [] coming.changes.items) c || is_among ids c))
      → at_rows more stands'
  told_verdict on coming time more tells h told among =
      subst (λ rows. AreTold reading me more rows)
      (ap (λ (cs : List Change). write_changes coming.verdict.request cs (stands.store).rows) tells.changes_are
      ∙ (rows_written reading stands.start (model_items old) (item_with time (Told coming.verdict)) coming.verdict (stands.store).rows refl i.follows.rows
      ∙ rows_now (item_with time (Told coming.verdict)) h))
      (all_told reading me on coming.verdict.request (stands.store).rows (all_say (changes_since reading stands.start (model_items old)) (stands.store).rows i.follows.rows)
      coming.changes.items (stands.store).rows ids [] more (λ c. or_nothing (is_some (row_of c (stands.store).rows))) told among)
    where
      or_nothing : (b : Bool) → b ≡ (b || false)
      or_nothing true = refl
      or_nothing false = refl

  abbrev once_of : Bool → Start → List KeptItem → Type 0
  once_of once start items = AreOnceIf once reading start (model_items items)

  -- whether an item that is no verdict was read or not
  pub kept_anyway : {X E : Type 0} (r : Result X E) (x : Item) → verdict_in x.content ≡ None → OnOk r (HasRead topology packages me old new stands.start stands' x)
      → OnErr r (IsUnread topology packages me old new stands.start stands') → (once : Bool) → at_rows ids stands → once_of once stands.start old
      → IsInbox topology packages me new stands' × at_rows ids stands' × once_of once stands'.start new
  kept_anyway (Ok u) x none ok err once told are = (
    ok.inbox,
    told_same x none ok told,
    subst (λ (start : Start). once_of once start new) (sym ok.start_is)
        (subst (λ (items : List Item). AreOnceIf once reading stands.start items) (sym ok.items) (λ is. once_same reading stands.start (model_items old) x none (are is))),
  )
  kept_anyway (Err e) x none ok err once told are = (
    err.inbox,
    told_unread err told,
    subst (λ (start : Start). once_of once start new) (sym err.start_is)
        (subst (λ (items : List KeptItem). once_of once stands.start items) (sym err.items) are),
  )

  -- a verdict
  pub once_verdict : (coming : ComingVerdict) (time : ℕ) → IsTelling reading (model_items old) coming.verdict coming
      → HasRead topology packages me old new stands.start stands' (item_with time (Told coming.verdict)) → (once new_ones : Bool)
      → (new_ones ≡ true → AreNew stands.start (stands.store).rows coming.changes.items) → once_of once stands.start old
      → once_of (once && new_ones) stands'.start new
  once_verdict coming time tells h once new_ones is_new are =
      subst (λ (start : Start). once_of (once && new_ones) start new) (sym h.start_is)
      (subst (λ (items : List Item). AreOnceIf (once && new_ones) reading stands.start items) (sym h.items) (λ is.
      let both = and_parts once new_ones is in
      once_told reading stands.start (model_items old) (item_with time (Told coming.verdict)) coming.verdict refl (are both.0)
      (subst (λ (rows : List StoreRow). AreNew stands.start rows (changes_of (acts_of_verdict reading (model_items old) coming.verdict))) i.follows.rows
      (subst (λ (cs : List Change). AreNew stands.start (stands.store).rows cs) tells.changes_are (is_new both.1)))))

-- ---- what is offered

module _ (reading : Reading) (p : ParticipantId) (ids : List Hash) where
  abbrev tells_of : ActiveRow → Type 0
  tells_of a = is_among ids a.known.id ≡ is_offered reading p a

  abbrev Agree : List ActiveRow → Type 0
  Agree [] = Unit {0}
  Agree (a ∷ rest) = tells_of a × Agree rest

  agree_in_order : (a : ActiveRow) (rest : List ActiveRow) → tells_of a → Agree rest → Agree (in_order a rest)
  agree_in_order a [] h hs = (h, tt)
  agree_in_order a (b ∷ bs) h hs = by (nat_le a.created_at b.created_at) (agree_in_order a bs h hs.1)
    where
      by : (t : Bool) → Agree (in_order a bs) → Agree (if t then a ∷ b ∷ bs else b ∷ in_order a bs)
      by true rest = (h, hs)
      by false rest = (hs.0, rest)

  agree_if : (o : Option ActiveRow) (rest : List ActiveRow) → ((a : ActiveRow) → o ≡ Some a → tells_of a) → Agree rest → Agree (in_order_if o rest)
  agree_if None rest h hs = hs
  agree_if (Some a) rest h hs = agree_in_order a rest (h a refl) hs

  agree_rows : (rows : List StoreRow) → ((row : StoreRow) (a : ActiveRow) → In row rows → active row ≡ Some a → tells_of a) → Agree (active_rows rows)
  agree_rows [] h = tt
  agree_rows (row ∷ rows) h =
      agree_if (active row) (active_rows rows) (λ a e. h row a (inl refl) e) (agree_rows rows (λ r a there e. h r a (inr there) e))

  filter_agrees : (rest : List ActiveRow) → Agree rest → filter (has_hosted_id ids) (knowns rest) ≡ knowns (filter (is_offered reading p) rest)
  filter_agrees [] h = refl
  filter_agrees (a ∷ rest) h = by (is_among ids a.known.id) (is_offered reading p a) h.0 (filter_agrees rest h.1)
    where
      by : (s t : Bool) → s ≡ t → filter (has_hosted_id ids) (knowns rest) ≡ knowns (filter (is_offered reading p) rest)
          → cond s (a.known ∷ filter (has_hosted_id ids) (knowns rest)) (filter (has_hosted_id ids) (knowns rest))
          ≡ knowns (cond t (a ∷ filter (is_offered reading p) rest) (filter (is_offered reading p) rest))
      by true true e k = ap (λ (l : List Known). a.known ∷ l) k
      by false false e k = k
      by true false e k = absurd (cc)
      by false true e k = absurd (cc)

  pub offered_is : (rows : List StoreRow) → TellHosted reading p ids rows → hosted_rows ids rows ≡ knowns (offered reading p rows)
  offered_is rows tells =
      filter_agrees (active_rows rows) (agree_rows rows (λ row a there e. tells row a (contains_from_In rows row there) e))
