use Rattle.std.proofs.Common.{◌≡◌, Bool, true, false, List, [], refl, ap, ◌∙◌, subst, sym}
use Rattle.std.specs.Prelude.{◌||◌, ◌&&◌, not}
use Rattle.std.proofs.lemmas.Bool.{and_parts}
use Rattle.ledger_model.specs.Terms.{Hash}
use Rattle.framed_form.specs.FramedReading.{framed_reading}
use Rattle.pruned_inbox.specs.Start.{Start}
use Rattle.inbox_registry.specs.declared.change.Change.{Change}
use Rattle.contract_store.specs.declared.row.StoreRow.{StoreRow}
use Rattle.prepare_request.specs.Hosted.{AreTold, is_among}
use Rattle.std.specs.List.{list_any}
use Rattle.node_inbox.specs.AddedIds.{AreNew, are_new, creates_gone}
use Rattle.node_inbox.specs.Items.{model_items}
use Rattle.node_inbox.specs.KeptActive.{AreActiveIf}
use Rattle.node_inbox.specs.Offered.{AreOnceIf}
use Rattle.node_inbox.specs.Places.{AreApproved}
use Rattle.node_inbox.specs.declared.kept_item.KeptItem.{KeptItem}
use Rattle.node_inbox.proofs.AddedIds.{TellsOn}
use Rattle.node_inbox.proofs.Begins.{begins_read, begins_unread}
use Rattle.node_inbox.proofs.KeptAnswers.{active_verdict, approved_verdict}
use Rattle.node_inbox.proofs.Told.{once_verdict, told_unread, told_verdict}
use Rattle.node_inbox.proofs.inbox.Inbox.put_verdict.Goals as goal

-- all are new, and none is gone
new_ones : (start : Start) (rows : List StoreRow) (changes : List Change) (unheard some : Bool) → unheard ≡ are_new rows [] changes
    → some ≡ list_any (creates_gone start) changes → (unheard && not some) ≡ true → AreNew start rows changes
new_ones start rows changes unheard some new gone both =
    let parts = and_parts unheard (not some) both in
    record { unheard = sym new ∙ parts.0; not_gone = sym gone ∙ off some parts.1 }
  where
    off : (b : Bool) → not b ≡ true → b ≡ false
    off false e = refl
    off true e = absurd (cc)

pub invariant_of-self-in_err-put_verdict : goal.invariant_of-self-in_err-put_verdict
invariant_of-self-in_err-put_verdict c =
    let i = c.self.inside in
    let topology = i.setup.now.topology in
    let reading = framed_reading topology i.setup.now.checked in
    let unread = c.in_err-put_verdict.ensures.err in
    let same = sym unread.items in
    let from : i.registry.start ≡ c.put_verdict.new.registry.start = sym unread.start_is in (
      unread.inbox,
      subst (λ (ids : List Hash). AreTold reading i.me ids c.put_verdict.new.registry.store.rows) (sym c.in_ok-reserve.ensures.ids)
          (told_unread topology i.setup.now.checked i.me i.items.items c.put_verdict.new.items.items i.registry c.put_verdict.new.registry c.self.invariant.0
          i.hosted.ids unread c.self.invariant.1),
      subst (λ (start : Start). AreOnceIf i.is_once reading start (model_items c.put_verdict.new.items.items)) from
          (subst (λ (items : List KeptItem). AreOnceIf i.is_once reading i.registry.start (model_items items)) same c.self.invariant.2),
      subst (λ (items : List KeptItem). AreApproved topology.params (model_items items) i.approved) same c.self.invariant.3,
      subst (λ (start : Start). AreActiveIf reading i.me start (model_items c.put_verdict.new.items.items) i.active) from
          (subst (λ (items : List KeptItem). AreActiveIf reading i.me i.registry.start (model_items items) i.active) same c.self.invariant.4),
      begins_unread topology i.setup.now.checked i.me i.base i.items.items c.put_verdict.new.items.items i.registry.start c.put_verdict.new.registry unread c.self.invariant.5,
    )

pub invariant_of-self-2 : goal.invariant_of-self-2
invariant_of-self-2 c =
    let i = c.self.inside in
    let topology = i.setup.now.topology in
    let packages = i.setup.now.checked in
    let reading = framed_reading topology packages in
    let law = c.ids_tell_after_each_change.ensures in
    let on : TellsOn reading i.me = record {
      hosted = law.hosted reading i.me;
      other = law.other reading i.me;
      again = law.again reading i.me;
      consumed = law.consumed reading i.me;
    } in
    let read = c.in_ok-put_verdict.ensures.ok in
    let new = rw (c.store.ensures, c.as_slice.ensures.value) at c.in_ok-ids.ensures.new in
    let gone = rw (c.start.ensures, c.as_slice-2.ensures.value) at c.create_gone-some_gone.ensures in
    let fresh = new_ones i.registry.start i.registry.store.rows c.args.coming.changes.items _ _ new gone in
    let coming = rw (← c.self.view_is) at c.requires.coming in
    let begins =
    begins_read topology packages i.me i.base i.items.items c.put_verdict.new.items.items i.registry.start c.put_verdict.new.registry _ read c.self.invariant.5 in (
      read.inbox,
      told_verdict topology packages i.me i.items.items c.put_verdict.new.items.items i.registry c.put_verdict.new.registry c.self.invariant.0
          i.hosted.ids on c.args.coming c.args.time c.put_ids.new.hosted.ids coming read c.self.invariant.1
          (λ id. c.put_ids.ensures id
          ∙ (ap (λ (ids : List Hash). is_among c.in_ok-ids.ids id || is_among ids id) c.in_ok-reserve.ensures.ids
          ∙ ap (λ (ids : List Hash). is_among ids id || is_among i.hosted.ids id) (rw (c.store.ensures, c.as_slice.ensures.value) at c.in_ok-ids.ensures.ids))),
      rw c.both-self-inside.ensures (once_verdict topology packages i.me i.items.items c.put_verdict.new.items.items i.registry c.put_verdict.new.registry c.self.invariant.0
          i.hosted.ids c.args.coming c.args.time coming read i.is_once _ (λ e. fresh (sym c.both-are_new.ensures ∙ e)) c.self.invariant.2),
      approved_verdict topology packages i.me i.items.items c.put_verdict.new.items.items i.registry c.put_verdict.new.registry c.self.invariant.0
          i.approved i.active c.args.coming c.args.time read i.base begins _ c.keep_if.ensures c.self.invariant.3,
      active_verdict topology packages i.me i.items.items c.put_verdict.new.items.items i.registry c.put_verdict.new.registry c.self.invariant.0
          i.approved i.active c.args.coming c.args.time coming read _ _ (λ e. fresh (sym c.both-are_new.ensures ∙ e)) c.are_at_most.ensures _
          (rw c.both-is_active_kept.ensures at c.keep_active_if.ensures) c.self.invariant.4,
      begins,
    )
