-- What came in a framed request.
use Rattle.std.proofs.Common.{◌≡◌, ℕ, Bool, true, false, List, [], ◌∷◌, ◌++◌, map, take, Option, Some, None, refl, sym, ap, ◌∙◌}
use Rattle.std.specs.Prelude.{Result, Ok, Err, OnOk, if◌then◌else◌, is_some}
use Rattle.std.specs.List.{list_any}
use Rattle.ledger_terms.specs.declared.topology.Topology.{Topology}
use Rattle.ledger_model.specs.Opening.{is_root_path}
use Rattle.ledger_model.specs.Terms.{Name, ParticipantId, Path}
use Rattle.canton_model.specs.Inbox.{Content, Item, Notice, Received, Told, Nothing, notice_at, received}
use Rattle.canton_model.specs.Inbox as model
use Rattle.canton_model.specs.Reading.{is_recipient, paths_seen}
use Rattle.canton_model.specs.declared.request.Request.{Request}
use Rattle.canton_model.specs.declared.verdict.Verdict.{Verdict}
use Rattle.lang_eval.specs.Found.{Packages}
use Rattle.blind_tree.specs.OpenedFor.{opened_for_root}
use Rattle.blind_tree.specs.declared.shown_for.OpenedFor.{OpenedFor}
use Rattle.sealed_form.specs.SealedForm.{envelope_to}
use Rattle.framed_form.specs.FramedForm.{if_known, offered, offered_in, root_of}
use Rattle.framed_form.specs.FramedReading.{framed_reading, offer_of}
use Rattle.node_state.specs.declared.item_what.ItemWhat.{ItemWhat}
use Rattle.proto_model.specs.Notices.{IsNotice}
use Rattle.proto_model.specs.declared.notice.Notice.{Notice as Read}
use Rattle.proto_model.proofs.Noticed.{seen_is}
use Rattle.inbox_registry.specs.ChangeLists.{id_in}
use Rattle.pruned_inbox.specs.Start.{Start}
use Rattle.inbox_registry.specs.Registry.{Registered}
use Rattle.node_inbox.specs.Coming.{AreParts, IsComing, IsKeptOf}
use Rattle.node_inbox.specs.Entries.{told_if_received}
use Rattle.node_inbox.specs.InboxState.{InboxState, with_item}
use Rattle.node_inbox.specs.Items.{model_content, model_items, notice_of}
use Rattle.node_inbox.specs.Kept.{Came, IsKeptContent}
use Rattle.node_inbox.specs.Offers.{as_offered}
use Rattle.node_inbox.specs.Raw.{IsCame, IsOfRequest, item_by, offer_by, raw_what}
use Rattle.node_inbox.specs.Reads.{HasRead, item_with}
use Rattle.node_inbox.specs.declared.coming.ComingRequest.{ComingRequest}
use Rattle.node_inbox.specs.declared.kept_item.KeptContent.{KeptContent}
use Rattle.node_inbox.specs.declared.kept_item.KeptContent.TheVariants as content
use Rattle.node_inbox.specs.declared.kept_item.KeptItem.{KeptItem}
use Rattle.node_inbox.specs.declared.kept_item.KeptRequest.{KeptRequest}

module _ (topology : Topology) (packages : Packages) (me : ParticipantId) where
  -- what is kept of what is read
  abbrev pub came_as : (request : Request) (read : Read) (kept : KeptRequest) → (framed_reading topology packages).is_framed request ≡ true
      → is_recipient (framed_reading topology packages) me request ≡ true → IsNotice topology (framed_reading topology packages) me request read
      → IsKeptOf me request read kept → Came topology packages me kept
  came_as request read kept framed to is of =
      record {
        request = request;
        is_framed = framed;
        is_to = to;
        sender_is = of.sender;
        command_is = of.command;
        root_is = of.root ∙ is.root;
        seen_is = of.seen ∙ is.seen;
        confirmed_is = of.confirmed ∙ is.confirmed;
        envelope_is = of.envelope;
        offer_is = of.offer ∙ is.offered;
      }

  -- it is what the protocol's definitions say of the request
  pub noticed_as : (kept : KeptRequest) (came : Came topology packages me kept)
      → notice_of kept ≡ model.notice_of (framed_reading topology packages) me came.request
  noticed_as kept came = λ i. record {
    sender = came.sender_is i;
    seen = came.seen_is i;
    confirmed = came.confirmed_is i;
    offer = offer_of (came.offer_is i);
  }

  pub received_as : (kept : KeptRequest) (came : Came topology packages me kept)
      → received (framed_reading topology packages) me came.request ≡ Received (notice_of kept)
  received_as kept came =
      ap (λ (b : Bool). if b then Received (model.notice_of (framed_reading topology packages) me came.request) else Nothing) came.is_to
      ∙ ap (λ (notice : Notice). Received notice) (sym (noticed_as kept came))

  -- to somebody else nothing comes
  pub not_received : (request : Request) → is_recipient (framed_reading topology packages) me request ≡ false
      → received (framed_reading topology packages) me request ≡ Nothing
  not_received request e = ap (λ (b : Bool). if b then Received (model.notice_of (framed_reading topology packages) me request) else Nothing) e

  pub comes : (coming : ComingRequest) → Came topology packages me coming.kept
      → AreParts (coming.kept).offer (coming.kept).facts ((coming.kept).changes).items → coming.ids ≡ map id_in ((coming.kept).changes).items
      → IsComing topology packages me coming
  comes coming came parts ids = record { came = came; parts = parts; ids = ids }

  abbrev state_of : (base base_time : ℕ) → Start → List Item → InboxState
  state_of base base_time start items =
      record { topology = topology; packages = packages; me = me; base = base; base_time = base_time; start = start; items = items }

  -- one item more, as it is said
  pub reads_as : {X E : Type 0} (r : Result X E) (base base_time : ℕ) (old new : List KeptItem) (start : Start) (stands : Registered) (item is : Item)
      → is ≡ item → OnOk r (HasRead topology packages me old new start stands item)
      → OnOk r (state_of base base_time stands.start (model_items new) ≡ with_item (state_of base base_time start (model_items old)) is)
  reads_as (Ok x) base base_time old new start stands item is same read =
      ap (λ (from : Start). state_of base base_time from (model_items new)) read.start_is
      ∙ ap (state_of base base_time start) (read.items ∙ ap (λ (y : Item). model_items old ++ y ∷ []) (sym same))
  reads_as (Err e) base base_time old new start stands item is same read = tt

  -- what is read of a request that comes is what the protocol's definitions say of it
  pub reads : {X E : Type 0} (r : Result X E) (base base_time : ℕ) (old new : List KeptItem) (start : Start) (stands : Registered) (time : ℕ) (content : Content) (kept : KeptRequest)
      → content ≡ Received (notice_of kept) → OnOk r (HasRead topology packages me old new start stands (item_with time (Received (notice_of kept))))
      → OnOk r (state_of base base_time stands.start (model_items new) ≡ with_item (state_of base base_time start (model_items old)) (item_with time content))
  reads (Ok x) base base_time old new start stands time content kept is read =
      ap (λ (from : Start). state_of base base_time from (model_items new)) read.start_is
      ∙ ap (state_of base base_time start) (read.items ∙ ap (λ (c : Content). model_items old ++ item_with time c ∷ []) (sym is))
  reads (Err e) base base_time old new start stands time content kept is read = tt

  -- ---- apart from the inbox

  -- what an envelope of a request offers hangs on the hash of the mediator's tree and on the paths alone
  offers_same : (request : Request) (o : Option (List ℕ)) → envelope_to me request.envelopes ≡ o
      → offer_by topology (root_of request) (paths_seen (framed_reading topology packages) me request) o ≡ offered topology me request
  offers_same request None e = sym (ap (offered_in topology me request) e)
  offers_same request (Some bytes) e =
      ap (λ (seen : List Path). if_known topology (opened_for_root (root_of request) seen (list_any is_root_path seen) bytes))
      (seen_is topology packages me request)
      ∙ sym (ap (offered_in topology me request) e)

  module _ (sender : ParticipantId) (command : Name) (root : List ℕ) (seen confirmed : List Path) (envelope : Option (List ℕ))
      (is : IsOfRequest topology packages me sender command root seen confirmed envelope) where
    pub offer_is : offer_by topology root seen envelope ≡ offered topology me is.request
    offer_is = (λ i. offer_by topology (is.root_is i) (is.seen_is i) (is.envelope_is i)) ∙ offers_same is.request (envelope_to me is.request.envelopes) refl

  -- a request that comes again offers what it did
  pub came_again : (kept : KeptRequest) → IsOfRequest topology packages me kept.sender kept.command kept.root kept.seen kept.confirmed kept.envelope
      → as_offered kept.offer ≡ offer_by topology kept.root kept.seen kept.envelope → Came topology packages me kept
  came_again kept is of =
      record {
        request = is.request;
        is_framed = is.is_framed;
        is_to = is.is_to;
        sender_is = is.sender_is;
        command_is = is.command_is;
        root_is = is.root_is;
        seen_is = is.seen_is;
        confirmed_is = is.confirmed_is;
        envelope_is = is.envelope_is;
        offer_is = of ∙ offer_is kept.sender kept.command kept.root kept.seen kept.confirmed kept.envelope is;
      }

  -- what is kept is of a request
  of_request : (kept : KeptRequest) → Came topology packages me kept
      → IsOfRequest topology packages me kept.sender kept.command kept.root kept.seen kept.confirmed kept.envelope
  of_request kept came =
      record {
        request = came.request;
        is_framed = came.is_framed;
        is_to = came.is_to;
        sender_is = came.sender_is;
        command_is = came.command_is;
        root_is = came.root_is;
        seen_is = came.seen_is;
        confirmed_is = came.confirmed_is;
        envelope_is = came.envelope_is;
      }

  -- an item apart from the inbox is to the protocol what it was in it
  pub raw_as : (start : Start) (items : List Item) (k : ℕ) (time : ℕ) (content : KeptContent) → IsKeptContent topology packages me start items k content
      → item_by topology (record { time = time; what = raw_what content }) ≡ item_with time (model_content content)
  unfolding of_request
  raw_as start items k time (content.Received kept) is =
      ap (λ (o : OpenedFor). item_with time (Received (record { sender = kept.sender; seen = kept.seen; confirmed = kept.confirmed; offer = offer_of o })))
      (offer_is kept.sender kept.command kept.root kept.seen kept.confirmed kept.envelope (of_request kept is.came) ∙ sym is.came.offer_is)
  raw_as start items k time (content.Told verdict) is = refl
  raw_as start items k time content.Nothing is = refl

  -- and may come again
  pub comes_again : (start : Start) (items : List Item) (k : ℕ) (content : KeptContent) → IsKeptContent topology packages me start items k content
      → IsCame topology packages me (take k items) (raw_what content)
  comes_again start items k (content.Received kept) is = of_request kept is.came
  comes_again start items k (content.Told verdict) is = is
  comes_again start items k content.Nothing is = tt

  -- a request that comes again is to the protocol what it was
  pub again_is : (time : ℕ) (kept : KeptRequest) (what : ItemWhat) → raw_what (content.Received kept) ≡ what
      → as_offered kept.offer ≡ offer_by topology kept.root kept.seen kept.envelope
      → item_by topology (record { time = time; what = what }) ≡ item_with time (model_content (content.Received kept))
  again_is time kept what is of =
      ap (λ (w : ItemWhat). item_by topology (record { time = time; what = w })) (sym is)
      ∙ ap (λ (o : OpenedFor). item_with time (Received (record { sender = kept.sender; seen = kept.seen; confirmed = kept.confirmed; offer = offer_of o })))
      (sym of)

-- a verdict on a request that was received is told
pub told_again : (items : List Item) (verdict : Verdict) → is_some (notice_at items verdict.request) ≡ true → told_if_received items verdict ≡ Told verdict
told_again items verdict received = ap (λ (b : Bool). if b then Told verdict else Nothing) received
