-- The items of an inbox as they are apart from it.
use Rattle.std.specs.Prelude.{◌≡◌, ◌+◌, ℕ, true, List, Option, Some, None, is_some, map, slice_get, take}
use Rattle.std.specs.List.{list_any}
use Rattle.ledger_terms.specs.declared.topology.Topology.{Topology}
use Rattle.ledger_model.specs.Opening.{is_root_path}
use Rattle.ledger_model.specs.Terms.{Name, ParticipantId, Path}
use Rattle.canton_model.specs.declared.request.Request.{Request}
use Rattle.canton_model.specs.Inbox as model
use Rattle.canton_model.specs.Inbox.{Content, notice_at}
use Rattle.canton_model.specs.Reading.{is_recipient, paths_confirmed, paths_seen}
use Rattle.lang_eval.specs.Found.{Packages}
use Rattle.blind_tree.specs.OpenedFor.{opened_for_root}
use Rattle.blind_tree.specs.declared.shown_for.OpenedFor.{OpenedFor}
use Rattle.blind_tree.specs.declared.shown_for.OpenedFor.TheVariants.{Missing}
use Rattle.sealed_form.specs.SealedForm.{envelope_to}
use Rattle.framed_form.specs.FramedForm.{if_known, root_of}
use Rattle.framed_form.specs.FramedReading.{framed_reading, offer_of}
use Rattle.node_state.specs.declared.item.Item.{Item}
use Rattle.node_state.specs.declared.item_what.ItemWhat.{ItemWhat}
use Rattle.node_state.specs.declared.item_what.ItemWhat.TheVariants as raw
use Rattle.node_inbox.specs.declared.kept_item.KeptItem.{KeptItem}
use Rattle.node_inbox.specs.declared.kept_item.KeptContent.{KeptContent}
use Rattle.node_inbox.specs.declared.kept_item.KeptContent.TheVariants.{Received, Told, Nothing}

-- ---- of what is kept

-- What an inbox keeps of what an entry brought, as a state has it. Offer, changes and facts are left out, since they are worked out again.
abbrev pub raw_what : KeptContent → ItemWhat
raw_what (Received kept) = raw.Request kept.sender kept.command kept.root kept.seen kept.confirmed kept.envelope
raw_what (Told verdict) = raw.Verdict verdict
raw_what Nothing = raw.Nothing

-- An item that an inbox keeps, as a state has it.
abbrev pub raw_item : KeptItem → Item
raw_item item = record { time = item.time; what = raw_what item.content }

-- The items that an inbox keeps, as a state has them.
abbrev pub raw_items : List KeptItem → List Item
raw_items items = map raw_item items

-- ---- as the definitions of the protocol see it

-- What an envelope's bytes offer to somebody who sees the views with the paths `seen` of a request whose mediator's tree has the hash `root`. It is
-- Missing where there is no envelope (None), or where an opened tree names a party that the topology lacks.
abbrev pub offer_by : Topology → List ℕ → List Path → Option (List ℕ) → OpenedFor
offer_by topology root seen None = Missing
offer_by topology root seen (Some bytes) = if_known topology (opened_for_root root seen (list_any is_root_path seen) bytes)

-- What a raw item brings, as the definitions of the protocol have it. Its envelope is read again.
abbrev pub content_by : Topology → ItemWhat → Content
content_by topology (raw.Request sender command root seen confirmed envelope) =
    model.Received (record { sender = sender; seen = seen; confirmed = confirmed; offer = offer_of (offer_by topology root seen envelope) })
content_by topology (raw.Verdict verdict) = model.Told verdict
content_by topology raw.Nothing = model.Nothing

-- A raw item as the definitions of the protocol have it.
abbrev pub item_by : Topology → Item → model.Item
item_by topology item = record { time = item.time; content = content_by topology item.what }

-- There was a framed request of which participant `me` is a recipient, and this is what `me` keeps of it in a state: sender, command, the hash of the
-- mediator's tree, the paths of the views that it sees and confirms, and its envelope.
pub record IsOfRequest (topology : Topology) (packages : Packages) (me : ParticipantId) (sender : ParticipantId) (command : Name) (root : List ℕ)
    (seen confirmed : List Path) (envelope : Option (List ℕ)) : Type 0 where
  pub request : Request
  pub is_framed : (framed_reading topology packages).is_framed request ≡ true
  pub is_to : is_recipient (framed_reading topology packages) me request ≡ true
  pub sender_is : sender ≡ request.sender
  pub command_is : command ≡ request.command
  pub root_is : root ≡ root_of request
  pub seen_is : seen ≡ paths_seen (framed_reading topology packages) me request
  pub confirmed_is : confirmed ≡ paths_confirmed (framed_reading topology packages) me request
  pub envelope_is : envelope ≡ envelope_to me request.envelopes

-- A raw item may come behind these items: as that of a framed request to participant `me`, of a verdict on a request that was received, or of nothing.
abbrev pub IsCame : Topology → Packages → ParticipantId → List model.Item → ItemWhat → Type 0
IsCame topology packages me items (raw.Request sender command root seen confirmed envelope) =
    IsOfRequest topology packages me sender command root seen confirmed envelope
IsCame topology packages me items (raw.Verdict verdict) = is_some (notice_at items verdict.request) ≡ true
IsCame topology packages me items raw.Nothing = Unit {0}

-- Each of these raw items may come to participant `me` behind the items before it: item k behind the first base + k items of the inbox `all`. That they
-- are the items of `all` from the base on isn't said here.
abbrev pub AreCame : Topology → Packages → ParticipantId → (base : ℕ) → List model.Item → List Item → Type 0
AreCame topology packages me base all items =
    (k : ℕ) (item : Item) → slice_get items k ≡ Some item → IsCame topology packages me (take (base + k) all) item.what
