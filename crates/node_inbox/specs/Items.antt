-- The items of an inbox, as the definitions of the protocol see them.
use Rattle.std.specs.Prelude.{List, map}
use Rattle.canton_model.specs.Inbox.{Content, Item, Notice, Received, Told, Nothing}
use Rattle.node_inbox.specs.Offers.{model_offer}
use Rattle.node_inbox.specs.declared.kept_item.KeptItem.{KeptItem}
use Rattle.node_inbox.specs.declared.kept_item.KeptRequest.{KeptRequest}
use Rattle.node_inbox.specs.declared.kept_item.KeptContent.{KeptContent}
use Rattle.node_inbox.specs.declared.kept_item.KeptContent.TheVariants.{Received as KeptReceived, Told as KeptTold, Nothing as KeptNothing}

-- The notice of a request, as the protocol's definitions have it, made of what is kept of the request.
abbrev pub notice_of : KeptRequest → Notice
notice_of kept = record { sender = kept.sender; seen = kept.seen; confirmed = kept.confirmed; offer = model_offer kept.offer }

-- What an entry brought, as the protocol's definitions have it, made of what is kept of that.
abbrev pub model_content : KeptContent → Content
model_content (KeptReceived kept) = Received (notice_of kept)
model_content (KeptTold verdict) = Told verdict
model_content KeptNothing = Nothing

-- An item as the protocol's definitions have it, made of one that is kept.
abbrev pub model_item : KeptItem → Item
model_item item = record { time = item.time; content = model_content item.content }

-- The items as the protocol's definitions have them, made of those that are kept, in order.
abbrev pub model_items : List KeptItem → List Item
model_items items = map model_item items
