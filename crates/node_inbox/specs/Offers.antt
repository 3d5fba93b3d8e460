-- What an envelope offers, as it is kept.
use Rattle.std.specs.Prelude.{List, Bool, true, false, filter, map}
use Rattle.ledger_terms.specs.declared.act.Act.{Act}
use Rattle.ledger_terms.specs.Trees.{Actions}
use Rattle.ledger_model.specs.Forest.{acts}
use Rattle.ledger_model.specs.Opening.{roots_in}
use Rattle.ledger_model.specs.Terms.{Hash, id_of}
use Rattle.canton_model.specs.Reading.{Offer, shown_in_offer}
use Rattle.interpret.specs.Ids.{is_authentic}
use Rattle.blind_tree.specs.declared.shown_for.OpenedFor.{OpenedFor}
use Rattle.blind_tree.specs.declared.shown_for.OpenedFor.TheVariants as opened
use Rattle.framed_form.specs.FramedReading.{offer_of}
use Rattle.inbox_registry.specs.ChangeLists.{changes_of}
use Rattle.inbox_registry.specs.declared.change.Change.{Change}
use Rattle.node_inbox.specs.declared.kept_offer.KeptOffer.{KeptOffer}
use Rattle.node_inbox.specs.declared.kept_offer.KeptOffer.TheVariants.{Mismatch, Missing, Open}

-- What the bytes of an envelope offered, read back from what is kept of it.
abbrev pub as_offered : KeptOffer → OpenedFor
as_offered Mismatch = opened.Mismatch
as_offered Missing = opened.Missing
as_offered (Open tree) = opened.Open tree

-- What an envelope offers, as the protocol's definitions have it, made of what is kept of it.
abbrev pub model_offer : KeptOffer → Offer
model_offer offer = offer_of (as_offered offer)

-- The trees of actions that an envelope opens by what its bytes offer, and no tree where it isn't complete.
abbrev pub roots_opened : OpenedFor → Actions
roots_opened offered = roots_in (shown_in_offer (offer_of offered))

-- The trees of actions that a kept offer opens, and no tree where its envelope isn't complete.
abbrev pub roots_offered : KeptOffer → Actions
roots_offered offer = roots_opened (as_offered offer)

-- The ids of the contracts that the opened actions are on, one for each action, in pre-order.
abbrev pub opened_ids : KeptOffer → List Hash
opened_ids offer = map (λ (act : Act). id_of act.action) (acts (roots_offered offer))

-- The changes among the authentic actions that a kept offer opens, in pre-order.
abbrev pub opened_changes : KeptOffer → List Change
opened_changes offer = changes_of (filter is_authentic (acts (roots_offered offer)))

-- Whether a kept offer is of a complete envelope.
abbrev pub is_open : KeptOffer → Bool
is_open Mismatch = false
is_open Missing = false
is_open (Open tree) = true
