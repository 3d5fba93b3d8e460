-- What the protocol needs of requests. The definitions on logs, inboxes and ledgers speak of a reading, and not of envelopes,
-- trees or bytes.
use Rattle.std.specs.Prelude.{Bool, true, List, [], Option, Some, None, filter, map, nat_eq, if◌then◌else◌, ◌||◌}
use Rattle.std.specs.List.{list_any}
use Rattle.ledger_model.specs.Terms.{Name, PartySet, Act, ParticipantId, Path}
use Rattle.ledger_model.specs.Forest.{Forest, preorder, project, paths_from}
use Rattle.ledger_model.specs.Language.{Language}
use Rattle.ledger_model.specs.Opening.{Transaction, Shown}
use Rattle.canton_model.specs.Log.{Request}

-- what the mediator is told of one view: its informees and its confirmers
pub record Outlined : Type 0 where
  pub informees : PartySet
  pub confirmers : PartySet

-- What an envelope gives its recipient.
pub data Offer : Type 0 where
  Mismatch : Offer  -- it is there, and isn't a tree of the request
  Missing : Offer  -- it isn't there, or lacks something of what the participant sees
  Open : Shown → Offer  -- it is complete

-- How requests are read, and what else the protocol needs of the contract language and the topology. All definitions on logs take one
-- as an argument; the program's is `framed_reading` of `framed_form`.
pub record Reading : Type 0 where
  pub outline : Request → Forest Outlined  -- the views that the mediator is told of
  -- what the participant is given by the envelope to it
  pub offered : ParticipantId → Request → Offer
  pub whole : Request → Option Transaction  -- what was requested, where complete envelopes together open all of it
  pub is_framed : Request → Bool  -- the request has the form in which the sequencer takes it
  -- the action's id is the hash of its salt and its instance
  pub is_authentic : Act → Bool
  -- what the templates and choices of the packages say
  pub language : Language
  -- each root is possible in that language with all that is below it
  pub conforms : Forest Act → Bool
  pub is_named : ParticipantId → Name → Bool  -- this is the participant's name
  -- the participant hosts the party, to confirm for it or only to observe
  pub hosts : ParticipantId → Name → Bool
  -- the participant confirms for the party
  pub confirms : ParticipantId → Name → Bool
  -- the participant accepts the package of this name
  pub has_vetted : ParticipantId → («package» : Name) → Bool

-- the views of a request that the mediator is told of, each with its path
abbrev pub placed_outline : Reading → Request → Forest (Path × Outlined)
placed_outline reading request = paths_from [] 0 (reading.outline request)

-- the paths of views that are given with their paths, in pre-order, without the views
abbrev pub paths_in : Forest (Path × Outlined) → List Path
paths_in views = map (λ (view : Path × Outlined). view.0) (preorder views)

-- the paths of all views of a request that the mediator is told of, in order
abbrev pub view_paths : Reading → Request → List Path
view_paths reading request = paths_in (placed_outline reading request)

-- the paths, in order, of the views that participant p sees: those with an informee that it hosts, and all below them
abbrev pub paths_seen : Reading → ParticipantId → Request → List Path
paths_seen reading p request = paths_in (project (λ (view : Path × Outlined). list_any (reading.hosts p) (view.1).informees) (placed_outline reading request))

-- the paths, in order, of the views that participant p has to confirm: those with a confirmer for whom it confirms
abbrev pub paths_confirmed : Reading → ParticipantId → Request → List Path
paths_confirmed reading p request =
    map (λ (view : Path × Outlined). view.0)
    (filter (λ (view : Path × Outlined). list_any (reading.confirms p) (view.1).confirmers) (preorder (placed_outline reading request)))

-- whether the list has a path; it is asked of the paths of views that a participant sees or confirms
abbrev pub is_some_path : List Path → Bool
is_some_path paths = list_any (λ (path : Path). true) paths

-- whether participant p sees a view of the request
abbrev pub sees_some_view : Reading → ParticipantId → Request → Bool
sees_some_view reading p request = is_some_path (paths_seen reading p request)

-- whether participant p is a recipient of the request: its sender, or one that sees a view of it
abbrev pub is_recipient : Reading → ParticipantId → Request → Bool
is_recipient reading p request = nat_eq p request.sender || sees_some_view reading p request

-- those of these participants that are recipients of the request, in the order of the list
abbrev pub recipients : Reading → (participants : List ParticipantId) → Request → List ParticipantId
recipients reading participants request = filter (λ p. is_recipient reading p request) participants

-- what an offer shows: all that is seen where the envelope is complete, None where it is a mismatch or something is missing
abbrev pub shown_in_offer : Offer → Option Shown
shown_in_offer Mismatch = None
shown_in_offer Missing = None
shown_in_offer (Open shown) = Some shown

-- what participant p is shown of the request by a complete envelope, None where p is no recipient or no complete one is there
abbrev pub shown_to : Reading → ParticipantId → Request → Option Shown
shown_to reading p request = if is_recipient reading p request then shown_in_offer (reading.offered p request) else None
