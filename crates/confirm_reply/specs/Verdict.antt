-- The verdicts of a check.
use Rattle.std.specs.Prelude.{◌≡◌, ℕ, Bool, List, Option, Some, None}
use Rattle.ledger_model.specs.Opening.{OpenedView}
use Rattle.ledger_model.specs.Opening as opening
use Rattle.ledger_model.specs.Terms.{Hash, ParticipantId, Path}
use Rattle.ledger_model.specs.declared.status.Status.{Status}
use Rattle.ledger_terms.specs.declared.params.Params.{Params}
use Rattle.canton_model.specs.declared.local_verdict.LocalVerdict.{LocalVerdict}
use Rattle.canton_model.specs.declared.local_verdict.LocalVerdict.TheVariants.{Reject}
use Rattle.canton_model.specs.declared.reason.Reason.TheVariants.{ViewMissing}
use Rattle.canton_model.specs.Checks.{verdict_by}
use Rattle.canton_model.specs.Reading.{Offer, Reading}
use Rattle.pruned_inbox.specs.Start.{verdict_in_offer}
use Rattle.view_split.specs.Placed.{shown_by}
use Rattle.view_split.specs.declared.opened_tree.OpenedTree.{OpenedTree}
use Rattle.confirm_reply.specs.Facts.{AreKnown, known_status, is_known_locked}
use Rattle.confirm_reply.specs.LocalReading.{local_reading}
use Rattle.confirm_reply.specs.Offered.{IsGivenBy}
use Rattle.confirm_reply.specs.Opened.{CanBeChecked, view_at}
use Rattle.confirm_reply.specs.declared.check_input.CheckInput.{CheckInput}
use Rattle.confirm_reply.specs.declared.id_facts.IdFacts.{IdFacts}
use Rattle.confirm_reply.specs.declared.opened_input.OpenedInput.{OpenedInput}
use Rattle.confirm_reply.specs.declared.shown.Shown.{Shown}
use Rattle.confirm_reply.specs.declared.shown.Shown.TheVariants.{Fixed, Open}

-- the reading by which the participant of a check goes: its topology and packages
abbrev pub reading_of : CheckInput → Reading
reading_of input = local_reading input.setup.now.topology input.setup.now.checked

-- The model's verdict of participant `me` on a view that was found in what is opened, where the facts are what is known of contracts and `time`, in
-- microseconds, is that of the request's entry. ViewMissing where none was found (None).
abbrev pub verdict_on_found : Reading → Params → (me sender : ParticipantId) → (time : ℕ) → List IdFacts → opening.Shown → Option OpenedView → LocalVerdict
verdict_on_found reading params me sender time facts shown None = Reject ViewMissing 0
verdict_on_found reading params me sender time facts shown (Some view) =
    verdict_by reading params me sender time shown view (known_status facts) (is_known_locked facts)

-- the verdict on the view with this path, by what is shown: the fixed reason where nothing is opened, else the model's verdict over what is
abbrev pub verdict_on_shown : CheckInput → Path → Shown → LocalVerdict
verdict_on_shown input path (Fixed reason) = Reject reason 0
verdict_on_shown input path (Open tree) =
    verdict_on_found (reading_of input) input.setup.now.topology.params input.me input.sender input.time input.facts (shown_by tree) (view_at path tree)

-- the verdict of a check on the view with this path
abbrev pub verdict_of : CheckInput → Path → LocalVerdict
verdict_of input path = verdict_on_shown input path input.shown

-- the reading by which the participant of a check goes, where something is opened
abbrev pub reading_by : OpenedInput → Reading
reading_by input = local_reading input.setup.now.topology input.setup.now.checked

-- the model's verdict where something is opened, on the view that was found in it; ViewMissing where none was
abbrev pub verdict_of_opened : OpenedInput → Option OpenedView → LocalVerdict
verdict_of_opened input found =
    verdict_on_found (reading_by input) input.setup.now.topology.params input.me input.sender input.time input.facts.now
    (shown_by input.tree.now) found

-- The model's verdict on the view with this path, by what an envelope gives and what is known of contracts: their status and whether a request holds
-- them, wherever that is kept.
abbrev pub verdict_by_known : CheckInput → (Hash → Status) → (Hash → Bool) → Path → Offer → LocalVerdict
verdict_by_known input known held path offer =
    verdict_in_offer (reading_of input) input.setup.now.topology.params input.me input.sender input.time known held path offer

-- What a check is shown is what an envelope gives, and where that opens the view, the facts on the contracts of its core are what is known of them.
pub record IsGivenKnown (input : CheckInput) (known : Hash → Status) (held : Hash → Bool) (path : Path) (offer : Offer) : Type 0 where
  pub given : IsGivenBy offer input.shown
  pub facts : (tree : OpenedTree) (view : OpenedView) → input.shown ≡ Open tree → view_at path tree ≡ Some view
      → AreKnown (reading_of input) input.me known held input.facts view.core

-- the view with this path can be checked, if it is opened; `check_view` asks it of its caller
abbrev pub CanCheck : CheckInput → Path → Type 0
CanCheck input path =
    (tree : OpenedTree) (view : OpenedView) → input.shown ≡ Open tree → view_at path tree ≡ Some view
    → CanBeChecked input.setup.now.checked (shown_by tree) view
