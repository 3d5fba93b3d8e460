-- What is shown of a request, by what its envelope gives.
use Rattle.std.specs.Prelude.{◌≡◌, Option, Some, None}
use Rattle.ledger_terms.specs.Forest.{NoRoots}
use Rattle.ledger_terms.specs.Trees.{Actions}
use Rattle.canton_model.specs.Reading.{Offer, Mismatch, Missing}
use Rattle.canton_model.specs.Reading as reading
use Rattle.canton_model.specs.declared.reason.Reason.{Reason}
use Rattle.canton_model.specs.declared.reason.Reason.TheVariants.{RootMismatch, ViewMissing}
use Rattle.view_split.specs.Placed.{shown_by}
use Rattle.confirm_reply.specs.declared.shown.Shown.{Shown}
use Rattle.confirm_reply.specs.declared.shown.Shown.TheVariants.{Fixed, Open}

-- the reason for which each view is rejected where an envelope opens nothing, and None where it opens something
abbrev pub reason_of : Offer → Option Reason
reason_of Mismatch = Some RootMismatch
reason_of Missing = Some ViewMissing
reason_of (reading.Open shown) = None

-- What a check is shown is what the envelope gives: the same tree, or the reason for which each view is rejected.
abbrev pub IsGivenBy : Offer → Shown → Type 0
IsGivenBy offer (Fixed reason) = reason_of offer ≡ Some reason
IsGivenBy offer (Open tree) = offer ≡ reading.Open (shown_by tree)

-- the trees of all actions that are opened; none where nothing is
abbrev pub roots_shown : Shown → Actions
roots_shown (Fixed reason) = NoRoots
roots_shown (Open tree) = (shown_by tree).roots
