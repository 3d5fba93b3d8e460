-- What a kept request is checked by.
use Rattle.std.specs.Prelude.{ℕ}
use Rattle.std.specs.Borrow.{Bor}
use Rattle.canton_model.specs.declared.reason.Reason.TheVariants.{RootMismatch, ViewMissing}
use Rattle.confirm_reply.specs.declared.check_input.CheckInput.{CheckInput}
use Rattle.confirm_reply.specs.declared.setup.Setup.{Setup}
use Rattle.confirm_reply.specs.declared.shown.Shown.{Shown}
use Rattle.confirm_reply.specs.declared.shown.Shown.TheVariants.{Fixed, Open as ShownOpen}
use Rattle.node_inbox.specs.declared.kept_item.KeptRequest.{KeptRequest}
use Rattle.node_inbox.specs.declared.kept_offer.KeptOffer.{KeptOffer}
use Rattle.node_inbox.specs.declared.kept_offer.KeptOffer.TheVariants.{Mismatch, Missing, Open}

-- What a kept offer shows to the check of a request: the opened tree, or the one reason for which each view is rejected.
abbrev pub shown_for : KeptOffer → Shown
shown_for Mismatch = Fixed RootMismatch
shown_for Missing = Fixed ViewMissing
shown_for (Open tree) = ShownOpen tree

-- What the check of a kept request goes by: who checks it (`me`), the time of its entry in microseconds, its sender, what its envelope shows, and the
-- facts on its contracts.
abbrev pub input_of : Bor Setup → (me time : ℕ) → KeptRequest → CheckInput
input_of setup me time kept =
    record { setup = setup; me = me; sender = kept.sender; time = time; shown = shown_for kept.offer; facts = kept.facts }
