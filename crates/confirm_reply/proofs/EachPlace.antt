-- The place of what each action shows by itself.
use Rattle.std.proofs.Common.{◌≡◌, ◌≢◌, refl}
use Rattle.canton_model.specs.declared.reason.Reason.{Reason}
use Rattle.canton_model.specs.declared.reason.Reason.TheVariants.{IdMismatch, NotVetted, TimeSkew, Locked, Inactive}
use Rattle.canton_model.specs.declared.reason.Reason.TheVariants.{NotFresh, Unordered, NotConformant, NotAuthorised}
use Rattle.canton_model.specs.declared.reason.Reason.TheVariants.{RootMismatch, ViewMissing, WrongSender, WrongCommon}
use Rattle.confirm_reply.specs.Tried.{Matter, place_of, place_shown, shows_at}
use Rattle.confirm_reply.specs.declared.opened_input.OpenedInput.{OpenedInput}

pub each_place : (input : OpenedInput) (matter : Matter) (reason : Reason) → reason ≢ TimeSkew → reason ≢ NotConformant
    → place_shown (shows_at input matter reason) matter.core ≡ place_of input matter reason
each_place input matter IdMismatch time conforms = refl
each_place input matter NotVetted time conforms = refl
each_place input matter TimeSkew time conforms = absurd (time refl)
each_place input matter Locked time conforms = refl
each_place input matter Inactive time conforms = refl
each_place input matter NotFresh time conforms = refl
each_place input matter Unordered time conforms = refl
each_place input matter NotConformant time conforms = absurd (conforms refl)
each_place input matter NotAuthorised time conforms = refl
each_place input matter RootMismatch time conforms = refl
each_place input matter ViewMissing time conforms = refl
each_place input matter WrongSender time conforms = refl
each_place input matter WrongCommon time conforms = refl
