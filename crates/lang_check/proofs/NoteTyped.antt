-- The built-in package Note is well typed.
use Rattle.std.proofs.Common.{[], ◌∷◌, ◌++◌, refl}
use Rattle.std.specs.Prelude.{codes}
use Rattle.ledger_terms.specs.declared.kind.Kind.TheVariants.{Contract as ContractKind, Unit as UnitKind}
use Rattle.lang_eval.specs.Found.{Packages}
use Rattle.lang_eval.specs.Builtin.{archive_of, flash_form, note_template_form, note_form}
use Rattle.lang_eval.specs.Typed.{Scope, body_scope, IsChoice, IsTemplate, IsPackage, ArePackages}

abbrev note_alone : Packages
note_alone = note_form ∷ []

abbrev after_create : Scope
after_create = body_scope note_template_form flash_form ++ (codes "x", ContractKind) ∷ []

abbrev after_archive : Scope
after_archive = after_create ++ (codes "y", UnitKind) ∷ []

flash_typed : IsChoice note_alone note_template_form flash_form
flash_typed =
    record {
      free = refl;
      params = tt;
      controllers = ((refl, tt), refl);
      observers = (tt, refl);
      body = (
        after_archive,
        (
          after_create,
          (note_template_form, refl, (refl, (refl, (refl, tt))), refl, refl),
          (after_archive, (note_template_form, refl, archive_of note_template_form.signatories, refl, refl, tt, refl, refl), refl),
        ),
        refl,
      );
    }

note_typed_template : IsTemplate note_alone note_template_form
note_typed_template =
    record {
      fields = (refl, (refl, (refl, tt)));
      ensure = refl;
      signatories = ((refl, tt), refl);
      observers = ((refl, tt), refl);
      names = (refl, tt);
      choices = (flash_typed, tt);
    }

pub note_typed : IsPackage [] note_form
note_typed = record { name = refl; names = (refl, tt); templates = (note_typed_template, tt) }

pub with_note : (given : Packages) → ArePackages (note_form ∷ []) given → ArePackages [] (note_form ∷ given)
with_note given h = (note_typed, h)
