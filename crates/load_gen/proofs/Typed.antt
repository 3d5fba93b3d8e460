-- The package Iou is well typed.
use Rattle.std.proofs.Common.{List, [], ◌∷◌, refl}
use Rattle.lang_eval.specs.Builtin.{note_form}
use Rattle.lang_eval.specs.Typed.{IsChoice, IsTemplate, ArePackages}
use Rattle.ledger_terms.specs.Packages.{PackageForm}
use Rattle.load_gen.specs.Iou.{iou_form, loop_form, transfer_form, grow_form, down_form, iou_package}

abbrev all : List PackageForm
all = note_form ∷ iou_package ∷ []

transfer_is_typed : IsChoice all iou_form transfer_form
transfer_is_typed =
    record {
      free = refl;
      params = (refl, tt);
      controllers = ((refl, tt), refl);
      observers = (tt, refl);
      body = (_, (_, (iou_form, refl, (refl, (refl, (refl, tt))), refl, refl), refl), refl);
    }

grow_is_typed : IsChoice all iou_form grow_form
grow_is_typed =
    record {
      free = refl;
      params = (refl, tt);
      controllers = ((refl, tt), refl);
      observers = (tt, refl);
      body = (_, (_, (iou_form, refl, (refl, (refl, ((refl, refl, refl), tt))), refl, refl), refl), refl);
    }

down_is_typed : IsChoice all loop_form down_form
down_is_typed =
    record {
      free = refl;
      params = (refl, tt);
      controllers = ((refl, tt), refl);
      observers = (tt, refl);
      body = (
        _,
        (_, ((refl, refl, refl), (_, (_, (loop_form, refl, down_form, refl, refl, ((refl, refl, refl), tt), refl, refl), refl)), (_, refl), refl), refl),
        refl,
      );
    }

iou_is_typed : IsTemplate all iou_form
iou_is_typed =
    record {
      fields = (refl, (refl, (refl, tt)));
      ensure = (refl, refl, refl);
      signatories = ((refl, tt), refl);
      observers = ((refl, tt), refl);
      names = (refl, (refl, tt));
      choices = (transfer_is_typed, (grow_is_typed, tt));
    }

loop_is_typed : IsTemplate all loop_form
loop_is_typed =
    record {
      fields = (refl, tt);
      ensure = refl;
      signatories = ((refl, tt), refl);
      observers = (tt, refl);
      names = (refl, tt);
      choices = (down_is_typed, tt);
    }

pub iou_packages_are_typed : ArePackages (note_form ∷ []) (iou_package ∷ [])
iou_packages_are_typed = (record { name = refl; names = (refl, (refl, tt)); templates = (iou_is_typed, (loop_is_typed, tt)) }, tt)
