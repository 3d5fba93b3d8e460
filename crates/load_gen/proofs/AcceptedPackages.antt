-- The packages of a generated script are within their limits, and name no party.
use Rattle.std.proofs.Common.{◌≤◌, [], ◌∷◌, refl, arith}
use Rattle.std.specs.Prelude.{All}
use Rattle.std.specs.List.{AllByRecursion}
use Rattle.ledger_terms.specs.Packages.{PackageForm}
use Rattle.ledger_terms.specs.Syntax.{ExprForm}
use Rattle.script_read.specs.Accepted.{IsShort}
use Rattle.script_read.specs.PackageLimits.{expr_depth, literals_in, IsSmallExpr, exprs_in_choice, IsSmallChoice, exprs_in_template, IsSmallTemplate, AreSmall, AreAccepted}
use Rattle.script_read.proofs.Lists.{all_of}
use Rattle.load_gen.specs.Iou.{iou_form, loop_form, transfer_form, grow_form, down_form, iou_package}
use Rattle.load_gen.specs.Scripts.{hosts, packages}

small : (e : ExprForm) → expr_depth e ≤ 16 → AllByRecursion IsShort (literals_in e) → IsSmallExpr e
small e shallow short = record { shallow = shallow; short = all_of IsShort (literals_in e) short }

transfer_is_small : IsSmallChoice transfer_form
transfer_is_small =
    record {
      params = omega arith;
      body = omega arith;
      exprs =
          all_of IsSmallExpr (exprs_in_choice transfer_form) (
            small _ (omega arith) tt,
            (
              small _ (omega arith) tt,
              (
                small _ (omega arith) (tt, tt),
                (small _ (omega arith) tt, (small _ (omega arith) tt, (small _ (omega arith) tt, tt))),
              ),
            ),
          );
    }

grow_is_small : IsSmallChoice grow_form
grow_is_small =
    record {
      params = omega arith;
      body = omega arith;
      exprs =
          all_of IsSmallExpr (exprs_in_choice grow_form) (
            small _ (omega arith) tt,
            (
              small _ (omega arith) tt,
              (
                small _ (omega arith) (tt, tt),
                (small _ (omega arith) tt, (small _ (omega arith) tt, (small _ (omega arith) tt, tt))),
              ),
            ),
          );
    }

down_is_small : IsSmallChoice down_form
down_is_small =
    record {
      params = omega arith;
      body = omega arith;
      exprs =
          all_of IsSmallExpr (exprs_in_choice down_form) (
            small _ (omega arith) tt,
            (
              small _ (omega arith) tt,
              (
                small _ (omega arith) (tt, tt),
                (small _ (omega arith) (tt, tt), (small _ (omega arith) tt, (small _ (omega arith) (tt, tt), tt))),
              ),
            ),
          );
    }

iou_is_small : IsSmallTemplate iou_form
iou_is_small =
    record {
      fields = omega arith;
      few_choices = omega arith;
      choices = all_of IsSmallChoice (transfer_form ∷ grow_form ∷ []) (transfer_is_small, (grow_is_small, tt));
      exprs = all_of IsSmallExpr (exprs_in_template iou_form) (small _ (omega arith) (tt, tt), (small _ (omega arith) tt, (small _ (omega arith) tt, tt)));
    }

loop_is_small : IsSmallTemplate loop_form
loop_is_small =
    record {
      fields = omega arith;
      few_choices = omega arith;
      choices = all_of IsSmallChoice (down_form ∷ []) (down_is_small, tt);
      exprs = all_of IsSmallExpr (exprs_in_template loop_form) (small _ (omega arith) (tt, tt), (small _ (omega arith) tt, (small _ (omega arith) tt, tt)));
    }

iou_package_is_small : AreSmall (iou_package ∷ [])
iou_package_is_small =
    record {
      few = omega arith;
      few_templates = omega arith;
      templates = all_of (λ (p : PackageForm). All IsSmallTemplate p.templates) (iou_package ∷ []) (all_of IsSmallTemplate (iou_form ∷ loop_form ∷ []) (iou_is_small, (loop_is_small, tt)), tt);
    }

pub packages_are_accepted : AreAccepted hosts packages
packages_are_accepted = record { given = iou_package ∷ []; built_in = refl; small = iou_package_is_small; hosted = refl }
