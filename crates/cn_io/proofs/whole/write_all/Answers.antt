use Rattle.std.proofs.Common.{◌∙◌, [], Err, ap, arith, length-drop, refl}
use Rattle.std.proofs.KnownBytes.{Appends-nil}
use Rattle.std.proofs.lemmas.Grind.{common_steps}
use Rattle.std.proofs.lemmas.List.{take_rest}
use Rattle.std.proofs.lemmas.Result.{err_from_is_err_and}
use Rattle.cn_io.proofs.Offers.{offered_next, offered_refused}
use Rattle.cn_io.proofs.Pieces.{Appends-more}
use Rattle.cn_io.proofs.whole.write_all.Goals as goal

pub pieces-init : goal.pieces-init
pieces-init g c = record {
  given = Appends-nil _;
  offered = ([], refl, refl);
  count = refl;
  within = omega arith;
  sure = λ fits. (refl, omega (arith, fits));
}

pub pieces-preserved : goal.pieces-preserved
pieces-preserved g c =
    let put = rw (take_rest c.args.bytes.now c.pieces.at) at c.in_ok-at.ensures in
    record {
      given = Appends-more _ _ _ c.args.bytes.now c.pieces.at c.in_ok-at.field-0 c.pieces.invariant.given put.moved.2;
      offered = offered_next g.K.Sink.may_put _ _ _ c.args.bytes.now c.pieces.at c.in_ok-at.field-0 c.pieces.invariant.offered (omega arith) put.answer;
      count = omega arith;
      within = grind (arith, common_steps);
      sure = λ fits.
          let before = c.pieces.invariant.sure fits in
          let left = length-drop c.pieces.at c.args.bytes.now in
          let all = put.sure (omega (arith, left, before.1)) in
          (all.1 ∙ before.0, omega (arith, left, all.0, all.2, before.1));
    }

pub returns-clause-offers : goal.returns-clause-offers
returns-clause-offers g c =
    let before = c.pieces.invariant.offered in
    (before.0, omega (arith, before.1), before.2)

pub returns-in_err-at-clause-offers : goal.returns-in_err-at-clause-offers
returns-in_err-at-clause-offers g c =
    let put = rw (take_rest c.args.bytes.now c.pieces.at) at c.in_err-at.ensures in
    let p = err_from_is_err_and c.from_residual.result c.from_residual.ensures.1 in
    offered_refused g.K.Sink.may_put _ _ _ c.args.bytes.now c.pieces.at _ c.from_residual.result (p.1 ∙ ap Err p.2) c.pieces.invariant.offered (omega arith)
    put.answer

pub returns-in_err-at-clause-sure : goal.returns-in_err-at-clause-sure
returns-in_err-at-clause-sure g c fits =
    let put = rw (take_rest c.args.bytes.now c.pieces.at) at c.in_err-at.ensures in
    let before = c.pieces.invariant.sure fits in
    let left = length-drop c.pieces.at c.args.bytes.now in
    absurd (put.sure (omega (arith, left, before.1)))
