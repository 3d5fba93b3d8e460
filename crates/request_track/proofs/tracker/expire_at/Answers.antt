use Rattle.std.proofs.Common.{◌≡◌, ◌∙◌, ap, sym, length, true, arith}
use Rattle.std.proofs.lemmas.Grind.{common_steps}
use Rattle.request_track.specs.Pairs.{undecided_of, late_tracked, is_late}
use Rattle.request_track.proofs.Lapses.{one_less}
use Rattle.request_track.proofs.tracker.expire_at.Goals as goal

pub returns-clause-len : goal.returns-clause-len
returns-clause-len c =
    let late : is_late c.args.time c.args.pairs.now.entries c.args.place ≡ true =
    ap (late_tracked c.args.time) (sym c.tracked-found.ensures) ∙ sym c.is_late.ensures ∙ c.if-not-is_late.false in
    let less = one_less c.args.time c.args.place c.args.pairs.now.entries late in
    let now = ap length (c.settle_at.ensures.undecided ∙ ap undecided_of c.settle_at.ensures.pairs) in
    let before = ap length c.requires.undecided in
    grind (arith, common_steps)
