use Rattle.std.proofs.Common.{◌≡◌, ◌<◌, ◌∙◌, ap, sym, length, get_or, arith}
use Rattle.std.proofs.lemmas.Grind.{common_steps}
use Rattle.request_track.specs.Pairs.{undecided_of}
use Rattle.request_track.proofs.Lapses.{expiring_late}
use Rattle.request_track.proofs.tracker.expire_next.Goals as goal

pub returns-then-expire_at-clause-step : goal.returns-then-expire_at-clause-step
returns-then-expire_at-clause-step c = λ start x.
    let us = c.args.undecided.now.items in
    let place : c.index-place.result.now ≡ get_or us c.args.at 0 = grind (arith, common_steps) in
    let within : c.args.at < length us = grind (arith, common_steps) in
    let e = c.if-expire_at.ensures in
    let pairs = rw place at e.pairs in
    let late = rw place at e.late in
    rw pairs (expiring_late c.args.time start c.args.pairs.now.entries us c.args.at within x (sym late) c.expire_at.new.undecided.items
    (e.undecided ∙ ap undecided_of pairs))
