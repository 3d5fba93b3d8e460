use Rattle.std.proofs.Common.{◌+◌, arith, refl, rules}
use Rattle.std.proofs.lemmas.List.{length-take}
use Rattle.cn_io.proofs.Pieces.{piece_taken}
use Rattle.cn_io.proofs.whole.read_all.Goals as goal

pub returns-then-count-left-clause-stopped : goal.returns-then-count-left-clause-stopped
returns-then-count-left-clause-stopped g c =
    let moved = c.in-Ok.ensures.moved in
    let more = piece_taken _ _ _ c.turns.bytes c.take.new.into c.in-Ok.count c.turns.invariant.given moved.1 moved.0 in
    (_, more.0, omega (arith, more.1, moved.0, length-take (c.min-room.result + 1) c.turns.piece), (λ _. omega (arith, more.1), λ _. refl))

pub returns-then-is_err-clause-stopped : goal.returns-then-is_err-clause-stopped
returns-then-is_err-clause-stopped g c =
    let moved = c.in-Ok.ensures.moved in
    let more = piece_taken _ _ _ c.turns.bytes c.take.new.into c.in-Ok.count c.turns.invariant.given moved.1 moved.0 in
    (_, more.0, omega (arith, more.1, moved.0), (λ other. search rules, λ long. absurd (omega (arith, more.1, long))))
