use Rattle.std.proofs.Common.{◌≡◌, ◌++◌, ◌∷◌, [], string_bytes, append_assoc, arith}
use Rattle.std.proofs.lemmas.Grind.{common_steps}
use Rattle.report_text.proofs.Levels.{indent_step}
use Rattle.report_text.proofs.actions.put_indent.Goals as goal

pub levels-preserved : goal.levels-preserved
levels-preserved c =
    let pushed : string_bytes c.push_str.new.self ≡ string_bytes c.levels.out ++ 32 ∷ 32 ∷ [] = grind (arith, common_steps) in
    let sofar = rw (indent_step _ _ c.levels-test.true) at c.levels.invariant in
    rw pushed (simp append_assoc sofar)
