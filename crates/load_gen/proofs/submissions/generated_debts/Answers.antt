use Rattle.std.proofs.Common.{◌≡◌, ℕ, ◌+◌, sym, ap, ◌∙◌, arith, add-one}
use Rattle.std.proofs.lemmas.List.FromFn.{map-range_with_len_more}
use Rattle.load_gen.specs.Numbers.{number, number_after}
use Rattle.load_gen.specs.Submissions.{debt_by}
use Rattle.load_gen.proofs.submissions.generated_debts.Goals as goal

number_more : (seed i : ℕ) → number_after (number seed i) ≡ number seed (i + 1)
number_more seed i = ap (number seed) (sym (add-one i))

pub turns-preserved : goal.turns-preserved
turns-preserved c =
    let seed = c.args.seed in
    let turn = c.turns.turn in
    let next = c.number_after-number.ensures ∙ ap number_after c.turns.invariant.1 ∙ number_more seed turn in (
      rw (c.in_ok-push.ensures.ok, c.turns.invariant.0, c.in_ok-debt_by.ensures, next)
          (sym (map-range_with_len_more (λ (i : ℕ). debt_by i (number seed (i + 1))) 0 turn turn (omega arith))),
      next,
    )
