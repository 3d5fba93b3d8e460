use Rattle.std.proofs.Common.{◌≡◌, ◌≢◌, ◌++◌, subst, List, ℕ, Option, Bor}
use Rattle.std.specs.Option.{MatchOption}
use Rattle.lang_eval.proofs.Spelled.{part_behind, no_part_behind}
use Rattle.lang_eval.proofs.bound_name.field_part.Goals as goal

-- what is left of a text behind its beginning
abbrev Behind : List ℕ → List ℕ → Option (Bor (List ℕ)) → Type 0
Behind text first r = MatchOption r ((rest : List ℕ) → text ≢ first ++ rest) (λ x. text ≡ first ++ x.now)

pub returns-in-Some : goal.returns-in-Some
returns-in-Some c =
    part_behind c.args.owner.now c.args.text.now c.in-Some.rest.now c.behind_dot.result
    (subst (Behind c.args.text.now c.args.owner.now) c.in-Some.is c.behind_word.ensures) c.behind_dot.ensures

pub returns-in-None : goal.returns-in-None
returns-in-None c =
    no_part_behind c.args.owner.now c.args.text.now (subst (Behind c.args.text.now c.args.owner.now) c.in-None.is c.behind_word.ensures)
