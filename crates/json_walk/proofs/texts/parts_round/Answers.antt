use Rattle.std.proofs.Common.{◌≡◌, ◌<◌, ◌==◌, ℕ, List, Option, Some, None, Bor, length, option_map, MatchOption, arith}
use Rattle.std.specs.List.{position_or_len, before_first, after_first}
use Rattle.std.proofs.lemmas.Bool.Decides.{nat_tests}
use Rattle.std.proofs.lemmas.Str.Pattern.{split_once_first}
use Rattle.json_walk.specs.Texts.{parts_round}
use Rattle.json_walk.proofs.texts.parts_round.Goals as goal

-- the two parts of a call as plain texts
parts : (mark : ℕ) (s : List ℕ) (r : Option (Bor (List ℕ) × Bor (List ℕ))) → MatchOption r (position_or_len (λ b. b == mark) s ≡ length s) (λ x. (position_or_len (λ b. b == mark) s < length s) × (x.0.now ≡ before_first (λ b. b == mark) s) × (x.1.now ≡ after_first (λ b. b == mark) s)) → option_map (λ p. (p.0.now, p.1.now)) r ≡ parts_round mark s
unfolding parts_round
parts mark s None h = grind (arith, nat_tests)
parts mark s (Some x) h = let before = h.1 in let after = h.2 in let within = h.0 in grind (arith, nat_tests)

pub returns : goal.returns
returns c = parts c.args.mark c.args.text.now _ (split_once_first c.args.mark c.args.text.now c.split_once.result c.split_once.ensures.cases c.requires)
