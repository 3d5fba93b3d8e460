use Rattle.std.proofs.Common.{◌≡◌, ◌≢◌, ℕ, ◌∷◌, [], List, Option, Some, None, Bor, MatchOption, option_map, refl, arith}
use Rattle.std.proofs.lemmas.Bool.Decides.{nat_tests}
use Rattle.std.proofs.lemmas.Str.Pattern.{strip_prefix_char}
use Rattle.script_read.specs.Refs.{behind_mark}
use Rattle.script_read.proofs.reference.behind_mark.Goals as goal

absent : (bs : List ℕ) → ((rest : List ℕ) → bs ≢ 35 ∷ rest) → None ≡ behind_mark bs
absent [] h = refl
absent (b ∷ bs) h = let other : b ≢ 35 = λ e. h bs (rw e refl) in grind (arith, nat_tests)

behind : (bs : List ℕ) (r : Option (Bor (List ℕ))) → MatchOption r ((rest : List ℕ) → bs ≢ 35 ∷ rest) (λ x. bs ≡ 35 ∷ x.now) → option_map (λ s. s.now) r ≡ behind_mark bs
behind bs None h = absent bs h
behind bs (Some x) h = rw h refl

pub returns : goal.returns
returns c = behind c.args.text.now _ (strip_prefix_char 35 c.args.text.now c.strip_prefix.result c.strip_prefix.ensures.cases (omega arith))
