-- The derived comparison of keys is that of the definitions.
use Rattle.std.proofs.Common.{◌≡◌, ℕ, cond, List, [], ◌∷◌, Some, refl, sym, ap, ◌∙◌}
use Rattle.std.specs.Prelude.{if◌then◌else◌}
use Rattle.std.specs.Map.{lookup}
use Rattle.indexmap.specs.IndexMap.{IndexMap, get}
use Rattle.seq_log.specs.contracts.key.KeyPartialEq.TheImpl as derived
use Rattle.seq_log.specs.Keys.{key_eq}
use Rattle.seq_log.specs.declared.key.Key.{Key}
use Rattle.seq_log.specs.declared.key.Key.TheVariants.{Request, Response, Verdict}

eq_is : (a b : Key) → derived.ghosts.eq a b ≡ key_eq a b
eq_is (Request p c) (Request q d) = refl
eq_is (Request p c) (Response q j) = refl
eq_is (Request p c) (Verdict j) = refl
eq_is (Response p k) (Request q d) = refl
eq_is (Response p k) (Response q j) = refl
eq_is (Response p k) (Verdict j) = refl
eq_is (Verdict k) (Request q d) = refl
eq_is (Verdict k) (Response q j) = refl
eq_is (Verdict k) (Verdict j) = refl

lookup_is : (q : Key) (es : List (Key × ℕ)) → lookup (key_eq q) es ≡ lookup (derived.ghosts.eq q) es
lookup_is q [] = refl
lookup_is q (e ∷ es) = ap (λ b. cond b (Some e.1) (lookup (key_eq q) es)) (sym (eq_is q e.0)) ∙ ap (cond (derived.ghosts.eq q e.0) (Some e.1)) (lookup_is q es)

pub get_is : {S : Type 0} (m : IndexMap Key ℕ S) (q : Key) → get key_eq m q ≡ get derived.ghosts.eq m q
get_is m q = lookup_is q m.entries

pub put_is : {S : Type 0} (m n : IndexMap Key ℕ S) (key : Key) (place : ℕ)
    → ((q : Key) → get derived.ghosts.eq n q ≡ cond (derived.ghosts.eq key q) (Some place) (get derived.ghosts.eq m q)) → (q : Key)
    → get key_eq n q ≡ (if key_eq key q then Some place else get key_eq m q)
put_is m n key place put q =
    get_is n q ∙ put q ∙ ap (λ b. cond b (Some place) (get derived.ghosts.eq m q)) (eq_is key q) ∙ ap (cond (key_eq key q) (Some place)) (sym (get_is m q))
