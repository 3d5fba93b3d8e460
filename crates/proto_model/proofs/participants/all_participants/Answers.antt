use Rattle.std.proofs.Common.{◌≡◌, ℕ, ◌%◌, ◌<◌, List, [], ◌∷◌, ◌++◌, ◌∙◌, ap, sym, arith}
use Rattle.proto_model.proofs.Making.{one_index_more}
use Rattle.proto_model.proofs.participants.all_participants.Goals as goal

pub loop-at-preserved : goal.loop-at-preserved
loop-at-preserved c =
    λ few.
    let below : c.loop-at.at < 256 = omega (arith, few, c.loop-at-test.true, c.len-at-end.ensures) in
    let same : c.loop-at.at % 256 ≡ c.loop-at.at = omega (arith, below) in
    c.in_ok-push.ensures.ok
    ∙ (ap (λ (k : ℕ). c.loop-at.all ++ k ∷ []) same
    ∙ (ap (λ (ks : List ℕ). ks ++ c.loop-at.at ∷ []) (c.loop-at.invariant few) ∙ sym (one_index_more c.loop-at.at)))
