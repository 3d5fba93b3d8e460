use Rattle.std.proofs.Common.{ℕ, List, ◌++◌, ap, ◌∙◌, append_assoc}
use Rattle.std.specs.Int.{w64, to_be_bytes}
use Rattle.message_bytes.proofs.Written.{appended}
use Rattle.snapshot_store.specs.Spelling.{spell_position}
use Rattle.snapshot_store.proofs.encoding.encode_position.Goals as goal

pub returns : goal.returns
unfolding spell_position
returns c =
    appended c.encode_truth.result _ _ _ (to_be_bytes w64 c.args.base ++ to_be_bytes w64 c.args.base_time) _
    (c.in_ok-encode_u64-2.ensures ∙ (ap (λ (k : List ℕ). k ++ to_be_bytes w64 c.args.base_time) c.in_ok-encode_u64.ensures ∙ append_assoc c.args.out.now (to_be_bytes w64 c.args.base) (to_be_bytes w64 c.args.base_time)))
    c.encode_truth.ensures
