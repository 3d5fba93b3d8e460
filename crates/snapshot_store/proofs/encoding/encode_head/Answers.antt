use Rattle.message_bytes.proofs.Written.{appended}
use Rattle.snapshot_store.specs.Spelling.{spell_owner, spell_head}
use Rattle.snapshot_store.proofs.encoding.encode_head.Goals as goal

pub returns : goal.returns
unfolding spell_head
returns c =
    appended c.encode_position.result _ _ _ (spell_owner c.args.state.now.me) _ c.in_ok-encode_owner.ensures c.encode_position.ensures
