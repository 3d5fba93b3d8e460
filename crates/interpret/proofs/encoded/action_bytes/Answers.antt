use Rattle.interpret.proofs.Encoding.{action_is, spelled_bytes, unspelled_bytes}
use Rattle.interpret.proofs.encoded.action_bytes.Goals as goal

pub returns-then-not-is_spellable_action : goal.returns-then-not-is_spellable_action
returns-then-not-is_spellable_action c =
    unspelled_bytes _ c.args.action.now (action_is _ c.args.action.now c.is_spellable_action.ensures.exact) c.if-not-is_spellable_action.true

pub returns : goal.returns
returns c =
    spelled_bytes _ c.args.action.now _ _ (action_is _ c.args.action.now c.is_spellable_action.ensures.exact) c.if-not-is_spellable_action.false
    c.action_len.ensures c.saturating_add.ensures
