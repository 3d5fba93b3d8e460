use Rattle.interpret.proofs.FilledLists.{spelled_answer}
use Rattle.interpret.proofs.filler.id_of.Goals as goal

pub returns-then-is_spellable_instance : goal.returns-then-is_spellable_instance
returns-then-is_spellable_instance c =
    spelled_answer c.args.salt.now c.args.instance.now _ _ c.is_spellable_instance.ensures.exact c.if-is_spellable_instance.true c.contract_id.ensures
