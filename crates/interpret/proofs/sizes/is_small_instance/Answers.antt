use Rattle.interpret.specs.Sizes.{is_small_instance}
use Rattle.interpret.proofs.Spelled.{values_are, small}
use Rattle.interpret.proofs.sizes.is_small_instance.Goals as goal

pub returns-then-is_spellable_instance : goal.returns-then-is_spellable_instance
unfolding is_small_instance
returns-then-is_spellable_instance c =
    record {
      small = small _ _ _ _ (values_are _ c.args.instance.now.fields c.is_spellable_instance.ensures.exact) c.if-is_spellable_instance.true
          c.instance_len.ensures;
      spellable = λ h. c.is_spellable_instance.ensures.exact.0 c.if-is_spellable_instance.true;
    }
