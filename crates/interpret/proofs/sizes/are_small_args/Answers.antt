use Rattle.std.proofs.Common.{◌∙◌}
use Rattle.interpret.specs.Sizes.{are_small_args}
use Rattle.interpret.proofs.Spelled.{values_are, small, unspelled}
use Rattle.interpret.proofs.sizes.are_small_args.Goals as goal

pub returns-then-are_spellable : goal.returns-then-are_spellable
unfolding are_small_args
returns-then-are_spellable c =
    small _ _ _ _ (values_are _ c.args.args.now c.are_spellable.ensures.exact) c.if-are_spellable.true c.values_len.ensures

pub returns-else-are_spellable : goal.returns-else-are_spellable
unfolding are_small_args
returns-else-are_spellable c =
    c.if-are_spellable.false ∙ unspelled _ _ _ (values_are _ c.args.args.now c.are_spellable.ensures.exact) c.if-are_spellable.false
