use Rattle.lang_check.proofs.Valued.{val_kind}
use Rattle.lang_check.proofs.laws.values_have_their_kinds.Goals as goal

pub returns : goal.returns
returns c e names k v t h = val_kind e names k v t h
