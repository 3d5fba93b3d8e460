use Rattle.std.proofs.Common.{refl, arith}
use Rattle.pruned_inbox.proofs.Pruned.{owed_at_first}
use Rattle.pruned_inbox.proofs.laws.new_participants_have_forgotten_nothing.Goals as goal

pub returns : goal.returns
returns c = record {
  base = λ params items. record { within = omega arith; decided = λ m lt received. absurd (omega (arith, lt)) };
  start = λ reading items. record { active = refl; gone = λ id. refl; ascend = tt };
  front = λ time items. refl;
  status = λ reading items k id. refl;
  active = λ reading p items n. refl;
  owed = λ reading params p items k. owed_at_first reading params p items k;
}
