use Rattle.std.proofs.Common.{refl}
use Rattle.run_model.proofs.Restarts.{base_is_kept, base_is_moved, one_begin_more, pruned_within}
use Rattle.run_model.proofs.laws.participants_are_pruned_where_they_restart.Goals as goal

pub returns : goal.returns
returns c =
    record {
      begun = λ reading params log p. refl;
      moved = λ reading params log p begins one restarts. base_is_moved reading params log p begins one restarts;
      kept = λ reading params log p begins one stays. base_is_kept reading params log p begins one stays;
      clean = λ reading params log p begins b genuine is. pruned_within reading params log p genuine begins b is;
      begins = λ restarts ends one end second_end many. one_begin_more 0 restarts ends one end second_end many;
    }
