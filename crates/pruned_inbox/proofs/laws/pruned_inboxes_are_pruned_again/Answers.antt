use Rattle.pruned_inbox.proofs.Restarted.{front_again, front_base}
use Rattle.pruned_inbox.proofs.laws.pruned_inboxes_are_pruned_again.Goals as goal

pub returns : goal.returns
returns c = record {
  start = λ reading params items b n start next orderly is_base starts le on. front_again reading params 0 b items orderly is_base start starts n next le on;
  base = λ params items b orderly is_base. front_base params b items orderly is_base;
}
