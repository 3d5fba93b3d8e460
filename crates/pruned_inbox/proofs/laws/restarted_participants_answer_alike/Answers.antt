use Rattle.pruned_inbox.proofs.Restarted.{restarted}
use Rattle.pruned_inbox.proofs.laws.restarted_participants_answer_alike.Goals as goal

pub returns : goal.returns
returns c reading params p log b n later start genuine order within = restarted reading params p log b n later start genuine order within
