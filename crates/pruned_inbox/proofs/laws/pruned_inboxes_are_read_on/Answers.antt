use Rattle.pruned_inbox.proofs.Later.{later_verdict}
use Rattle.pruned_inbox.proofs.Restarted.{front_more}
use Rattle.pruned_inbox.proofs.laws.pruned_inboxes_are_read_on.Goals as goal

pub returns : goal.returns
returns c = record { behind = front_more; verdicts = later_verdict }
