use Rattle.node_inbox.proofs.Grows.{inbox_reads}
use Rattle.node_inbox.proofs.laws.inbox_reads.Goals as goal

pub returns : goal.returns
returns c = inbox_reads
