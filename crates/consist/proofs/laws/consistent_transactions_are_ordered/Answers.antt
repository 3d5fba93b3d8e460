use Rattle.consist.proofs.Breaking.{stretch_ordered}
use Rattle.consist.proofs.laws.consistent_transactions_are_ordered.Goals as goal

pub returns : goal.returns
returns c = stretch_ordered
