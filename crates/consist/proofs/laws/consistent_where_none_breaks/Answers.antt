use Rattle.consist.proofs.Breaking.{none_breaks, consistent_from}
use Rattle.consist.proofs.laws.consistent_where_none_breaks.Goals as goal

pub returns : goal.returns
returns c all = (none_breaks all, consistent_from all)
