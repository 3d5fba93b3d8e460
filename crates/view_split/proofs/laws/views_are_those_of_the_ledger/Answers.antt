use Rattle.view_split.proofs.Cores.{numbered_are}
use Rattle.view_split.proofs.laws.views_are_those_of_the_ledger.Goals as goal

pub returns : goal.returns
returns c = numbered_are
