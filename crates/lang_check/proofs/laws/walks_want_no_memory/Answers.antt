use Rattle.lang_check.proofs.Faulty.{walk_faulty}
use Rattle.lang_check.proofs.laws.walks_want_no_memory.Goals as goal

pub returns : goal.returns
returns c packages f e = walk_faulty packages f e
