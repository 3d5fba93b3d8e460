use Rattle.node_core.proofs.LawfulStates.{again_pruned, lawful, may_begin}
use Rattle.node_core.proofs.PrunedStates.{of_owner, stays_lawful}
use Rattle.node_core.proofs.laws.lawful_states_may_begin.Goals as goal

pub returns : goal.returns
returns c =
    record {
      lawful = λ p log state few genuine pruned of. lawful p log few genuine pruned state of;
      pruned = λ topology packages state pruned is at on of. stays_lawful topology packages state is pruned at on of;
      responses = λ topology packages state pruned is at of. of_owner topology packages state is pruned at of;
      same = λ topology packages state whole is. again_pruned whole topology packages state is;
      begins = may_begin;
    }
