use Rattle.node_core.proofs.Restarted.{claims_next, has_inbox, put_back_same, read_again, same_items, sends_next}
use Rattle.node_core.proofs.laws.restarted_participants_are_pruned.Goals as goal

pub returns : goal.returns
returns c =
    record {
      pruned = λ whole p state is of. has_inbox whole p is state of;
      items = λ whole p state is of. same_items whole p is state of;
      read = λ m p read state has of. read_again m read p has state of;
      claim = λ whole p state is of rests owed. claims_next whole p is state of rests owed;
      response = λ whole p state is of rests owed. sends_next whole p is state of rests owed;
      put_back = put_back_same;
    }
