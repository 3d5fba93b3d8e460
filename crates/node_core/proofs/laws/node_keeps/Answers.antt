use Rattle.node_core.proofs.Alike.{can_read, keeps_claim, keeps_finish, keeps_flag, keeps_put_back, keeps_read, keeps_sent, owed_stays}
use Rattle.node_core.proofs.laws.node_keeps.Goals as goal

pub returns : goal.returns
returns c =
    record {
      can_read = λ m p before entry is has genuine. can_read m p before has is entry genuine;
      read = λ m p before entry is has genuine. keeps_read m p before has is entry genuine;
      owed = owed_stays;
      claim = λ m p read k is has next. keeps_claim m p read has k next;
      finish = λ m p read k is has owes. keeps_finish m p read has is k owes;
      sent = λ m p read k has. keeps_sent m p read has k;
      put_back = λ m p read k has. keeps_put_back m p read has k;
      flag = λ m p read paused has. keeps_flag m p read has paused;
    }
