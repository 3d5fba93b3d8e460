use Rattle.node_restart.proofs.GoingOn.{alike, claims_next, reads, sends_next}
use Rattle.node_restart.proofs.laws.restarted_participants_go_on.Goals as goal

pub returns : goal.returns
returns c = record {
  read = λ m log more before after can. reads m log more before after can;
  answers = λ m log more before after can. alike m log more before after can;
  claim = λ m log more before after can. claims_next m log more before after can;
  response = λ m log more before after can. sends_next m log more before after can;
}
