use Rattle.proto_model.proofs.Told.{no_contents, roles_are_told}
use Rattle.proto_model.proofs.laws.the_mediator_is_told_who_sees_and_confirms.Goals as goal

pub returns-clause-told : goal.returns-clause-told
returns-clause-told c topology packages sender command whole can = roles_are_told topology packages sender command whole can

pub returns-clause-no_contents : goal.returns-clause-no_contents
returns-clause-no_contents c topology packages sender command whole tree can is = no_contents topology packages sender command whole can tree is
