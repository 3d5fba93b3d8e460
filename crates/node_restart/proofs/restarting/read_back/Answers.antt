use Rattle.node_restart.proofs.ReadBack.{never_bad, same_read}
use Rattle.node_restart.proofs.restarting.read_back.Goals as goal

pub unreachable-requires : goal.unreachable-requires
unreachable-requires c = never_bad _ c.requires.0 (c.decode.ensures.only c.requires.0 c.requires.1 c.requires.2) _ _ c.in-Err-Bad.is c.in-Err-Bad.field-0-is

pub returns-in-Ok : goal.returns-in-Ok
returns-in-Ok c = λ state ranged spelled. same_read _ state (c.decode.ensures.only state ranged spelled) _ c.in-Ok.is
