use Rattle.layer_cases.proofs.world.late.put_first.Goals as goal

pub put_second-requires-clause-node : goal.put_second-requires-clause-node
put_second-requires-clause-node c = let r = c.requires in (r.0, r.1, c.claimed.ensures.stands r.0 r.1 c.args.sequencer.now r.2)
