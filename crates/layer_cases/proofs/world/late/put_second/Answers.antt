use Rattle.layer_cases.proofs.world.late.put_second.Goals as goal

pub put_third-requires-clause-node : goal.put_third-requires-clause-node
put_third-requires-clause-node c =
    let r = c.requires.node in
    let s = c.args.sequencer.now in (r.0, r.1, c.claimed.ensures.stands r.0 r.1 s (c.give_up.ensures r.0 r.1 s r.2))
