use Rattle.std.proofs.Common.{◌<◌, length, arith}
use Rattle.std.proofs.lemmas.Grind.{common_steps}
use Rattle.node_inbox.specs.Acts.{fact_in}
use Rattle.node_inbox.proofs.ActFacts.{mapped_more}
use Rattle.node_inbox.proofs.facts.fill.Goals as goal

pub loop-at-preserved : goal.loop-at-preserved
loop-at-preserved c =
    let within : c.loop-at.at < length c.args.facts.now.items = grind (arith, common_steps) in
    mapped_more (fact_in c.args.registry.now) c.loop-at.facts.items c.args.facts.now.items c.loop-at.at c.index.result.now c.fact_of.result within
    c.loop-at.invariant c.index.ensures c.fact_of.ensures
