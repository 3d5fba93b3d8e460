use Rattle.std.proofs.Common.{None, ap, ◌∙◌}
use Rattle.ledger_terms.specs.Hosting.{hosts_at}
use Rattle.proto_model.proofs.Seen.{all_seen, seen_after, seen_end}
use Rattle.proto_model.proofs.seeing.seen_among.Goals as goal

pub returns : goal.returns
returns c =
    let hosts = hosts_at c.args.topology.now.hosts c.args.me in
    λ told is.
    seen_end hosts _ c.loop-view.view-index _ _ _ c.loop-view-test.false c.loop-view.invariant ∙ (ap (seen_after hosts None) is ∙ all_seen hosts told)
