use Rattle.std.proofs.Common.{ap, ◌∙◌}
use Rattle.sha2.specs.Sha256.{sha256}
use Rattle.blind_tree.specs.Blind.{blind_for}
use Rattle.blind_tree.specs.Kept.{cut_tree}
use Rattle.blind_tree.specs.declared.kept_tree.KeptTree.{KeptTree}
use Rattle.blind_tree.proofs.KeptLaws.{cut_is_for, map_step}
use Rattle.blind_tree.proofs.blinding.blind_all.Goals as goal

pub loop-recipient-preserved : goal.loop-recipient-preserved
loop-recipient-preserved c =
    map_step (blind_for sha256 c.args.views.now c.args.sender c.args.topology.now.hosts) _ _ _ _ _ _ _ c.loop-recipient-test.true c.recipient-item.is
    (c.in_ok-cut_for.ensures
    ∙ (ap (λ (k : KeptTree). cut_tree k c.args.sender c.args.topology.now.hosts c.recipient-item.result) c.in_ok-kept.ensures
    ∙ cut_is_for sha256 c.args.views.now c.args.sender c.args.topology.now.hosts c.recipient-item.result))
    c.in_ok-push.ensures.ok c.loop-recipient.invariant
