use Rattle.std.proofs.Common.{ap, ◌∙◌}
use Rattle.std.proofs.lemmas.Result.{IfOk-weaker}
use Rattle.sha2.specs.Sha256.{sha256}
use Rattle.blind_tree.specs.Kept.{cut_tree}
use Rattle.blind_tree.specs.declared.kept_tree.KeptTree.{KeptTree}
use Rattle.blind_tree.proofs.KeptLaws.{cut_is_for}
use Rattle.blind_tree.proofs.blinding.blind.Goals as goal

pub returns : goal.returns
returns c =
    IfOk-weaker c.cut_for.result _ _ (λ tree h.
    h ∙ (ap (λ (k : KeptTree). cut_tree k c.args.sender c.args.topology.now.hosts c.args.to) c.in_ok-kept.ensures
    ∙ cut_is_for sha256 c.args.views.now c.args.sender c.args.topology.now.hosts c.args.to)) c.cut_for.ensures
