use Rattle.std.proofs.Common.{[], false}
use Rattle.sha2.specs.Sha256.{sha256}
use Rattle.blind_tree.proofs.Blinded.{seen_is_shown, mediator_sees_none}
use Rattle.blind_tree.proofs.laws.contents_are_shown_where_seen.Goals as goal

pub returns : goal.returns
returns c = record {
  participants = λ views sender hosts is_sender. seen_is_shown sha256 hosts false [] 0 views.roots;
  mediator = λ views sender. mediator_sees_none sha256 [] 0 views.roots;
}
