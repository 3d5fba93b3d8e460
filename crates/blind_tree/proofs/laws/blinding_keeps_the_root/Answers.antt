use Rattle.sha2.specs.Sha256.{sha256}
use Rattle.sha2.proofs.Facts256.{length-sha256}
use Rattle.blind_tree.proofs.Blinded.{mediators_root, one_root, participants_root, sized}
use Rattle.blind_tree.proofs.laws.blinding_keeps_the_root.Goals as goal

pub returns : goal.returns
returns c = record {
  root = one_root sha256;
  participants = participants_root sha256;
  mediator = mediators_root sha256;
  sized = sized sha256 length-sha256;
}
