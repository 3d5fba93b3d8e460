use Rattle.std.proofs.Common.{◌≡◌, ◌++◌, drop, map}
use Rattle.sha2.specs.Sha256.{sha256}
use Rattle.blind_tree.specs.Blind.{blind_for}
use Rattle.blind_tree.proofs.blinding.blind_all.Given as goal

-- the trees so far and those of what is left are the trees of all
abbrev pub invariant-loop-recipient : goal.invariant-loop-recipient
invariant-loop-recipient l =
    l.trees ++ map (blind_for sha256 l.views l.sender l.topology.hosts) (drop l.recipient-index l.recipient-items) ≡ map (blind_for sha256 l.views l.sender l.topology.hosts) l.to
