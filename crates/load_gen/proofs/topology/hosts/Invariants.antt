use Rattle.std.proofs.Common.{◌≡◌, map}
use Rattle.std.specs.List.{range_with_len}
use Rattle.load_gen.specs.Scripts.{host_at}
use Rattle.load_gen.proofs.topology.hosts.Given as goal

abbrev pub invariant-places : goal.invariant-places
invariant-places l = l.hosts ≡ map host_at (range_with_len 0 l.place)
