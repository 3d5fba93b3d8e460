use Rattle.std.proofs.Common.{sym, arith}
use Rattle.std.proofs.lemmas.List.FromFn.{map-range_with_len_more}
use Rattle.load_gen.specs.Scripts.{host_at}
use Rattle.load_gen.proofs.topology.hosts.Goals as goal

pub places-preserved : goal.places-preserved
places-preserved c =
    rw (c.in_ok-push.ensures.ok, c.places.invariant, c.in_ok-host_at.ensures)
    (sym (map-range_with_len_more host_at 0 c.places.place c.places.place (omega arith)))
