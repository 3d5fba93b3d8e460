-- What was played on a new synchroniser is lawful.
use Rattle.std.proofs.Common.{◌≡◌, List, sym, subst}
use Rattle.world_model.specs.Lawful.{Lawful}
use Rattle.world_model.specs.Machine.{Machine, IsMachine}
use Rattle.world_model.specs.World.{Event, World, new_world, played}
use Rattle.world_model.proofs.Steps.{new_lawful, played_keeps}

pub lawful : (m : Machine) → IsMachine m → (events : List Event) (world : World) → world ≡ played m (new_world m) events → Lawful m world
lawful m machine events world is = subst (Lawful m) (sym is) (played_keeps m machine (new_world m) events (new_lawful m))
