use Rattle.std.proofs.Common.{◌+◌, ◌*◌, length}
use Rattle.blind_tree.proofs.opening_for.+stands.Given as goal

abbrev pub decreases-stands : goal.decreases-stands
decreases-stands l = 3 * length l.path.now

abbrev pub decreases-stands_below : goal.decreases-stands_below
decreases-stands_below l = 3 * length l.rest.now + 2

abbrev pub decreases-stands_in : goal.decreases-stands_in
decreases-stands_in l = 3 * length l.rest.now + 1
