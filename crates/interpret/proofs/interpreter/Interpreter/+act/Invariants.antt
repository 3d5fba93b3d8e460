use Rattle.std.proofs.Common.{◌≡◌, [], ◌+◌, ◌-◌, ◌*◌}
use Rattle.interpret.specs.Act.{act, follow, most_children}
use Rattle.interpret.specs.Asked.{source_of}
use Rattle.interpret.proofs.interpreter.Interpreter.+act.Given as goal

abbrev pub decreases-act : goal.decreases-act
decreases-act g l = 5 * l.place.now.left + 4

abbrev pub decreases-act_in_room : goal.decreases-act_in_room
decreases-act_in_room g l = 5 * l.place.now.left + 3

abbrev pub decreases-exercise : goal.decreases-exercise
decreases-exercise g l = 5 * l.place.now.left + 2

abbrev pub decreases-follow : goal.decreases-follow
decreases-follow g l = 5 * l.place.now.left + 1

abbrev pub decreases-act_below : goal.decreases-act_below
decreases-act_below g l = 5 * l.place.now.left

abbrev pub invariant-follow-loop-index : goal.invariant-follow-loop-index
invariant-follow-loop-index g l =
    follow (most_children - l.index) (source_of l.self.checked.now (g.K.KnownContracts.rows l.self.known.now) l.place.path l.asking)
    (act (l.place.left - 1) l.self.checked.now (g.K.KnownContracts.rows l.self.known.now)) l.place.seed l.place.path l.by l.progress l.seen l.children l.index
    ≡ follow most_children (source_of l.self.checked.now (g.K.KnownContracts.rows l.self.known.now) l.place.path l.asking)
    (act (l.place.left - 1) l.self.checked.now (g.K.KnownContracts.rows l.self.known.now)) l.place.seed l.place.path l.by l.fn.progress [] l.fn.children 0
