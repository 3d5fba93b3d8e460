use Rattle.std.proofs.Common.{◌≡◌, drop}
use Rattle.interpret.specs.Ids.{seed_below, root_seed}
use Rattle.interpret.proofs.ids.label_seed.Given as goal

abbrev pub invariant-loop-index : goal.invariant-loop-index
invariant-loop-index l =
    seed_below l.seed (drop l.index-index l.index-items) ≡ seed_below (root_seed l.label.participant l.label.command) l.label.path
