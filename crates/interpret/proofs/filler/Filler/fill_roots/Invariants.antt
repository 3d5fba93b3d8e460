use Rattle.std.proofs.Common.{◌≡◌, ◌≤◌, drop}
use Rattle.ledger_terms.specs.Grown.{forest_of}
use Rattle.interpret.specs.Filled.{behind, fill_roots}
use Rattle.interpret.proofs.filler.Filler.fill_roots.Given as goal

abbrev pub invariant-loop-index : goal.invariant-loop-index
invariant-loop-index g l =
    (l.index ≤ l.count) × (l.count ≤ 64)
    × (behind l.filled (fill_roots (g.K.KnownContracts.rows l.self.known.now) l.seed l.index l.count (forest_of (drop l.index l.items)))
    ≡ fill_roots (g.K.KnownContracts.rows l.self.known.now) l.seed 0 0 l.drafts)
