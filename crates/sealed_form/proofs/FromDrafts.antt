-- A prepared tree that is filled keeps the limits under which its trees can be made and written.
use Rattle.std.proofs.Common.{ℕ, suc, List, sym, subst}
use Rattle.ledger_terms.specs.Drafts.{Drafts}
use Rattle.ledger_terms.specs.Trees.{Actions}
use Rattle.ledger_terms.specs.Forest.{NoRoots, Root}
use Rattle.ledger_terms.specs.declared.known.Known.{Known}
use Rattle.wire_form.specs.InRange.{IsHash}
use Rattle.interpret.specs.FilledTree.{AreFilled, IsFilled}
use Rattle.interpret.specs.Ids.{Hash}
use Rattle.blind_tree.specs.Limits.{KeepLimits}
use Rattle.sealed_form.proofs.FromRules.{AreSeeded, limits_kept, seed_is}

filled_seeded : (known : List Known) (seed : Hash) (index : ℕ) (drafts : Drafts) (f : Actions) → AreFilled known seed index drafts f → AreSeeded f
filled_seeded known seed index NoRoots NoRoots h = tt
filled_seeded known seed index NoRoots (Root act below others) h = absurd h
filled_seeded known seed index (Root d children more) NoRoots h = absurd h
filled_seeded known seed index (Root d children more) (Root act below others) h = (
  subst IsHash (sym h.0) (seed_is seed index),
  filled_seeded known act.seed 0 children below h.2,
  filled_seeded known seed (suc index) more others h.3,
)

pub filled_keeps_limits : (known : List Known) (seed : Hash) (drafts : Drafts) (forest : Actions) → IsFilled known seed drafts forest → KeepLimits forest
filled_keeps_limits known seed drafts forest h = limits_kept forest h.few h.shallow h.small (filled_seeded known seed 0 drafts forest h.trees)
