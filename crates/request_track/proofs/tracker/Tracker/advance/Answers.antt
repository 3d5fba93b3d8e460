use Rattle.std.proofs.Common.{◌∙◌, ◌+◌, ap, sym}
use Rattle.request_track.specs.Pairs.{first_or}
use Rattle.request_track.proofs.Undecided.{clean_first}
use Rattle.request_track.proofs.tracker.Tracker.advance.Goals as goal

pub invariant_of-self : goal.invariant_of-self
invariant_of-self c = (
  c.self.invariant.0,
  c.first_or-self-inside.ensures ∙ ap (λ xs. first_or xs (c.self.inside.cursor + 1)) c.self.invariant.0
      ∙ sym (clean_first c.self.inside.pairs.entries (c.self.inside.cursor + 1)),
  c.self.invariant.2,
  c.self.invariant.3,
)
