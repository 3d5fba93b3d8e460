use Rattle.std.proofs.Common.{◌∙◌, ap, sym, arith}
use Rattle.std.proofs.lemmas.Grind.{common_steps}
use Rattle.request_track.specs.Pairs.{first_or}
use Rattle.request_track.proofs.Undecided.{clean_first}
use Rattle.request_track.proofs.tracker.Tracker.expire.Goals as goal

pub invariant_of-self : goal.invariant_of-self
invariant_of-self c =
    let e = c.expire_all.ensures in (
      e.undecided,
      c.first_or-self-inside.ensures ∙ ap (λ xs. first_or xs c.self.inside.cursor) e.undecided
          ∙ sym (clean_first c.expire_all.new.pairs.entries c.self.inside.cursor),
      e.apart,
      (λ h. (let old = c.self.invariant.3 in grind (arith, common_steps))),
    )
