use Rattle.std.proofs.Common.{◌∙◌, ap, sym, length, arith}
use Rattle.std.proofs.lemmas.Grind.{common_steps}
use Rattle.request_track.specs.Pairs.{first_or}
use Rattle.request_track.proofs.Undecided.{clean_first, length_settled, settled_none, apart_settled}
use Rattle.request_track.proofs.tracker.Tracker.settle.Goals as goal

pub invariant_of-self : goal.invariant_of-self
invariant_of-self c =
    let e = c.settle_at.ensures in
    let many = ap length e.pairs ∙ length_settled c.args.place c.args.outcome c.self.inside.pairs.entries in (
      e.undecided,
      c.first_or-self-inside.ensures ∙ ap (λ xs. first_or xs c.self.inside.cursor) e.undecided
          ∙ sym (clean_first c.settle_at.new.pairs.entries c.self.inside.cursor),
      rw e.pairs (apart_settled c.args.place c.args.outcome c.self.inside.pairs.entries c.self.invariant.2),
      (λ h. (let old = c.self.invariant.3 in grind (arith, common_steps))),
    )

pub returns-in_default-clause-pairs : goal.returns-in_default-clause-pairs
returns-in_default-clause-pairs c =
    rw (← c.self.view_is) (sym (settled_none c.args.place c.args.outcome c.self.inside.pairs.entries (sym c.tracked.ensures ∙ c.in_default.is)))
