use Rattle.std.proofs.Common.{◌<◌, ℕ, List, length, nat_eq, not, sym, ap, subst, arith}
use Rattle.std.specs.List.{AllWithin}
use Rattle.canton_model.specs.declared.response.Response.{Response}
use Rattle.world_model.specs.Node.{is_to}
use Rattle.node_core.specs.Duties.{Kept, IsPassed}
use Rattle.node_core.proofs.DutyFacts.{passed_back, below_at, shorter}
use Rattle.node_core.proofs.duties.Duties.put_back.Goals as goal

pub invariant_of-self : goal.invariant_of-self
invariant_of-self c =
    let inv = c.self.invariant in
    let place = c.args.place in
    let responses = shorter (λ (r : Response). not (is_to place r)) c.self.inside.outbox.responses in
    let places = shorter (λ (n : ℕ). not (nat_eq n place)) c.self.inside.unfinished.items in (
      inv.0,
      omega (arith, responses, places, inv.1, ap length c.remove.ensures.responses, ap length c.drop_place.ensures, c.remove.ensures.capacity),
    )

pub returns-clause-passed : goal.returns-clause-passed
returns-clause-passed c =
    let kept = c.self.inside in
    let low = c.min-self-inside.result in
    let is = c.min-self-inside.ensures in
    let below =
    subst (λ (xs : List ℕ). AllWithin (λ (j : ℕ). j < c.args.place) xs 0 c.places_below.result) c.as_slice.ensures c.places_below.ensures.below in
    λ decided h.
    let before = subst (λ (k : Kept). IsPassed decided k) (sym c.self.view_is) h in (
      omega (arith, before.0, is),
      rw c.drop_claim.ensures
          (passed_back decided kept.claimed.keys c.args.place kept.owed.items kept.passed low (omega (arith, is))
          (λ i j lt e. below_at kept.owed.items c.args.place c.places_below.result below i j (omega (arith, lt, is)) e) before.1),
    )
