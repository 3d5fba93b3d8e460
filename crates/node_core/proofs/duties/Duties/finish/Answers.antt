use Rattle.std.proofs.Common.{◌≡◌, ◌∷◌, [], true, length, sym, ap, subst, arith}
use Rattle.std.proofs.lemmas.List.{length-append}
use Rattle.world_model.specs.Places.{has_place}
use Rattle.node_core.specs.Duties.{Kept}
use Rattle.node_core.proofs.DutyFacts.{fewer_without}
use Rattle.node_core.proofs.duties.Duties.finish.Goals as goal

pub invariant_of-self : goal.invariant_of-self
invariant_of-self c =
    let inv = c.self.invariant in
    let response = c.args.response in
    let there = subst (λ (kept : Kept). has_place kept.unfinished response.request ≡ true) (sym c.self.view_is) c.requires in
    let fewer = fewer_without response.request c.self.inside.unfinished.items there in
    let more = ap length c.push_within.ensures.responses in
    let one = length-append c.self.inside.outbox.responses (response ∷ []) in
    (inv.0, omega (arith, fewer, inv.1, more, one, ap length c.drop_place.ensures, c.push_within.ensures.capacity))
