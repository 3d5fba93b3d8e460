use Rattle.std.proofs.Common.{◌≡◌, ◌+◌, ◌∷◌, ◌++◌, [], ℕ, List, true, false, take, nat_eq, get_or, refl, sym, ap, ◌∙◌, subst, add-one}
use Rattle.std.proofs.lemmas.Bool.{eq-eqb}
use Rattle.std.proofs.lemmas.List.{take_all}
use Rattle.std.proofs.lemmas.Option.{slice_get-get_or}
use Rattle.world_model.specs.Places.{has_place}
use Rattle.world_model.proofs.Steps.{take_next}
use Rattle.node_core.specs.Participant.{Participant, owes_there, with_state}
use Rattle.node_core.specs.States.{with_claimed}
use Rattle.node_core.proofs.Beginnings.{any_at, place_is_new}
use Rattle.node_core.proofs.node.Node.claim_all.Goals as goal

pub loop-place-init : goal.loop-place-init
loop-place-init c =
    let p = c.args.self.now in ap (λ (ks : List ℕ). with_state p (with_claimed p.state ks)) c.requires.none

pub claim_done-requires-clause-owes : goal.claim_done-requires-clause-owes
claim_done-requires-clause-owes c =
    let places = c.args.places.now in
    let k = c.loop-place.place-index in
    let x = get_or places k 0 in
    let there = slice_get-get_or places k 0 c.loop-place-test.true in
    subst (λ (q : Participant). owes_there q x ≡ true) (sym c.loop-place.invariant)
    (c.requires.owes x (any_at (nat_eq x) places k x there (eq-eqb x x refl)))

pub claim_done-requires-clause-new : goal.claim_done-requires-clause-new
claim_done-requires-clause-new c =
    let places = c.args.places.now in
    let k = c.loop-place.place-index in
    let x = get_or places k 0 in
    let there = slice_get-get_or places k 0 c.loop-place-test.true in
    subst (λ (q : Participant). has_place (q.state).claimed x ≡ false) (sym c.loop-place.invariant) (place_is_new places c.requires.ascend k x there)

pub loop-place-preserved : goal.loop-place-preserved
loop-place-preserved c =
    let p = c.args.self.now in
    let places = c.args.places.now in
    let k = c.loop-place.place-index in
    let x = get_or places k 0 in
    let there = slice_get-get_or places k 0 c.loop-place-test.true in
    let next : take k places ++ x ∷ [] ≡ take (k + 1) places = sym (take_next k places x there) ∙ ap (λ (n : ℕ). take n places) (sym (add-one k)) in
    c.in_ok-claim_done.ensures
    ∙ (ap (λ (q : Participant). with_state q (with_claimed q.state ((q.state).claimed ++ x ∷ []))) c.loop-place.invariant
    ∙ ap (λ (ks : List ℕ). with_state p (with_claimed p.state ks)) next)

pub returns : goal.returns
returns c =
    let p = c.args.self.now in
    c.loop-place.invariant
    ∙ ap (λ (ks : List ℕ). with_state p (with_claimed p.state ks)) (take_all c.loop-place.place-index c.args.places.now c.loop-place-test.false)
