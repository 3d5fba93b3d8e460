use Rattle.std.proofs.Common.{◌+◌, ℕ, List, length, take, refl, sym, ap, subst, arith}
use Rattle.mediator.specs.KeptCases.{KeptMediator}
use Rattle.world_play.proofs.Resumes.{IsReturner, all_taken, one_more, open_at, open_of, open_passes, within_open, returner_on, returner_past, returner_ends}
use Rattle.world_play.proofs.resuming.resume_mediator.Goals as goal
use Rattle.world_play.proofs.resuming.resume_mediator.Goals.{then-place-cursor, else-place-cursor}

pub places-preserved : goal.places-preserved
places-preserved c =
    let s = c.args.sequencer.now in
    let first = c.args.mediator.now in
    let mediator = c.places.mediator in
    let number = c.places.number in
    let places = take number (open_of s) in
    let inv = c.places.invariant in
    let place = c.index-place.result.now in
    let within =
    within_open s s refl c.open_requests.result.now.items c.open_requests-in-places.result.now.items c.open_requests.ensures
    c.open_requests-in-places.ensures c.places.number c.len-number-end.result _ c.places-test.true c.len-number-end.ensures c.open_requests.result.now.ok.0 in
    let there =
    open_at s s refl c.open_requests-in-places.result.now.items c.open_requests-in-places.ensures number place
    within c.index-place.ensures in
    let more = one_more s number place there in
    let stays = open_passes s number place there in
    elim c.if-place-cursor.branch [
      | then-place-cursor w ↦
          subst (λ (x : KeptMediator). IsReturner first s x (take (number + 1) (open_of s))) (sym w.mediator-is)
          (subst (λ (xs : List ℕ). IsReturner first s w.give_back.new.self xs) more
          (returner_on first s mediator places inv place stays
          (let read = w.if-place-cursor.true in let at = c.cursor.ensures in omega (arith, read, at)) w.give_back.new.self
          w.give_back.ensures.params w.give_back.ensures.state))
      | else-place-cursor w ↦
          subst (λ (x : KeptMediator). IsReturner first s x (take (number + 1) (open_of s))) (sym w.mediator-is)
          (subst (λ (xs : List ℕ). IsReturner first s mediator xs) more (returner_past first s mediator places inv place stays
          (let read = w.if-place-cursor.false in let at = c.cursor.ensures in omega (arith, read, at))))
    ]

pub returns : goal.returns
returns c =
    record {
      returned = λ m state n is.
          let s = c.args.sequencer.now in
          let out = c.places-test.false in
          let end = c.len-number-end.ensures in
          let before = c.open_requests.result.now.ok.0 in
          let was = ap length c.open_requests.ensures in
          returner_ends c.args.mediator.now s c.places.mediator (take c.places.number (open_of s)) c.places.invariant
          (all_taken s c.places.number (omega (arith, out, end, before, was))) m state n is;
    }
