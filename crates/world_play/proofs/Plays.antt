-- Event after event.
use Rattle.std.proofs.Common.{◌≡◌, ℕ, zero, suc, ◌+◌, ◌≤◌, List, [], ◌∷◌, ◌++◌, take, length, Some, refl, sym, ap, ◌∙◌, subst, arith}
use Rattle.std.specs.Prelude.{slice_get, ◌^◌, All}
use Rattle.std.proofs.lemmas.Option.{get_or_from_slice_get, slice_get_within}
use Rattle.std.proofs.lemmas.List.Elements.{All-get_or}
use Rattle.std.proofs.lemmas.List.{map-append, take_all}
use Rattle.world_model.specs.Machine.{Machine, IsMachine}
use Rattle.world_model.specs.Mediator.{MediatorState}
use Rattle.world_model.specs.World as w
use Rattle.world_model.specs.Lawful.{Lawful}
use Rattle.world_model.proofs.Steps.{take_next, played_keeps, new_lawful}
use Rattle.world_play.specs.declared.event.Event.{Event}
use Rattle.world_play.specs.declared.world.World.{World}
use Rattle.world_play.specs.Becoming.{Becomes}
use Rattle.world_play.specs.Events.{event_of, events_of, advance_of, advance_in}
use Rattle.world_play.specs.WorldOf.{IsWorldOf, world_of}

pub each_of : {X : Type 0} (P : X → Type 0) (xs : List X) (k : ℕ) (x : X) → All P xs → slice_get xs k ≡ Some x → P x
each_of P xs k x a e = subst P (get_or_from_slice_get xs k x x e) (All-get_or P xs k x (slice_get_within xs k x e) a)

played_more : (m : Machine) (world : w.World) (xs : List w.Event) (e : w.Event) → w.played m world (xs ++ e ∷ []) ≡ w.happens m (w.played m world xs) e
played_more m world [] e = refl
played_more m world (x ∷ xs) e = played_more m (w.happens m world x) xs e

advance_more : (xs : List Event) (e : Event) → advance_in (xs ++ e ∷ []) ≡ advance_in xs + advance_of e
advance_more [] e = omega arith
advance_more (x ∷ xs) e = let r = advance_more xs e in omega arith

advance_below : (n : ℕ) (xs : List Event) → advance_in (take n xs) ≤ advance_in xs
advance_below zero xs = omega arith
advance_below (suc n) [] = omega arith
advance_below (suc n) (x ∷ xs) = let r = advance_below n xs in omega arith

module _ (m : Machine) (events : List Event) where
  pub record IsPlayed (k : ℕ) (world : World) : Type 0 where
    pub now : world.now ≡ advance_in (take k events)
    pub state : MediatorState
    pub is : IsWorldOf m state world
    pub played : world_of state world ≡ w.played m (w.new_world m) (events_of (take k events))

  pub played_starts : (state : MediatorState) (world : World) → world.now ≡ 0 → IsWorldOf m state world → world_of state world ≡ w.new_world m
      → IsPlayed 0 world
  played_starts state world now is new = record { now = now; state = state; is = is; played = new }

  pub played_lawful : IsMachine m → (k : ℕ) (world : World) (p : IsPlayed k world) → Lawful m (world_of p.state world)
  played_lawful machine k world p =
      subst (Lawful m) (sym p.played) (played_keeps m machine (w.new_world m) (events_of (take k events)) (new_lawful m))

  module _ (k : ℕ) (e : Event) (at : slice_get events k ≡ Some e) where
    next : take (k + 1) events ≡ take k events ++ e ∷ []
    next = let one : k + 1 ≡ suc k = omega arith in ap (λ (n : ℕ). take n events) one ∙ take_next k events e at

    advance_next : advance_in (take (k + 1) events) ≡ advance_in (take k events) + advance_of e
    advance_next = ap advance_in next ∙ advance_more (take k events) e

    pub within : (world : World) → IsPlayed k world → advance_in events ≤ 10 ^ 16 → world.now + advance_of e ≤ 10 ^ 16
    within world p few =
        let n = p.now in let a = advance_next in let b = advance_below (k + 1) events in omega (arith, n, a, b, few)

    pub played_on : (world after : World) (p : IsPlayed k world) → after.now ≡ world.now + advance_of e
        → Becomes m (event_of e) p.state world after → IsPlayed (k + 1) after
    played_on world after p now b =
        record {
          now = now ∙ (ap (λ (n : ℕ). n + advance_of e) p.now ∙ sym advance_next);
          state = b.0;
          is = b.1;
          played =
              b.2
              ∙ (ap (λ (x : w.World). w.happens m x (event_of e)) p.played
              ∙ (sym (played_more m (w.new_world m) (events_of (take k events)) (event_of e))
              ∙ ap (w.played m (w.new_world m))
              (sym (ap events_of next ∙ map-append event_of (take k events) (e ∷ [])))));
        }

  pub played_all : (k : ℕ) (world : World) (p : IsPlayed k world) → k ≡ length events
      → (state : MediatorState) × IsWorldOf m state world × (world_of state world ≡ w.played m (w.new_world m) (events_of events))
  played_all k world p end =
      (p.state, p.is, p.played ∙ ap (λ (xs : List Event). w.played m (w.new_world m) (events_of xs)) (take_all k events (omega (arith, end))))
