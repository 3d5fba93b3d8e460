-- The mediator behind its lock: it reads one entry more, and takes a verdict.
use Rattle.std.proofs.Common.{◌≡◌, ℕ, ◌+◌, List, ◌∷◌, length, Option, Some, None, Result, sym, ◌∙◌, subst}
use Rattle.std.specs.Prelude.{Ok, Err, IfOk, IfNone, IfSome, OnErr, slice_get}
use mathlib.Core.List.{IsPrefix}
use Rattle.canton_model.specs.Log.{Params}
use Rattle.world_model.specs.Messages.{Entry, Verdict}
use Rattle.world_model.specs.Machine.{Machine, GenuineLog}
use Rattle.world_model.specs.Mediator.{MediatorState, next_verdict, read_by_mediator, take_verdict}
use Rattle.world_model.specs.Lawful.{MediatorHas}
use Rattle.world_model.specs.Fits.{IsDecision}
use Rattle.world_model.proofs.Steps.{mediator_has_read, mediator_has_taken}
use Rattle.mediator.specs.KeptCases.{KeptMediator, Keeps, with_verdict_taken}
use Rattle.mediator.specs.Order.{HasGiven, IsFirstDue, NothingIsDue}
use Rattle.mediator.proofs.Knowing.{known_first, known_none}
use Rattle.sync_shared.specs.Behind.{IsMediatorBehind}
use Rattle.sync_shared.proofs.Prefixes.{ends_with}

module _ (m : Machine) (list : List Entry) (kept : KeptMediator) (b : IsMediatorBehind m list kept) where
  pub cursor_is : kept.cursor ≡ length list
  cursor_is = (((b.knows).keeps).cursor) ∙ ((b.knows).has).cursor

  pub mediator_reads : (next : List Entry) (e : Entry) (after : KeptMediator) → IsPrefix list next → length next ≡ length list + 1 → GenuineLog m next
      → ((k : ℕ) → length next ≡ k + 1 → slice_get next k ≡ Some e) → after.params ≡ kept.params
      → ((state : MediatorState) → Keeps kept state → Keeps after (read_by_mediator kept.params state e))
      → IsMediatorBehind m next after
  mediator_reads next e after begins long genuine at params step =
      let k = b.knows in
      let is = ends_with list next e begins long at in
      let state = read_by_mediator m.params k.state e in
      record {
        genuine = genuine;
        knows = record {
          params = params ∙ k.params;
          state = state;
          keeps = subst (λ (q : Params). Keeps after (read_by_mediator q k.state e)) k.params (step k.state k.keeps);
          has = subst (λ (xs : List Entry). MediatorHas m xs state) (sym is) (mediator_has_read m list k.state e k.has);
        };
      }

  module _ (after : KeptMediator) (params : after.params ≡ kept.params) where
    takes : (o : Option Verdict) → o ≡ next_verdict (b.knows).state → Keeps after (with_verdict_taken (b.knows).state o)
        → IfSome o (IsDecision m.params list) × IsMediatorBehind m list after
    takes None first keeps =
        (tt, record { genuine = b.genuine; knows = record { params = params ∙ (b.knows).params; state = (b.knows).state; keeps = keeps; has = (b.knows).has } })
    takes (Some v) first keeps =
        let t = mediator_has_taken m list (b.knows).state v b.genuine (b.knows).has (sym first) in (
          t.0,
          record {
            genuine = b.genuine;
            knows = record { params = params ∙ (b.knows).params; state = take_verdict (b.knows).state v.request; keeps = keeps; has = t.1 };
          },
        )

    -- the verdict is the first that is due, and none only where nothing is
    pub first_taken : {E : Type 0} (r : Result (Option Verdict) E) → IfOk r (λ o. (state : MediatorState) → Keeps kept state → o ≡ next_verdict state)
        → IfOk r (λ o. (state : MediatorState) → Keeps kept state → Keeps after (with_verdict_taken state o))
        → IfOk r (λ o. IfSome o (λ v. (given : List ℕ) → HasGiven m list given kept
        → IsFirstDue m.params list given v × HasGiven m list (v.request ∷ given) after))
    first_taken (Err e) first keeps = tt
    first_taken (Ok None) first keeps = tt
    first_taken (Ok (Some v)) first keeps = λ given h.
        known_first m list given kept after h params b.genuine (Some v) (first (h.knows).state (h.knows).keeps)
        (keeps (h.knows).state (h.knows).keeps)

    pub none_taken : {E : Type 0} (r : Result (Option Verdict) E) → IfOk r (λ o. (state : MediatorState) → Keeps kept state → o ≡ next_verdict state)
        → IfOk r (λ o. (state : MediatorState) → Keeps kept state → Keeps after (with_verdict_taken state o))
        → IfOk r (λ o. IfNone o ((given : List ℕ) → HasGiven m list given kept → NothingIsDue m.params list given × HasGiven m list given after))
    none_taken (Err e) first keeps = tt
    none_taken (Ok (Some v)) first keeps = tt
    none_taken (Ok None) first keeps = λ given h.
        known_none m list given kept after h params b.genuine None (first (h.knows).state (h.knows).keeps)
        (keeps (h.knows).state (h.knows).keeps)

    pub verdict_decided : {E : Type 0} (r : Result (Option Verdict) E) → IfOk r (λ o. (state : MediatorState) → Keeps kept state → o ≡ next_verdict state)
        → IfOk r (λ o. (state : MediatorState) → Keeps kept state → Keeps after (with_verdict_taken state o)) → IfOk r (λ o. IfSome o (IsDecision m.params list))
    verdict_decided (Err e) first keeps = tt
    verdict_decided (Ok o) first keeps = (takes o (first (b.knows).state (b.knows).keeps) (keeps (b.knows).state (b.knows).keeps)).0

    pub verdict_taken : {E : Type 0} (r : Result (Option Verdict) E) → IfOk r (λ o. (state : MediatorState) → Keeps kept state → o ≡ next_verdict state)
        → IfOk r (λ o. (state : MediatorState) → Keeps kept state → Keeps after (with_verdict_taken state o)) → OnErr r (after ≡ kept) → IsMediatorBehind m list after
    verdict_taken (Err e) first keeps err = subst (IsMediatorBehind m list) (sym err) b
    verdict_taken (Ok o) first keeps err = (takes o (first (b.knows).state (b.knows).keeps) (keeps (b.knows).state (b.knows).keeps)).1
