-- What the mediator knows of the log, with the verdicts that count as taken, through each of its calls.
use Rattle.std.proofs.Common.{◌≡◌, ℕ, List, [], ◌∷◌, ◌++◌, Option, Some, None, IfSome, IfNone, sym, ap, subst, refl, ◌∙◌}
use Rattle.canton_model.specs.Log.{Params}
use Rattle.world_model.specs.Messages.{Entry, Verdict}
use Rattle.world_model.specs.Machine.{Machine, GenuineLog}
use Rattle.world_model.specs.Mediator.{MediatorState, cases_of, first_verdict, new_mediator, read_by_mediator, next_verdict, take_verdict, give_back}
use Rattle.world_model.specs.Places.{without_place}
use Rattle.world_model.proofs.Steps.{verdicts_below, mediator_has_read, mediator_has_taken, mediator_has_back}
use Rattle.mediator.specs.KeptCases.{KeptMediator, Keeps, with_verdict_taken}
use Rattle.mediator.specs.Order.{HasGiven, IsFirstDue, NothingIsDue}
use Rattle.mediator.proofs.OrderFacts.{first_due, nothing_due}

pub known_new : (m : Machine) (kept : KeptMediator) → kept.params ≡ m.params → Keeps kept new_mediator → HasGiven m [] [] kept
known_new m kept params keeps =
    record {
      knows = record {
        params = params;
        state = new_mediator;
        keeps = keeps;
        has = record { cursor = refl; cases = refl; given = λ k has. cc };
      };
      places = refl;
    }

module _ (m : Machine) (log : List Entry) (given : List ℕ) (before after : KeptMediator) (h : HasGiven m log given before) (same : after.params ≡ before.params) where
  abbrev state : MediatorState
  state = (h.knows).state

  pub known_read : (entry : Entry) → ((s : MediatorState) → Keeps before s → Keeps after (read_by_mediator before.params s entry))
      → HasGiven m (log ++ entry ∷ []) given after
  known_read entry step =
      let k = h.knows in
      record {
        knows = record {
          params = same ∙ k.params;
          state = read_by_mediator m.params state entry;
          keeps = subst (λ (p : Params). Keeps after (read_by_mediator p state entry)) k.params (step state k.keeps);
          has = mediator_has_read m log state entry k.has;
        };
        places = h.places;
      }

  pub known_back : (k : ℕ) → ((s : MediatorState) → Keeps before s → Keeps after (give_back s k)) → HasGiven m log (without_place k given) after
  known_back k step =
      let knows = h.knows in
      record {
        knows = record {
          params = same ∙ knows.params;
          state = give_back state k;
          keeps = step state knows.keeps;
          has = mediator_has_back m log state k knows.has;
        };
        places = ap (without_place k) h.places;
      }

  module _ (genuine : GenuineLog m log) where
    -- what is next is so over the cases of the log
    over_log : (o : Option Verdict) → o ≡ next_verdict state → first_verdict given (cases_of m.params log) ≡ o
    over_log o next =
        sym (ap (first_verdict given) ((h.knows).has).cases) ∙ (sym (ap (λ (g : List ℕ). first_verdict g state.cases) h.places) ∙ sym next)

    pub known_first : (o : Option Verdict) → o ≡ next_verdict state → Keeps after (with_verdict_taken state o)
        → IfSome o (λ (v : Verdict). IsFirstDue m.params log given v × HasGiven m log (v.request ∷ given) after)
    known_first None next step = tt
    known_first (Some v) next step =
        let knows = h.knows in (
          first_due m.params log given (verdicts_below m log genuine) v (over_log (Some v) next),
          record {
            knows = record {
              params = same ∙ knows.params;
              state = take_verdict state v.request;
              keeps = step;
              has = (mediator_has_taken m log state v genuine knows.has (sym next)).1;
            };
            places = ap (λ (g : List ℕ). v.request ∷ g) h.places;
          },
        )

    pub known_none : (o : Option Verdict) → o ≡ next_verdict state → Keeps after (with_verdict_taken state o)
        → IfNone o (NothingIsDue m.params log given × HasGiven m log given after)
    known_none (Some v) next step = tt
    known_none None next step =
        let knows = h.knows in (
          nothing_due m.params log given (verdicts_below m log genuine) (over_log None next),
          record { knows = record { params = same ∙ knows.params; state = state; keeps = step; has = knows.has }; places = h.places },
        )
