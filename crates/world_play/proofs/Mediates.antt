-- The mediator reads entry after entry, and gives verdict after verdict.
use Rattle.std.proofs.Common.{◌≡◌, ℕ, zero, suc, ◌+◌, ◌<◌, ◌≤◌, Bool, true, false, List, [], ◌∷◌, ◌++◌, take, drop, length, Some, None}
use Rattle.std.proofs.Common.{refl, sym, ap, ◌∙◌, subst, arith, le_refl, take-append-drop}
use Rattle.std.specs.Prelude.{slice_get, ◌||◌, if◌then◌else◌}
use Rattle.std.proofs.lemmas.List.{length-append, take_all}
use Rattle.world_model.specs.Messages.{Entry, Message, VerdictMessage, Verdict}
use Rattle.world_model.specs.Machine.{Machine}
use Rattle.world_model.specs.Sequencing.{sequenced}
use Rattle.world_model.specs.Fits.{IsDecision, MayStand}
use Rattle.world_model.specs.Locks.{SequencerBehind}
use Rattle.world_model.specs.Places.{has_place}
use Rattle.world_model.specs.Mediator.{Progress, Settled, Waiting, Case, MediatorState, decision_of, verdict_by, verdict_unless, next_verdict, take_verdict}
use Rattle.world_model.specs.Mediator.{first_verdict, read_by_mediator, cases_of}
use Rattle.world_model.specs.Lawful.{MediatorHas}
use Rattle.world_model.specs.Settled.{append_each}
use Rattle.world_model.specs.Turns.{verdict_message, verdict_messages}
use Rattle.canton_model.proofs.LongerLogs.{genuine_take, scan_grown}
use Rattle.world_model.proofs.Grown.{take_grown}
use Rattle.world_model.proofs.Loops.{cases_rise, verdict_first, verdict_none}
use Rattle.world_model.proofs.Steps.{take_next, length_take, mediator_has_read, mediator_has_taken}
use Rattle.mediator.specs.KeptCases.{KeptCase, KeptMediator, kept_case, kept_cases, Keeps, with_verdict_taken}
use Rattle.seq_log.specs.Sequenced.{Sequenced, IsFor}
use Rattle.world_play.specs.Parts.{IsMediator, HasAll, GoesOn}
use Rattle.world_play.proofs.Sends.{stays, goes_further, still_for}

-- what stands in a beginning of a list
pub in_beginning : {X : Type 0} (k n : ℕ) (xs : List X) (x : X) → slice_get (take n xs) k ≡ Some x → k < n → slice_get xs k ≡ Some x
in_beginning k zero xs x e lt = absurd (omega (arith, lt))
in_beginning k (suc n) [] x e lt = e
in_beginning zero (suc n) (y ∷ xs) x e lt = e
in_beginning (suc k) (suc n) (y ∷ xs) x e lt = in_beginning k n xs x e (omega (arith, lt))

module _ (first : KeptMediator) (log : Sequenced) where
  pub record IsMediatorReader (mediator : KeptMediator) : Type 0 where
    pub params : mediator.params ≡ first.params
    pub reads : (m : Machine) (state : MediatorState) (n : ℕ) → IsMediator m state n first log
        → (after : MediatorState) × (k : ℕ) × IsMediator m after k mediator log × (after.given ≡ state.given)

  pub reader_starts : IsMediatorReader first
  reader_starts = record { params = refl; reads = λ m state n i. (state, n, i, refl) }

  pub place_is : (mediator : KeptMediator) (list : List Entry) → mediator.cursor < length log.list → list ≡ take (mediator.cursor + 1) log.list
      → length list ≡ mediator.cursor + 1
  place_is mediator list lt is = ap length is ∙ length_take (mediator.cursor + 1) log.list (omega (arith, lt))

  module _ (mediator : KeptMediator) (r : IsMediatorReader mediator) (list : List Entry) (lt : mediator.cursor < length log.list)
      (is : list ≡ take (mediator.cursor + 1) log.list) (e : Entry)
      (at : (k : ℕ) → length list ≡ k + 1 → slice_get list k ≡ Some e)
      (after : KeptMediator) (same : after.params ≡ mediator.params)
      (step : (state : MediatorState) → Keeps mediator state → Keeps after (read_by_mediator mediator.params state e)) where
    there : slice_get log.list mediator.cursor ≡ Some e
    there =
        in_beginning mediator.cursor (mediator.cursor + 1) log.list e
        (ap (λ (xs : List Entry). slice_get xs mediator.cursor) (sym is) ∙ at mediator.cursor (place_is mediator list lt is)) (omega arith)

    pub reader_on : IsMediatorReader after
    reader_on =
        record {
          params = same ∙ r.params;
          reads = λ m state n i.
              let w = r.reads m state n i in
              let now = w.2 in
              let cursor : mediator.cursor ≡ w.1 = (now.keeps).cursor ∙ ((now.has).cursor ∙ length_take w.1 log.list now.within) in
              let here : slice_get log.list w.1 ≡ Some e = ap (slice_get log.list) (sym cursor) ∙ there in (
                read_by_mediator m.params w.0 e,
                suc w.1,
                record {
                  is_for = now.is_for;
                  behind = now.behind;
                  params = same ∙ now.params;
                  keeps = subst (λ (q : _). Keeps after (read_by_mediator q w.0 e)) now.params (step w.0 now.keeps);
                  within = let c = cursor in omega (arith, lt, c);
                  has =
                      subst (λ (xs : List Entry). MediatorHas m xs (read_by_mediator m.params w.0 e)) (sym (take_next w.1 log.list e here))
                      (mediator_has_read m (take w.1 log.list) w.0 e now.has);
                },
                w.3,
              );
        }

  pub reader_ends : (mediator : KeptMediator) → IsMediatorReader mediator → length log.list ≤ mediator.cursor
      → (m : Machine) (state : MediatorState) (n : ℕ) → IsMediator m state n first log
      → (after : MediatorState) × IsMediator m after (length log.list) mediator log × (after.given ≡ state.given)
  reader_ends mediator r le m state n i =
      let w = r.reads m state n i in
      let now = w.2 in
      let cursor : mediator.cursor ≡ w.1 = (now.keeps).cursor ∙ ((now.has).cursor ∙ length_take w.1 log.list now.within) in
      let within = now.within in
      let all : w.1 ≡ length log.list = omega arith in
      (w.0, subst (λ (k : ℕ). IsMediator m w.0 k mediator log) all now, w.3)

-- how many verdicts are due
abbrev pub one_if : Bool → Progress → ℕ
one_if true progress = 0
one_if false (Settled decision) = 1
one_if false (Waiting missing) = 0

abbrev pub due_count : List KeptCase → ℕ
due_count [] = 0
due_count (c ∷ rest) = one_if c.is_given c.progress + due_count rest

one_is : (b : Bool) (c : Case) → one_if b c.progress ≡ length (verdict_message (verdict_unless b c))
one_is true c = refl
one_is false c = by_progress c.progress
  where
    by_progress : (p : Progress) → one_if false p ≡ length (verdict_message (verdict_by c.place (decision_of p)))
    by_progress (Settled decision) = refl
    by_progress (Waiting missing) = refl

count_step : (b : Bool) (given : List ℕ) (c : Case) (kept : List KeptCase) (messages : List Message) → due_count kept ≡ length messages
    → due_count (if b then kept else kept_case given c ∷ kept)
    ≡ length (verdict_message (verdict_unless (b || has_place given c.place) c) ++ messages)
count_step true given c kept messages h = h
count_step false given c kept messages h =
    let one = one_is (has_place given c.place) c in
    let more = length-append (verdict_message (verdict_unless (has_place given c.place) c)) messages in omega arith

pub count_is : (given : List ℕ) (cases : List Case) → due_count (kept_cases given cases) ≡ length (verdict_messages given cases)
count_is given [] = refl
count_is given (c ∷ rest) = count_step c.is_answered given c (kept_cases given rest) (verdict_messages given rest) (count_is given rest)

module _ (first : KeptMediator) (began : Sequenced) where
  pub record IsGiver (mediator : KeptMediator) (s : Sequenced) : Type 0 where
    pub on : GoesOn began s
    pub params : mediator.params ≡ first.params
    pub gives : (m : Machine) (state : MediatorState) (n now : ℕ) → IsMediator m state n first began
        → (after : MediatorState) × IsMediator m after n mediator s
        × (append_each m now s.list (verdict_messages after.given after.cases) ≡ append_each m now began.list (verdict_messages state.given state.cases))

  pub giver_starts : IsGiver first began
  giver_starts = record { on = stays began; params = refl; gives = λ m state n now i. (state, i, refl) }

  module _ (mediator : KeptMediator) (s : Sequenced) (r : IsGiver mediator s) (taker : KeptMediator) (v : Verdict)
      (next : (state : MediatorState) → Keeps mediator state → Some v ≡ next_verdict state)
      (step : (state : MediatorState) → Keeps mediator state → Keeps taker (with_verdict_taken state (Some v)))
      (same : taker.params ≡ mediator.params) where
    module _ (m : Machine) (state : MediatorState) (n : ℕ) (i : IsMediator m state n mediator s) where
      took : IsDecision m.params (take n s.list) v × MediatorHas m (take n s.list) (take_verdict state v.request)
      took =
          mediator_has_taken m (take n s.list) state v (genuine_take m.reading m.params s.list n (i.behind).genuine) i.has (sym (next state i.keeps))

      pub taken_is : IsMediator m (take_verdict state v.request) n taker s
      taken_is =
          record {
            is_for = i.is_for;
            behind = i.behind;
            params = same ∙ i.params;
            keeps = step state i.keeps;
            within = i.within;
            has = took.1;
          }

      pub may : MayStand m s.list (VerdictMessage v)
      may =
          subst (λ (xs : List Entry). IsDecision m.params xs v) (take-append-drop n s.list)
          (scan_grown m.params (take n s.list) (drop n s.list) v.request v.decision took.0)

      pub messages : verdict_messages state.given state.cases ≡ VerdictMessage v ∷ verdict_messages (v.request ∷ state.given) state.cases
      messages =
          let rise = cases_rise m.params (take n s.list) in
          subst
          (λ (cs : List Case). first_verdict state.given cs ≡ Some v
          → verdict_messages state.given cs ≡ VerdictMessage v ∷ verdict_messages (v.request ∷ state.given) cs)
          (sym (i.has).cases) (λ e. verdict_first state.given v 0 (cases_of m.params (take n s.list)) rise.0 rise.1 e) (sym (next state i.keeps))

    pub after_taking : (m : Machine) (state : MediatorState) (n : ℕ) → IsMediator m state n first began
        → (after : MediatorState) × IsMediator m after n taker s
    after_taking m state n i =
        let w = r.gives m state n 0 i in (take_verdict w.0 v.request, taken_is m w.0 n w.1)

    pub giver_less : (m : Machine) (state : MediatorState) (n : ℕ) → IsMediator m state n first began → due_count taker.cases < due_count mediator.cases
    giver_less m state n i =
        let w = r.gives m state n 0 i in
        let before = ap due_count ((w.1).keeps).cases ∙ count_is (w.0).given (w.0).cases in
        let after = ap due_count (step w.0 (w.1).keeps).cases ∙ count_is (v.request ∷ (w.0).given) (w.0).cases in
        let one : length (verdict_messages (w.0).given (w.0).cases) ≡ suc (length (verdict_messages (v.request ∷ (w.0).given) (w.0).cases)) =
        ap length (messages m w.0 n w.1) in
        omega arith

    module _ (after : Sequenced) (on : GoesOn s after)
        (in_log : (m : Machine) (now : ℕ) → IsFor m s → after.list ≡ sequenced m now s.list (VerdictMessage v))
        (behind : (m : Machine) → IsFor m s → SequencerBehind m s.list → MayStand m s.list (VerdictMessage v) → SequencerBehind m after.list) where
      grown : (m : Machine) (state : MediatorState) (n : ℕ) → IsMediator m state n mediator s → IsMediator m (take_verdict state v.request) n taker after
      grown m state n i =
          let t = taken_is m state n i in
          record {
            is_for = still_for m s after on i.is_for;
            behind = behind m i.is_for i.behind (may m state n i);
            params = t.params;
            keeps = t.keeps;
            within = let long = length-append s.list on.more in let all = ap length on.is_more in let le = i.within in omega arith;
            has =
                subst (λ (xs : List Entry). MediatorHas m xs (take_verdict state v.request))
                (sym (ap (take n) on.is_more ∙ take_grown s.list on.more n i.within)) t.has;
          }

      pub giver_on : IsGiver taker after
      giver_on =
          record {
            on = goes_further began s after r.on on;
            params = same ∙ r.params;
            gives = λ m state n now i.
                let w = r.gives m state n now i in (
                  take_verdict w.0 v.request,
                  grown m w.0 n w.1,
                  ap (λ (xs : List Entry). append_each m now xs (verdict_messages (v.request ∷ (w.0).given) (w.0).cases)) (in_log m now (w.1).is_for)
                      ∙ (sym (ap (append_each m now s.list) (messages m w.0 n w.1)) ∙ w.2),
                );
          }

  pub giver_ends : (mediator : KeptMediator) (s : Sequenced) → IsGiver mediator s → ((state : MediatorState) → Keeps mediator state → None ≡ next_verdict state)
      → (m : Machine) (state : MediatorState) (n now : ℕ) → IsMediator m state n first began
      → s.list ≡ append_each m now began.list (verdict_messages state.given state.cases)
  giver_ends mediator s r none m state n now i =
      let w = r.gives m state n now i in
      sym (ap (append_each m now s.list) (verdict_none (w.0).given (w.0).cases (sym (none w.0 (w.1).keeps)))) ∙ w.2

-- the whole turn
pub all_read : (m : Machine) (state : MediatorState) (mediator : KeptMediator) (s : Sequenced) → IsMediator m state (length s.list) mediator s → HasAll m state mediator s.list
all_read m state mediator s i =
    record {
      params = i.params;
      keeps = i.keeps;
      has = subst (λ (xs : List Entry). MediatorHas m xs state) (take_all (length s.list) s.list (le_refl (length s.list))) i.has;
    }

pub all_read_before : (m : Machine) (state : MediatorState) (mediator : KeptMediator) (before s : Sequenced) → GoesOn before s
    → IsMediator m state (length before.list) mediator s → HasAll m state mediator before.list
all_read_before m state mediator before s on i =
    record {
      params = i.params;
      keeps = i.keeps;
      has =
          subst (λ (xs : List Entry). MediatorHas m xs state)
          (ap (take (length before.list)) on.is_more
          ∙ (take_grown before.list on.more (length before.list) (le_refl (length before.list))
          ∙ take_all (length before.list) before.list (le_refl (length before.list)))) i.has;
    }

pub verdicts_are : (m : Machine) (after : MediatorState) (given : List ℕ) (mediator : KeptMediator) (s : Sequenced) → IsMediator m after (length s.list) mediator s
    → after.given ≡ given → verdict_messages after.given after.cases ≡ verdict_messages given (cases_of m.params s.list)
verdicts_are m after given mediator s i same =
    ap (λ (g : List ℕ). verdict_messages g after.cases) same
    ∙ ap (verdict_messages given) ((i.has).cases ∙ ap (cases_of m.params) (take_all (length s.list) s.list (le_refl (length s.list))))

-- another value that keeps the same
pub same_mediator : (m : Machine) (state : MediatorState) (n : ℕ) (mediator after : KeptMediator) (s : Sequenced) → IsMediator m state n mediator s
    → after.params ≡ mediator.params → Keeps after state → IsMediator m state n after s
same_mediator m state n mediator after s i same keeps =
    record { is_for = i.is_for; behind = i.behind; params = same ∙ i.params; keeps = keeps; within = i.within; has = i.has }
