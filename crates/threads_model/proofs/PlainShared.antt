-- A round of one thread is a round of clients without lanes.
use Rattle.std.proofs.Common.{◌≡◌, ◌⊎◌, ℕ, ◌+◌, false, List, [], ◌∷◌, length, Option, Some, None, refl, sym, ap, ◌∙◌, subst, inl, inr, arith}
use Rattle.std.proofs.lemmas.Bool.{cases_Bool}
use mathlib.Core.List.{IsPrefix}
use Rattle.ledger_terms.specs.declared.submission.Submission.{Submission}
use Rattle.ledger_model.specs.Terms.{ParticipantId}
use Rattle.world_model.specs.Messages.{Entry, RequestMessage, Request}
use Rattle.canton_model.specs.Inbox.{inbox}
use Rattle.world_model.specs.Machine.{Machine, IsMachine}
use Rattle.world_model.specs.Places.{has_place}
use Rattle.world_model.specs.Sequencing.{AppendFault, Already, Unframed, LogFull as Full, TooLate, append_fault}
use Rattle.world_model.specs.Rounds.{Round, Unwanted, SubmitResult, Refused, Results, Why, RoundAnswers, read_at, wanted_at, begun}
use Rattle.world_model.specs.Plain.{HandedIn, AnswersWanted, IsPausedAnswer, IsAwakeAnswer, Submitted, PlainPart, PlainRounds}
use Rattle.world_model.proofs.BegunFacts.{Good, begun_good}
use Rattle.world_model.proofs.RoundFacts.{submitted_longer}
use Rattle.world_model.proofs.Appended.{appended_keeps, appended_within}
use Rattle.world_model.proofs.Grown.{request_within}
use Rattle.threads_model.specs.Inputs.{inputs, one_if, is_sent, tickets, is_by, results_of}
use Rattle.threads_model.specs.Clients.{ClientStep}
use Rattle.threads_model.specs.Shared.{ClientHas, SharedPart, SharedRounds}
use Rattle.threads_model.proofs.Begins.{begins_itself, take_whole}
use Rattle.threads_model.proofs.Submits.{unwanted_step, sent_step, already_step, full_step, request_already, inputs_requested}
use Rattle.threads_model.proofs.RunShared.{part_good}

-- over the whole log
plain_wanted : (m : Machine) (now : ℕ) (log : List Entry) (what : Submission) (o : Option Request) → wanted_at m now log what (length log) ≡ o
    → m.prepare what (inbox m.reading what.participant log) now ≡ o
plain_wanted m now log what o w = sym (ap (λ (xs : List Entry). m.prepare what (inbox m.reading what.participant xs) now) (take_whole log)) ∙ w

module _ {F : Type 0} (m : Machine) (why : Why F) (now : ℕ) (round : Round) where
  plain_why : (log : List Entry) (what : Submission) (n : ℕ)
      → Refused (Unwanted (why what (read_at m log what (length log)) now)) n ≡ Refused (Unwanted (why what (inbox m.reading what.participant log) now)) n
  plain_why log what n = ap (λ (xs : List Entry). Refused (Unwanted (why what (inbox m.reading what.participant xs) now)) n) (take_whole log)

  -- one answer, to a client that had seen some of the log
  module _ (log : List Entry) (what : Submission) (seen : List Entry) (p : IsPrefix seen log) where
    abbrev Step : SubmitResult F → List Entry → Type 0
    Step result after = ClientStep m why now round.paused seen what result after

    so : (result is : SubmitResult F) (next after : List Entry) → result ≡ is → next ≡ after → Step is after → Step result next
    so result is next after e f s = subst (λ (r : SubmitResult F). Step r next) (sym e) (subst (Step is) (sym f) s)

    module _ (awake : has_place round.paused what.participant ≡ false) where
      step_handed : (q : Request) → wanted_at m now log what (length log) ≡ Some q → (o : Option AppendFault)
          → append_fault m log (RequestMessage q) ≡ o → (result : SubmitResult F) (next : List Entry) → HandedIn now log q o result next → Step result next
      step_handed q w None e result next h =
          so result _ next _ h.0 h.1
          (sent_step m why now round.paused seen log log p (begins_itself log) what awake q (plain_wanted m now log what (Some q) w))
      step_handed q w (Some (Already place)) e result next h =
          let r = request_already m log q place e in
          so result _ next _ h.0 h.1
          (already_step m why now round.paused seen log log p (begins_itself log) what awake q
          (plain_wanted m now log what (Some q) w) place log e (begins_itself log) (begins_itself log) (request_within log place r.0 r.1))
      step_handed q w (Some Unframed) e result next h = absurd h
      step_handed q w (Some (Full amount need)) e result next h =
          so result _ next _ h.0 h.1
          (full_step m why now round.paused seen log log p (begins_itself log) what awake q (plain_wanted m now log what (Some q) w) amount need e)
      step_handed q w (Some (TooLate decision time)) e result next h = absurd h

      step_wanted : (o : Option Request) → wanted_at m now log what (length log) ≡ o → (result : SubmitResult F) (next : List Entry)
          → AnswersWanted m (why what (read_at m log what (length log)) now) now log o result next → Step result next
      step_wanted None w result next h =
          so result _ next _ (h.0 ∙ plain_why log what (length log)) h.1
          (unwanted_step m why now round.paused seen log log p (begins_itself log) what awake (plain_wanted m now log what None w))
      step_wanted (Some q) w result next h = step_handed q w (append_fault m log (RequestMessage q)) refl result next h

    plain_step : (result : SubmitResult F) (next : List Entry)
        → IsPausedAnswer round log what result next ⊎ IsAwakeAnswer m why now round log what result next → Step result next
    plain_step result next (inl a) =
        let same : next ≡ log = a.4 in
        subst (Step result) (sym same) (p, inl (a.0, a.1, a.2, a.3))
    plain_step result next (inr a) = step_wanted a.0 (wanted_at m now log what (length log)) refl result next a.1

  -- one after another: what each participant's client sees
  plain_client : (log : List Entry) (answers : Results F) (after : List Entry) → Submitted m why now round log answers after
      → (p : ParticipantId) (seen : List Entry) → IsPrefix seen log → ClientHas m why now round.paused seen after (results_of p answers)
  plain_client log [] after h p seen begins =
      let whole : IsPrefix seen after = subst (IsPrefix seen) (sym h) begins in
      record { last = after; begins = begins_itself after; answers = whole }
  plain_client log (x ∷ rest) after h p seen begins =
      let step = plain_step log x.0 seen begins x.1 h.0 h.1 in
      elim (cases_Bool (is_by p x.0)) [
        | inl b ↦
            let r = plain_client h.0 rest after h.2 p h.0 (begins_itself h.0) in
            rw b (record { last = r.last; begins = r.begins; answers = (h.0, step, r.answers) })
        | inr b ↦ rw b (plain_client h.0 rest after h.2 p seen step.0)
      ]

  -- each Sent result adds one input
  add_handed : (q : Request) (o : Option AppendFault) (log : List Entry) (result : SubmitResult F) (next : List Entry)
      → HandedIn now log q o result next → inputs next ≡ inputs log + one_if (is_sent result)
  add_handed q None log result next h =
      let one = inputs_requested now log q in
      let same = ap inputs h.1 in
      let is : one_if (is_sent result) ≡ 1 = ap (λ (r : SubmitResult F). one_if (is_sent r)) h.0 in omega arith
  add_handed q (Some (Already place)) log result next h =
      let same = ap inputs h.1 in
      let is : one_if (is_sent result) ≡ 0 = ap (λ (r : SubmitResult F). one_if (is_sent r)) h.0 in omega arith
  add_handed q (Some Unframed) log result next h = absurd h
  add_handed q (Some (Full amount need)) log result next h =
      let same = ap inputs h.1 in
      let is : one_if (is_sent result) ≡ 0 = ap (λ (r : SubmitResult F). one_if (is_sent r)) h.0 in omega arith
  add_handed q (Some (TooLate decision time)) log result next h = absurd h

  add_wanted : (fault : F) (log : List Entry) (o : Option Request) (result : SubmitResult F) (next : List Entry)
      → AnswersWanted m fault now log o result next → inputs next ≡ inputs log + one_if (is_sent result)
  add_wanted fault log None result next h =
      let same = ap inputs h.1 in
      let is : one_if (is_sent result) ≡ 0 = ap (λ (r : SubmitResult F). one_if (is_sent r)) h.0 in omega arith
  add_wanted fault log (Some q) result next h = add_handed q (append_fault m log (RequestMessage q)) log result next h

  add_step : (log : List Entry) (what : Submission) (result : SubmitResult F) (next : List Entry)
      → IsPausedAnswer round log what result next ⊎ IsAwakeAnswer m why now round log what result next → inputs next ≡ inputs log + one_if (is_sent result)
  add_step log what result next (inl a) =
      let same = ap inputs a.4 in
      let is : one_if (is_sent result) ≡ 0 = ap (λ (r : SubmitResult F). one_if (is_sent r)) a.3 in omega arith
  add_step log what result next (inr a) =
      add_wanted (why what (read_at m log what (length log)) now) log (wanted_at m now log what (length log)) result next a.1

  plain_count : (log : List Entry) (answers : Results F) (after : List Entry) → Submitted m why now round log answers after
      → inputs after ≡ inputs log + tickets answers
  plain_count log [] after h = let same = ap inputs h in omega arith
  plain_count log (x ∷ rest) after h =
      let one = add_step log x.0 x.1 h.0 h.1 in
      let more = plain_count h.0 rest after h.2 in omega arith

  module _ (machine : IsMachine m) where
    good_handed : (log : List Entry) (q : Request) (f : Option AppendFault) → append_fault m log (RequestMessage q) ≡ f
        → (result : SubmitResult F) (next : List Entry) → HandedIn now log q f result next → Good m log → Good m next
    good_handed log q None e result next h g =
        subst (Good m) (sym h.1) (appended_keeps m now log (RequestMessage q) g.0 tt e, appended_within m now log (RequestMessage q) g.1 e)
    good_handed log q (Some (Already place)) e result next h g = subst (Good m) (sym h.1) g
    good_handed log q (Some Unframed) e result next h g = absurd h
    good_handed log q (Some (Full amount need)) e result next h g = subst (Good m) (sym h.1) g
    good_handed log q (Some (TooLate decision time)) e result next h g = absurd h

    good_wanted : (log : List Entry) (fault : F) (o : Option Request) (result : SubmitResult F) (next : List Entry)
        → AnswersWanted m fault now log o result next → Good m log → Good m next
    good_wanted log fault None result next h g = subst (Good m) (sym h.1) g
    good_wanted log fault (Some q) result next h g = good_handed log q (append_fault m log (RequestMessage q)) refl result next h g

    plain_good : (log : List Entry) (answers : Results F) (after : List Entry) → Submitted m why now round log answers after → Good m log → Good m after
    plain_good log [] after h g = subst (Good m) (sym h) g
    plain_good log (x ∷ rest) after h g =
        plain_good h.0 rest after h.2 (elim h.1 [
          | inl p ↦ subst (Good m) (sym p.4) g
          | inr a ↦ good_wanted log (why x.0 (read_at m log x.0 (length log)) now) (wanted_at m now log x.0 (length log)) x.1 h.0 a.1 g
        ])

    pub plain_is_shared : (results : Results F) (before after : List Entry) → Good m before → PlainPart m why now round results before after
        → SharedPart m why now round results before after
    plain_is_shared results before after g h =
        let first = begun m now round before in
        let good = plain_good first results h.0 h.1 (begun_good m now round before g) in
        let l = submitted_longer m why now round [] [] 0 first results h.0 h.1 in (
          h.0,
          record {
            genuine = good.0;
            within_capacity = good.1;
            begins = (l.0, sym l.1);
            clients = λ p. plain_client first results h.0 h.1 p first (begins_itself first);
            count = plain_count first results h.0 h.1;
          },
          h.2,
        )

pub plain_rounds_are_shared : {F : Type 0} (m : Machine) (why : Why F) (machine : IsMachine m) (now : ℕ) (before : List Entry)
    (rounds : List (RoundAnswers F)) (after : List Entry) → Good m before → PlainRounds m why now before rounds after
    → SharedRounds m why now before rounds after
plain_rounds_are_shared m why machine now before [] after g h = h
plain_rounds_are_shared m why machine now before (x ∷ rest) after g h =
    let now' = now + x.round.advance in
    let part = plain_is_shared m why now' x.round machine x.results before h.0 g h.2 in
    let good = part_good m why now' x.round x.results before h.0 machine.is_reading part in
    (h.0, h.1, part, h.3, plain_rounds_are_shared m why machine now' h.0 rest after good h.4)
