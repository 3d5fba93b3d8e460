-- The requests of Sent results.
use Rattle.std.proofs.Common.{◌≡◌, ℕ, ◌+◌, ◌≤◌, List, [], ◌∷◌, ◌++◌, take, drop, length, Some, sym, ap, ◌∙◌, subst, inl, inr, arith}
use Rattle.std.proofs.Common.{take-append-drop}
use Rattle.ledger_terms.specs.declared.submission.Submission.{Submission}
use Rattle.ledger_model.proofs.Lists.{In}
use Rattle.canton_model.specs.Inbox.{inbox}
use Rattle.canton_model.specs.Log.{request_at}
use Rattle.world_model.specs.Messages.{Entry, Request}
use Rattle.world_model.specs.Machine.{Machine}
use Rattle.world_model.specs.Rounds.{Round, Results, Why, SubmitResult, Sent, SentHolds, RoundAnswers, AnswerHolds, ResultsHold, RoundsHold, RunHolds, wanted_at}
use Rattle.world_model.proofs.Grown.{request_grown, request_within, take_grown}

module _ {F : Type 0} (m : Machine) (why : Why F) where
  -- The request stands at the place, and is what the submission wanted over so many entries, all before it.
  pub record WasWanted (log : List Entry) (what : Submission) (place read_to : ℕ) : Type 0 where
    pub request : Request
    pub now : ℕ
    pub there : request_at log place ≡ Some request
    pub wanted : wanted_at m now log what read_to ≡ Some request
    pub read_before : read_to ≤ place

  in_round : (now : ℕ) (round : Round) (raws : List Request) (log : List Entry) (start end : ℕ) (earlier results : Results F) (what : Submission)
      (place n : ℕ) → ResultsHold m why now round raws log start end earlier results → In (what, Sent place n) results
      → SentHolds m now log end what place n
  in_round now round raws log start end earlier [] what place n h i = absurd i
  in_round now round raws log start end earlier (x ∷ rest) what place n h (inl e) =
      subst (λ (y : Submission × SubmitResult F). AnswerHolds m why now round raws log end earlier y.0 y.1) e (h.0).answer
  in_round now round raws log start end earlier (x ∷ rest) what place n h (inr i) =
      in_round now round raws log start end (earlier ++ x ∷ []) rest what place n h.1 i

  -- what is said over the log up to a place is said over the log
  over_more : (log more all : List Entry) → all ≡ log ++ more → (now end : ℕ) (what : Submission) (place n : ℕ)
      → SentHolds m now log end what place n → WasWanted all what place n
  over_more log more all is now end what place n a =
      let lt = request_within log place a.request a.there in
      let le = a.read_before in
      record {
        request = a.request;
        now = now;
        there = ap (λ (xs : List Entry). request_at xs place) is ∙ (request_grown log more place lt ∙ a.there);
        wanted =
            ap (λ (xs : List Entry). m.prepare what (inbox m.reading what.participant (take n xs)) now) is
            ∙ (ap (λ (xs : List Entry). m.prepare what (inbox m.reading what.participant xs) now) (take_grown log more n (omega (arith, lt, le)))
            ∙ a.wanted);
        read_before = le;
      }

  module _ (log : List Entry) where
    in_rounds : (now start : ℕ) (raws : List Request) (earlier : Results F) (rounds : List (RoundAnswers F))
        → RoundsHold m why now log start raws earlier rounds → (x : RoundAnswers F) → In x rounds → (what : Submission) (place n : ℕ)
        → In (what, Sent place n) x.results → WasWanted log what place n
    in_rounds now start raws earlier [] h x i what place n there = absurd i
    in_rounds now start raws earlier (y ∷ rest) h x (inl same) what place n there =
        let inside = subst (λ (z : RoundAnswers F). In (what, Sent place n) z.results) (sym same) there in
        let time = now + y.round.advance in
        over_more (take y.end log) (drop y.end log) log (sym (take-append-drop y.end log)) time (length (take y.end log)) what place n
        (in_round time y.round (raws ++ y.round.raws) (take y.end log) _ _ earlier y.results what place n (h.1).each inside)
    in_rounds now start raws earlier (y ∷ rest) h x (inr later) what place n there =
        in_rounds (now + y.round.advance) y.end (raws ++ y.round.raws) (earlier ++ y.results) rest h.2 x later what place n there

    pub was_wanted : (rounds : List (RoundAnswers F)) → RunHolds m why log rounds → (x : RoundAnswers F) → In x rounds → (what : Submission) (place n : ℕ)
        → In (what, Sent place n) x.results → WasWanted log what place n
    was_wanted rounds h = in_rounds 0 0 [] [] rounds h.cut
