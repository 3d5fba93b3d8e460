-- A client submits one after another of its own.
use Rattle.std.proofs.Common.{◌≡◌, ℕ, ◌+◌, true, false, List, [], ◌∷◌, ◌++◌, length, refl, sym, ap, ◌∙◌, subst, arith}
use Rattle.std.specs.Prelude.{All, nat_eq}
use Rattle.std.proofs.lemmas.Bool.{eq-eqb}
use Rattle.std.proofs.lemmas.List.{length-append, append-nil}
use Rattle.std.proofs.lemmas.List.Elements.{All-append}
use Rattle.ledger_terms.specs.declared.submission.Submission.{Submission}
use Rattle.ledger_model.specs.Terms.{ParticipantId}
use Rattle.ledger_model.proofs.Lists.{filter_append}
use Rattle.node_core.specs.declared.submit_result.SubmitResult.{SubmitResult}
use Rattle.prepare_request.specs.declared.submit_fault.SubmitFault.{SubmitFault}
use Rattle.threads_model.specs.Inputs.{is_by, is_sent, one_if, submissions_of, tickets}
use Rattle.threads_model.specs.Clients.{ClientAnswers}
use Rattle.threads_model.proofs.Begins.{begins_itself}
use Rattle.world_model.specs.Messages.{Entry}
use Rattle.world_model.specs.Machine.{Machine}
use Rattle.world_model.specs.Rounds as r
use Rattle.world_play.specs.Results.{IsPlainResult, result_of, results_of}
use Rattle.sync_shared.specs.Clients.{Seen}
use Rattle.client_threads.specs.Served.{IsServed}
use Rattle.client_threads.proofs.OneAnswer.{answers_on}

tickets_more : (xs ys : r.Results SubmitFault) → tickets (xs ++ ys) ≡ tickets xs + tickets ys
tickets_more [] ys = omega arith
tickets_more (x ∷ xs) ys = let more = tickets_more xs ys in omega arith

pub results_more : (submits : List Submission) (results : List SubmitResult) (what : Submission) (answer : SubmitResult) → length results ≡ length submits
    → results_of (submits ++ what ∷ []) (results ++ answer ∷ []) ≡ results_of submits results ++ (what, result_of answer) ∷ []
results_more [] [] what answer e = refl
results_more [] (y ∷ results) what answer e = absurd (omega (arith, e))
results_more (w ∷ submits) [] what answer e = absurd (omega (arith, e))
results_more (w ∷ submits) (y ∷ results) what answer e =
    ap (λ (zs : r.Results SubmitFault). (w, result_of y) ∷ zs) (results_more submits results what answer (omega (arith, e)))

pub own_more : (p : ParticipantId) (submits : List Submission) (what : Submission) → nat_eq what.participant p ≡ true
    → submissions_of p (submits ++ what ∷ []) ≡ submissions_of p submits ++ what ∷ []
own_more p submits what own =
    let one : submissions_of p (what ∷ []) ≡ what ∷ [] = rw own refl in
    filter_append (is_by p) submits (what ∷ []) ∙ ap (λ (ys : List Submission). submissions_of p submits ++ ys) one

pub own_same : (p : ParticipantId) (submits : List Submission) (what : Submission) → nat_eq what.participant p ≡ false
    → submissions_of p (submits ++ what ∷ []) ≡ submissions_of p submits
own_same p submits what other =
    let none : submissions_of p (what ∷ []) ≡ [] = rw other refl in
    filter_append (is_by p) submits (what ∷ [])
    ∙ (ap (λ (ys : List Submission). submissions_of p submits ++ ys) none ∙ append-nil (submissions_of p submits))

module _ (m : Machine) (why : r.Why SubmitFault) (now : ℕ) (paused : List ParticipantId) where
  pub nothing_served : (p : ParticipantId) (client : Seen) → client.me ≡ p → client.tickets ≡ 0
      → IsServed m why now paused client.list [] p client []
  nothing_served p client mine none =
      record {
        mine = mine;
        many = refl;
        plain = λ k d lt. absurd (omega (arith, lt));
        answers = begins_itself client.list;
        counted = none;
      }

  module _ (first : List Entry) (submits : List Submission) (p : ParticipantId) (before : Seen) (old : List SubmitResult)
      (served : IsServed m why now paused first submits p before old) (what : Submission) where
    pub served_more : (after : Seen) (new : List SubmitResult) (answer : SubmitResult) → what.participant ≡ before.me → after.me ≡ before.me
        → IsPlainResult answer → ClientAnswers m why now paused before.list ((what, result_of answer) ∷ []) after.list
        → after.tickets ≡ before.tickets + one_if (is_sent (result_of answer)) → new ≡ old ++ answer ∷ []
        → IsServed m why now paused first (submits ++ what ∷ []) p after new
    served_more after new answer own same plain answers tickets_now is =
        let by : nat_eq what.participant p ≡ true = eq-eqb what.participant p (own ∙ served.mine) in
        let mine = own_more p submits what by in
        let grown : results_of (submissions_of p (submits ++ what ∷ [])) new ≡ results_of (submissions_of p submits) old ++ (what, result_of answer) ∷ [] =
        ap (λ (ws : List Submission). results_of ws new) mine
        ∙ (ap (λ (rs : List SubmitResult). results_of (submissions_of p submits ++ what ∷ []) rs) is
        ∙ results_more (submissions_of p submits) old what answer served.many) in
        let one : List SubmitResult = answer ∷ [] in
        record {
          mine = same ∙ served.mine;
          many =
              let a = ap length is in
              let b = length-append old one in
              let c = ap length mine in
              let d = length-append (submissions_of p submits) (what ∷ []) in
              let e : length one ≡ 1 = refl in
              let f : length (what ∷ []) ≡ 1 = refl in
              let g = served.many in omega arith;
          plain = subst (All IsPlainResult) (sym is)
              (All-append IsPlainResult old one served.plain (λ k d lt. let zero_is : k ≡ 0 = omega (arith, lt) in rw zero_is plain));
          answers =
              subst (λ (rs : r.Results SubmitFault). ClientAnswers m why now paused first rs after.list) (sym grown)
              (answers_on m why now paused what first (results_of (submissions_of p submits) old) before.list after.list (result_of answer)
              served.answers answers);
          counted =
              let a = ap tickets grown in
              let b = tickets_more (results_of (submissions_of p submits) old) ((what, result_of answer) ∷ []) in
              let c : tickets ((what, result_of answer) ∷ []) ≡ one_if (is_sent (result_of answer)) + 0 = refl in
              let d = served.counted in omega arith;
        }

    pub served_same : nat_eq what.participant before.me ≡ false → IsServed m why now paused first (submits ++ what ∷ []) p before old
    served_same other =
        let off : nat_eq what.participant p ≡ false = subst (λ (k : ℕ). nat_eq what.participant k ≡ false) served.mine other in
        let same = own_same p submits what off in
        record {
          mine = served.mine;
          many = served.many ∙ ap length (sym same);
          plain = served.plain;
          answers =
              subst (λ (ws : List Submission). ClientAnswers m why now paused first (results_of ws old) before.list) (sym same) served.answers;
          counted = served.counted ∙ ap (λ (ws : List Submission). tickets (results_of ws old)) (sym same);
        }
