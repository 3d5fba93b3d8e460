-- What one submission was answered, as its client knows it.
use Rattle.std.proofs.Common.{◌≡◌, ◌≢◌, ℕ, List, [], ◌∷◌, ◌++◌, Option, Some, Result, Ok, Err, refl, sym, subst}
use Rattle.std.specs.Prelude.{IfOk, IfSome}
use Rattle.std.specs.declared.alloc.AllocError.{AllocError}
use mathlib.Core.List.{IsPrefix}
use Rattle.ledger_terms.specs.declared.submission.Submission.{Submission}
use Rattle.ledger_model.specs.Terms.{ParticipantId}
use Rattle.node_core.specs.declared.submit_result.SubmitResult.{SubmitResult}
use Rattle.node_core.specs.declared.submit_result.SubmitResult.TheVariants.{Sent, Refused}
use Rattle.prepare_request.specs.declared.submit_fault.SubmitFault.{SubmitFault}
use Rattle.prepare_request.specs.declared.submit_fault.SubmitFault.TheVariants as fault
use Rattle.threads_model.specs.Clients.{ClientAnswers, ClientStep}
use Rattle.threads_model.proofs.Begins.{begins_itself}
use Rattle.threads_model.proofs.Chains.{answers_longer, answers_more}
use Rattle.world_model.specs.Messages.{Entry}
use Rattle.world_model.specs.Machine.{Machine}
use Rattle.world_model.specs.Rounds as r
use Rattle.world_play.specs.Results.{result_of}
use Rattle.sync_shared.specs.Answers.{fault_of, refused_at}

-- what isn't want of memory is the same refusal in both words
pub refusal_is : (why : SubmitFault) (n : ℕ) → why ≢ fault.Memory → refused_at n (fault_of why) ≡ Some (result_of (Refused why n))
refusal_is fault.Paused n some = refl
refusal_is (fault.NotHosted party) n some = refl
refusal_is (fault.Command why) n some = refl
refusal_is (fault.Split why) n some = refl
refusal_is (fault.Duplicate place) n some = refl
refusal_is (fault.LogFull reserved need) n some = refl
refusal_is fault.Memory n some = absurd (some refl)

module _ (m : Machine) (why : r.Why SubmitFault) (now : ℕ) (paused : List ParticipantId) (what : Submission) where
  -- a request was sent, and its client has seen more since
  pub after_sent : (seen next last : List Entry) (place n : ℕ) (answer : SubmitResult) → ClientStep m why now paused seen what (r.Sent place n) next
      → IsPrefix next last → answer ≡ Sent place n → ClientAnswers m why now paused seen ((what, result_of answer) ∷ []) last
  after_sent seen next last place n answer step more is =
      subst (λ (x : SubmitResult). ClientAnswers m why now paused seen ((what, result_of x) ∷ []) last) (sym is) (next, step, more)

  -- nothing was sent
  pub after_refused : (seen next : List Entry) (o : _) (answer : SubmitResult)
      → IfSome o (λ (x : r.SubmitResult SubmitFault). ClientStep m why now paused seen what x next) → o ≡ Some (result_of answer)
      → ClientAnswers m why now paused seen ((what, result_of answer) ∷ []) next
  after_refused seen next o answer step is =
      let told : ClientStep m why now paused seen what (result_of answer) next =
      subst (λ (p : _). IfSome p (λ (x : r.SubmitResult SubmitFault). ClientStep m why now paused seen what x next)) is step in
      (next, told, begins_itself next)

  -- the same of what its client tells, where there was memory
  pub refused_answers : (seen next : List Entry) (o : Option (r.SubmitResult SubmitFault)) (told : Result SubmitResult AllocError)
      → IfSome o (λ (x : r.SubmitResult SubmitFault). ClientStep m why now paused seen what x next)
      → IfOk told (λ (answer : SubmitResult). o ≡ Some (result_of answer))
      → IfOk told (λ (answer : SubmitResult). ClientAnswers m why now paused seen ((what, result_of answer) ∷ []) next)
  refused_answers seen next o (Ok answer) step is = after_refused seen next o answer step is
  refused_answers seen next o (Err lack) step is = tt

  -- one more answer
  pub answers_on : (seen : List Entry) (own : r.Results SubmitFault) (last next : List Entry) (x : r.SubmitResult SubmitFault)
      → ClientAnswers m why now paused seen own last → ClientAnswers m why now paused last ((what, x) ∷ []) next
      → ClientAnswers m why now paused seen (own ++ (what, x) ∷ []) next
  answers_on seen own last next x h more =
      answers_longer m why now paused seen (own ++ (what, x) ∷ []) more.0 next more.2
      (answers_more m why now paused seen own last what x more.0 h more.1)
