-- An Exercise, from what its body gives.
use Rattle.std.proofs.Common.{◌≡◌, ℕ, Bool, true, List, [], Result, Ok, Err, refl, sym, ap, ◌∙◌}
use Rattle.ledger_terms.specs.Forest.{NoRoots}
use Rattle.ledger_terms.specs.Trees.{Actions}
use Rattle.ledger_model.specs.declared.step.ChoiceCall.{ChoiceCall}
use Rattle.lang_eval.specs.Found.{Packages}
use Rattle.lang_eval.specs.Parts.{PartyNames, is_consuming_call}
use Rattle.interpret.specs.declared.command_fault.CommandFault.{CommandFault}
use Rattle.interpret.specs.declared.progress.Progress.{Progress}
use Rattle.interpret.specs.Ids.{Hash}
use Rattle.interpret.specs.Tested.{are_authorised, authorisers, call_controllers}
use Rattle.interpret.specs.Act.{BodyRun, Runner, body_source, exercise_on, exercised_node, follow, most_children, with_consumed}

module _ (packages : Packages) (run : Runner) (progress : Progress) (path : List ℕ) (seed : Hash) (by : PartyNames) (salt : Hash) (call : ChoiceCall)
    (actors below : PartyNames) (authorised consuming : Bool) (consumed : Progress) (none : Actions)
    (controllers : Ok actors ≡ call_controllers packages call) (is : authorised ≡ are_authorised actors by) (may : authorised ≡ true)
    (consumes : consuming ≡ is_consuming_call packages call) (spends : consumed ≡ with_consumed consuming call.id progress)
    (authorises : below ≡ authorisers packages call.instance actors) (empty : none ≡ NoRoots) where
  abbrev Body : PartyNames → Progress → Actions → Result BodyRun CommandFault
  Body by progress children = follow most_children (body_source packages call path) run seed path by progress [] children 0

  same_body : Body below consumed none ≡ Body (authorisers packages call.instance actors) (with_consumed (is_consuming_call packages call) call.id progress) NoRoots
  same_body =
      ap (λ (by : PartyNames). Body by consumed none) authorises
      ∙ (ap (λ (p : Progress). Body (authorisers packages call.instance actors) p none) (spends ∙ ap (λ (b : Bool). with_consumed b call.id progress) consumes)
      ∙ ap (λ (f : Actions). Body (authorisers packages call.instance actors) (with_consumed (is_consuming_call packages call) call.id progress) f) empty)

  pub exercise_refused : (e : CommandFault) → Err e ≡ Body below consumed none → exercise_on packages run progress path seed by salt call ≡ Err e
  exercise_refused e h = let here = h ∙ same_body in rw (← controllers, ← is, may, ← here) refl

  pub exercise_done : (f : BodyRun) → Ok f ≡ Body below consumed none
      → exercise_on packages run progress path seed by salt call ≡ Ok (exercised_node seed salt call actors consuming f, f.progress)
  exercise_done f h =
      let here = h ∙ same_body in
      rw (← controllers, ← is, may, ← here) (ap (λ (b : Bool). Ok (exercised_node seed salt call actors b f, f.progress)) (sym consumes))
