use Rattle.std.proofs.Common.{◌∙◌, ◌++◌, List, ap}
use Rattle.node_core.specs.declared.submit_result.SubmitResult.{SubmitResult}
use Rattle.canton_run.specs.Answered.{round_of}
use Rattle.canton_run.specs.Run.{machine_for}
use Rattle.canton_run.proofs.Alone.{answered_alone, there_each}
use Rattle.canton_run.proofs.rounds.submit_alone.Goals as goal

pub submit_each-requires-clause-lawful : goal.submit_each-requires-clause-lawful
submit_each-requires-clause-lawful g c = let r = c.requires in (machine_for r.0 r.1, (r.2).state, (r.2).is, (r.2).lawful)

pub submit_each-requires-clause-within : goal.submit_each-requires-clause-within
submit_each-requires-clause-within g c = let r = c.requires in ((r.0).topology, (r.0).checked, (r.2).set_up, (r.2).within)

pub submit_each-requires-clause-there : goal.submit_each-requires-clause-there
submit_each-requires-clause-there g c = let r = c.requires in there_each r.0 r.1 c.args.round.now c.args.world r.2

pub returns-clause-answered : goal.returns-clause-answered
returns-clause-answered g c = λ script capacity can.
    let m = machine_for script capacity in
    let e = c.in_ok-submit_each.ensures in
    let answers = e.answers in
    answered_alone script capacity c.args.round.now c.args.world can c.submit_each.new.world c.submit_each.new.results answers.0
    (answers.1 ∙ ap (λ (xs : List SubmitResult). xs ++ answers.0) c.new-results.ensures) e.now
    (e.lawful m can.state can.is can.lawful) (e.set_up script.topology script.checked can.set_up) answers.2 answers.3
    (answers.4 m can.state script.topology script.checked (round_of c.args.round.now) can.is can.lawful can.set_up can.paused)
