use Rattle.world_play.proofs.Submits.{if_ok}
use Rattle.world_play.proofs.submitting_each.submit_one.Goals as goal

pub answer_list-requires-clause-lawful : goal.answer_list-requires-clause-lawful
answer_list-requires-clause-lawful g c =
    let r = c.requires.lawful in (r.0, c.args.world.now.now, r.1, (r.2).nodes, r.3)

pub returns-clause-lawful : goal.returns-clause-lawful
returns-clause-lawful g c = λ m state is l. (
  record { nodes = c.answer_list.ensures.nodes m is.nodes; mediator = is.mediator },
  c.answer_list.ensures.lawful m c.args.world.now.now state is.nodes l,
)

pub returns-clause-answers : goal.returns-clause-answers
returns-clause-answers g c =
    if_ok c.answer_list.result _ _ c.answer_list.ensures.answers
    (λ answer h m state topology packages round is l u p. h m c.args.world.now.now state topology packages round is.nodes l u p)
