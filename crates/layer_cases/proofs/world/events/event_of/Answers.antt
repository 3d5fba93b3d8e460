use Rattle.layer_cases.proofs.world.events.event_of.Goals as goal

pub returns-in-submit-clause-left : goal.returns-in-submit-clause-left
returns-in-submit-clause-left c = c.next_submission.ensures.left _ _ c.requires

pub returns-in-raw-clause-event : goal.returns-in-raw-clause-event
returns-in-raw-clause-event c = c.next_raw.ensures c.args.setup.now.topology c.args.setup.now.checked

pub returns-in_default-clause-event : goal.returns-in_default-clause-event
returns-in_default-clause-event c = c.plain_event.ensures c.args.setup.now.topology c.args.setup.now.checked
