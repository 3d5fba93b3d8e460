use Rattle.confirm_reply.proofs.trial.Trial.place_shown.Goals as goal

pub shows_at-requires-clause-checkable : goal.shows_at-requires-clause-checkable
shows_at-requires-clause-checkable g c = c.requires.checkable c.loop-at.at 0 c.loop-at-test.true
