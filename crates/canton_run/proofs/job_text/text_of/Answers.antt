use Rattle.canton_run.proofs.job_text.text_of.Goals as goal

pub returns-in-Gen-clause-text : goal.returns-in-Gen-clause-text
returns-in-Gen-clause-text c rules = rw c.in-Gen.is (c.summary_text.ensures c.args.plan.now.rounds.now)
