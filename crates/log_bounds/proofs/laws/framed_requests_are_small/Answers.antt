use Rattle.log_bounds.proofs.Requests.{few_asked, few_envelopes}
use Rattle.log_bounds.proofs.laws.framed_requests_are_small.Goals as goal

pub returns-clause-confirming : goal.returns-clause-confirming
returns-clause-confirming c = few_asked

pub returns-clause-envelopes : goal.returns-clause-envelopes
returns-clause-envelopes c = few_envelopes
