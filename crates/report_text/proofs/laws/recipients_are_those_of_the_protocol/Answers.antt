use Rattle.report_text.proofs.Recipients.{told_to}
use Rattle.report_text.proofs.laws.recipients_are_those_of_the_protocol.Goals as goal

pub returns : goal.returns
returns c = told_to
