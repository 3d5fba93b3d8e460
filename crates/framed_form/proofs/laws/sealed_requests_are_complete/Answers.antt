use Rattle.framed_form.proofs.SealedOpens.{complete, shown_by_rules}
use Rattle.framed_form.proofs.SealedWhole.{read_back, sealed_sound}
use Rattle.framed_form.proofs.laws.sealed_requests_are_complete.Goals as goal

pub returns-clause-opened : goal.returns-clause-opened
returns-clause-opened c = complete

pub returns-clause-shown : goal.returns-clause-shown
returns-clause-shown c = shown_by_rules

pub returns-clause-whole : goal.returns-clause-whole
returns-clause-whole c = read_back

pub returns-clause-sound : goal.returns-clause-sound
returns-clause-sound c = sealed_sound
