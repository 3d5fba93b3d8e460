use Rattle.framed_form.proofs.Vouching.{sound_where_vouched, sound_with_roles}
use Rattle.framed_form.proofs.laws.requests_by_the_rules_are_sound.Goals as goal

pub returns-clause-roles : goal.returns-clause-roles
returns-clause-roles c = sound_with_roles

pub returns-clause-vouched : goal.returns-clause-vouched
returns-clause-vouched c = sound_where_vouched
