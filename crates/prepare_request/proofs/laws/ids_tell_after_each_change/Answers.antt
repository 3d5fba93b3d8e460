use Rattle.prepare_request.proofs.Told.{none_told, tells, told_again, told_consumed, told_hosted, told_other}
use Rattle.prepare_request.proofs.laws.ids_tell_after_each_change.Goals as goal

pub returns-clause-begun : goal.returns-clause-begun
returns-clause-begun c reading p = none_told reading p

pub returns-clause-told : goal.returns-clause-told
returns-clause-told c reading p ids rows told = tells reading p ids rows told

pub returns-clause-hosted : goal.returns-clause-hosted
returns-clause-hosted c reading p ids more rows known place told is_new somebody among =
    told_hosted reading p ids rows told known place is_new more among somebody

pub returns-clause-other : goal.returns-clause-other
returns-clause-other c reading p ids rows known place told is_new nobody = told_other reading p ids rows told known place is_new nobody

pub returns-clause-again : goal.returns-clause-again
returns-clause-again c reading p ids rows known place row told has = told_again reading p ids rows told known place row has

pub returns-clause-consumed : goal.returns-clause-consumed
returns-clause-consumed c reading p ids rows known place told = told_consumed reading p ids rows told known place
