use Rattle.lang_check.proofs.Wholes.{checked_sound, fault_sound, fault_of_walk}
use Rattle.lang_check.proofs.Faulty.{walk_faulty}
use Rattle.lang_check.proofs.packages.check.Goals as goal

pub returns-in-Ok-clause-typed : goal.returns-in-Ok-clause-typed
returns-in-Ok-clause-typed c = checked_sound _ _ c.in-Ok.ensures

pub returns-in-Err-Fault-clause-faulty : goal.returns-in-Err-Fault-clause-faulty
returns-in-Err-Fault-clause-faulty c =
    λ _ typed. fault_sound _ _ (rw c.in-Err-Fault.field-0-is at c.in-Err-Fault.ensures) typed

pub returns-in-Err-Fault-clause-memory : goal.returns-in-Err-Fault-clause-memory
returns-in-Err-Fault-clause-memory c =
    λ kind. absurd (walk_faulty _ _ (fault_of_walk _ _ (rw c.in-Err-Fault.field-0-is at c.in-Err-Fault.ensures)) kind)
