-- A submission that wants no request is refused by a fault of its own.
use Rattle.std.proofs.Common.{◌≡◌, ◌≢◌, ℕ, List, Err, false, refl, subst}
use Rattle.ledger_terms.specs.declared.known.Known.{Known}
use Rattle.ledger_terms.specs.declared.submission.Submission.{Submission}
use Rattle.ledger_terms.specs.declared.topology.Topology.{Topology}
use Rattle.lang_eval.specs.Found.{Packages}
use Rattle.world_model.specs.Rounds as w
use Rattle.prepare_request.specs.Causes.{HasCause}
use Rattle.prepare_request.specs.Prepared.{prepared}
use Rattle.prepare_request.specs.declared.submit_fault.SubmitFault.{SubmitFault}
use Rattle.prepare_request.specs.declared.submit_fault.SubmitFault.TheVariants.{Paused, NotHosted, Command, Split, Duplicate, LogFull, Memory}
use Rattle.node_core.specs.Participant.{Participant as NodeValue}
use Rattle.node_core.specs.Preparing.{offered_by, prepare_answer}
use Rattle.world_play.specs.Results.{fault_of}

abbrev pub IsOwn : SubmitFault → Type 0
IsOwn fault = fault_of fault ≡ w.Unwanted fault

-- one that has a cause is
own_of : (topology : Topology) (packages : Packages) (me : ℕ) (known : List Known) (what : Submission) (now : ℕ) (fault : SubmitFault)
    → HasCause topology packages me known what now fault → IsOwn fault
own_of topology packages me known what now (NotHosted party) h = refl
own_of topology packages me known what now (Command fault) h = refl
own_of topology packages me known what now (Split fault) h = refl
own_of topology packages me known what now Paused h = absurd h
own_of topology packages me known what now (Duplicate place) h = absurd h
own_of topology packages me known what now (LogFull reserved need) h = absurd h
own_of topology packages me known what now Memory h = absurd h

-- the fault of a participant that isn't paused
module _ (node : NodeValue) (what : Submission) (now : ℕ) (awake : (node.state).is_paused ≡ false) where
  prepared_is : (fault : SubmitFault) → prepare_answer node what now ≡ Err fault
      → prepared node.topology node.packages node.me (offered_by node) what now ≡ Err fault
  prepared_is fault e = rw awake at e

  pub own_fault : (fault : SubmitFault) → fault ≢ Memory → (fault ≢ Memory → prepare_answer node what now ≡ Err fault)
      → (prepared node.topology node.packages node.me (offered_by node) what now ≡ Err fault
      → HasCause node.topology node.packages node.me (offered_by node) what now fault) → IsOwn fault
  own_fault fault some exact caused =
      own_of node.topology node.packages node.me (offered_by node) what now fault (caused (prepared_is fault (exact some)))

-- it isn't the pause
pub not_paused : (fault : SubmitFault) → IsOwn fault → fault ≢ Paused
not_paused fault own same = differ (subst IsOwn same own)
  where
    differ : IsOwn Paused → ⊥
    differ e = absurd cc
