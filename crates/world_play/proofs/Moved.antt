-- What is said by a participant's own setup, said by the machine.
use Rattle.std.proofs.Common.{sym, subst}
use Rattle.ledger_model.specs.Terms.{ParticipantId}
use Rattle.canton_model.specs.Log.{Params}
use Rattle.canton_model.specs.Reading.{Reading}
use Rattle.world_model.specs.Machine.{Machine}
use Rattle.node_core.specs.Participant.{Participant as NodeValue, reading_of}
use Rattle.node_core.specs.Machines.{IsNodeOf}

module _ (m : Machine) (p : ParticipantId) (node : NodeValue) (is : IsNodeOf m p node) (F : Reading → Params → ParticipantId → Type 0) where
  pub to_machine : F (reading_of node) (node.topology).params node.me → F m.reading m.params p
  to_machine x =
      subst (λ (i : ParticipantId). F m.reading m.params i) is.me
      (subst (λ (q : Params). F m.reading q node.me) is.params (subst (λ (r : Reading). F r (node.topology).params node.me) is.reading x))

  pub from_machine : F m.reading m.params p → F (reading_of node) (node.topology).params node.me
  from_machine x =
      subst (λ (r : Reading). F r (node.topology).params node.me) (sym is.reading)
      (subst (λ (q : Params). F m.reading q node.me) (sym is.params) (subst (λ (i : ParticipantId). F m.reading m.params i) (sym is.me) x))
