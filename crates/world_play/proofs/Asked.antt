-- The participant of a submission answers it.
use Rattle.std.proofs.Common.{◌≡◌, ◌<◌, ℕ, List, length, Some, sym, ap, ◌∙◌, subst, arith}
use Rattle.std.specs.Prelude.{slice_get}
use Rattle.ledger_terms.specs.declared.submission.Submission.{Submission}
use Rattle.ledger_terms.specs.declared.topology.Topology.{Topology}
use Rattle.lang_eval.specs.Found.{Packages}
use Rattle.world_model.specs.Machine.{Machine}
use Rattle.world_model.specs.Mediator.{MediatorState}
use Rattle.world_model.specs.Lawful.{Lawful}
use Rattle.world_model.specs.Places.{has_place}
use Rattle.world_model.specs.Rounds.{Round}
use Rattle.seq_log.specs.Sequenced.{Sequenced}
use Rattle.node_core.specs.Participant.{Participant as NodeValue}
use Rattle.node_core.specs.declared.submit_result.SubmitResult.{SubmitResult}
use Rattle.world_play.specs.Answering.{CanAnswer, IsAnswer}
use Rattle.world_play.specs.Flags.{ArePaused}
use Rattle.world_play.specs.Parts.{IsParticipant}
use Rattle.world_play.specs.Submitting.{AreSetUp, CanSubmit}
use Rattle.world_play.specs.Worlds.{world_with, AreNodesOf}
use Rattle.world_play.proofs.Passing.{in_turn}

module _ (nodes : List NodeValue) (s : Sequenced) (what : Submission) (k : ℕ) (own : k ≡ what.participant) (node : NodeValue) (at : slice_get nodes k ≡ Some node) where
  -- it is the submission's participant
  pub is_asked : (m : Machine) (now : ℕ) (state : MediatorState) → AreNodesOf m nodes s → Lawful m (world_with now state nodes s)
      → IsParticipant m what.participant node s
  is_asked m now state a l = subst (λ (i : ℕ). IsParticipant m i node s) own (in_turn nodes s k node at m now state a l)

  pub can_answer : (m : Machine) (now : ℕ) (state : MediatorState) → AreNodesOf m nodes s → Lawful m (world_with now state nodes s) → (topology : Topology)
      (packages : Packages) → AreSetUp topology packages nodes → CanSubmit topology packages what → what.participant < length nodes → CanAnswer m node what s
  can_answer m now state a l topology packages u can there =
      let same = u.each k node at in
      let many = u.many in
      let hosts : length (node.topology).hosts ≡ length topology.hosts = ap (λ (t : Topology). length t.hosts) same.0 in
      record {
        is = is_asked m now state a l;
        is_host = omega (arith, there, many, hosts);
        can =
            subst (λ (t : Topology). CanSubmit t node.packages what) (sym same.0)
            (subst (λ (ps : Packages). CanSubmit topology ps what) (sym same.1) can);
      }

  pub answered : (now : ℕ) (answer : SubmitResult) (s' : Sequenced)
      → ((m : Machine) (round : Round) → IsParticipant m what.participant node s → (node.state).is_paused ≡ has_place round.paused what.participant
      → IsAnswer m node.topology node.packages now round s.list what answer s'.list)
      → (m : Machine) (time : ℕ) (state : MediatorState) (topology : Topology) (packages : Packages) (round : Round) → AreNodesOf m nodes s
      → Lawful m (world_with time state nodes s) → AreSetUp topology packages nodes → ArePaused round.paused nodes
      → IsAnswer m topology packages now round s.list what answer s'.list
  answered now answer s' h m time state topology packages round a l u flags =
      let same = u.each k node at in
      subst (λ (t : Topology). IsAnswer m t packages now round s.list what answer s'.list) same.0
      (subst (λ (ps : Packages). IsAnswer m node.topology ps now round s.list what answer s'.list) same.1
      (h m round (is_asked m time state a l) (flags k node at ∙ ap (has_place round.paused) own)))
