-- Rules see what is active at the clean places of participants that have read to the end, unless they are paused.
use Rattle.std.proofs.Common.{◌≡◌, ℕ, ◌<◌, ◌≤◌, List, length, Some, refl, sym, ap, ◌∙◌, arith}
use Rattle.std.specs.Prelude.{slice_get}
use Rattle.ledger_model.specs.Terms.{ParticipantId}
use Rattle.canton_model.specs.Log.{Params}
use Rattle.canton_model.specs.Reading.{Reading}
use Rattle.node_core.specs.OverLog.{inbox_over}
use Rattle.node_core.specs.Participant.{Participant}
use Rattle.node_core.proofs.PrunedViews.{active_same}
use Rattle.seq_log.specs.Sequenced.{Sequenced}
use Rattle.trigger_loop.specs.Seeing.{SeesActive}
use Rattle.trigger_model.specs.CausedRun.{FiredRound, HasReadTo, active_at_clean}
use Rattle.trigger_rules.specs.declared.rule.Rule.{Rule}
use Rattle.world_model.specs.Lawful.{Lawful}
use Rattle.world_model.specs.Machine.{Machine}
use Rattle.world_model.specs.Mediator.{MediatorState}
use Rattle.world_play.specs.Flags.{ArePaused, HaveAwakeRead}
use Rattle.world_play.specs.Worlds.{AreNodesOf, world_with}
use Rattle.world_play.proofs.Each.{item_of}
use Rattle.world_play.proofs.Moved.{from_machine}
use Rattle.world_play.proofs.Passing.{in_turn}
use Rattle.world_play.proofs.Turns.{cursor_of}
use Rattle.canton_run.specs.Actives.{own_active}
use Rattle.canton_run.specs.Seen.{active_if, rows_at}

module _ (m : Machine) (now : ℕ) (state : MediatorState) (nodes : List Participant) (s : Sequenced) (a : AreNodesOf m nodes s)
    (l : Lawful m (world_with now state nodes s)) (read : HaveAwakeRead s.list nodes) (fired : FiredRound) (flags : ArePaused fired.paused nodes)
    (end : fired.end ≡ length s.list) where
  node_sees : (p : ParticipantId) (node : Participant) → slice_get nodes p ≡ Some node
      → (n : ℕ) × HasReadTo fired p n × (own_active node ≡ active_at_clean m.reading m.params p n s.list)
  node_sees p node there =
      let given = in_turn nodes s p node there m now state a l in
      let n = length (node.state).items in
      let cursor : n ≡ given.read = cursor_of m p node s given in
      let within : n ≤ length s.list = let le = given.within in omega (arith, cursor, le) in (
        n,
        record { at_most = omega (arith, within, end); awake = λ free. read p node there (flags p node there ∙ free) ∙ sym end },
        active_same (inbox_over s.list node) node (given.inbox).pruned
            ∙ from_machine m p node given.is
            (λ (r : Reading) (q : Params) (i : ParticipantId). active_at_clean r q i n s.list ≡ active_at_clean m.reading m.params p n s.list) refl,
      )

  pub sees_active : (rules : List Rule) → ((k : ℕ) (rule : Rule) → slice_get rules k ≡ Some rule → rule.participant < length nodes)
      → SeesActive (rows_at nodes) rules m.reading m.params s.list fired
  sees_active rules there k rule at =
      let node = item_of nodes rule.participant (there k rule at) in
      let sees = node_sees rule.participant node.0 node.1 in (sees.0, sees.1, ap active_if node.1 ∙ sees.2)
