-- Rules are asked once all participants that aren't paused have read to the end.
use Rattle.std.proofs.Common.{◌≡◌, ℕ, ◌<◌, List, [], Some, length, refl, sym, ap, ◌∙◌, subst, arith}
use Rattle.std.specs.Prelude.{slice_get}
use Rattle.ledger_model.specs.Terms.{ParticipantId}
use Rattle.trigger_loop.specs.Seeing.{HaveRoom, SeesActive}
use Rattle.trigger_model.specs.CausedRun.{FiredRound}
use Rattle.trigger_rules.specs.Kept.{KeptRules, fired_by}
use Rattle.trigger_rules.specs.declared.rule.Rule.{Rule}
use Rattle.world_model.specs.Lawful.{Lawful}
use Rattle.world_model.specs.Machine.{Machine}
use Rattle.world_model.specs.Mediator.{MediatorState}
use Rattle.world_model.specs.Messages.{Entry}
use Rattle.world_play.specs.Flags.{ArePaused, HaveAwakeRead}
use Rattle.world_play.specs.WorldOf.{IsWorldOf, world_of}
use Rattle.world_play.specs.declared.world.World.{World}
use Rattle.world_play.proofs.Passing.{length_states}
use Rattle.canton_run.specs.Seen.{CanBeAsked, rows_at}
use Rattle.canton_run.proofs.SeesActive.{sees_active}

-- they have read to the end of the first world's log in the second
module _ (m : Machine) (state : MediatorState) (before after : World) (rules : List Rule) (fired : ℕ → List (List ℕ)) (paused : List ParticipantId)
    (can : CanBeAsked m before rules fired) (lawful0 : Lawful m (world_of state before)) (is : IsWorldOf m state after)
    (lawful : Lawful m (world_of state after)) (same : (after.sequencer).list ≡ (before.sequencer).list)
    (read : HaveAwakeRead (after.sequencer).list (after.nodes).items) (flags : ArePaused paused (after.nodes).items) where
  as_many : length (before.nodes).items ≡ length (after.nodes).items
  as_many =
      let first = lawful0.hosts in
      let then_ = lawful.hosts in
      let a = length_states (before.sequencer).list (before.nodes).items in
      let b = length_states (after.sequencer).list (after.nodes).items in omega (arith, first, then_, a, b)

  pub sees : (round : FiredRound) → round.paused ≡ paused → round.end ≡ length (before.sequencer).list
      → SeesActive (rows_at (after.nodes).items) rules m.reading m.params (before.sequencer).list round
  sees round is_paused end =
      let long : round.end ≡ length (after.sequencer).list = end ∙ sym (ap length same) in
      let flagged : ArePaused round.paused (after.nodes).items = subst (λ (ps : List ParticipantId). ArePaused ps (after.nodes).items) (sym is_paused) flags in
      let all : (k : ℕ) (rule : Rule) → slice_get rules k ≡ Some rule → rule.participant < length (after.nodes).items =
      λ k rule at. let one = can.there k rule at in let many = as_many in omega (arith, one, many) in
      subst (λ (log : List Entry). SeesActive (rows_at (after.nodes).items) rules m.reading m.params log round) same
      (sees_active m after.now state (after.nodes).items after.sequencer is.nodes lawful read round flagged long rules all)

  pub have_room : {F : Type 0} (kept : KeptRules F) → kept.rules ≡ rules → fired_by kept ≡ fired → HaveRoom (rows_at (after.nodes).items) kept
  have_room kept rules_same fired_same k rule at =
      let at' : slice_get rules k ≡ Some rule = subst (λ (rs : List Rule). slice_get rs k ≡ Some rule) rules_same at in
      let round : FiredRound = record { number = 0; now = 0; paused = paused; end = length (before.sequencer).list; caused = [] } in
      let see = sees round refl refl k rule at' in
      let rows = ap length see.2 in
      let here = ap (λ (f : ℕ → List (List ℕ)). length (f k)) fired_same in
      let few = can.room k rule see.0 at' (see.1).at_most in omega (arith, rows, here, few)
