use Rattle.std.proofs.Common.{◌≤◌, ◌^◌, ◌∙◌, subst, sym}
use Rattle.node_core.specs.Bases.{AreBases}
use Rattle.world_play.specs.declared.world.World.{World}
use Rattle.layer_cases.specs.Sharings.{CanBeShared}
use Rattle.layer_cases.proofs.CanShare.{in_time, left_can}
use Rattle.layer_cases.proofs.sharing.sharings.share.Goals as goal

pub returns-clause-world : goal.returns-clause-world
returns-clause-world g c =
    let in_range = subst (λ (w : World). w.now ≤ 10 ^ 16) (sym c.into_inner.ensures) c.requires.world.now in
    subst (CanBeShared _ _ _) (sym c.in_ok-next.ensures.world) (
    left_can _ _ _ _ c.into_parts-world.ensures.nodes (λ p node at. c.into_parts-world.ensures.bases p node at ∙ c.requires.bases p)
    c.into_parts-world.ensures.world
    (in_time c.of-shared.result c.ask_by.new.shared c.submit_and_ask-left.new.shared _ _ _ c.of-shared.ensures c.ask_by.ensures.round
    c.submit_and_ask-left.ensures.round c.into_parts-world.ensures.now in_range))

pub of-shared-requires-clause-bases : goal.of-shared-requires-clause-bases
of-shared-requires-clause-bases g c = λ p node at.
    subst (λ (w : World). AreBases (λ i. 0) (w.nodes).items) (sym c.into_inner.ensures) c.requires.world.bases p node at ∙ sym (c.requires.bases p)
