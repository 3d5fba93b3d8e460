use Rattle.std.proofs.Common.{Bool, sym, ap, ◌∙◌}
use Rattle.std.specs.Prelude.{◌&&◌}
use Rattle.request_track.specs.Pairs.{outcome_at}
use Rattle.inbox_registry.specs.Requests.{is_approved}
use Rattle.node_inbox.specs.Items.{model_items}
use Rattle.node_inbox.proofs.WithheldPlaces.{withheld_is}
use Rattle.node_inbox.proofs.withheld.is_withheld.Goals as goal

pub returns-then-is_kept_from_at : goal.returns-then-is_kept_from_at
returns-then-is_kept_from_at c =
    let approved = is_approved (outcome_at c.args.registry.now.tracking.pairs c.args.place) in
    c.is_approved.ensures
    ∙ (ap (λ (b : Bool). b && approved) (sym c.if-is_kept_from_at.true ∙ c.is_kept_from_at.ensures)
    ∙ withheld_is c.args.setup.now.topology.params (model_items c.args.items.now.items) c.args.registry.now c.requires c.args.place)

pub returns-else-is_kept_from_at : goal.returns-else-is_kept_from_at
returns-else-is_kept_from_at c =
    let approved = is_approved (outcome_at c.args.registry.now.tracking.pairs c.args.place) in
    c.if-is_kept_from_at.false
    ∙ (ap (λ (b : Bool). b && approved) (sym c.if-is_kept_from_at.false ∙ c.is_kept_from_at.ensures)
    ∙ withheld_is c.args.setup.now.topology.params (model_items c.args.items.now.items) c.args.registry.now c.requires c.args.place)
