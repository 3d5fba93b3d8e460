use Rattle.std.proofs.Common.{Bool, sym, ap, ◌∙◌}
use Rattle.std.specs.Prelude.{◌&&◌, not}
use Rattle.node_inbox.specs.Offers.{is_open}
use Rattle.node_inbox.proofs.WithheldPlaces.{kept_from}
use Rattle.node_inbox.proofs.withheld.is_kept_from.Goals as goal

pub returns-then-not-is_empty : goal.returns-then-not-is_empty
returns-then-not-is_empty c =
    let closed = not (is_open c.args.kept.now.offer) in
    ap not c.is_open.ensures
    ∙ (ap (λ (b : Bool). not b && closed) (sym c.if-not-is_empty.true)
    ∙ kept_from c.args.kept.now c.is_empty.result c.is_empty.ensures.0 c.is_empty.ensures.1)

pub returns-else-not-is_empty : goal.returns-else-not-is_empty
returns-else-not-is_empty c =
    let closed = not (is_open c.args.kept.now.offer) in
    ap not c.if-not-is_empty.false
    ∙ (ap (λ (b : Bool). not b && closed) (sym c.if-not-is_empty.false)
    ∙ kept_from c.args.kept.now c.is_empty.result c.is_empty.ensures.0 c.is_empty.ensures.1)
