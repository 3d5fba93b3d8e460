use Rattle.std.proofs.Common.{Some, None, ◌∙◌}
use Rattle.node_inbox.proofs.WithheldPlaces.{kept_from_found}
use Rattle.node_inbox.proofs.withheld.is_kept_from_at.Goals as goal

pub returns-in-Some : goal.returns-in-Some
returns-in-Some c = c.is_kept_from.ensures ∙ kept_from_found c.args.items.now.items c.args.place (Some c.in-Some.kept.now) c.in-Some.ensures

pub returns-in-None : goal.returns-in-None
returns-in-None c = kept_from_found c.args.items.now.items c.args.place None c.in-None.ensures
