use Rattle.std.proofs.Common.{◌∙◌, ap, subst, sym, true}
use Rattle.std.specs.Map.{values_of}
use Rattle.node_inbox.specs.LiveRows.{AreById}
use Rattle.node_inbox.proofs.LiveRows.{stays_by_id, writes}
use Rattle.node_inbox.proofs.live_rows.LiveRows.create.Goals as goal

pub invariant_of-self-2 : goal.invariant_of-self-2
invariant_of-self-2 c = subst AreById (sym c.in_ok-put.ensures.ok) (stays_by_id c.args.place (record { known = c.args.known.now; is_create = true }) c.self.inside.rows.entries c.self.invariant)

pub returns : goal.returns
returns c =
    rw (← c.self.view_is)
    (ap values_of c.in_ok-put.ensures.ok ∙ writes c.args.place (record { known = c.args.known.now; is_create = true }) c.self.inside.rows.entries c.self.invariant)
