use Rattle.std.proofs.Common.{arith}
use Rattle.node_inbox.proofs.KeptItems.{kept_length}
use Rattle.node_inbox.proofs.kept_items.KeptItems.len.Goals as goal

pub returns : goal.returns
returns c =
    let s = c.self.inside in
    let all = kept_length s.base s.base_time s.items.items in
    let many = c.len.ensures in
    let kept = s.items.ok.0 in
    rw (← c.self.view_is) (omega (arith, all, many, kept))
