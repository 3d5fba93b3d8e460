use Rattle.std.proofs.Common.{arith}
use Rattle.node_inbox.proofs.KeptItems.{kept_length, silent_unreceived}
use Rattle.node_inbox.proofs.kept_items.KeptItems.base.Goals as goal

pub returns-clause-within : goal.returns-clause-within
returns-clause-within c =
    let s = c.self.inside in
    let many = kept_length s.base s.base_time s.items.items in
    rw (← c.self.view_is) (omega (arith, many))

pub returns-clause-silent : goal.returns-clause-silent
returns-clause-silent c =
    let s = c.self.inside in
    rw (← c.self.view_is) (λ k lt. silent_unreceived s.base s.base_time k s.items.items lt)
