use Rattle.std.proofs.Common.{refl}
use Rattle.canton_model.specs.Inbox.{Nothing}
use Rattle.node_inbox.specs.Reads.{item_with}
use Rattle.node_inbox.proofs.Begins.{begins_anyway}
use Rattle.node_inbox.proofs.KeptAnswers.{both_anyway}
use Rattle.node_inbox.proofs.Told.{kept_anyway}
use Rattle.node_inbox.proofs.inbox.Inbox.read_nothing.Goals as goal

pub invariant_of-self : goal.invariant_of-self
invariant_of-self c =
    let i = c.self.inside in
    let topology = i.setup.now.topology in
    let packages = i.setup.now.checked in
    let put = c.put_nothing in
    let x = item_with c.args.time Nothing in
    let kept =
    kept_anyway topology packages i.me i.items.items put.new.items.items i.registry put.new.registry c.self.invariant.0 i.hosted.ids put.result x refl
    put.ensures.ok put.ensures.err i.is_once c.self.invariant.1 c.self.invariant.2 in
    let both =
    both_anyway topology packages i.me i.items.items put.new.items.items i.registry put.new.registry c.self.invariant.0 i.approved i.active put.result x refl
    put.ensures.ok put.ensures.err (c.self.invariant.3, c.self.invariant.4) in
    let begins =
    begins_anyway topology packages i.me i.base i.items.items put.new.items.items i.registry.start put.new.registry put.result x put.ensures.ok put.ensures.err c.self.invariant.5 in
    (kept.0, kept.1, kept.2, both.0, both.1, begins)
