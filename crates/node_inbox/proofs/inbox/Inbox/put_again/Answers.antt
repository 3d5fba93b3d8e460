use Rattle.std.proofs.Common.{refl, sym}
use Rattle.node_inbox.specs.Items.{model_content}
use Rattle.node_inbox.specs.Reads.{item_with}
use Rattle.node_inbox.specs.declared.kept_item.KeptContent.TheVariants as kept
use Rattle.node_inbox.proofs.Came.{again_is, reads_as}
use Rattle.node_inbox.proofs.Begins.{begins_anyway}
use Rattle.node_inbox.proofs.KeptAnswers.{both_anyway}
use Rattle.node_inbox.proofs.Told.{kept_anyway}
use Rattle.node_inbox.proofs.inbox.Inbox.put_again.Goals as goal

pub coming_again-requires : goal.coming_again-requires
coming_again-requires c = rw (← c.self.view_is) at c.requires.came

pub invariant_of-self : goal.invariant_of-self
invariant_of-self c =
    let i = c.self.inside in
    let topology = i.setup.now.topology in
    let packages = i.setup.now.checked in
    let put = c.put_request in
    let x = item_with c.args.time (model_content (kept.Received c.in_ok-coming.coming.kept)) in
    let told =
    kept_anyway topology packages i.me i.items.items put.new.items.items i.registry put.new.registry c.self.invariant.0 i.hosted.ids put.result x refl
    put.ensures.ok put.ensures.err i.is_once c.self.invariant.1 c.self.invariant.2 in
    let both =
    both_anyway topology packages i.me i.items.items put.new.items.items i.registry put.new.registry c.self.invariant.0 i.approved i.active put.result x refl
    put.ensures.ok put.ensures.err (c.self.invariant.3, c.self.invariant.4) in
    let begins =
    begins_anyway topology packages i.me i.base i.items.items put.new.items.items i.registry.start put.new.registry put.result x put.ensures.ok put.ensures.err c.self.invariant.5 in
    (told.0, told.1, told.2, both.0, both.1, begins)

pub returns-clause-ok : goal.returns-clause-ok
returns-clause-ok c =
    let i = c.self.inside in
    let put = c.put_request in
    rw (← c.self.view_is)
    (reads_as i.setup.now.topology i.setup.now.checked i.me put.result i.base i.base_time i.items.items put.new.items.items i.registry.start put.new.registry
    (item_with c.args.time (model_content (kept.Received c.in_ok-coming.coming.kept))) _
    (again_is i.setup.now.topology i.setup.now.checked i.me c.args.time c.in_ok-coming.coming.kept _ c.in_ok-coming.ensures.raw c.in_ok-coming.ensures.offer)
    put.ensures.ok)
