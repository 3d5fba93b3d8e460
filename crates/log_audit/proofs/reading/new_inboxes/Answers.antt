use Rattle.std.proofs.Common.{◌+◌, List, [], ◌∷◌, ◌++◌, ap, sym, subst, ◌∙◌}
use Rattle.node_inbox.specs.InboxState.{InboxState}
use Rattle.log_audit.proofs.Knowing.{Begun, begun_more}
use Rattle.log_audit.proofs.reading.new_inboxes.Goals as goal

pub loop-at-preserved : goal.loop-at-preserved
loop-at-preserved c =
    let topology = c.args.setup.now.topology in
    let packages = c.args.setup.now.checked in
    let so_far = c.loop-at.inboxes.items in
    subst (λ (xs : List InboxState). Begun topology packages (c.loop-at.at + 1) xs)
    (sym (c.in_ok-push.ensures.items ∙ ap (λ (i : InboxState). so_far ++ i ∷ []) c.new.ensures))
    (begun_more topology packages c.loop-at.at so_far c.loop-at.invariant)
