use Rattle.std.proofs.Common.{◌≡◌, ℕ, Some, sym, ap, ◌∙◌, subst}
use Rattle.std.specs.Prelude.{slice_get}
use Rattle.ledger_terms.specs.declared.submission.Submission.{Submission}
use Rattle.node_core.specs.Machines.{offered_in}
use Rattle.node_core.specs.OverLog.{inbox_over}
use Rattle.node_core.proofs.OverLog.{offered_is}
use Rattle.world_play.specs.Submitting.{wanted_of}
use Rattle.world_play.proofs.Passing.{item_at}
use Rattle.world_play.proofs.Submits.{if_ok, only_wanted, told}
use Rattle.world_play.proofs.submitting.wanted.Goals as goal

pub prepare-requires-clause-valid : goal.prepare-requires-clause-valid
prepare-requires-clause-valid g c =
    let nodes = c.args.nodes.now in
    let k = c.what.inside.0.0.0 in
    let node = c.index-nodes-at.result in
    let own = ap (λ (w : Submission). w.participant) c.what.view_is in
    let there = item_at nodes k node c.if-at-nodes.false ∙ ap Some (sym c.index-nodes-at.is) in
    (c.requires node (subst (λ (i : ℕ). slice_get nodes i ≡ Some node) own there)).valid

pub prepare-requires-clause-within : goal.prepare-requires-clause-within
prepare-requires-clause-within g c =
    let nodes = c.args.nodes.now in
    let k = c.what.inside.0.0.0 in
    let node = c.index-nodes-at.result in
    let own = ap (λ (w : Submission). w.participant) c.what.view_is in
    let there = item_at nodes k node c.if-at-nodes.false ∙ ap Some (sym c.index-nodes-at.is) in
    (c.requires node (subst (λ (i : ℕ). slice_get nodes i ≡ Some node) own there)).within

pub returns : goal.returns
returns g c =
    let nodes = c.args.nodes.now in
    let what = c.args.what.now in
    let k = c.what.inside.0.0.0 in
    let node = c.index-nodes-at.result in
    let own = ap (λ (w : Submission). w.participant) c.what.view_is in
    let there = item_at nodes k node c.if-at-nodes.false ∙ ap Some (sym c.index-nodes-at.is) in
    let at = subst (λ (i : ℕ). slice_get nodes i ≡ Some node) own there in
    let can = c.requires node at in
    if_ok c.request_of.result _ _ c.request_of.ensures
    (λ o h log inbox.
    h.0 ∙ (told node what c.args.now can.own log (inbox node at) c.prepare.result h.1 c.prepare.ensures.paused c.prepare.ensures.exact
    (only_wanted c.prepare.result _ _
    (c.prepare.ensures.wanted (offered_in node.topology node.packages) (inbox_over log node) can.own
    (sym (offered_is (inbox_over log node) node (inbox node at)))))
    ∙ ap (wanted_of log what c.args.now) (sym at)))
