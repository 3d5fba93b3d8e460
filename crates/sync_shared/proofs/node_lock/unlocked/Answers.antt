use Rattle.std.proofs.Common.{◌≡◌, ℕ, List, length, sym, ap, ◌∙◌, subst}
use Rattle.std.specs.Prelude.{is_some}
use Rattle.world_model.specs.Messages.{Entry}
use Rattle.node_core.specs.Participant.{Participant}
use Rattle.sync_shared.specs.Behind.{AreNodesBehind, IsNodeBehind}
use Rattle.sync_shared.specs.Slips.{read_to}
use Rattle.sync_shared.proofs.NodeLists.{nodes_more}
use Rattle.sync_shared.proofs.node_lock.unlocked.Goals as goal

pub returns-in-Some-clause-nodes : goal.returns-in-Some-clause-nodes
returns-in-Some-clause-nodes g c =
    let items = c.args.room.now.items in
    let node = c.into_parts-node.result.0 in
    let log = c.args.sequencer.now.list in
    let here = c.requires.here (ap is_some c.in-Some.is) in
    let at : length items ≡ g.row.I = sym c.args.room.now.ok.0 ∙ here in
    let own =
    subst (λ (xs : List Entry). IsNodeBehind g.S.Session.topology g.S.Session.packages g.S.Session.machine g.S.Session.why g.S.Session.bases g.row.I xs node)
    (sym c.into_parts-node.ensures.same) c.into_parts-node.ensures.behind in
    let placed =
    subst (λ (k : ℕ). IsNodeBehind g.S.Session.topology g.S.Session.packages g.S.Session.machine g.S.Session.why g.S.Session.bases k (read_to c.into_parts-node.result.1) node)
    (sym at) own in
    subst (λ (nodes : List Participant). AreNodesBehind g.S.Session.topology g.S.Session.packages g.S.Session.machine g.S.Session.why g.S.Session.bases log nodes)
    (sym c.push_reserved.ensures.items)
    (nodes_more g.S.Session.topology g.S.Session.packages g.S.Session.machine g.S.Session.why g.S.Session.bases log items node c.requires.nodes
    (read_to c.into_parts-node.result.1) c.reached.ensures.begins placed)
