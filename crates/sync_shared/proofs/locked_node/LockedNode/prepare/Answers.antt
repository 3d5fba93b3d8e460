use Rattle.std.proofs.Common.{◌≡◌, ◌≢◌, false, List, None, Some, ap, subst}
use Rattle.std.specs.Prelude.{IfOk, IfErr}
use Rattle.canton_model.specs.Inbox.{inbox}
use Rattle.world_model.specs.Messages.{Entry}
use Rattle.world_model.specs.Rounds.{Unwanted}
use Rattle.prepare_request.specs.declared.submit_fault.SubmitFault.TheVariants.{Memory}
use Rattle.node_core.specs.Machines.{offered_in}
use Rattle.sync_shared.specs.Answers.{fault_of}
use Rattle.sync_shared.specs.Slips.{read_to}
use Rattle.sync_shared.proofs.Nodes.{flagged}
use Rattle.sync_shared.proofs.Preparing.{own, is_valid, is_within, is_mine, is_framed, is_wanted, no_request, offers_this}
use Rattle.sync_shared.proofs.locked_node.LockedNode.prepare.Goals as goal

pub invariant_of-self : goal.invariant_of-self
invariant_of-self g c = (
  c.self.invariant.0,
  flagged g.S.Session.topology g.S.Session.packages g.S.Session.machine g.S.Session.why g.S.Session.bases g.row.I (read_to c.self.inside.last) c.self.inside.node
      c.self.invariant.1 c.set_paused.new.self false c.set_paused.ensures,
)

pub prepared-requires-clause-valid : goal.prepared-requires-clause-valid
prepared-requires-clause-valid g c =
    let list = read_to c.self.inside.last in
    let b = flagged g.S.Session.topology g.S.Session.packages g.S.Session.machine g.S.Session.why g.S.Session.bases g.row.I list c.self.inside.node c.self.invariant.1
    c.set_paused.new.self false c.set_paused.ensures in
    is_valid g.S.Session.topology g.S.Session.packages g.S.Session.machine g.S.Session.why g.S.Session.bases g.row.I list c.set_paused.new.self b c.args.what.now c.args.now c.requires.mine

pub prepared-requires-clause-within : goal.prepared-requires-clause-within
prepared-requires-clause-within g c =
    let list = read_to c.self.inside.last in
    let b = flagged g.S.Session.topology g.S.Session.packages g.S.Session.machine g.S.Session.why g.S.Session.bases g.row.I list c.self.inside.node c.self.invariant.1
    c.set_paused.new.self false c.set_paused.ensures in
    is_within g.S.Session.topology g.S.Session.packages g.S.Session.machine g.S.Session.why g.S.Session.bases g.row.I list c.set_paused.new.self b c.args.what.now c.args.now c.requires.mine
    c.requires.named

pub returns-clause-wanted : goal.returns-clause-wanted
returns-clause-wanted g c =
    let list = read_to c.self.inside.last in
    let node = c.set_paused.new.self in
    let b = flagged g.S.Session.topology g.S.Session.packages g.S.Session.machine g.S.Session.why g.S.Session.bases g.row.I list c.self.inside.node c.self.invariant.1
    node false c.set_paused.ensures in
    let told = c.prepared.ensures.wanted (offered_in node.topology node.packages) (inbox g.S.Session.machine.reading g.row.I list)
    (own g.S.Session.topology g.S.Session.packages g.S.Session.machine g.S.Session.why g.S.Session.bases g.row.I list node b c.args.what.now c.args.now c.requires.mine)
    (offers_this g.S.Session.topology g.S.Session.packages g.S.Session.machine g.S.Session.why g.S.Session.bases g.row.I list node b c.args.what.now c.args.now c.requires.mine) in
    subst (λ (xs : List Entry). IfOk c.prepared.result (λ q. g.S.Session.machine.prepare c.args.what.now (inbox g.S.Session.machine.reading g.row.I xs) c.args.now ≡ Some q))
    c.self.view_is
    (is_wanted g.S.Session.topology g.S.Session.packages g.S.Session.machine g.S.Session.why g.S.Session.bases g.row.I list node b c.args.what.now c.args.now c.requires.mine
    c.prepared.result told)

pub returns-clause-sender : goal.returns-clause-sender
returns-clause-sender g c =
    let list = read_to c.self.inside.last in
    let node = c.set_paused.new.self in
    let b = flagged g.S.Session.topology g.S.Session.packages g.S.Session.machine g.S.Session.why g.S.Session.bases g.row.I list c.self.inside.node c.self.invariant.1
    node false c.set_paused.ensures in
    is_mine g.S.Session.topology g.S.Session.packages g.S.Session.machine g.S.Session.why g.S.Session.bases g.row.I list node b c.args.what.now c.args.now c.requires.mine
    c.prepared.result c.prepared.ensures.sender

pub returns-clause-unwanted : goal.returns-clause-unwanted
returns-clause-unwanted g c =
    let list = read_to c.self.inside.last in
    let node = c.set_paused.new.self in
    let b = flagged g.S.Session.topology g.S.Session.packages g.S.Session.machine g.S.Session.why g.S.Session.bases g.row.I list c.self.inside.node c.self.invariant.1
    node false c.set_paused.ensures in
    let told = c.prepared.ensures.wanted (offered_in node.topology node.packages) (inbox g.S.Session.machine.reading g.row.I list)
    (own g.S.Session.topology g.S.Session.packages g.S.Session.machine g.S.Session.why g.S.Session.bases g.row.I list node b c.args.what.now c.args.now c.requires.mine)
    (offers_this g.S.Session.topology g.S.Session.packages g.S.Session.machine g.S.Session.why g.S.Session.bases g.row.I list node b c.args.what.now c.args.now c.requires.mine) in
    subst (λ (xs : List Entry). IfErr c.prepared.result (λ fault. fault ≢ Memory
    → (g.S.Session.machine.prepare c.args.what.now (inbox g.S.Session.machine.reading g.row.I xs) c.args.now ≡ None)
    × (g.S.Session.why c.args.what.now (inbox g.S.Session.machine.reading g.row.I xs) c.args.now ≡ fault) × (fault_of fault ≡ Some (Unwanted fault))))
    c.self.view_is
    (no_request g.S.Session.topology g.S.Session.packages g.S.Session.machine g.S.Session.why g.S.Session.bases g.row.I list node b c.args.what.now c.args.now c.requires.mine
    c.faults_have_causes.ensures (ap (λ n. n.state.is_paused) c.set_paused.ensures) c.prepared.result c.prepared.ensures.exact told)

pub returns-clause-framed : goal.returns-clause-framed
returns-clause-framed g c =
    let list = read_to c.self.inside.last in
    let node = c.set_paused.new.self in
    let b = flagged g.S.Session.topology g.S.Session.packages g.S.Session.machine g.S.Session.why g.S.Session.bases g.row.I list c.self.inside.node c.self.invariant.1
    node false c.set_paused.ensures in
    is_framed g.S.Session.topology g.S.Session.packages g.S.Session.machine g.S.Session.why g.S.Session.bases g.row.I list node b c.args.what.now c.args.now c.requires.mine
    c.prepared.result c.prepared.ensures.framed
