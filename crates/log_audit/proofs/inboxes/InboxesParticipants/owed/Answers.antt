use Rattle.std.proofs.Common.{◌≡◌, List, arith, suc, take, ◌∙◌}
use Rattle.ledger_terms.specs.declared.topology.Topology.{Topology}
use Rattle.lang_eval.specs.Found.{Packages}
use Rattle.canton_model.specs.Checks.{verdicts_owed}
use Rattle.canton_model.specs.Inbox.{inbox}
use Rattle.framed_form.specs.FramedReading.{framed_reading}
use Rattle.world_model.specs.Messages.{Entry, ViewVerdict}
use Rattle.log_audit.specs.Inboxes.{HaveRead}
use Rattle.log_judge.proofs.Knowing.{if_ok_map}
use Rattle.log_audit.proofs.Hosts.{beyond}
use Rattle.log_audit.proofs.inboxes.InboxesParticipants.owed.Goals as goal

pub returns-then-p-len : goal.returns-then-p-len
returns-then-p-len c =
    let a = c.args.self.now in
    let t = a.setup.now.topology in
    let k = a.setup.now.checked in
    if_ok_map c.owed.result
    (λ (v : List ViewVerdict). (topology : Topology) (packages : Packages) (log : List Entry) → HaveRead topology packages a.inboxes.items log
    → v ≡ verdicts_owed (framed_reading topology packages) topology.params c.args.p
    (inbox (framed_reading topology packages) c.args.p (take (suc c.args.place) log)) c.args.place)
    (λ (v : List ViewVerdict). (log : List Entry) → HaveRead t k a.inboxes.items log
    → v ≡ verdicts_owed (framed_reading t k) t.params c.args.p (inbox (framed_reading t k) c.args.p (take (suc c.args.place) log)) c.args.place)
    c.owed.ensures (λ v h log have. h t k log have)

pub returns-else-p-len : goal.returns-else-p-len
returns-else-p-len c = λ log have.
    let a = c.args.self.now in
    let fits = a.inboxes.ok.0 in
    let out = c.if-p-len.false in
    let len = c.len.ensures in
    let hosts = have.hosts in
    let p = c.p.view_is in
    c.new.ensures ∙ beyond a.setup.now.topology a.setup.now.checked c.args.p c.args.place log (omega (arith, fits, out, len, hosts, p))
