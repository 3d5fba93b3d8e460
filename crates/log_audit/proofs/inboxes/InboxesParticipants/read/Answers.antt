use Rattle.std.proofs.Common.{List, [], ◌∷◌, ◌++◌}
use Rattle.ledger_terms.specs.declared.topology.Topology.{Topology}
use Rattle.lang_eval.specs.Found.{Packages}
use Rattle.canton_model.specs.Genuine.{Genuine}
use Rattle.framed_form.specs.FramedReading.{framed_reading}
use Rattle.world_model.specs.Messages.{Entry}
use Rattle.log_audit.specs.Inboxes.{HaveRead}
use Rattle.log_judge.proofs.Knowing.{on_ok_map}
use Rattle.log_audit.proofs.inboxes.InboxesParticipants.read.Goals as goal

pub returns-clause-ok : goal.returns-clause-ok
returns-clause-ok c =
    let a = c.args.self.now in
    let t = a.setup.now.topology in
    let p = a.setup.now.checked in
    let after = c.read_each.new.inboxes.items in
    let entry = c.args.entry.now in
    on_ok_map c.read_each.result
    ((topology : Topology) (packages : Packages) (log : List Entry) → HaveRead topology packages a.inboxes.items log
    → HaveRead topology packages after (log ++ entry ∷ []))
    ((log : List Entry) → HaveRead t p a.inboxes.items log → Genuine (framed_reading t p) t.params (log ++ entry ∷ []) → HaveRead t p after (log ++ entry ∷ []))
    c.read_each.ensures (λ h log have genuine. h t p log have)
