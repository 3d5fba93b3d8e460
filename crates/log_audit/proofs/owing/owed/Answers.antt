use Rattle.std.proofs.Common.{◌≡◌, ℕ, List, slice_index_or, subst, suc, take}
use Rattle.ledger_terms.specs.declared.topology.Topology.{Topology}
use Rattle.lang_eval.specs.Found.{Packages}
use Rattle.canton_model.specs.Checks.{verdicts_owed}
use Rattle.canton_model.specs.Inbox.{inbox}
use Rattle.world_model.specs.Messages.{Entry, ViewVerdict}
use Rattle.node_inbox.specs.InboxState.{owed_kept, params_of, reading_of}
use Rattle.framed_form.specs.FramedReading.{framed_reading}
use Rattle.log_audit.specs.Inboxes.{HaveRead}
use Rattle.log_audit.proofs.Knowing.{owed_here}
use Rattle.log_judge.proofs.Knowing.{if_ok_map}
use Rattle.log_audit.proofs.owing.owed.Goals as goal

pub returns : goal.returns
returns c =
    let i = c.index.result.now in
    let inboxes = c.args.inboxes.now.items in
    if_ok_map c.owed_by.result (λ (v : List ViewVerdict). v ≡ owed_kept (reading_of i) (params_of i) i.me i.start i.items c.args.place)
    (λ (v : List ViewVerdict). (topology : Topology) (packages : Packages) (log : List Entry) → HaveRead topology packages inboxes log
    → v ≡ verdicts_owed (framed_reading topology packages) topology.params c.args.p
    (inbox (framed_reading topology packages) c.args.p (take (suc c.args.place) log)) c.args.place)
    c.owed_by.ensures
    (λ v e topology packages log have. owed_here topology packages log inboxes have c.args.p c.args.place i c.requires (subst (λ (n : ℕ). i ≡ slice_index_or inboxes n i) c.p.view_is c.index.ensures) v e)
