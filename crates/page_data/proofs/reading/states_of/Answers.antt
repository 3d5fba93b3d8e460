use Rattle.std.proofs.Common.{◌+◌, List, [], ◌∷◌, ◌++◌, sym, ap, subst, ◌∙◌}
use Rattle.node_inbox.specs.InboxState.{InboxState}
use Rattle.page_data.specs.declared.knowledge.Knowledge.{Knowledge}
use Rattle.page_data.proofs.Reread.{HasRead, got, may_read, reads_all, reads_none, reads_on}
use Rattle.page_data.proofs.reading.states_of.Goals as goal

pub knowledge_of-requires : goal.knowledge_of-requires
knowledge_of-requires c = ap (λ (i : InboxState). i.start) c.requires.begun

pub knowledge_of-requires-in-entries : goal.knowledge_of-requires-in-entries
knowledge_of-requires-in-entries c =
    ap (λ (i : InboxState). i.start) c.in_ok-read_entry.ensures ∙ ap (λ (i : InboxState). i.start) c.entries.invariant.inbox

pub entries-init : goal.entries-init
entries-init c =
    let inbox = c.args.inbox.now in
    reads_none inbox.topology inbox.packages inbox.me c.args.log.now c.push.new.self inbox
    c.requires.begun
    (c.in_ok-push.ensures.ok ∙ (λ i. c.new-states.ensures i ++ c.in_ok-knowledge_of.ensures i ∷ []))

pub read_entry-requires : goal.read_entry-requires
read_entry-requires c =
    let inbox = c.args.inbox.now in
    let log = c.args.log.now in
    let entry = c.index-log-at.result in
    may_read inbox.topology inbox.packages inbox.me log c.entries.at entry c.entries-test.true
    (got log c.entries.at entry c.entries-test.true c.index-log-at.is) c.requires.genuine c.requires.few c.entries.inbox c.entries.invariant.inbox

pub entries-preserved : goal.entries-preserved
entries-preserved c =
    let inbox = c.args.inbox.now in
    let log = c.args.log.now in
    let entry = c.index-log-at.result in
    subst (λ (states : List Knowledge). HasRead inbox.topology inbox.packages inbox.me log (c.entries.at + 1) c.read_entry.new.inbox states)
    (sym c.in_ok-push-2.ensures.ok)
    (reads_on inbox.topology inbox.packages inbox.me log c.entries.at entry c.entries-test.true
    (got log c.entries.at entry c.entries-test.true c.index-log-at.is) c.entries.inbox c.read_entry.new.inbox c.entries.states
    c.in_ok-knowledge_of-2.field-0 c.entries.invariant c.in_ok-read_entry.ensures c.in_ok-knowledge_of-2.ensures)

pub returns-clause-inbox : goal.returns-clause-inbox
returns-clause-inbox c =
    let inbox = c.args.inbox.now in
    (reads_all inbox.topology inbox.packages inbox.me c.args.log.now c.entries.at c.entries.inbox c.entries.states c.entries.invariant c.entries-test.false).0

pub returns-clause-states : goal.returns-clause-states
returns-clause-states c =
    let inbox = c.args.inbox.now in
    (reads_all inbox.topology inbox.packages inbox.me c.args.log.now c.entries.at c.entries.inbox c.entries.states c.entries.invariant c.entries-test.false).1
