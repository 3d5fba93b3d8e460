use Rattle.std.proofs.Common.{◌≡◌, max, Bool, true, false, ◌&&◌, length, sym, ap, ◌∙◌}
use Rattle.canton_model.specs.Inbox.{is_decided_in}
use Rattle.node_inbox.specs.InboxState.{params_of}
use Rattle.node_inbox.proofs.NextBase.{since_found, unsettled}
use Rattle.node_inbox.proofs.inbox.Inbox.since_decided.Goals as goal

pub returns-then-not-is_decided : goal.returns-then-not-is_decided
returns-then-not-is_decided c =
    let i = c.args.self.now in
    let undecided : is_decided_in (params_of i) i.items c.args.place (length i.items) ≡ false =
    sym (ap (λ (b : Bool). b && is_decided_in (params_of i) i.items c.args.place (length i.items)) c.requires.received) ∙ (sym c.is_decided.ensures ∙ c.if-not-is_decided.true) in
    unsettled (params_of i) i.items c.args.place c.requires.received undecided

pub returns : goal.returns
returns c =
    let i = c.args.self.now in
    let decided : is_decided_in (params_of i) i.items c.args.place (length i.items) ≡ true =
    sym (ap (λ (b : Bool). b && is_decided_in (params_of i) i.items c.args.place (length i.items)) c.requires.received) ∙ (sym c.is_decided.ensures ∙ c.if-not-is_decided.false) in
    since_found (params_of i) i.items c.args.place c.args.since c.later_of.result c.requires.within c.requires.received decided
    (c.later_of.ensures ∙ ap (max c.args.since) c.decided_since-later.ensures)
