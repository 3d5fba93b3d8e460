use Rattle.std.proofs.Common.{sym, subst}
use Rattle.seq_log.specs.Sequenced.{Sequenced}
use Rattle.node_core.specs.OverLog.{HasInbox, inbox_over}
use Rattle.world_play.specs.declared.moving.NodeMove.{NodeMove}
use Rattle.world_play.specs.Moves.{Happens, event_at}
use Rattle.world_play.proofs.Answered.{on_ok, three_ok}
use Rattle.world_play.proofs.Happened.{inbox_after, inbox_paused, validate_is}
use Rattle.world_play.proofs.moving.move_once.Goals as goal

pub returns-in-Read-clause-inbox : goal.returns-in-Read-clause-inbox
returns-in-Read-clause-inbox g c =
    let after = c.read_next.new.node in
    on_ok c.read_next.result _ _ c.read_next.ensures.inbox
    (λ inbox m p given. subst (λ (q : Sequenced). HasInbox (inbox_over q.list after) after) (sym c.read_next.ensures.log) (inbox m p given))

pub returns-in-Validate-clause-ok : goal.returns-in-Validate-clause-ok
returns-in-Validate-clause-ok g c =
    let node = c.args.node.now in
    let s = c.args.sequencer.now in
    let after = c.validate_next.new.node in
    three_ok c.validate_next.result _ _ _ _ c.validate_next.ensures.same c.validate_next.ensures.items c.validate_next.ensures.ok
    (λ same items ok m p given.
    subst (λ (action : NodeMove). Happens m p (event_at action p) node s after s) (sym c.in-Validate.is)
    (validate_is m p node s given.is given.inbox after same items ok))

pub returns-in-Validate-clause-inbox : goal.returns-in-Validate-clause-inbox
returns-in-Validate-clause-inbox g c =
    let node = c.args.node.now in
    let s = c.args.sequencer.now in
    let after = c.validate_next.new.node in
    three_ok c.validate_next.result _ _ _ _ c.validate_next.ensures.same c.validate_next.ensures.items c.validate_next.ensures.inbox
    (λ same items keeps m p given. inbox_after m p node s given.is given.inbox after same items keeps)

pub returns-in-LoseReply-clause-inbox : goal.returns-in-LoseReply-clause-inbox
returns-in-LoseReply-clause-inbox g c =
    on_ok c.lose_reply.result _ _ c.lose_reply.ensures.inbox (λ inbox m p given. inbox m p c.args.sequencer.now given)

pub returns-in-Pause-clause-inbox : goal.returns-in-Pause-clause-inbox
returns-in-Pause-clause-inbox g c = λ m p given.
    inbox_paused m p c.args.node.now c.args.sequencer.now given.is given.inbox c.set_paused.new.self _ c.set_paused.ensures
