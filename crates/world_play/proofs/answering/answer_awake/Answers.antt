use Rattle.std.proofs.Common.{◌≡◌, ◌≢◌, false, rules, sym, ap, ◌∙◌, subst}
use Rattle.world_model.specs.Messages.{RequestMessage}
use Rattle.world_model.specs.Locks.{SequencerBehind}
use Rattle.world_model.specs.Plain.{HandedIn}
use Rattle.world_model.specs.Sequencing.{append_fault}
use Rattle.prepare_request.specs.declared.submit_fault.SubmitFault.TheVariants as SubmitFault
use Rattle.seq_log.specs.Sequenced.{Sequenced, IsFor}
use Rattle.node_core.specs.Participant.{Participant as NodeValue}
use Rattle.node_core.specs.Preparing.{offered_by}
use Rattle.node_core.specs.declared.submit_result.SubmitResult.TheVariants.{Refused}
use Rattle.world_play.specs.Answering.{AnswersAwake}
use Rattle.node_core.specs.Machines.{offered_in}
use Rattle.world_play.specs.Results.{result_of}
use Rattle.world_play.specs.Parts.{GoesOn, IsParticipant}
use Rattle.world_play.proofs.Awake.{may_prepare, offers_of, refuses, sends, stays_one, whole}
use Rattle.world_play.proofs.Catches.{read_same, reader_same}
use Rattle.world_play.proofs.OwnFaults.{not_paused, own_fault}
use Rattle.world_play.proofs.Sends.{stays}
use Rattle.world_play.proofs.Submits.{if_ok}
use Rattle.world_play.proofs.Turns.{all_long, all_read, reader_is, reads_of}
use Rattle.world_play.proofs.answering.answer_awake.Goals as goal

pub read_to_end-requires : goal.read_to_end-requires
read_to_end-requires g c =
    reads_of c.requires.can.0 c.args.what.now.participant c.args.node.now c.args.sequencer.now (c.requires.can.1).is

pub prepare-requires-clause-valid : goal.prepare-requires-clause-valid
prepare-requires-clause-valid g c =
    (may_prepare c.args.node.now c.args.sequencer.now c.read_to_end.new.node c.in_ok-read_to_end.ensures.ok c.requires.can.0 c.args.what.now
    c.requires.can.1).valid

pub prepare-requires-clause-within : goal.prepare-requires-clause-within
prepare-requires-clause-within g c =
    (may_prepare c.args.node.now c.args.sequencer.now c.read_to_end.new.node c.in_ok-read_to_end.ensures.ok c.requires.can.0 c.args.what.now
    c.requires.can.1).within

pub returns-in_err-read_to_end-clause-on : goal.returns-in_err-read_to_end-clause-on
returns-in_err-read_to_end-clause-on g c =
    let s = c.args.sequencer.now in subst (λ (q : Sequenced). GoesOn s q) (sym c.read_to_end.ensures.same) (stays s)

pub returns-in_err-read_to_end-clause-same : goal.returns-in_err-read_to_end-clause-same
returns-in_err-read_to_end-clause-same g c =
    reader_same c.args.node.now c.read_to_end.new.node (c.args.sequencer.now).list c.read_to_end.ensures.some

pub returns-in_err-read_to_end-clause-flag : goal.returns-in_err-read_to_end-clause-flag
returns-in_err-read_to_end-clause-flag g c =
    ap (λ (x : NodeValue). (x.state).is_paused) (c.read_to_end.ensures.some).is

pub returns-in_err-read_to_end-clause-keeps : goal.returns-in_err-read_to_end-clause-keeps
returns-in_err-read_to_end-clause-keeps g c = λ m p given.
    subst (λ (q : Sequenced). IsParticipant m p c.read_to_end.new.node q) (sym c.read_to_end.ensures.same)
    (reader_is m p c.args.node.now c.args.sequencer.now given c.read_to_end.new.node c.read_to_end.ensures.some)

pub returns-in-Ok-clause-on : goal.returns-in-Ok-clause-on
returns-in-Ok-clause-on g c = subst (λ (q : Sequenced). GoesOn q c.send.new.sequencer) c.read_to_end.ensures.same c.send.ensures.on

pub returns-in-Ok-clause-same : goal.returns-in-Ok-clause-same
returns-in-Ok-clause-same g c =
    read_same c.args.node.now c.read_to_end.new.node (c.args.sequencer.now).list c.in_ok-read_to_end.ensures.ok

pub returns-in-Ok-clause-flag : goal.returns-in-Ok-clause-flag
returns-in-Ok-clause-flag g c = ap (λ (x : NodeValue). (x.state).is_paused) c.in_ok-read_to_end.ensures.ok

pub returns-in-Ok-clause-keeps : goal.returns-in-Ok-clause-keeps
returns-in-Ok-clause-keeps g c = λ m p given.
    let node = c.args.node.now in
    let s = c.args.sequencer.now in
    let after = c.read_to_end.new.node in
    let is = c.in_ok-read_to_end.ensures.ok in
    let next = c.send.new.sequencer in
    let on = subst (λ (q : Sequenced). GoesOn q next) c.read_to_end.ensures.same c.send.ensures.on in
    let behind =
    subst (λ (q : Sequenced). IsFor m q → SequencerBehind m q.list → SequencerBehind m next.list) c.read_to_end.ensures.same (c.send.ensures.behind m) in
    stays_one node s after is m p given next on (behind given.is_for given.behind)

pub returns-in-Ok-clause-answers : goal.returns-in-Ok-clause-answers
returns-in-Ok-clause-answers g c =
    if_ok c.send.result _ _ c.send.ensures.handed_in
    (λ answer h m given.
    let node = c.args.node.now in
    let s = c.args.sequencer.now in
    let what = c.args.what.now in
    let after = c.read_to_end.new.node in
    let is = c.in_ok-read_to_end.ensures.ok in
    let request = c.in-Ok.request in
    let next = c.send.new.sequencer in
    let own = (may_prepare node s after is c.requires.can.0 what c.requires.can.1).own in
    sends node s after is m what c.args.now given request answer next
    (rw c.in-Ok.is at (c.prepare.ensures.wanted (offered_in after.topology after.packages) (whole node s after is) own
    (offers_of node s after is m what.participant given)))
    (subst
    (λ (q : Sequenced). HandedIn c.args.now q.list request (append_fault m q.list (RequestMessage request)) (result_of answer) next.list)
    c.read_to_end.ensures.same (h m c.args.now (subst (IsFor m) (sym c.read_to_end.ensures.same) given.is_for))))

pub returns-in-Err-clause-on : goal.returns-in-Err-clause-on
returns-in-Err-clause-on g c =
    let s = c.args.sequencer.now in subst (λ (q : Sequenced). GoesOn s q) (sym c.read_to_end.ensures.same) (stays s)

pub returns-in-Err-clause-same : goal.returns-in-Err-clause-same
returns-in-Err-clause-same g c =
    read_same c.args.node.now c.read_to_end.new.node (c.args.sequencer.now).list c.in_ok-read_to_end.ensures.ok

pub returns-in-Err-clause-flag : goal.returns-in-Err-clause-flag
returns-in-Err-clause-flag g c = ap (λ (x : NodeValue). (x.state).is_paused) c.in_ok-read_to_end.ensures.ok

pub returns-in-Err-clause-keeps : goal.returns-in-Err-clause-keeps
returns-in-Err-clause-keeps g c = λ m p given.
    let after = c.read_to_end.new.node in
    subst (λ (q : Sequenced). IsParticipant m p after q) (sym c.read_to_end.ensures.same)
    (all_read m p c.args.node.now c.args.sequencer.now given after c.in_ok-read_to_end.ensures.ok)

pub returns-in-Err-Memory-clause-keeps : goal.returns-in-Err-Memory-clause-keeps
returns-in-Err-Memory-clause-keeps g c = λ m p given.
    let after = c.read_to_end.new.node in
    subst (λ (q : Sequenced). IsParticipant m p after q) (sym c.read_to_end.ensures.same)
    (all_read m p c.args.node.now c.args.sequencer.now given after c.in_ok-read_to_end.ensures.ok)

pub returns-in-Err-clause-answers : goal.returns-in-Err-clause-answers
returns-in-Err-clause-answers g c = λ m given.
    let node = c.args.node.now in
    let s = c.args.sequencer.now in
    let what = c.args.what.now in
    let after = c.read_to_end.new.node in
    let is = c.in_ok-read_to_end.ensures.ok in
    let fault = c.in-Err.fault in
    let own = (may_prepare node s after is c.requires.can.0 what c.requires.can.1).own in
    let awake : (after.state).is_paused ≡ false = ap (λ (x : NodeValue). (x.state).is_paused) is ∙ c.requires.awake in
    let some : fault ≢ SubmitFault.Memory = search rules in
    let mine =
    own_fault after what c.args.now awake fault some (rw c.in-Err.is at c.prepare.ensures.exact)
    (c.faults_have_causes.ensures after.topology after.packages after.me (offered_by after) what c.args.now fault) in
    let none =
    (rw c.in-Err.is at (c.prepare.ensures.wanted (offered_in after.topology after.packages) (whole node s after is) own
    (offers_of node s after is m what.participant given))) some (not_paused fault mine) in
    subst
    (λ (q : Sequenced). AnswersAwake m node.topology node.packages c.args.now s.list what (Refused fault c.cursor.result) q.list)
    (sym c.read_to_end.ensures.same)
    (refuses node s after is m what c.args.now given fault c.cursor.result mine none.0 none.1
    (c.cursor.ensures ∙ all_long m what.participant node s given after is))
