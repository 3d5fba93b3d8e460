use Rattle.std.proofs.Common.{◌≡◌, ◌≤◌, ◌∷◌, [], ◌++◌, length, List, Some, false, sym, ap, ◌∙◌, subst, arith}
use Rattle.std.proofs.lemmas.List.{length-append}
use Rattle.std.specs.Prelude.{IfSome}
use Rattle.world_model.specs.Messages.{Entry, RequestMessage}
use Rattle.ledger_model.specs.Terms.{ParticipantId}
use Rattle.prepare_request.specs.declared.submit_fault.SubmitFault.{SubmitFault}
use Rattle.threads_model.specs.Clients.{ClientStep}
use Rattle.threads_model.proofs.Begins.{begins_length}
use Rattle.world_model.specs.Locks.{SequencerBehind}
use Rattle.world_model.specs.Rounds.{SubmitResult}
use Rattle.world_model.specs.Places.{has_place}
use Rattle.world_model.specs.Sequencing.{append_fault, entry_after}
use Rattle.seq_log.specs.Sequenced.{cause_of}
use Rattle.sync_shared.specs.Slips.{read_to}
use Rattle.sync_shared.specs.Answers.{fault_of, refused_at, seen_after}
use Rattle.sync_shared.proofs.Handing.{hand_sent, hand_refused, is_appended, is_in_time, is_of_framed, refused_genuine}
use Rattle.sync_shared.proofs.submitting.hand_in.Goals as goal

pub of-requires : goal.of-requires
of-requires g c =
    let e = c.in-Ok.ensures.ok in
    let now = c.args.now in
    let told : c.again.new.self.list ≡ c.append.new.self = ap (λ p. p.list) c.again.ensures.same ∙ e.3 in
    let is =
    subst (λ (xs : List Entry). c.again.new.self.list ≡ xs ++ entry_after now xs (RequestMessage c.args.request) ∷ []) c.reaches.ensures.same.1 (told ∙ e.1) in
    let me = c.requires.mine.2 ∙ sym (c.participant-me.ensures.me ∙ c.requires.mine.1) in
    (length c.args.log.now, is_appended now c.args.log.now c.again.new.self.list c.args.request c.participant-me.result is me)

pub returns-in-Ok-clause-step : goal.returns-in-Ok-clause-step
returns-in-Ok-clause-step g c paused awake =
    let r = c.reaches.ensures in
    let e = c.in-Ok.ensures.ok in
    let now = c.args.now in
    let t = c.of.ensures in
    let told : c.again.result.list ≡ c.append.new.self = ap (λ p. p.list) c.again.ensures.again ∙ e.3 in
    let is = subst (λ (xs : List Entry). c.again.result.list ≡ xs ++ entry_after now xs (RequestMessage c.args.request) ∷ []) r.same.1 (told ∙ e.1) in
    let slip : c.again.result.list ≡ c.of.result.list = ap (λ p. p.list) (c.again.ensures.again ∙ sym c.again.ensures.same) ∙ sym t.slip.1 in
    hand_sent g.S.Session.machine g.S.Session.why now c.args.client.now.list c.args.node.now c.args.log.now c.args.what.now g.row.I c.args.request
    c.requires.mine.0 c.requires.knows r.begins c.requires.wanted c.again.result.list c.of.result.read_to
    (t.given.0 ∙ (c.cursor-read_to.ensures.cursor ∙ ap length r.same.0)) paused awake c.of.result.place is (ap length slip ∙ t.request.last)

pub returns-in-Ok-clause-base : goal.returns-in-Ok-clause-base
returns-in-Ok-clause-base g c =
    let r = c.reaches.ensures in
    let e = c.in-Ok.ensures.ok in
    let now = c.args.now in
    let t = c.of.ensures in
    let log = c.args.log.now in
    let told : c.again.result.list ≡ c.append.new.self = ap (λ p. p.list) c.again.ensures.again ∙ e.3 in
    let is = subst (λ (xs : List Entry). c.again.result.list ≡ xs ++ entry_after now xs (RequestMessage c.args.request) ∷ []) r.same.1 (told ∙ e.1) in
    let slip : c.again.result.list ≡ c.of.result.list = ap (λ p. p.list) (c.again.ensures.again ∙ sym c.again.ensures.same) ∙ sym t.slip.1 in
    let total = ap length (sym slip ∙ is) in
    let long = length-append log (entry_after now log (RequestMessage c.args.request) ∷ []) in
    let last = t.request.last in
    let base = c.cursor-read_to.ensures.base in
    let read : c.cursor-read_to.result ≡ length c.args.node.now = c.cursor-read_to.ensures.cursor ∙ ap length r.same.0 in
    let begins = begins_length c.args.node.now log r.begins in
    subst (λ (i : ParticipantId). g.S.Session.bases i ≤ c.of.result.place) (sym c.requires.mine.1)
    (omega (arith, base, read, begins, total, long, last))

pub told-requires : goal.told-requires
told-requires g c =
    let m = g.S.Session.machine in
    let cause = c.in-Err.ensures.cause in
    record {
      in_time = is_in_time m c.reaches.new.log c.args.request c.in-Err.fault cause;
      framed = is_of_framed m c.reaches.new.log c.args.request c.in-Err.fault cause c.requires.framed;
    }

pub returns-in-Err-clause-step : goal.returns-in-Err-clause-step
returns-in-Err-clause-step g c =
    let r = c.reaches.ensures in
    let e = c.in-Err.ensures in
    let m = g.S.Session.machine in
    let fault = c.in-Err.fault in
    let seen : read_to c.client.inside.last ≡ c.args.client.now.list = ap (λ s. s.list) c.client.view_is in
    let log : c.append.new.self ≡ c.args.log.now = e.err ∙ r.same.1 in
    let cause =
    subst (λ (xs : List Entry). IfSome (cause_of fault) (λ k. append_fault m xs (RequestMessage c.args.request) ≡ Some k)) r.same.1 e.cause in
    let list : c.told.new.client.list ≡ seen_after fault c.args.client.now.list c.args.log.now =
    c.told.ensures.list
    ∙ (ap (λ (xs : List Entry). seen_after fault xs c.append.new.self) seen ∙ ap (seen_after fault c.args.client.now.list) log) in
    subst (λ (f : SubmitFault). IfSome (refused_at c.cursor-read_to.result (fault_of f)) (λ x. (paused : List ParticipantId)
    → has_place paused c.args.what.now.participant ≡ false
    → ClientStep m g.S.Session.why c.args.now paused c.args.client.now.list c.args.what.now x c.told.new.client.list)) (sym c.told.ensures.fault)
    (hand_refused m g.S.Session.why c.args.now c.args.client.now.list c.args.node.now c.args.log.now c.args.what.now g.row.I c.args.request
    c.requires.mine.0 c.requires.knows r.begins c.requires.wanted c.told.new.client.list c.cursor-read_to.result
    (c.cursor-read_to.ensures.cursor ∙ ap length r.same.0) fault cause list)

pub returns-in-Ok-clause-genuine : goal.returns-in-Ok-clause-genuine
returns-in-Ok-clause-genuine g c =
    let told : c.again.result.list ≡ c.append.new.self = ap (λ p. p.list) c.again.ensures.again ∙ c.in-Ok.ensures.ok.3 in
    subst (SequencerBehind g.S.Session.machine) (sym told) c.append.ensures.genuine

pub returns-in-Err-clause-genuine : goal.returns-in-Err-clause-genuine
returns-in-Err-clause-genuine g c =
    let m = g.S.Session.machine in
    let fault = c.in-Err.fault in
    let list = c.told.new.client.list in
    subst
    (λ (f : SubmitFault). IfSome (refused_at c.cursor-read_to.result (fault_of f)) (λ (r : SubmitResult SubmitFault). SequencerBehind m list))
    (sym c.told.ensures.fault)
    (refused_genuine m fault (read_to c.client.inside.last) c.append.new.self list c.cursor-read_to.result c.told.ensures.list c.append.ensures.genuine)
