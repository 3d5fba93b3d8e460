use Rattle.std.proofs.Common.{◌≡◌, refl, sym, subst}
use Rattle.canton_model.specs.Inbox.{notice_at}
use Rattle.node_core.specs.Participant.{Participant as NodeValue, items_of, owed_there}
use Rattle.world_play.proofs.Readers.{begins, can_read, slip_list}
use Rattle.world_play.proofs.Turns.{reads_of}
use Rattle.layer_cases.proofs.LateJobs.{owed_as_before, received_as_before, read_or_same}
use Rattle.layer_cases.proofs.world.late_jobs.read_on.Goals as goal

pub read-requires : goal.read-requires
read-requires c =
    let node = c.args.node.now in
    let s = c.args.sequencer.now in
    let reads = reads_of c.requires.0 c.requires.1 node s c.requires.2 in
    let some = c.in-Some.ensures.some in
    can_read node s.list reads node (begins node s.list reads) c.cursor.result c.cursor.ensures (c.in-Some.slip).list some.0
    (slip_list s s c.in-Some.slip c.cursor.result refl some.1)

pub returns-in-Some-clause-verdicts : goal.returns-in-Some-clause-verdicts
returns-in-Some-clause-verdicts c = λ k within.
    let node = c.args.node.now in
    let s = c.args.sequencer.now in
    let reads = reads_of c.requires.0 c.requires.1 node s c.requires.2 in
    let some = c.in-Some.ensures.some in
    read_or_same _ _ c.read.result c.read.ensures.ok c.read.ensures.err _
    (λ step.
    owed_as_before node s.list reads c.cursor.result c.cursor.ensures (c.in-Some.slip).list some.0
    (slip_list s s c.in-Some.slip c.cursor.result refl some.1) c.read.new.self step k within)
    (λ same. subst (λ (x : NodeValue). owed_there x k ≡ owed_there node k) (sym same) refl)

pub returns-in-Some-clause-received : goal.returns-in-Some-clause-received
returns-in-Some-clause-received c = λ k within.
    let node = c.args.node.now in
    let s = c.args.sequencer.now in
    let reads = reads_of c.requires.0 c.requires.1 node s c.requires.2 in
    let some = c.in-Some.ensures.some in
    read_or_same _ _ c.read.result c.read.ensures.ok c.read.ensures.err _
    (λ step.
    received_as_before node s.list reads c.cursor.result c.cursor.ensures (c.in-Some.slip).list some.0
    (slip_list s s c.in-Some.slip c.cursor.result refl some.1) c.read.new.self step k within)
    (λ same. subst (λ (x : NodeValue). notice_at (items_of x) k ≡ notice_at (items_of node) k) (sym same) refl)
