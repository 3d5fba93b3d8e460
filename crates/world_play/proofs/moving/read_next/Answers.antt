use Rattle.std.proofs.Common.{refl}
use Rattle.world_play.proofs.Answered.{both_ok}
use Rattle.world_play.proofs.Catches.{reader_same}
use Rattle.world_play.proofs.Happened.{read_past, read_here}
use Rattle.world_play.proofs.Readers.{after_long, begins, can_read, reads_on, slip_list}
use Rattle.world_play.proofs.Turns.{reader_is, reads_of}
use Rattle.world_play.proofs.moving.read_next.Goals as goal

pub read-requires : goal.read-requires
read-requires c =
    let node = c.args.node.now in
    let s = c.args.sequencer.now in
    let reads = reads_of c.requires.0 c.requires.1 node s c.requires.2 in
    let some = c.in-Some.ensures.some in
    can_read node s.list reads node (begins node s.list reads) c.cursor.result c.cursor.ensures (c.in-Some.slip).list some.0
    (slip_list s s c.in-Some.slip c.cursor.result refl some.1)

pub returns-in-Some-clause-same : goal.returns-in-Some-clause-same
returns-in-Some-clause-same c =
    let node = c.args.node.now in
    let s = c.args.sequencer.now in
    let reads = reads_of c.requires.0 c.requires.1 node s c.requires.2 in
    let some = c.in-Some.ensures.some in
    both_ok c.read.result _ _ _ c.read.ensures.ok c.read.ensures.inbox
    (λ step pruned.
    reader_same node c.read.new.self s.list
    (reads_on node s.list reads node (begins node s.list reads) c.cursor.result c.cursor.ensures (c.in-Some.slip).list some.0
    (slip_list s s c.in-Some.slip c.cursor.result refl some.1) c.read.new.self step pruned))

pub returns-in-Some-clause-ok : goal.returns-in-Some-clause-ok
returns-in-Some-clause-ok c =
    let node = c.args.node.now in
    let s = c.args.sequencer.now in
    let reads = reads_of c.requires.0 c.requires.1 node s c.requires.2 in
    let some = c.in-Some.ensures.some in
    let list = slip_list s s c.in-Some.slip c.cursor.result refl some.1 in
    both_ok c.read.result _ _ _ c.read.ensures.ok c.read.ensures.inbox
    (λ step pruned m p given.
    read_here m p node s c.cursor.result c.cursor.ensures given.inbox given.is some.0 c.read.new.self
    (reads_on node s.list reads node (begins node s.list reads) c.cursor.result c.cursor.ensures (c.in-Some.slip).list some.0 list c.read.new.self step
    pruned)
    (after_long node s.list reads node (begins node s.list reads) c.cursor.result c.cursor.ensures (c.in-Some.slip).list some.0 list c.read.new.self step
    pruned))

pub returns-in-Some-clause-inbox : goal.returns-in-Some-clause-inbox
returns-in-Some-clause-inbox c =
    let node = c.args.node.now in
    let s = c.args.sequencer.now in
    let reads = reads_of c.requires.0 c.requires.1 node s c.requires.2 in
    let some = c.in-Some.ensures.some in
    both_ok c.read.result _ _ _ c.read.ensures.ok c.read.ensures.inbox
    (λ step pruned m p given.
    (reader_is m p node s given c.read.new.self
    (reads_on node s.list reads node (begins node s.list reads) c.cursor.result c.cursor.ensures (c.in-Some.slip).list some.0
    (slip_list s s c.in-Some.slip c.cursor.result refl some.1) c.read.new.self step pruned)).inbox)

pub returns-in-None-clause-ok : goal.returns-in-None-clause-ok
returns-in-None-clause-ok c = λ m p given.
    read_past m p c.args.node.now c.args.sequencer.now c.cursor.result c.cursor.ensures given.inbox c.in-None.ensures.none

pub returns-in-None-clause-inbox : goal.returns-in-None-clause-inbox
returns-in-None-clause-inbox c = λ m p given. given.inbox
