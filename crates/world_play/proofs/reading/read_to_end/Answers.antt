use Rattle.std.proofs.Common.{refl, ◌∙◌}
use Rattle.world_play.proofs.Readers.{begins, can_read, reads_on, smaller, ends, slip_list, place_within, past_end}
use Rattle.world_play.proofs.reading.read_to_end.Goals as goal

pub entries-init : goal.entries-init
entries-init c = (refl, begins c.args.node.now (c.args.sequencer.now).list c.requires)

pub read-requires : goal.read-requires
read-requires c =
    let inv = c.entries.invariant in
    let some = c.in-Some.ensures.some in
    can_read c.args.node.now (c.args.sequencer.now).list c.requires c.entries.node inv.1 c.cursor.result c.cursor.ensures (c.in-Some.slip).list
    (place_within _ _ c.cursor.result inv.0 some.0) (slip_list _ _ c.in-Some.slip c.cursor.result inv.0 some.1)

pub entries-smaller : goal.entries-smaller
entries-smaller c =
    let inv = c.entries.invariant in
    let some = c.in-Some.ensures.some in
    smaller c.args.node.now (c.args.sequencer.now).list c.requires c.entries.node inv.1 c.cursor.result c.cursor.ensures (c.in-Some.slip).list
    (place_within _ _ c.cursor.result inv.0 some.0) (slip_list _ _ c.in-Some.slip c.cursor.result inv.0 some.1) c.read.new.self c.in_ok-read.ensures.ok c.in_ok-read.ensures.inbox

pub entries-preserved : goal.entries-preserved
entries-preserved c =
    let inv = c.entries.invariant in
    let some = c.in-Some.ensures.some in (
      c.in-Some.ensures.same ∙ inv.0,
      reads_on c.args.node.now (c.args.sequencer.now).list c.requires c.entries.node inv.1 c.cursor.result c.cursor.ensures (c.in-Some.slip).list
          (place_within _ _ c.cursor.result inv.0 some.0) (slip_list _ _ c.in-Some.slip c.cursor.result inv.0 some.1) c.read.new.self c.in_ok-read.ensures.ok c.in_ok-read.ensures.inbox,
    )

pub returns-clause-ok : goal.returns-clause-ok
returns-clause-ok c =
    let inv = c.entries.invariant in
    ends c.args.node.now (c.args.sequencer.now).list c.requires c.entries.node inv.1 (past_end _ _ c.cursor.result _ inv.0 c.cursor.ensures c.in_default.ensures.none)
