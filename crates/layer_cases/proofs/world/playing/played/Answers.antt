use Rattle.world_play.specs.Events.{events_of}
use Rattle.node_core.specs.Machines.{machine_of, offered_in}
use Rattle.layer_cases.proofs.Worlds.{lawful}
use Rattle.layer_cases.proofs.world.playing.played.Goals as goal

pub put_end-put-requires : goal.put_end-put-requires
put_end-put-requires c =
    let t = c.args.setup.now.topology in
    let p = c.args.setup.now.checked in
    let m = machine_of t p 20480 in
    let w = c.in_ok-world.ensures.played in
    let machine = c.prepared_requests_make_a_machine.ensures t p 20480 (offered_in t p) in
    (m, w.0, w.1, lawful m machine (events_of c.args.plan.now.events) _ w.2)

pub put_late_in-put-requires : goal.put_late_in-put-requires
put_late_in-put-requires c =
    let t = c.args.setup.now.topology in
    let p = c.args.setup.now.checked in
    let m = machine_of t p 20480 in
    let w = c.in_ok-world.ensures.played in
    let machine = c.prepared_requests_make_a_machine.ensures t p 20480 (offered_in t p) in
    (m, w.0, w.1, lawful m machine (events_of c.args.plan.now.events) _ w.2)
