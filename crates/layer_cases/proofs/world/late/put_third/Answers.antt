use Rattle.std.proofs.Common.{◌<◌, ◌∙◌, ℕ, length, sym, ap, subst}
use Rattle.node_core.specs.Participant.{items_of, owed_there}
use Rattle.layer_cases.proofs.world.late.put_third.Goals as goal

pub read_on-requires : goal.read_on-requires
read_on-requires c =
    let r = c.requires.node in
    let s = c.args.sequencer.now in
    (r.0, r.1, c.claimed.ensures.stands r.0 r.1 s (c.give_up.ensures r.0 r.1 s r.2))

pub put_end-requires : goal.put_end-requires
put_end-requires c =
    let node = c.claimed.new.node in
    let done = c.in_ok-done.ensures in
    let read = subst (λ (k : ℕ). k < length (items_of node)) (sym done.place) (rw c.in-Some.is at c.in_ok-job.ensures.read) in
    done.verdicts ∙ ((rw c.in-Some.is at c.in_ok-job.ensures.verdicts)
    ∙ (ap (owed_there node) (sym done.place) ∙ sym (c.read_on.ensures.verdicts c.in_ok-done.done.place read)))
