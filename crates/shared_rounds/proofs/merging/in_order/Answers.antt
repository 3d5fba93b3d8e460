use Rattle.std.proofs.Common.{◌≡◌, ◌<◌, List, Some, sym, ap, ◌∙◌, subst, arith}
use Rattle.std.specs.Prelude.{All, length}
use Rattle.ledger_terms.specs.declared.submission.Submission.{Submission}
use Rattle.node_core.specs.declared.submit_result.SubmitResult.{SubmitResult}
use Rattle.world_play.proofs.Passing.{item_at}
use Rattle.world_play.proofs.Plays.{each_of}
use Rattle.shared_rounds.proofs.Queued.{AreInOrder, none_in_order, has_next, next_in_order}
use Rattle.shared_rounds.proofs.merging.in_order.Goals as goal

pub submits-init : goal.submits-init
submits-init c =
    let queues = c.args.queues.items in
    let submits = c.args.submits.now in
    let there = subst (λ (n : _). All (λ (what : Submission). what.participant < n) submits) c.args.queues.ok.0 c.requires.there in
    subst (λ (rs : List SubmitResult). AreInOrder submits queues queues 0 rs) (sym c.new-results.ensures)
    (none_in_order submits queues c.requires.queues there)

pub unreachable-requires : goal.unreachable-requires
unreachable-requires c =
    let submits = c.args.submits.now in
    let k = c.submits.what-index in
    let what = c.what-item.result in
    let at = item_at submits k what c.submits-test.true ∙ ap Some (sym c.what-item.is) in
    let there = each_of (λ (w : Submission). w.participant < c.args.queues.len) submits k what c.requires.there at in
    let count = c.args.queues.ok.0 in
    let inv = c.submits.invariant in
    let hosts = inv.hosts in
    has_next submits c.args.queues.items c.submits.queues.items k c.submits.results inv what at (omega (arith, there, count, hosts))
    c.in_default.ensures.none

pub submits-preserved : goal.submits-preserved
submits-preserved c =
    let submits = c.args.submits.now in
    let k = c.submits.what-index in
    let what = c.what-item.result in
    let at = item_at submits k what c.submits-test.true ∙ ap Some (sym c.what-item.is) in
    let there = each_of (λ (w : Submission). w.participant < c.args.queues.len) submits k what c.requires.there at in
    let count = c.args.queues.ok.0 in
    let inv = c.submits.invariant in
    let hosts = inv.hosts in
    let same : length c.next_of.new.queues.items ≡ length c.submits.queues.items =
    sym c.next_of.new.queues.ok.0 ∙ (c.next_of.ensures.many ∙ c.submits.queues.ok.0) in
    next_in_order submits c.args.queues.items c.submits.queues.items k c.submits.results inv what at (omega (arith, there, count, hosts))
    c.in-Some.first c.next_of.new.queues.items c.in-Some.ensures.some c.in-Some.ensures.others same c.push.new.self c.in_ok-push.ensures.ok
