use Rattle.std.proofs.Common.{◌≡◌, ◌+◌, ℕ, List, true, length, take, sym, ap, ◌∙◌, subst, arith}
use Rattle.std.specs.Prelude.{nat_lt, ◌&&◌}
use Rattle.world_model.specs.Machine.{Machine, GenuineLog}
use Rattle.world_model.specs.Settled.{is_due}
use Rattle.seq_log.specs.OpenRequests.{is_open}
use Rattle.seq_log.specs.Sequenced.{Sequenced, IsFor}
use Rattle.node_core.specs.Participant.{Participant as NodeValue}
use Rattle.world_play.specs.Parts.{IsParticipant}
use Rattle.world_play.proofs.Resumes.{IsResumer, all_taken, may_put_back, one_more, open_at, open_of, open_passes, within_open}
use Rattle.world_play.proofs.Resumes.{resumer_on, resumer_past, resumer_ends}
use Rattle.world_play.proofs.resuming.resume_node.Goals as goal
use Rattle.world_play.proofs.resuming.resume_node.Goals.{then-must_resume, else-must_resume}

pub index-place-requires : goal.index-place-requires
index-place-requires c =
    let s = c.args.sequencer.now in
    let inv = c.places.invariant in
    let within =
    within_open s c.places.sequencer inv.0 c.open_requests.result.now.items c.open_requests-in-places.result.now.items c.open_requests.ensures
    c.open_requests-in-places.ensures c.places.number c.len-number-end.result _ c.places-test.true c.len-number-end.ensures c.open_requests.result.now.ok.0 in
    let fits = c.open_requests-in-places.result.now.ok.0 in
    omega (arith, within, fits)

pub must_resume-requires : goal.must_resume-requires
must_resume-requires c =
    let s = c.args.sequencer.now in
    let inv = c.places.invariant in
    let place = c.index-place.result.now in
    let within =
    within_open s c.places.sequencer inv.0 c.open_requests.result.now.items c.open_requests-in-places.result.now.items c.open_requests.ensures
    c.open_requests-in-places.ensures c.places.number c.len-number-end.result _ c.places-test.true c.len-number-end.ensures c.open_requests.result.now.ok.0 in
    let there =
    open_at s c.places.sequencer inv.0 c.open_requests-in-places.result.now.items c.open_requests-in-places.ensures c.places.number place
    within c.index-place.ensures in
    subst (λ (q : Sequenced). is_open (q.topology).params q.list place ≡ true) (sym inv.0) (open_passes s c.places.number place there)

pub put_back-requires : goal.put_back-requires
put_back-requires c =
    let inv = c.places.invariant in
    let place = c.index-place.result.now in
    may_put_back c.args.at c.args.node.now c.args.sequencer.now c.places.node (take c.places.number (open_of c.args.sequencer.now)) inv.1 place
    c.must_resume.result
    (λ m given.
    subst (λ (q : Sequenced). c.must_resume.result ≡ (is_due m q.list c.args.at place && nat_lt place (length (c.places.node.state).items))) inv.0
    (c.must_resume.ensures.test m given.is_reading (subst (IsFor m) (sym inv.0) given.is_for)
    (subst (λ (q : Sequenced). GenuineLog m q.list) (sym inv.0) (given.behind).genuine)))
    c.if-must_resume.true c.requires.0 c.requires.1

pub places-preserved : goal.places-preserved
places-preserved c =
    let s = c.args.sequencer.now in
    let first = c.args.node.now in
    let at = c.args.at in
    let node = c.places.node in
    let number = c.places.number in
    let places = take number (open_of s) in
    let inv = c.places.invariant in
    let place = c.index-place.result.now in
    let within =
    within_open s c.places.sequencer inv.0 c.open_requests.result.now.items c.open_requests-in-places.result.now.items c.open_requests.ensures
    c.open_requests-in-places.ensures c.places.number c.len-number-end.result _ c.places-test.true c.len-number-end.ensures c.open_requests.result.now.ok.0 in
    let there =
    open_at s c.places.sequencer inv.0 c.open_requests-in-places.result.now.items c.open_requests-in-places.ensures number place
    within c.index-place.ensures in
    let more = one_more s number place there in
    let test : (m : Machine) → IsParticipant m at first s
    → c.must_resume.result ≡ (is_due m s.list at place && nat_lt place (length (node.state).items)) =
    λ m given.
    subst (λ (q : Sequenced). c.must_resume.result ≡ (is_due m q.list at place && nat_lt place (length (node.state).items))) inv.0
    (c.must_resume.ensures.test m given.is_reading (subst (IsFor m) (sym inv.0) given.is_for)
    (subst (λ (q : Sequenced). GenuineLog m q.list) (sym inv.0) (given.behind).genuine)) in (
      c.must_resume.ensures.same ∙ inv.0,
      elim c.if-must_resume.branch [
        | then-must_resume w ↦
            subst (λ (x : NodeValue). IsResumer at first s x (take (number + 1) (open_of s))) (sym w.node-is)
            (subst (λ (xs : List ℕ). IsResumer at first s w.put_back.new.self xs) more
            (resumer_on at first s node places inv.1 place c.must_resume.result test w.if-must_resume.true w.put_back.new.self w.put_back.ensures))
        | else-must_resume w ↦
            subst (λ (x : NodeValue). IsResumer at first s x (take (number + 1) (open_of s))) (sym w.node-is)
            (subst (λ (xs : List ℕ). IsResumer at first s node xs) more
            (resumer_past at first s node places inv.1 place c.must_resume.result test w.if-must_resume.false))
      ],
    )

pub returns-clause-inbox : goal.returns-clause-inbox
returns-clause-inbox c = c.places.invariant.1.inbox

pub returns-clause-resumed : goal.returns-clause-resumed
returns-clause-resumed c = λ m given.
    let s = c.args.sequencer.now in
    let out = c.places-test.false in
    let end = c.len-number-end.ensures in
    let before = c.open_requests.result.now.ok.0 in
    let was = ap length c.open_requests.ensures in
    let inv = c.places.invariant in
    resumer_ends c.args.at c.args.node.now s c.places.node (take c.places.number (open_of s)) inv.1
    (all_taken s c.places.number (omega (arith, out, end, before, was))) m given
