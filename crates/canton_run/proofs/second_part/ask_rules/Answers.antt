use Rattle.std.proofs.Common.{◌≡◌, [], refl, sym, ap, ◌∙◌, subst, arith}
use Rattle.seq_log.specs.Sequenced.{Sequenced}
use Rattle.trigger_rules.specs.Kept.{fired_by}
use Rattle.world_play.specs.Flags.{HaveAwakeRead}
use Rattle.world_play.proofs.Submits.{if_ok}
use Rattle.canton_run.specs.Answered.{round_of}
use Rattle.canton_run.specs.Parts.{second_of}
use Rattle.canton_run.proofs.Asked.{have_room, sees}
use Rattle.canton_run.proofs.second_part.ask_rules.Goals as goal

pub begin_round-requires-clause-time : goal.begin_round-requires-clause-time
begin_round-requires-clause-time g c = let at = c.requires.time in omega (arith, at)

pub begin_round-requires-clause-lawful : goal.begin_round-requires-clause-lawful
begin_round-requires-clause-lawful g c = let r = c.requires.askable in (r.0, r.1, r.2, r.3)

pub read_awake-requires : goal.read_awake-requires
read_awake-requires g c =
    let r = c.requires.askable in
    let b = c.in_ok-begin_round.ensures.lawful r.0 r.1 r.2 r.3 in record { lawful = (r.0, r.1, b.0, b.1) }

pub fire_each-requires-clause-few : goal.fire_each-requires-clause-few
fire_each-requires-clause-few g c = (c.requires.askable.4).few

pub fire_each-requires-clause-room : goal.fire_each-requires-clause-room
fire_each-requires-clause-room g c =
    let r = c.requires.askable in
    let b = c.in_ok-begin_round.ensures in
    let q = c.in_ok-read_awake.ensures in
    let one = b.lawful r.0 r.1 r.2 r.3 in
    let last = c.read_awake.new.self in
    let quiet = round_of (second_of c.args.round.now []) in
    have_room r.0 r.1 c.args.world.now last c.args.rules.now.rules (fired_by c.args.rules.now) c.args.round.now.paused r.4 r.3 (q.is r.0 r.1 one.0)
    (q.lawful r.0 r.1 one.0 one.1) (ap (λ (s : Sequenced). s.list) q.log ∙ b.log r.0 r.1 quiet r.2 refl)
    (subst (λ (s : Sequenced). HaveAwakeRead s.list (last.nodes).items) (sym q.log) q.ok) (q.paused c.args.round.now.paused b.paused)
    c.args.rules.now refl refl

pub returns-clause-asked : goal.returns-clause-asked
returns-clause-asked g c =
    let b = c.in_ok-begin_round.ensures in
    let q = c.in_ok-read_awake.ensures in
    let world = c.args.world.now in
    let last = c.read_awake.new.self in
    let quiet = round_of (second_of c.args.round.now []) in
    if_ok c.fire_each.result _ _ c.fire_each.ensures.asked
    (λ caused h m state fired earlier is lawful can number now paused end named so.
    let one = b.lawful m state is lawful in
    let time : fired.now ≡ last.now = let first = b.now in let then_ = q.now in omega (arith, now, first, then_) in
    h m.reading m.params (world.sequencer).list fired earlier number time named
    (sees m state world last c.args.rules.now.rules (fired_by c.args.rules.now) c.args.round.now.paused can lawful (q.is m state one.0)
    (q.lawful m state one.0 one.1) (ap (λ (s : Sequenced). s.list) q.log ∙ b.log m state quiet is refl)
    (subst (λ (s : Sequenced). HaveAwakeRead s.list (last.nodes).items) (sym q.log) q.ok) (q.paused c.args.round.now.paused b.paused) fired paused end)
    so)

pub returns-clause-log : goal.returns-clause-log
returns-clause-log g c =
    let r = c.requires.askable in
    let quiet = round_of (second_of c.args.round.now []) in
    if_ok c.fire_each.result _ _ c.fire_each.ensures.asked
    (λ caused h. ap (λ (s : Sequenced). s.list) c.in_ok-read_awake.ensures.log ∙ c.in_ok-begin_round.ensures.log r.0 r.1 quiet r.2 refl)

pub returns-clause-set_up : goal.returns-clause-set_up
returns-clause-set_up g c =
    if_ok c.fire_each.result _ _ c.fire_each.ensures.asked
    (λ caused h topology packages set_up.
    c.in_ok-read_awake.ensures.set_up topology packages (c.in_ok-begin_round.ensures.set_up topology packages set_up))

pub returns-clause-paused : goal.returns-clause-paused
returns-clause-paused g c =
    if_ok c.fire_each.result _ _ c.fire_each.ensures.asked
    (λ caused h. c.in_ok-read_awake.ensures.paused c.args.round.now.paused c.in_ok-begin_round.ensures.paused)

pub returns-clause-bases : goal.returns-clause-bases
returns-clause-bases g c =
    if_ok c.fire_each.result _ _ c.fire_each.ensures.asked
    (λ caused h bases had. c.in_ok-read_awake.ensures.bases bases (c.in_ok-begin_round.ensures.bases bases had))
