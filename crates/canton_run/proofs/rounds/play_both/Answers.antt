use Rattle.std.proofs.Common.{◌≡◌, ◌≤◌, ◌+◌, ◌++◌, ◌∷◌, [], ℕ, List, ap, append_assoc, arith, length, refl, subst, sym, take, ◌∙◌}
use Rattle.seq_log.specs.Sequenced.{Sequenced}
use Rattle.trigger_rules.specs.Kept.{fired_by}
use Rattle.trigger_rules.specs.declared.caused.Caused.{Caused}
use Rattle.world_restart.specs.Restarting.{bases_after}
use Rattle.canton_run.specs.Parts.{parts_in}
use Rattle.canton_run.specs.Restarts.{ArePrunedBy}
use Rattle.canton_run.specs.Run.{machine_for, params_of, reading_for, script_with}
use Rattle.canton_run.proofs.AtIndex.{at_index}
use Rattle.canton_run.proofs.BothParts.{begins_short, both_are_played, can_ask, caused_there, caused_within, fired_now, first_in_time, in_time, is_part, log_is_more, none_asked}
use Rattle.canton_run.proofs.PlaysOn.{next as next_rounds}
use Rattle.canton_run.proofs.Restarts.{one_round_more, rounds_stay}
use Rattle.canton_run.proofs.rounds.play_both.Goals as goal

pub restart-requires-clause-hosts : goal.restart-requires-clause-hosts
restart-requires-clause-hosts g c =
    let few : length (c.args.plan.now).setup.now.topology.hosts ≤ 8 = (c.requires.accepted.topology).few_hosts in omega (arith, few)

pub restart-requires-clause-short : goal.restart-requires-clause-short
restart-requires-clause-short g c =
    let plan = c.args.plan.now in
    let rules = c.args.rules.now in
    let may = g.A.Answering.may_answer rules.answer in
    let script = script_with plan.setup.now rules.rules plan.rounds.now in
    let round = c.index-as_slice-number.result in
    let at = at_index c.as_slice.result.now plan.rounds.now c.args.number round c.as_slice.ensures c.requires.there c.index-as_slice-number.is in
    let old = c.args.played.answers in
    begins_short may script c.requires.accepted plan.capacity c.args.workers.now.count c.args.number c.requires.room round at old.caused
    c.args.played.world old.results old.ends c.requires.played.parts

pub restart-requires-clause-set_up : goal.restart-requires-clause-set_up
restart-requires-clause-set_up g c = c.requires.played.parts.set_up

pub restart-requires-clause-lawful : goal.restart-requires-clause-lawful
restart-requires-clause-lawful g c =
    let plan = c.args.plan.now in
    let p = c.requires.played.parts in
    (machine_for (script_with plan.setup.now c.args.rules.now.rules plan.rounds.now) plan.capacity, p.state, p.is, p.lawful)

pub play_round-requires-clause-played : goal.play_round-requires-clause-played
play_round-requires-clause-played g c κs within =
    let plan = c.args.plan.now in
    let rules = c.args.rules.now in
    let may = g.A.Answering.may_answer rules.answer in
    let script = script_with plan.setup.now rules.rules plan.rounds.now in
    let accepted = c.requires.accepted in
    let k = c.args.number in
    let n = c.args.workers.now.count in
    let room = c.requires.room in
    let round = c.index-as_slice-number.result in
    let at = at_index c.as_slice.result.now plan.rounds.now k round c.as_slice.ensures c.requires.there c.index-as_slice-number.is in
    let w0 = c.restart.new.world in
    let old = c.args.played.answers in
    let r = c.in_ok-restart.ensures in
    let p = rounds_stay script plan.capacity n c.args.played.world w0 r.log r.now r.lawful r.set_up may k (fired_by rules) old.results old.ends old.caused c.requires.played in
    let had = parts_in 0 (take k script.rounds) old.caused in
    let part = is_part may script accepted plan.capacity n k room round at in
    let fits = in_time may script accepted plan.capacity n k room round at old.caused in
    (script, plan.capacity, had, refl, part, fits, p.parts)

pub ask_rules-requires-clause-time : goal.ask_rules-requires-clause-time
ask_rules-requires-clause-time g c =
    let plan = c.args.plan.now in
    let rules = c.args.rules.now in
    let may = g.A.Answering.may_answer rules.answer in
    let script = script_with plan.setup.now rules.rules plan.rounds.now in
    let accepted = c.requires.accepted in
    let k = c.args.number in
    let n = c.args.workers.now.count in
    let room = c.requires.room in
    let round = c.index-as_slice-number.result in
    let at = at_index c.as_slice.result.now plan.rounds.now k round c.as_slice.ensures c.requires.there c.index-as_slice-number.is in
    let w0 = c.restart.new.world in
    let old = c.args.played.answers in
    let r = c.in_ok-restart.ensures in
    let p = rounds_stay script plan.capacity n c.args.played.world w0 r.log r.now r.lawful r.set_up may k (fired_by rules) old.results old.ends old.caused c.requires.played in
    let had = parts_in 0 (take k script.rounds) old.caused in
    let part = is_part may script accepted plan.capacity n k room round at in
    let fits = in_time may script accepted plan.capacity n k room round at old.caused in
    let w1 = c.in_ok-world.world in
    let one = c.play_round.new.answers in
    let f = c.in_ok-world.ensures.on script plan.capacity had refl part fits p.parts in
    let ids = fired_by rules in
    first_in_time may script accepted plan.capacity n k room round at old.caused w0 w1 ids old.results one.results old.ends one.ends p f

pub ask_rules-requires-clause-askable : goal.ask_rules-requires-clause-askable
ask_rules-requires-clause-askable g c =
    let plan = c.args.plan.now in
    let rules = c.args.rules.now in
    let may = g.A.Answering.may_answer rules.answer in
    let script = script_with plan.setup.now rules.rules plan.rounds.now in
    let accepted = c.requires.accepted in
    let k = c.args.number in
    let n = c.args.workers.now.count in
    let room = c.requires.room in
    let round = c.index-as_slice-number.result in
    let at = at_index c.as_slice.result.now plan.rounds.now k round c.as_slice.ensures c.requires.there c.index-as_slice-number.is in
    let w0 = c.restart.new.world in
    let old = c.args.played.answers in
    let r = c.in_ok-restart.ensures in
    let p = rounds_stay script plan.capacity n c.args.played.world w0 r.log r.now r.lawful r.set_up may k (fired_by rules) old.results old.ends old.caused c.requires.played in
    let had = parts_in 0 (take k script.rounds) old.caused in
    let part = is_part may script accepted plan.capacity n k room round at in
    let fits = in_time may script accepted plan.capacity n k room round at old.caused in
    let w1 = c.in_ok-world.world in
    let one = c.play_round.new.answers in
    let f = c.in_ok-world.ensures.on script plan.capacity had refl part fits p.parts in
    let ids = fired_by rules in
    let q = f.played in (machine_for script plan.capacity, q.state, q.is, q.lawful, can_ask may script accepted plan.capacity n k room round at old.caused w0 w1 ids old.results one.results old.ends one.ends p f)

pub play_caused-requires-clause-lawful : goal.play_caused-requires-clause-lawful
play_caused-requires-clause-lawful g c =
    let plan = c.args.plan.now in
    let rules = c.args.rules.now in
    let may = g.A.Answering.may_answer rules.answer in
    let script = script_with plan.setup.now rules.rules plan.rounds.now in
    let accepted = c.requires.accepted in
    let k = c.args.number in
    let n = c.args.workers.now.count in
    let room = c.requires.room in
    let round = c.index-as_slice-number.result in
    let at = at_index c.as_slice.result.now plan.rounds.now k round c.as_slice.ensures c.requires.there c.index-as_slice-number.is in
    let w0 = c.restart.new.world in
    let old = c.args.played.answers in
    let r = c.in_ok-restart.ensures in
    let p = rounds_stay script plan.capacity n c.args.played.world w0 r.log r.now r.lawful r.set_up may k (fired_by rules) old.results old.ends old.caused c.requires.played in
    let had = parts_in 0 (take k script.rounds) old.caused in
    let part = is_part may script accepted plan.capacity n k room round at in
    let fits = in_time may script accepted plan.capacity n k room round at old.caused in
    let w1 = c.in_ok-world.world in
    let one = c.play_round.new.answers in
    let f = c.in_ok-world.ensures.on script plan.capacity had refl part fits p.parts in
    let ids = fired_by rules in
    let m = machine_for script plan.capacity in
    let q = f.played in
    let can = can_ask may script accepted plan.capacity n k room round at old.caused w0 w1 ids old.results one.results old.ends one.ends p f in
    let more = c.in_ok-caused.caused in
    let h = c.in_ok-caused.ensures in
    let ids' = fired_by c.ask_rules.new.rules in
    let asked =
    h.asked m q.state (fired_now may script accepted plan.capacity n k room round at old.caused w0 w1 ids old.results one.results old.ends one.ends p f more) old.caused q.is q.lawful can refl refl refl refl (accepted.triggers).named
    (none_asked may script accepted plan.capacity n k room round at old.caused w0 w1 ids old.results one.results old.ends one.ends p f more) in
    let w2 = c.ask_rules.new.world in
    let next = h.lawful m q.state q.is q.lawful in
    let set_up = h.set_up script.topology script.checked q.set_up in
    (m, q.state, next.0, next.1)

pub play_caused-requires-clause-within : goal.play_caused-requires-clause-within
play_caused-requires-clause-within g c =
    let plan = c.args.plan.now in
    let rules = c.args.rules.now in
    let may = g.A.Answering.may_answer rules.answer in
    let script = script_with plan.setup.now rules.rules plan.rounds.now in
    let accepted = c.requires.accepted in
    let k = c.args.number in
    let n = c.args.workers.now.count in
    let room = c.requires.room in
    let round = c.index-as_slice-number.result in
    let at = at_index c.as_slice.result.now plan.rounds.now k round c.as_slice.ensures c.requires.there c.index-as_slice-number.is in
    let w0 = c.restart.new.world in
    let old = c.args.played.answers in
    let r = c.in_ok-restart.ensures in
    let p = rounds_stay script plan.capacity n c.args.played.world w0 r.log r.now r.lawful r.set_up may k (fired_by rules) old.results old.ends old.caused c.requires.played in
    let had = parts_in 0 (take k script.rounds) old.caused in
    let part = is_part may script accepted plan.capacity n k room round at in
    let fits = in_time may script accepted plan.capacity n k room round at old.caused in
    let w1 = c.in_ok-world.world in
    let one = c.play_round.new.answers in
    let f = c.in_ok-world.ensures.on script plan.capacity had refl part fits p.parts in
    let ids = fired_by rules in
    let m = machine_for script plan.capacity in
    let q = f.played in
    let can = can_ask may script accepted plan.capacity n k room round at old.caused w0 w1 ids old.results one.results old.ends one.ends p f in
    let more = c.in_ok-caused.caused in
    let h = c.in_ok-caused.ensures in
    let ids' = fired_by c.ask_rules.new.rules in
    let asked =
    h.asked m q.state (fired_now may script accepted plan.capacity n k room round at old.caused w0 w1 ids old.results one.results old.ends one.ends p f more) old.caused q.is q.lawful can refl refl refl refl (accepted.triggers).named
    (none_asked may script accepted plan.capacity n k room round at old.caused w0 w1 ids old.results one.results old.ends one.ends p f more) in
    let w2 = c.ask_rules.new.world in
    let next = h.lawful m q.state q.is q.lawful in
    let set_up = h.set_up script.topology script.checked q.set_up in
    (script.topology, script.checked, set_up, caused_within may script accepted plan.capacity n k room round at old.caused w0 w1 ids old.results one.results old.ends one.ends p f more ids' asked)

pub play_caused-requires-clause-there : goal.play_caused-requires-clause-there
play_caused-requires-clause-there g c =
    let plan = c.args.plan.now in
    let rules = c.args.rules.now in
    let may = g.A.Answering.may_answer rules.answer in
    let script = script_with plan.setup.now rules.rules plan.rounds.now in
    let accepted = c.requires.accepted in
    let k = c.args.number in
    let n = c.args.workers.now.count in
    let room = c.requires.room in
    let round = c.index-as_slice-number.result in
    let at = at_index c.as_slice.result.now plan.rounds.now k round c.as_slice.ensures c.requires.there c.index-as_slice-number.is in
    let w0 = c.restart.new.world in
    let old = c.args.played.answers in
    let r = c.in_ok-restart.ensures in
    let p = rounds_stay script plan.capacity n c.args.played.world w0 r.log r.now r.lawful r.set_up may k (fired_by rules) old.results old.ends old.caused c.requires.played in
    let had = parts_in 0 (take k script.rounds) old.caused in
    let part = is_part may script accepted plan.capacity n k room round at in
    let fits = in_time may script accepted plan.capacity n k room round at old.caused in
    let w1 = c.in_ok-world.world in
    let one = c.play_round.new.answers in
    let f = c.in_ok-world.ensures.on script plan.capacity had refl part fits p.parts in
    let ids = fired_by rules in
    let m = machine_for script plan.capacity in
    let q = f.played in
    let can = can_ask may script accepted plan.capacity n k room round at old.caused w0 w1 ids old.results one.results old.ends one.ends p f in
    let more = c.in_ok-caused.caused in
    let h = c.in_ok-caused.ensures in
    let ids' = fired_by c.ask_rules.new.rules in
    let asked =
    h.asked m q.state (fired_now may script accepted plan.capacity n k room round at old.caused w0 w1 ids old.results one.results old.ends one.ends p f more) old.caused q.is q.lawful can refl refl refl refl (accepted.triggers).named
    (none_asked may script accepted plan.capacity n k room round at old.caused w0 w1 ids old.results one.results old.ends one.ends p f more) in
    let w2 = c.ask_rules.new.world in
    let next = h.lawful m q.state q.is q.lawful in
    let set_up = h.set_up script.topology script.checked q.set_up in
    caused_there may script accepted plan.capacity n k room round at old.caused w0 w1 ids old.results one.results old.ends one.ends p f more ids' asked _ set_up.many

pub returns-clause-played : goal.returns-clause-played
returns-clause-played g c =
    let plan = c.args.plan.now in
    let rules = c.args.rules.now in
    let may = g.A.Answering.may_answer rules.answer in
    let script = script_with plan.setup.now rules.rules plan.rounds.now in
    let accepted = c.requires.accepted in
    let k = c.args.number in
    let n = c.args.workers.now.count in
    let room = c.requires.room in
    let round = c.index-as_slice-number.result in
    let at = at_index c.as_slice.result.now plan.rounds.now k round c.as_slice.ensures c.requires.there c.index-as_slice-number.is in
    let w0 = c.restart.new.world in
    let old = c.args.played.answers in
    let r = c.in_ok-restart.ensures in
    let p = rounds_stay script plan.capacity n c.args.played.world w0 r.log r.now r.lawful r.set_up may k (fired_by rules) old.results old.ends old.caused c.requires.played in
    let had = parts_in 0 (take k script.rounds) old.caused in
    let part = is_part may script accepted plan.capacity n k room round at in
    let fits = in_time may script accepted plan.capacity n k room round at old.caused in
    let w1 = c.in_ok-world.world in
    let one = c.play_round.new.answers in
    let f = c.in_ok-world.ensures.on script plan.capacity had refl part fits p.parts in
    let ids = fired_by rules in
    let m = machine_for script plan.capacity in
    let q = f.played in
    let can = can_ask may script accepted plan.capacity n k room round at old.caused w0 w1 ids old.results one.results old.ends one.ends p f in
    let more = c.in_ok-caused.caused in
    let h = c.in_ok-caused.ensures in
    let ids' = fired_by c.ask_rules.new.rules in
    let asked =
    h.asked m q.state (fired_now may script accepted plan.capacity n k room round at old.caused w0 w1 ids old.results one.results old.ends one.ends p f more) old.caused q.is q.lawful can refl refl refl refl (accepted.triggers).named
    (none_asked may script accepted plan.capacity n k room round at old.caused w0 w1 ids old.results one.results old.ends one.ends p f more) in
    let w2 = c.ask_rules.new.world in
    let next = h.lawful m q.state q.is q.lawful in
    let set_up = h.set_up script.topology script.checked q.set_up in
    let e = c.in_ok-play_caused.ensures in
    let a = e.answers in
    both_are_played may script accepted plan.capacity n k room round at old.caused w0 w1 ids old.results one.results old.ends one.ends p f more ids' asked w2 c.play_caused.new.world a.0 h.now h.log e.now a.2 a.3
    (a.4 m q.state script.topology script.checked next.0 next.1 set_up) (e.lawful m q.state next.0 next.1)
    (e.set_up script.topology script.checked set_up) c.play_caused.new.answers.results c.play_caused.new.answers.ends c.play_caused.new.answers.caused a.1
    e.ends (e.caused ∙ ap (λ (xs : List Caused). xs ++ more) c.in_ok-world.ensures.caused)

pub returns-clause-pruned : goal.returns-clause-pruned
returns-clause-pruned g c =
    let plan = c.args.plan.now in
    let rules = c.args.rules.now in
    let may = g.A.Answering.may_answer rules.answer in
    let script = script_with plan.setup.now rules.rules plan.rounds.now in
    let accepted = c.requires.accepted in
    let k = c.args.number in
    let n = c.args.workers.now.count in
    let room = c.requires.room in
    let round = c.index-as_slice-number.result in
    let at = at_index c.as_slice.result.now plan.rounds.now k round c.as_slice.ensures c.requires.there c.index-as_slice-number.is in
    let w0 = c.restart.new.world in
    let old = c.args.played.answers in
    let r = c.in_ok-restart.ensures in
    let p = rounds_stay script plan.capacity n c.args.played.world w0 r.log r.now r.lawful r.set_up may k (fired_by rules) old.results old.ends old.caused c.requires.played in
    let had = parts_in 0 (take k script.rounds) old.caused in
    let part = is_part may script accepted plan.capacity n k room round at in
    let fits = in_time may script accepted plan.capacity n k room round at old.caused in
    let w1 = c.in_ok-world.world in
    let one = c.play_round.new.answers in
    let f = c.in_ok-world.ensures.on script plan.capacity had refl part fits p.parts in
    let ids = fired_by rules in
    let m = machine_for script plan.capacity in
    let q = f.played in
    let can = can_ask may script accepted plan.capacity n k room round at old.caused w0 w1 ids old.results one.results old.ends one.ends p f in
    let more = c.in_ok-caused.caused in
    let h = c.in_ok-caused.ensures in
    let ids' = fired_by c.ask_rules.new.rules in
    let asked =
    h.asked m q.state (fired_now may script accepted plan.capacity n k room round at old.caused w0 w1 ids old.results one.results old.ends one.ends p f more) old.caused q.is q.lawful can refl refl refl refl (accepted.triggers).named
    (none_asked may script accepted plan.capacity n k room round at old.caused w0 w1 ids old.results one.results old.ends one.ends p f more) in
    let w2 = c.ask_rules.new.world in
    let next = h.lawful m q.state q.is q.lawful in
    let set_up = h.set_up script.topology script.checked q.set_up in
    let e = c.in_ok-play_caused.ensures in
    let a = e.answers in
    let after = c.play_caused.new in
    let more_log =
    log_is_more may script accepted plan.capacity n k room round at old.caused w0 w1 ids old.results one.results old.ends one.ends p f more ids' asked w2
    after.world a.0 h.now h.log e.now a.2 a.3 (a.4 m q.state script.topology script.checked next.0 next.1 set_up) (e.lawful m q.state next.0 next.1)
    (e.set_up script.topology script.checked set_up) in
    let was = c.args.played.world in
    let begun = c.requires.played.parts in
    let ends_are : after.answers.ends ≡ old.ends ++ length (w1.sequencer).list ∷ length (after.world.sequencer).list ∷ [] =
    e.ends
    ∙ (ap (λ (xs : List ℕ). xs ++ length (after.world.sequencer).list ∷ []) f.ends_are
    ∙ append_assoc old.ends (length (w1.sequencer).list ∷ []) (length (after.world.sequencer).list ∷ [])) in
    subst (λ (ends : List ℕ). ArePrunedBy script (take (k + 1) script.rounds) ends after.world) (sym ends_are)
    (one_round_more script plan.capacity n k round (next_rounds script k round (record { accepted = accepted; there = at })) old.caused was after.world
    old.results old.ends begun more_log.0
    (more_log.1 ∙ ap (λ (s : Sequenced). s.list ++ more_log.0) r.log)
    (λ bases u.
    let moved = bases_after (reading_for script) (params_of script) (was.sequencer).list round.restarts bases in
    e.bases moved (h.bases moved (c.in_ok-world.ensures.bases moved (r.bases m begun.state bases begun.is u)))) c.requires.pruned
    (length (w1.sequencer).list) (length (after.world.sequencer).list))
