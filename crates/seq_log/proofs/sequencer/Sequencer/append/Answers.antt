use Rattle.std.proofs.Common.{Bool, List, [], ◌∷◌, ◌++◌, length, refl, sym, ap, ◌∙◌, subst, arith, length-append}
use Rattle.canton_model.specs.Log.{Params}
use Rattle.world_model.specs.Messages.{Entry, Request}
use Rattle.log_row.specs.LogPrefix.{LogPrefix}
use Rattle.framed_form.specs.Framed.{is_framed}
use Rattle.seq_log.specs.Admitted.{refusal_of}
use Rattle.seq_log.specs.Faults.{fault_in, next_time}
use Rattle.seq_log.specs.Indexed.{IsIndexOf}
use Rattle.seq_log.specs.declared.admission.Admission.{Admission}
use Rattle.seq_log.specs.Sequenced.{Sequenced, IsFor, fault_if}
use Rattle.world_model.specs.Machine.{Machine}
use Rattle.world_model.specs.Fits.{MayStand}
use Rattle.world_model.specs.Locks.{SequencerBehind}
use Rattle.seq_log.proofs.Steps.{is_new, has_room, follows_next, time_within, holds_after, entry_is, behind_after}
use Rattle.seq_log.proofs.sequencer.Sequencer.append.Goals as goal

pub invariant_of-self-in-Ok : goal.invariant_of-self-in-Ok
invariant_of-self-in-Ok c =
    let inv = c.self.invariant in
    let pen = c.self.inside.pen in
    let index = c.self.inside.index in
    let slips = c.self.inside.slips.items in
    let framed : Request → Bool = is_framed c.self.inside.topology.now in
    let message = c.args.message in
    let entry : Entry = record { time = c.next_time-time.result; message = message } in
    let none = c.in-Ok-Taken.ensures.ok pen inv.0 inv.1 ∙ ap (λ (a : Admission). fault_if (refusal_of a)) c.in-Ok-Taken.field-0-is in
    let e = c.in-Ok.ensures in
    let items =
    c.push_reserved.ensures.items ∙ ap (λ l. l ++ c.again.result ∷ []) c.make_room.ensures.slips
    ∙ ap (λ s. slips ++ s ∷ []) (c.again.ensures.again ∙ e.1) in
    let list = ap (λ (t : LogPrefix). t.list) e.0 in
    let holds = holds_after pen c.publish.new.self slips c.push_reserved.new.self.items entry inv.0 e.0 items in
    let numbers = c.note.ensures.numbers in
    let before = c.make_room.ensures.numbers in
    let follows =
    follows_next c.args.now message c.make_room.new.index.last c.next_time-time.result c.next_time-time.ensures in
    let kept =
    c.note.ensures.kept c.publish.new.self pen.list entry holds list (c.make_room.ensures.kept pen.list inv.1)
    (sym c.len-place.ensures) c.key_of-key.ensures c.need_of-need.ensures refl follows (is_new framed index.capacity index.params pen.list message none) in
    let room = has_room framed index.capacity index.params pen.list message (omega (arith, inv.2, (inv.1).reserved)) none in
    let time = time_within c.args.now message index.last (length pen.list) c.requires inv.3 in
    let same = c.note.ensures.made.1 ∙ c.make_room.ensures.made.1 in
    let need = c.need_of-need.ensures in
    let long = ap length list in
    let now = ap (next_time c.args.now message) before.1 in (
      holds,
      subst (λ (l : List Entry). IsIndexOf c.note.new.self l) (sym list) kept,
      omega (arith, numbers.0, before.0, (inv.1).reserved, need, room, same),
      omega (arith, numbers.1, c.next_time-time.ensures, now, time, long, length-append pen.list (entry ∷ [])),
      c.note.ensures.made.0 ∙ (c.make_room.ensures.made.0 ∙ inv.4),
      inv.5,
    )

pub returns-in-Ok-clause-behind : goal.returns-in-Ok-clause-behind
returns-in-Ok-clause-behind c =
    let inv = c.self.invariant in
    let pen = c.self.inside.pen in
    let index = c.self.inside.index in
    let topology = c.self.inside.topology.now in
    let seen : Sequenced = record { row = pen.row; list = pen.list; capacity = index.capacity; topology = topology } in
    let none = c.in-Ok-Taken.ensures.ok pen inv.0 inv.1 ∙ ap (λ (a : Admission). fault_if (refusal_of a)) c.in-Ok-Taken.field-0-is in
    let free = ap (λ (p : Params). fault_in (is_framed topology) index.capacity p pen.list c.args.message) (sym inv.4) ∙ none in
    let list = ap (λ (t : LogPrefix). t.list) (c.in-Ok.ensures).0 in
    let now = ap (next_time c.args.now c.args.message) c.make_room.ensures.numbers.1 in
    let more =
    list ∙ ap (λ (e : Entry). pen.list ++ e ∷ [])
    (entry_is c.args.now c.next_time-time.result index.last pen.list c.args.message (c.next_time-time.ensures ∙ now) (inv.1).last) in
    subst (λ (s : Sequenced). (m : Machine) → IsFor m s → SequencerBehind m s.list → MayStand m s.list c.args.message
    → SequencerBehind m c.publish.new.self.list) c.self.view_is
    (λ m is behind may. behind_after m c.args.now seen c.args.message c.publish.new.self.list is behind may free more)
