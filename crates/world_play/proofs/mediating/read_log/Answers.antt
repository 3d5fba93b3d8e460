use Rattle.std.proofs.Common.{ℕ, ◌+◌, ◌<◌, take, length, ap, ◌∙◌, subst}
use Rattle.world_play.proofs.Readers.{slip_list, place_within}
use Rattle.world_play.proofs.Mediates.{reader_on}
use Rattle.world_play.proofs.mediating.read_log.Goals as goal

pub entries-preserved : goal.entries-preserved
entries-preserved c =
    let inv = c.entries.invariant in
    let some = c.in-Some.ensures.some in
    let log = c.args.sequencer.now in (
      c.in-Some.ensures.same ∙ inv.0,
      reader_on c.args.mediator.now log c.entries.mediator inv.1 (c.in-Some.slip).list
          (subst (λ (i : ℕ). i < length log.list) c.cursor.ensures (place_within _ _ c.cursor.result inv.0 some.0))
          (slip_list _ _ c.in-Some.slip c.cursor.result inv.0 some.1 ∙ ap (λ (i : ℕ). take (i + 1) log.list) c.cursor.ensures)
          c.entry-in-Some.result.now c.entry-in-Some.ensures c.read.new.self c.read.ensures.params c.in_ok-read.ensures.ok,
    )
