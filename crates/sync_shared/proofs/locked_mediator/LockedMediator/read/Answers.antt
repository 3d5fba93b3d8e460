use Rattle.std.proofs.Common.{◌≡◌, ◌+◌, length, sym, ap, ◌∙◌, subst, List, arith}
use mathlib.Core.List.{IsPrefix}
use Rattle.world_model.specs.Messages.{Entry}
use Rattle.world_model.specs.Machine.{GenuineLog}
use Rattle.sync_shared.specs.Behind.{Mediating}
use Rattle.sync_shared.specs.Slips.{read_to}
use Rattle.sync_shared.proofs.Mediators.{cursor_is, mediator_reads}
use Rattle.sync_shared.proofs.locked_mediator.LockedMediator.read.Goals as goal

pub read-requires : goal.read-requires
read-requires g c =
    let same = ap (λ s. length s.list) c.tie.ensures.same.1 in
    let next = c.requires.next in
    let long = ap (λ (s : Mediating). length s.list) c.self.view_is in
    let cursor = cursor_is g.S.Session.machine (read_to c.self.inside.last) c.self.inside.mediator c.self.invariant.1 in
    let place = c.place-place.ensures.place in
    let few = c.place-place.ensures.few in
    omega (arith, same, next, long, cursor, place, few)

pub invariant_of-self-2 : goal.invariant_of-self-2
invariant_of-self-2 g c =
    let t = c.tie.ensures in
    let was = read_to c.self.inside.last in
    let same : c.tie.new.slip.list ≡ c.args.slip.list = ap (λ s. s.list) t.same.1 in (
      ap (λ s. s.row) t.same.1 ∙ c.requires.row,
      mediator_reads g.S.Session.machine was c.self.inside.mediator c.self.invariant.1 c.tie.new.slip.list c.entry.result.now c.read.new.self
          (subst (λ (xs : List Entry). IsPrefix was xs) (sym same) t.begins)
          (ap length same ∙ (c.requires.next ∙ ap (λ (s : Mediating). length s.list + 1) (sym c.self.view_is)))
          (subst (GenuineLog g.S.Session.machine) (sym same) c.requires.genuine)
          c.entry.ensures c.read.ensures.params c.in_ok-read.ensures.ok,
    )
