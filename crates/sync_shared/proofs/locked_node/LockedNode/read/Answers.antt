use Rattle.std.proofs.Common.{◌≡◌, ◌+◌, length, sym, ap, ◌∙◌, subst, List}
use mathlib.Core.List.{IsPrefix}
use Rattle.world_model.specs.Messages.{Entry}
use Rattle.world_model.specs.Machine.{GenuineLog}
use Rattle.sync_shared.specs.Slips.{read_to}
use Rattle.sync_shared.proofs.Nodes.{can_read, reads}
use Rattle.sync_shared.proofs.locked_node.LockedNode.read.Goals as goal

pub read-requires : goal.read-requires
read-requires g c =
    let t = c.tie.ensures in
    let was = read_to c.self.inside.last in
    let same : c.tie.new.slip.list ≡ c.args.slip.list = ap (λ s. s.list) t.same.1 in
    can_read g.S.Session.topology g.S.Session.packages g.S.Session.machine g.S.Session.why g.S.Session.bases g.row.I was c.self.inside.node c.self.invariant.1 c.tie.new.slip.list
    (subst (λ (xs : List Entry). IsPrefix was xs) (sym same) t.begins)
    (ap length same ∙ (c.requires.next ∙ ap (λ (xs : List Entry). length xs + 1) (sym c.self.view_is)))
    (subst (GenuineLog g.S.Session.machine) (sym same) c.requires.genuine)

pub invariant_of-self-2 : goal.invariant_of-self-2
invariant_of-self-2 g c =
    let t = c.tie.ensures in
    let was = read_to c.self.inside.last in
    let same : c.tie.new.slip.list ≡ c.args.slip.list = ap (λ s. s.list) t.same.1 in (
      ap (λ s. s.row) t.same.1 ∙ c.requires.row,
      reads g.S.Session.topology g.S.Session.packages g.S.Session.machine g.S.Session.why g.S.Session.bases g.row.I was c.self.inside.node c.self.invariant.1 c.tie.new.slip.list
          (subst (λ (xs : List Entry). IsPrefix was xs) (sym same) t.begins)
          (ap length same ∙ (c.requires.next ∙ ap (λ (xs : List Entry). length xs + 1) (sym c.self.view_is)))
          (subst (GenuineLog g.S.Session.machine) (sym same) c.requires.genuine)
          c.read.new.self c.in_ok-read.ensures.ok c.in_ok-read.ensures.inbox,
    )
