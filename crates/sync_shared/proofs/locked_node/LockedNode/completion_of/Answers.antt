use Rattle.std.proofs.Common.{◌≡◌, List, length, sym, subst}
use Rattle.std.specs.Prelude.{IfOk}
use mathlib.Core.List.{IsPrefix}
use Rattle.canton_model.specs.Log.{decision_time_of}
use Rattle.canton_model.specs.Timeline.{outcome_of, timeline_of}
use Rattle.world_model.specs.Messages.{Entry}
use Rattle.node_core.specs.Completion.{completion_of}
use Rattle.node_core.specs.declared.completion.Completion.{Completion}
use Rattle.sync_shared.specs.Slips.{read_to}
use Rattle.sync_shared.proofs.Nodes.{its_item, its_completion}
use Rattle.sync_shared.proofs.locked_node.LockedNode.completion_of.Goals as goal

pub completion_of-requires : goal.completion_of-requires
completion_of-requires g c =
    its_item g.S.Session.topology g.S.Session.packages g.S.Session.machine g.S.Session.why g.S.Session.bases g.row.I (read_to c.self.inside.last) c.self.inside.node c.self.invariant.1
    c.args.place c.requires.request.0 (subst (IsPrefix c.requires.request.0) (sym c.self.view_is) c.requires.request.1) c.requires.request.2 c.requires.base

pub returns : goal.returns
returns g c =
    let list = read_to c.self.inside.last in
    subst (λ (xs : List Entry). IfOk c.completion_of.result (λ x. x ≡ completion_of (length xs)
    (outcome_of (timeline_of xs) c.args.place (decision_time_of g.S.Session.machine.params xs c.args.place)))) c.self.view_is
    (subst (λ (x : Completion). IfOk c.completion_of.result (λ y. y ≡ x))
    (its_completion g.S.Session.topology g.S.Session.packages g.S.Session.machine g.S.Session.why g.S.Session.bases g.row.I list c.self.inside.node c.self.invariant.1
    c.args.place c.requires.request.0 (subst (IsPrefix c.requires.request.0) (sym c.self.view_is) c.requires.request.1) c.requires.request.2 c.requires.base)
    c.completion_of.ensures)
