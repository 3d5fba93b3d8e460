use Rattle.std.proofs.Common.{◌≡◌, List, sym, ◌∙◌, subst}
use mathlib.Core.List.{IsPrefix}
use Rattle.world_model.specs.Messages.{Entry}
use Rattle.seq_log.specs.Sequenced.{Sequenced}
use Rattle.sync_shared.specs.Behind.{IsMediatorBehind}
use Rattle.sync_shared.specs.Slips.{read_to}
use Rattle.sync_shared.proofs.shared.Shared.into_parts.Goals as goal

pub returns-clause-mediator : goal.returns-clause-mediator
returns-clause-mediator g c =
    let read = read_to c.into_parts-mediator.result.1 in
    let whole : c.into_nodes-nodes.new.sequencer ≡ c.close-sequencer.result = c.into_nodes-nodes.ensures.same ∙ c.reached.ensures.same.0 in (
      read,
      subst (λ (s : Sequenced). IsPrefix read s.list) (sym whole) c.reached.ensures.begins,
      subst (λ (xs : List Entry). IsMediatorBehind g.S.Session.machine xs c.into_parts-mediator.result.0) (sym c.into_parts-mediator.ensures.same)
          c.into_parts-mediator.ensures.behind,
    )
