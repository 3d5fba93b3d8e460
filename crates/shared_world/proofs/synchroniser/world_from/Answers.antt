use Rattle.std.proofs.Common.{◌≡◌, List, length, sym, ap, ◌∙◌, subst}
use mathlib.Core.List.{IsPrefix}
use Rattle.mediator.specs.KeptCases.{KeptMediator}
use Rattle.node_core.specs.Participant.{Participant}
use Rattle.seq_log.specs.Sequenced.{Sequenced}
use Rattle.sync_shared.specs.Behind.{AreNodesBehind, IsLogBehind, IsMediatorBehind}
use Rattle.shared_world.proofs.Worlds.{parts_based, parts_set_up, parts_are_lawful}
use Rattle.shared_world.proofs.synchroniser.world_from.Goals as goal

pub returns-clause-nodes : goal.returns-clause-nodes
returns-clause-nodes g c =
    let parts = c.into_parts-sequencer.result in
    let told = c.into_parts-sequencer.ensures in
    let same : c.of.result.sequencer ≡ parts.sequencer = c.of.ensures.0 in
    let log = subst (IsLogBehind g.S.Row.history g.S.Session.machine g.S.Session.start c.args.home.now.amount) (sym same) told.log in
    let items = ap (λ v. v.items) c.of.ensures.2 in
    let nodes =
    subst (λ (s : Sequenced). AreNodesBehind g.S.Session.topology g.S.Session.packages g.S.Session.machine g.S.Session.why g.S.Session.bases s.list c.of.result.nodes.items) (sym same)
    (subst (λ (xs : List Participant). AreNodesBehind g.S.Session.topology g.S.Session.packages g.S.Session.machine g.S.Session.why g.S.Session.bases parts.sequencer.list xs)
    (sym items) told.nodes) in
    let read = told.mediator.0 in
    let begins = subst (λ (s : Sequenced). IsPrefix read s.list) (sym same) told.mediator.1 in
    let mediator = subst (λ (k : KeptMediator). IsMediatorBehind g.S.Session.machine read k) (sym c.of.ensures.1) told.mediator.2 in
    parts_set_up g.S.Session.topology g.S.Session.packages g.S.Session.machine g.S.Session.why g.S.Session.bases c.requires.set_up.0 c.requires.set_up.1 c.of.result
    g.S.Row.history g.S.Session.start c.args.home.now.amount log nodes (ap length items ∙ told.many) read begins mediator

pub returns-clause-bases : goal.returns-clause-bases
returns-clause-bases g c =
    let parts = c.into_parts-sequencer.result in
    let told = c.into_parts-sequencer.ensures in
    let same : c.of.result.sequencer ≡ parts.sequencer = c.of.ensures.0 in
    let log = subst (IsLogBehind g.S.Row.history g.S.Session.machine g.S.Session.start c.args.home.now.amount) (sym same) told.log in
    let items = ap (λ v. v.items) c.of.ensures.2 in
    let nodes =
    subst (λ (s : Sequenced). AreNodesBehind g.S.Session.topology g.S.Session.packages g.S.Session.machine g.S.Session.why g.S.Session.bases s.list c.of.result.nodes.items) (sym same)
    (subst (λ (xs : List Participant). AreNodesBehind g.S.Session.topology g.S.Session.packages g.S.Session.machine g.S.Session.why g.S.Session.bases parts.sequencer.list xs)
    (sym items) told.nodes) in
    let read = told.mediator.0 in
    let begins = subst (λ (s : Sequenced). IsPrefix read s.list) (sym same) told.mediator.1 in
    let mediator = subst (λ (k : KeptMediator). IsMediatorBehind g.S.Session.machine read k) (sym c.of.ensures.1) told.mediator.2 in
    parts_based g.S.Session.topology g.S.Session.packages g.S.Session.machine g.S.Session.why g.S.Session.bases c.requires.set_up.0 c.requires.set_up.1 c.of.result
    g.S.Row.history g.S.Session.start c.args.home.now.amount log nodes (ap length items ∙ told.many) read begins mediator

pub returns-clause-world : goal.returns-clause-world
returns-clause-world g c =
    let parts = c.into_parts-sequencer.result in
    let told = c.into_parts-sequencer.ensures in
    let same : c.of.result.sequencer ≡ parts.sequencer = c.of.ensures.0 in
    let log = subst (IsLogBehind g.S.Row.history g.S.Session.machine g.S.Session.start c.args.home.now.amount) (sym same) told.log in
    let items = ap (λ v. v.items) c.of.ensures.2 in
    let nodes =
    subst (λ (s : Sequenced). AreNodesBehind g.S.Session.topology g.S.Session.packages g.S.Session.machine g.S.Session.why g.S.Session.bases s.list c.of.result.nodes.items) (sym same)
    (subst (λ (xs : List Participant). AreNodesBehind g.S.Session.topology g.S.Session.packages g.S.Session.machine g.S.Session.why g.S.Session.bases parts.sequencer.list xs)
    (sym items) told.nodes) in
    let read = told.mediator.0 in
    let begins = subst (λ (s : Sequenced). IsPrefix read s.list) (sym same) told.mediator.1 in
    let mediator = subst (λ (k : KeptMediator). IsMediatorBehind g.S.Session.machine read k) (sym c.of.ensures.1) told.mediator.2 in
    parts_are_lawful g.S.Session.topology g.S.Session.packages g.S.Session.machine g.S.Session.why g.S.Session.bases c.requires.set_up.0 c.requires.set_up.1 c.of.result
    g.S.Row.history g.S.Session.start c.args.home.now.amount log nodes (ap length items ∙ told.many) read begins mediator
