use Rattle.std.proofs.Common.{sym, ◌∙◌}
use Rattle.ledger_terms.specs.declared.act.Act.{Act}
use Rattle.ledger_model.specs.Terms.{instance_of}
use Rattle.wire_form.specs.Spellable.{IsSpellableInstance}
use Rattle.node_inbox.proofs.ActFacts.{all_at, changes_are, changes_end, changes_step}
use Rattle.node_inbox.proofs.actions.changes_of.Goals as goal

pub push_change-requires : goal.push_change-requires
push_change-requires c =
    all_at (λ (act : Act). IsSpellableInstance (instance_of act.action)) c.args.found.now c.loop-act.act-index c.act-item.result c.requires c.loop-act-test.true c.act-item.is

pub loop-act-preserved : goal.loop-act-preserved
loop-act-preserved c =
    changes_step c.args.found.now c.loop-act.act-index c.act-item.result _ _ _ c.loop-act-test.true c.act-item.is c.in_ok-push_change.ensures c.loop-act.invariant

pub returns : goal.returns
returns c =
    changes_end c.args.found.now c.loop-act.act-index _ _ c.loop-act-test.false c.loop-act.invariant ∙ sym (changes_are c.args.found.now)
