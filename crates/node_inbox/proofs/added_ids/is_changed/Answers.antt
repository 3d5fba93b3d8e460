use Rattle.std.proofs.Common.{sym, ap, ◌∙◌, Bool}
use Rattle.std.specs.Prelude.{◌||◌}
use Rattle.indexmap.specs.IndexMap.{keys}
use Rattle.contract_store.proofs.Maps.{there}
use Rattle.prepare_request.specs.Hosted.{is_among}
use Rattle.node_inbox.proofs.AddedIds.{among_both}
use Rattle.node_inbox.proofs.added_ids.is_changed.Goals as goal

pub returns-then-is_on_one : goal.returns-then-is_on_one
returns-then-is_on_one c =
    c.if-is_on_one.true
    ∙ sym (among_both c.args.first.now (keys c.args.later.now) c.args.id.now
    ∙ ap (λ (b : Bool). b || is_among (keys c.args.later.now) c.args.id.now) (sym c.is_on_one.ensures ∙ c.if-is_on_one.true))

pub returns-else-is_on_one : goal.returns-else-is_on_one
returns-else-is_on_one c =
    c.contains_key.ensures
    ∙ (there c.args.later.now c.args.id.now
    ∙ sym (among_both c.args.first.now (keys c.args.later.now) c.args.id.now
    ∙ ap (λ (b : Bool). b || is_among (keys c.args.later.now) c.args.id.now) (sym c.is_on_one.ensures ∙ c.if-is_on_one.false)))
