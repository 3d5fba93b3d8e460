use Rattle.std.proofs.Common.{ℕ, List, ◌<◌, length, sym, ap, subst, ◌∙◌}
use Rattle.std.specs.Prelude.{All}
use Rattle.ledger_model.specs.Terms.{Path}
use Rattle.validate_job.specs.Job.{Job}
use Rattle.confirm_reply.specs.Verdict.{CanCheck}
use Rattle.validate_job.specs.Owed.{owed_on_each}
use Rattle.node_inbox.proofs.Jobs.{are_owed, can_check, some_views}
use Rattle.node_inbox.proofs.job.job.Goals as goal

pub new-requires-clause-some : goal.new-requires-clause-some
new-requires-clause-some c =
    subst (λ (views : List Path). 0 < length views) (sym c.in_ok-views.ensures)
    (some_views c.args.setup c.args.me c.requires.kept.0 c.args.items.now.items c.args.place c.in-Some.kept.now c.requires.kept.1 (sym c.in-Some.ensures) c.requires.owes)

pub new-requires-clause-each : goal.new-requires-clause-each
new-requires-clause-each c =
    subst (λ (views : List Path). All (CanCheck c.in_ok-input.input) views) (sym c.in_ok-views.ensures)
    (can_check c.args.setup c.args.me c.requires.kept.0 c.args.items.now.items c.args.place c.in-Some.kept.now c.requires.kept.1 (sym c.in-Some.ensures) c.time_at.result c.time_at.ensures
    c.in_ok-input.input c.in_ok-input.ensures)

pub returns-clause-some : goal.returns-clause-some
returns-clause-some c =
    subst (λ (n : ℕ). 0 < n) (sym (ap (λ (job : Job). job.left) c.new.ensures))
    (subst (λ (views : List Path). 0 < length views) (sym c.in_ok-views.ensures)
    (some_views c.args.setup c.args.me c.requires.kept.0 c.args.items.now.items c.args.place c.in-Some.kept.now c.requires.kept.1 (sym c.in-Some.ensures) c.requires.owes))

pub returns-clause-owed : goal.returns-clause-owed
returns-clause-owed c start are =
    ap (λ (job : Job). owed_on_each job.given.input job.given.views) c.new.ensures
    ∙ (ap (owed_on_each c.in_ok-input.input) c.in_ok-views.ensures
    ∙ are_owed c.args.setup c.args.me start c.args.items.now.items c.args.place c.in-Some.kept.now are (sym c.in-Some.ensures) c.time_at.result c.time_at.ensures
    c.in_ok-input.input c.in_ok-input.ensures)
