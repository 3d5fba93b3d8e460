use Rattle.std.proofs.Common.{List, sym, subst, ◌∙◌}
use Rattle.world_model.specs.Messages.{RequestMessage}
use Rattle.log_judge.specs.RuleUses.{IsNoted, Used}
use Rattle.log_judge.proofs.Knowing.{on_ok_map}
use Rattle.log_judge.proofs.Uses.{is_noted, not_noted}
use Rattle.log_judge.proofs.triggers.note_request.Goals as goal

pub returns-then-not-have_caused : goal.returns-then-not-have_caused
returns-then-not-have_caused g c =
    not_noted (g.P.Participants.reading c.args.participants.now) c.args.request.now c.args.rules.now
    (sym c.have_caused.ensures ∙ c.if-not-have_caused.true)

pub returns : goal.returns
returns g c =
    let reading = g.P.Participants.reading c.args.participants.now in
    let before = c.args.rules.now in
    on_ok_map c.read.result _ _ c.read.ensures
    (λ e. subst (λ (after : List Used). IsNoted reading (RequestMessage c.args.request.now) before after) (sym e)
    (is_noted reading c.args.request.now _ before c.in_ok-whole.ensures))
