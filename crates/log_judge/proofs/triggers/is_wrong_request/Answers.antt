use Rattle.std.proofs.Common.{sym, ◌∙◌}
use Rattle.log_judge.proofs.Uses.{none_wrong, wrong_is}
use Rattle.log_judge.proofs.triggers.is_wrong_request.Goals as goal

pub returns-then-not-have_caused : goal.returns-then-not-have_caused
returns-then-not-have_caused g c = λ params log used framed.
    sym (none_wrong (g.P.Participants.reading c.args.participants.now) log c.args.request.now c.args.rules.now
    (sym c.have_caused.ensures ∙ c.if-not-have_caused.true))

pub returns : goal.returns
returns g c = λ params log used framed.
    c.is_wrong.ensures
    ∙ wrong_is (g.P.Participants.reading c.args.participants.now) log c.args.request.now _ (c.in_ok-whole.ensures framed) c.args.rules.now used
