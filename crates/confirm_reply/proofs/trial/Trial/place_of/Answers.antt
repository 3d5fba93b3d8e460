use Rattle.std.proofs.Common.{◌∙◌}
use Rattle.std.proofs.lemmas.Result.{IfOk-weaker}
use Rattle.confirm_reply.specs.Fit.{matter_of}
use Rattle.confirm_reply.proofs.EachPlace.{each_place}
use Rattle.confirm_reply.proofs.trial.Trial.place_of.Goals as goal

pub returns-in_default : goal.returns-in_default
returns-in_default g c =
    IfOk-weaker c.place_shown.result _ _
    (λ place is. is ∙ each_place c.args.self.now.input.now (matter_of c.args.self.now) c.args.reason c.in_default.not-TimeSkew c.in_default.not-NotConformant)
    c.place_shown.ensures
