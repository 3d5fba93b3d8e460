use Rattle.std.proofs.Common.{ap, ◌∙◌}
use Rattle.std.specs.Prelude.{is_some}
use Rattle.audit_model.specs.Cases.{is_repeated}
use Rattle.log_judge.specs.ReadEntries.{ReadEntries}
use Rattle.log_judge.proofs.Reading.{repeated_is}
use Rattle.log_judge.proofs.read_log.ReadLog.is_repeated.Goals as goal

pub returns : goal.returns
returns c =
    c.is_some.ensures
    ∙ (ap is_some (c.place_of.ensures c.self.inside.entries c.self.invariant.0)
    ∙ (repeated_is c.self.inside.entries c.args.message.now
    ∙ ap (λ (r : ReadEntries). is_repeated r.list c.args.message.now) c.self.view_is))
