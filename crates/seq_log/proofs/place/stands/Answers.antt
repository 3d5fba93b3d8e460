use Rattle.std.proofs.Common.{ap, ◌∙◌}
use Rattle.std.specs.Prelude.{is_some}
use Rattle.seq_log.specs.Keys.{is_key}
use Rattle.seq_log.proofs.Opened.{first_any}
use Rattle.seq_log.proofs.place.stands.Goals as goal

pub returns : goal.returns
returns c = λ list leads.
    c.is_some.ensures ∙ (ap is_some (c.place_behind.ensures ∙ leads c.args.key.now) ∙ first_any (is_key c.args.key.now) 0 list)
