use Rattle.std.proofs.Common.{sym, refl, subst}
use Rattle.std.specs.Prelude.{Option}
use mathlib.Core.List.{IsPrefix}
use Rattle.log_row.specs.LogPrefix.{LogPrefix}
use Rattle.sync_shared.specs.Slips.{read_to}
use Rattle.shared_rounds.proofs.retiring.reaches.Goals as goal

pub returns-in_default-clause-begins : goal.returns-in_default-clause-begins
returns-in_default-clause-begins c =
    subst (λ (o : Option LogPrefix). IsPrefix (read_to o) c.args.sequencer.now.list) (sym c.in_default.is) (c.args.sequencer.now.list, refl)
