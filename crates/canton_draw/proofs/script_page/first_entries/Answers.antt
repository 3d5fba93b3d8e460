use Rattle.std.proofs.Common.{length, sym, le_refl}
use Rattle.std.proofs.lemmas.List.{take_all}
use Rattle.canton_draw.proofs.script_page.first_entries.Goals as goal

pub returns-in-None-clause-first : goal.returns-in-None-clause-first
returns-in-None-clause-first c =
    let log = c.args.log.now in
    (length log, sym (take_all (length log) log (le_refl (length log))))
