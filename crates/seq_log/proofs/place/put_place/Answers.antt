use Rattle.std.proofs.Common.{sym, ◌∙◌}
use Rattle.indexmap.specs.IndexMap.{get}
use Rattle.seq_log.specs.Keys.{key_eq}
use Rattle.seq_log.specs.declared.key.Key.{Key}
use Rattle.seq_log.proofs.Keyed.{leads_past, leads_more}
use Rattle.seq_log.proofs.place.put_place.Goals as goal

pub returns-in-Some : goal.returns-in-Some
returns-in-Some c = λ list e leads long is none.
    leads_more (λ (k : Key). get key_eq c.args.places.now k) (λ (k : Key). get key_eq c.put.new.places k) c.in-Some.key c.args.place list e leads long
    (sym is ∙ c.in-Some.is) none c.put.ensures

pub returns-in_default : goal.returns-in_default
returns-in_default c = λ list e leads long is none.
    leads_past (λ (k : Key). get key_eq c.args.places.now k) list e leads (sym is ∙ c.in_default.is)
