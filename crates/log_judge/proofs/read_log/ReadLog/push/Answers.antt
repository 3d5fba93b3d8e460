use Rattle.std.proofs.Common.{◌≡◌, List, false, ap, sym, subst, ◌∙◌}
use Rattle.std.specs.Map.{lookup}
use Rattle.canton_model.specs.Log.{time_at_end}
use Rattle.indexmap.specs.IndexMap.{get}
use Rattle.world_model.specs.Messages.{Entry}
use Rattle.seq_log.specs.Keys.{key_eq}
use Rattle.seq_log.specs.Faults.{Leads}
use Rattle.seq_log.specs.declared.key.Key.{Key}
use Rattle.audit_model.specs.Cases.{is_repeated}
use Rattle.log_judge.specs.ReadEntries.{ReadEntries}
use Rattle.log_judge.proofs.Reading.{repeated_is_none, end_is}
use Rattle.log_judge.proofs.read_log.ReadLog.push.Goals as goal

pub invariant_of-self-2 : goal.invariant_of-self-2
invariant_of-self-2 c =
    let list = c.self.inside.entries in
    let entry = c.args.entry in
    let leads : Leads list (λ (k : Key). get key_eq c.reserve.new.self k) =
    λ q. ap (λ (es : _). lookup (key_eq q) es) c.in_ok-reserve.ensures.entries ∙ c.self.invariant.0 q in
    let new = subst (λ (r : ReadEntries). is_repeated r.list entry.message ≡ false) (sym c.self.view_is) c.requires in
    let after =
    c.put_place.ensures list entry leads (sym c.len-place.ensures) c.key_of-key.ensures (repeated_is_none list entry.message new) in (
      subst (λ (l : List Entry). Leads l (λ (k : Key). get key_eq c.put_place.new.places k)) (sym c.in_ok-push.ensures.ok) after,
      sym (ap time_at_end c.in_ok-push.ensures.ok ∙ end_is list entry),
    )
