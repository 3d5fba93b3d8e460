use Rattle.std.proofs.Common.{◌↔◌, arith}
use Rattle.log_dump.proofs.EntryLaws.{all_from_bytes}
use Rattle.log_audit.specs.Audits.{IsAudit, IsYes, SpellsProperLog}
use Rattle.log_audit.specs.declared.answer.Audit.{Audit}
use Rattle.log_audit.proofs.YesFacts.{proper_is_yes, yes_is_proper}
use Rattle.log_audit.specs.Scripts.{most_of, script_of, standard_of}
use Rattle.log_judge.proofs.Knowing.{if_ok_map}
use Rattle.log_audit.proofs.auditing.audit.Goals as goal

pub returns-clause-yes : goal.returns-clause-yes
returns-clause-yes c =
    let bytes = c.args.bytes.now in
    if_ok_map c.audited.result (IsAudit script_of most_of standard_of bytes) (λ (a : Audit). IsYes a ↔ SpellsProperLog script_of most_of standard_of bytes)
    c.audited.ensures
    (λ a h. (
      yes_is_proper script_of most_of standard_of bytes a (all_from_bytes bytes (λ i. omega (arith, c.type_inv.bytes i))) h,
      λ p. proper_is_yes script_of most_of standard_of bytes a p h,
    ))
