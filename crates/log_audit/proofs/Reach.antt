-- The dump of a genuine log of a script's synchroniser is judged yes.
use Rattle.std.proofs.Common.{◌≡◌, ℕ, ◌<◌, ◌≤◌, ◌^◌, List, length, Ok, Some, All, refl, ap, arith}
use Rattle.canton_model.specs.Genuine.{Genuine}
use Rattle.world_model.specs.Messages.{Entry}
use Rattle.framed_form.specs.FramedReading.{framed_reading}
use Rattle.audit_model.specs.Judged.{approved_in}
use Rattle.log_dump.specs.InRange.{IsBlock, IsTyped}
use Rattle.log_dump.specs.Spelling.{spell_dump}
use Rattle.script_read.specs.Kept.{IsAccepted}
use Rattle.script_read.specs.Script.{script_in}
use Rattle.script_read.specs.declared.script.Script.{Script}
use Rattle.log_audit.specs.Audits.{IsAudit, SpellsProperLog}
use Rattle.log_audit.specs.RuleRuns.{UsesRulesRightly}
use Rattle.log_audit.specs.Scripts.{most_of, script_of, standard_of, unless_fault}
use Rattle.log_audit.specs.declared.answer.Audit.TheVariants.{Yes}
use Rattle.log_audit.proofs.Ranges.{in_range}
use Rattle.log_audit.proofs.YesFacts.{is_judged_yes}

is_script : (bytes : List ℕ) (script : Script) → script_in bytes ≡ Ok script → script_of bytes ≡ Some script
unfolding script_of
is_script bytes script e = ap unless_fault e

-- as a synchroniser writes it
pub dump_is_yes : (bytes : List ℕ) (script : Script) (log : List Entry) → script_in bytes ≡ Ok script → IsAccepted script → IsBlock bytes
    → Genuine (framed_reading script.topology script.checked) (script.topology).params log → length log < 2 ^ 32 → All IsTyped log
    → UsesRulesRightly script log
    → IsAudit script_of most_of standard_of (spell_dump bytes log) (Yes (length log) (approved_in log))
dump_is_yes bytes script log read accepted block genuine few typed rightly =
    let some : 1 ≤ length (script.topology).hosts = (accepted.topology).some_host in
    let hosts : length (script.topology).hosts ≤ 8 = (accepted.topology).few_hosts in
    let proper : SpellsProperLog script_of most_of standard_of (spell_dump bytes log) =
    record {
      block = bytes;
      script = script;
      log = log;
      spelled = refl;
      is_script = is_script bytes script read;
      is_block = block;
      in_range = in_range script.topology script.checked log (omega (arith, some)) (omega (arith, hosts)) genuine few typed;
      proper = record { genuine = genuine; caused = rightly };
    } in
    is_judged_yes script_of most_of standard_of (spell_dump bytes log) proper
