use Rattle.std.proofs.Common.{◌<◌, ◌≤◌, All, arith, length, subst}
use Rattle.std.proofs.lemmas.Grind.{common_steps}
use Rattle.std.proofs.lemmas.List.{take_all}
use Rattle.std.proofs.lemmas.List.Elements.{All-more}
use Rattle.log_dump.specs.InRange.{IsTyped}
use Rattle.log_dump.specs.Spelling.{spell_entry}
use Rattle.log_dump.proofs.Written.{one_more}
use Rattle.log_dump.proofs.encode.encode_log.Goals as goal

pub loop-entry-preserved : goal.loop-entry-preserved
loop-entry-preserved c =
    let log = c.as_slice-log.result.now in
    let at = c.loop-entry.entry-index in
    let entry = c.entry-item.result in
    let within : at < length log = grind (arith, common_steps) in (
      one_more spell_entry log at entry c.loop-entry.out c.encode_entry.new.out _ within c.entry-item.is c.in_ok-encode_entry.ensures.written
          c.loop-entry.invariant.0,
      All-more IsTyped log at entry within c.loop-entry.invariant.1 (subst IsTyped c.entry-item.is c.in_ok-encode_entry.ensures.typed),
    )

pub returns-clause-typed : goal.returns-clause-typed
returns-clause-typed c =
    let past : length c.args.log.now ≤ c.loop-entry.entry-index = grind (arith, common_steps) in
    subst (All IsTyped) (take_all c.loop-entry.entry-index c.args.log.now past) (rw c.as_slice-log.ensures at c.loop-entry.invariant.1)
