use Rattle.std.proofs.Common.{◌≤◌, List}
use Rattle.world_model.specs.Messages.{Entry}
use Rattle.audit_model.specs.Judged.{IsProper}
use Rattle.log_judge.specs.Known.{KnowsLog, standard_of}
use Rattle.log_judge.proofs.JudgeFacts.{NoneBelow}
use Rattle.log_judge.proofs.judging.first_case.Given as goal

-- no case before this one is shown
abbrev pub invariant-cases : goal.invariant-cases
invariant-cases g l =
    let reading = g.P.Participants.reading (l.auditor).participants in
    let params = g.P.Participants.params (l.auditor).participants in
    let have_read = g.P.Participants.have_read (l.auditor).participants in
    (1 ≤ l.number) × (l.number ≤ 9)
    × ((log : List Entry) → KnowsLog reading params have_read l.auditor log → IsProper (standard_of reading params l.auditor) log
    → NoneBelow (standard_of reading params l.auditor) log l.entry l.number)
