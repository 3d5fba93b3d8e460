use Rattle.std.proofs.Common.{◌≡◌}
use Rattle.log_judge.specs.Known.{KnowsLog, standard_of}
use Rattle.log_judge.proofs.JudgeFacts.{HasRead}
use Rattle.log_judge.proofs.judging.judge_log.Given as goal

-- what was read and what is left are all
abbrev pub invariant-entries : goal.invariant-entries
invariant-entries g l =
    let first = l.fn.auditor in
    let now = l.auditor in
    let s = standard_of (g.P.Participants.reading first.participants) (g.P.Participants.params first.participants) first in
    HasRead s
    (KnowsLog (g.P.Participants.reading now.participants) (g.P.Participants.params now.participants) (g.P.Participants.have_read now.participants) now)
    l.fn.entries l.entry-iterator.rest.items l.count l.approved
    × (standard_of (g.P.Participants.reading now.participants) (g.P.Participants.params now.participants) now ≡ s)
