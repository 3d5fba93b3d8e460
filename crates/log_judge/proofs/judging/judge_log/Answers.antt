use Rattle.std.proofs.Common.{ℕ, ◌+◌, List, ap, subst, ◌∙◌}
use Rattle.world_model.specs.Messages.{Entry}
use Rattle.log_judge.specs.Known.{KnowsLog, standard_of}
use Rattle.log_judge.proofs.JudgeFacts.{HasRead, first_here, goes_on, may_go_on}
use Rattle.log_judge.proofs.judging.judge_log.Goals as goal

pub returns-in-Some-2 : goal.returns-in-Some-2
returns-in-Some-2 g c =
    let first = c.args.auditor.now in
    let now = c.entries.auditor in
    let s = standard_of (g.P.Participants.reading first.participants) (g.P.Participants.params first.participants) first in
    let standard = standard_of (g.P.Participants.reading now.participants) (g.P.Participants.params now.participants) now in
    let read = KnowsLog (g.P.Participants.reading now.participants) (g.P.Participants.params now.participants) (g.P.Participants.have_read now.participants) now in
    let h =
    subst (λ (rest : List Entry). HasRead s read c.args.entries rest c.entries.count c.entries.approved) c.in-Some.ensures.steps.0 c.entries.invariant.0 in
    first_here s standard read c.args.entries c.next.new.self.rest.items c.in-Some.entry c.entries.count c.entries.approved h
    c.entries.invariant.1 c.in_ok-why.field-0 c.in_ok-why.ensures c.in-Some-2.why c.in-Some-2.is

pub entries-preserved-in_ok-read : goal.entries-preserved-in_ok-read
entries-preserved-in_ok-read g c =
    let first = c.args.auditor.now in
    let now = c.entries.auditor in
    let s = standard_of (g.P.Participants.reading first.participants) (g.P.Participants.params first.participants) first in
    let standard = standard_of (g.P.Participants.reading now.participants) (g.P.Participants.params now.participants) now in
    let read = KnowsLog (g.P.Participants.reading now.participants) (g.P.Participants.params now.participants) (g.P.Participants.have_read now.participants) now in
    let h =
    subst (λ (rest : List Entry). HasRead s read c.args.entries rest c.entries.count c.entries.approved) c.in-Some.ensures.steps.0 c.entries.invariant.0 in (
      goes_on s standard read c.args.entries c.next.new.self.rest.items c.in-Some.entry c.entries.count
          c.entries.approved h c.entries.invariant.1 (KnowsLog (g.P.Participants.reading c.read.new.self.participants) (g.P.Participants.params c.read.new.self.participants) (g.P.Participants.have_read c.read.new.self.participants) c.read.new.self) (c.entries.approved + c.approvals_of-approvals.result) c.in_ok-why.field-0 c.in_ok-why.ensures c.in_default.is
          c.in_ok-read.ensures.known (ap (λ (n : ℕ). c.entries.approved + n) c.approvals_of-approvals.ensures.exact),
      ◌∙◌ {a = standard_of (g.P.Participants.reading c.read.new.self.participants) (g.P.Participants.params c.read.new.self.participants) c.read.new.self} {b = standard} {c = s}
          c.in_ok-read.ensures.standard c.entries.invariant.1,
    )

pub entries-preserved : goal.entries-preserved
entries-preserved g c =
    let first = c.args.auditor.now in
    let now = c.entries.auditor in
    let s = standard_of (g.P.Participants.reading first.participants) (g.P.Participants.params first.participants) first in
    let standard = standard_of (g.P.Participants.reading now.participants) (g.P.Participants.params now.participants) now in
    let read = KnowsLog (g.P.Participants.reading now.participants) (g.P.Participants.params now.participants) (g.P.Participants.have_read now.participants) now in
    let h =
    subst (λ (rest : List Entry). HasRead s read c.args.entries rest c.entries.count c.entries.approved) c.in-Some.ensures.steps.0 c.entries.invariant.0 in (
      goes_on s standard read c.args.entries c.next.new.self.rest.items c.in-Some.entry c.entries.count
          c.entries.approved h c.entries.invariant.1 (KnowsLog (g.P.Participants.reading c.read.new.self.participants) (g.P.Participants.params c.read.new.self.participants) (g.P.Participants.have_read c.read.new.self.participants) c.read.new.self) (c.entries.approved + c.approvals_of-approvals.result) c.in_ok-why.field-0 c.in_ok-why.ensures c.in_default.is
          c.in_ok-read.ensures.known (ap (λ (n : ℕ). c.entries.approved + n) c.approvals_of-approvals.ensures.exact),
      ◌∙◌ {a = standard_of (g.P.Participants.reading c.read.new.self.participants) (g.P.Participants.params c.read.new.self.participants) c.read.new.self} {b = standard} {c = s}
          c.in_ok-read.ensures.standard c.entries.invariant.1,
    )

pub read-requires-clause-known : goal.read-requires-clause-known
read-requires-clause-known g c =
    let first = c.args.auditor.now in
    let now = c.entries.auditor in
    let s = standard_of (g.P.Participants.reading first.participants) (g.P.Participants.params first.participants) first in
    let standard = standard_of (g.P.Participants.reading now.participants) (g.P.Participants.params now.participants) now in
    let read = KnowsLog (g.P.Participants.reading now.participants) (g.P.Participants.params now.participants) (g.P.Participants.have_read now.participants) now in
    let h =
    subst (λ (rest : List Entry). HasRead s read c.args.entries rest c.entries.count c.entries.approved) c.in-Some.ensures.steps.0 c.entries.invariant.0 in
    may_go_on s standard read c.args.entries c.next.new.self.rest.items c.in-Some.entry c.entries.count c.entries.approved h
    c.entries.invariant.1 c.in_ok-why.field-0 c.in_ok-why.ensures c.in_default.is c.requires.few
