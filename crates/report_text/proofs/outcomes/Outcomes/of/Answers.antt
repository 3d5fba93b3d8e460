use Rattle.std.proofs.Common.{take, nat_eq}
use Rattle.indexmap.specs.IndexMap.{get}
use Rattle.report_text.proofs.OneMore.{take-item, decides_more}
use Rattle.report_text.proofs.outcomes.Outcomes.of.Goals as goal

pub entries-preserved : goal.entries-preserved
entries-preserved c =
    let log = c.args.log.now in
    let entry = c.entry-item.result in
    let more = take-item _ log c.entries.entry-index entry c.as_slice-entry-items.ensures c.entries-test.true c.entry-item.is in
    let next = decides_more (λ request. get nat_eq c.entries.verdicts request) (λ request. get nat_eq c.keep_first.new.verdicts request) c.entries.latest
    (take c.entries.entry-index log) entry c.entries.invariant c.in_ok-keep_first.ensures in
    rw (more, c.later-latest.ensures) next
