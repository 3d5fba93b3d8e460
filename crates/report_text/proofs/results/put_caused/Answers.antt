use Rattle.std.proofs.Common.{◌+◌, ◌∙◌, drop, string_bytes}
use Rattle.report_text.specs.Results.{result_line}
use Rattle.report_text.proofs.OfRound.{after_first, next_caused}
use Rattle.report_text.proofs.Zipped.{drop-item}
use Rattle.report_text.proofs.results.put_caused.Goals as goal

pub caused-preserved : goal.caused-preserved
caused-preserved c =
    let one = c.one-item.result in
    let others = drop (c.caused.one-index + 1) c.args.caused.now in
    let rest = c.caused.rest.now in
    let head = drop-item _ c.args.caused.now c.caused.one-index one c.as_slice-one-items.ensures c.caused-test.true c.one-item.is in
    let sofar = rw head at c.caused.invariant.0 in
    let behind = rw head at c.caused.invariant.1 in
    let put = c.in_ok-rest.ensures in (
      rw (put.text, put.rest) (next_caused (result_line c.args.hosts.now) c.args.round one others rest (string_bytes c.caused.out) _ sofar),
      rw put.rest (after_first c.args.round one others rest ∙ behind),
    )
