use Rattle.std.proofs.Common.{◌≡◌, ◌+◌, ◌++◌, drop, length, string_bytes}
use Rattle.std.proofs.lemmas.List.{length-map}
use Rattle.std.specs.List.{flat_map, zip}
use Rattle.report_text.specs.Results.{caused_in, result_line, submitted_in, submitted_from}
use Rattle.report_text.proofs.OfRound.{length-caused_in}
use Rattle.report_text.proofs.Zipped.{drop-item, next_list}
use Rattle.report_text.proofs.results.put_results.Goals as goal

pub rounds-preserved : goal.rounds-preserved
rounds-preserved c =
    let line = result_line c.args.hosts.now in
    let round = c.round-item.result in
    let number = c.rounds.number in
    let rounds = c.args.submissions.now.rounds.now in
    let caused = c.args.caused.now in
    let submits = submitted_in number round.submits in
    let ours = caused_in number caused in
    let others = submitted_from (number + 1) (drop (number + 1) rounds) caused in
    let rest = c.rounds.rest.now in
    let done = string_bytes c.rounds.out in
    let head = drop-item _ rounds number round c.as_slice-round-items.ensures c.rounds-test.true c.round-item.is in
    let sofar = rw head at c.rounds.invariant in
    let many : length submits ≡ length round.submits = length-map round.submits _ in
    let first = next_list line submits (ours ++ others) rest done _ sofar in
    let second = next_list line ours others (drop (length submits) rest) (done ++ flat_map line (zip submits rest)) _ first in
    let put = c.in_ok-rest.ensures in
    rw (put.text, put.rest, c.answers_after-behind.ensures, c.len.ensures, c.in_ok-put_submits.ensures, ← many, ← length-caused_in number caused) second
