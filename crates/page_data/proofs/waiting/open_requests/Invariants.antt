use Rattle.std.proofs.Common.{◌≡◌, ◌++◌, drop}
use Rattle.page_data.specs.Waiting.{open_below}
use Rattle.page_data.proofs.waiting.open_requests.Given as goal

abbrev pub invariant-entries : goal.invariant-entries
invariant-entries l = l.all ++ open_below l.params l.log l.place (drop l.place l.log) ≡ open_below l.params l.log 0 l.log
