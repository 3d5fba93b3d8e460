use Rattle.std.proofs.Common.{◌≡◌, ◌+◌, ◌++◌, ◌∷◌, drop, string_bytes, arith, sym}
use Rattle.std.proofs.lemmas.Grind.{common_steps}
use Rattle.report_text.specs.Totals.{active_total_line}
use Rattle.report_text.proofs.Zipped.{drop-item, next_pair, no_pair}
use Rattle.report_text.proofs.totals.put_active_totals.Goals as goal
use Rattle.report_text.proofs.totals.put_active_totals.Goals.{in-Some+in_ok-put_active_total, in_default}

pub hosts-preserved : goal.hosts-preserved
hosts-preserved c =
    let head = drop-item _ c.args.hosts.now c.hosts.at c.host-item.result c.as_slice-host-items.ensures c.hosts-test.true c.host-item.is in
    let sofar = rw head at c.hosts.invariant in
    let actives = c.args.actives.now in
    let done = string_bytes c.hosts.out in
    elim c.match-get.branch [
      | in-Some+in_ok-put_active_total w ↦
          let pushed : string_bytes w.put_active_total.new.out ≡ string_bytes c.hosts.out ++ active_total_line (c.host-item.result, w.in-Some.active.now) =
          grind (arith, common_steps) in
          rw (w.out-is, pushed)
          (next_pair active_total_line c.host-item.result (drop (c.hosts.at + 1) c.args.hosts.now) actives c.hosts.at w.in-Some.active.now done _ (sym w.in-Some.ensures) sofar)
      | in_default w ↦ rw w.out-is
          (no_pair active_total_line (c.host-item.result ∷ drop (c.hosts.at + 1) c.args.hosts.now) (drop (c.hosts.at + 1) c.args.hosts.now) actives c.hosts.at done _ (sym w.in_default.ensures) sofar)
    ]
