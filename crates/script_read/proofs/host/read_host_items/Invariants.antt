use Rattle.std.proofs.Common.{◌≡◌, ◌≤◌, [], length, drop}
use Rattle.serde_json.specs.View.{items_view}
use Rattle.json_walk.specs.Walk.{walk_items}
use Rattle.script_read.specs.Hosts.{host_step}
use Rattle.script_read.proofs.host.read_host_items.Given as goal

abbrev pub invariant-items : goal.invariant-items
invariant-items l = record {
  walk : walk_items (host_step l.at) l.i (l.hosts, l.count) (items_view (drop l.i l.items)) ≡ walk_items (host_step l.at) 0 ([], 0) (items_view l.items);
  hosted : l.count ≤ 128;
  many : length l.hosts ≡ l.i;
}
