use Rattle.std.proofs.Common.{rules}
use Rattle.serde_json.specs.View.{view}
use Rattle.script_read.proofs.Topologies.{hosts_few}
use Rattle.script_read.proofs.host.hosts_in.Goals as goal

pub returns-clause-few : goal.returns-clause-few
returns-clause-few c =
    hosts_few (view c.args.value.now) (view c.in_ok-found.found.now) (c.in_ok-hosts.hosts, c.in_ok-hosts.field-0-1) _ (search rules) (search rules) (search rules)
