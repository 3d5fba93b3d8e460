use Rattle.std.proofs.Common.{◌≤◌, length, arith}
use Rattle.layer_cases.proofs.Hosted.{can_submit_each}
use Rattle.layer_cases.proofs.world.answers.put_script.Goals as goal

pub plan_of-requires : goal.plan_of-requires
plan_of-requires c =
    let script = c.args.script in
    can_submit_each script c.requires _ (c.in_ok-left.ensures (script.topology).hosts script.triggers ((c.requires).rounds).each)

pub put_plan-requires-clause-hosts : goal.put_plan-requires-clause-hosts
put_plan-requires-clause-hosts c =
    let few : length (c.args.script.topology).hosts ≤ 8 = ((c.requires).topology).few_hosts in omega (arith, few)
