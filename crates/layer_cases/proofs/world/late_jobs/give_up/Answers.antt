use Rattle.layer_cases.proofs.LateJobs.{put_back_stands}
use Rattle.layer_cases.proofs.world.late_jobs.give_up.Goals as goal

pub returns : goal.returns
returns c = λ m p s g. put_back_stands m p s c.args.node.now c.put_back.new.self c.args.place c.put_back.ensures g
