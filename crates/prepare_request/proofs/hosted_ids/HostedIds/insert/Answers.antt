use Rattle.prepare_request.proofs.Offered.{put_among}
use Rattle.prepare_request.proofs.hosted_ids.HostedIds.insert.Goals as goal

pub returns-clause-among : goal.returns-clause-among
returns-clause-among c =
    let put = rw c.unwrap.ensures at c.insert.ensures.updates in
    rw (← c.self.view_is) (put_among c.self.inside.ids c.insert.new.self c.args.id _ put.0)
