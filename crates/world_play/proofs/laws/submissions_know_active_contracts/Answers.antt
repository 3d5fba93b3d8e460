use Rattle.world_play.proofs.ActiveAt.{answered_by}
use Rattle.world_play.proofs.laws.submissions_know_active_contracts.Goals as goal

pub returns : goal.returns
returns c = λ topology packages capacity now round raws log end earlier what result holds within.
    answered_by c.prepared_requests_are_wanted.ensures.given c.faults_have_causes.ensures topology packages capacity now round raws log end earlier what result
    holds within
