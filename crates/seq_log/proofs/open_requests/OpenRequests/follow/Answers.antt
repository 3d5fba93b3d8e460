use Rattle.std.proofs.Common.{sym, ◌∙◌}
use Rattle.seq_log.proofs.Followed.{none_follows}
use Rattle.seq_log.proofs.open_requests.OpenRequests.follow.Goals as goal

pub returns-in_default : goal.returns-in_default
returns-in_default c = λ message low high is rises.
    none_follows message c.args.self.now.places.items c.args.is_decided c.args.place (sym c.in_default.is ∙ is)
