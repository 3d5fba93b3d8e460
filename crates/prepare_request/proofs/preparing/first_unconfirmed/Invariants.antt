use Rattle.std.proofs.Common.{◌≡◌, drop}
use Rattle.prepare_request.specs.Prepared.{first_unconfirmed}
use Rattle.prepare_request.proofs.preparing.first_unconfirmed.Given as goal

abbrev pub invariant-loop-party : goal.invariant-loop-party
invariant-loop-party l = first_unconfirmed l.topology l.me l.act_as ≡ first_unconfirmed l.topology l.me (drop l.party-index l.party-items)
