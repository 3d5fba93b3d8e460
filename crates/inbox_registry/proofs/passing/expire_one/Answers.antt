use Rattle.std.proofs.Common.{suc, length, ap, ◌∙◌}
use Rattle.request_track.specs.Pairs.{undecided_of}
use Rattle.request_track.proofs.Lapses.{one_less}
use Rattle.inbox_registry.proofs.Expiry.{passing_on}
use Rattle.inbox_registry.proofs.passing.expire_one.Goals as goal

pub returns-clause-step : goal.returns-clause-step
returns-clause-step c = λ start held x.
    passing_on c.args.time c.args.place start c.args.tracker.now.pairs c.settle.new.self.pairs held c.args.store.now.holds c.release.new.self.holds c.requires
    c.settle.ensures.pairs c.release.ensures.holds x

pub returns-clause-less : goal.returns-clause-less
returns-clause-less c =
    ap (λ ps. suc (length (undecided_of ps))) c.settle.ensures.pairs ∙ one_less c.args.time c.args.place c.args.tracker.now.pairs c.requires
