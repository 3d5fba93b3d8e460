use Rattle.std.proofs.Common.{ap}
use Rattle.lang_eval.specs.Next.{ended, ran_all, names_of}
use Rattle.lang_eval.proofs.laws.empty_bodies_end.Goals as goal

pub returns-clause-any : goal.returns-clause-any
returns-clause-any c t choice packages call seen h =
    ap (λ b. ended choice (ran_all b packages (names_of t choice call) seen)) h
