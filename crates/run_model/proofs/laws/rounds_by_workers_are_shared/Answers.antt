use Rattle.run_model.proofs.Workers.{rounds_are_shared, rounds_are_plain, rounds_go_on}
use Rattle.run_model.proofs.laws.rounds_by_workers_are_shared.Goals as goal

pub returns : goal.returns
returns g c =
    record {
      shared = λ m why workers now before rounds after machine genuine within h.
          rounds_are_shared m why workers machine now before rounds after (genuine, within) h;
      plain = λ m why now before rounds after h. rounds_are_plain m why now before rounds after h;
      more = λ m why workers now before rounds mid x after h submits part end.
          rounds_go_on m why workers now before rounds mid x after h submits part end;
    }
