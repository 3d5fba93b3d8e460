-- What one thread does in a part of a run is what any number of workers may do in it; and a part goes on with the log.
use Rattle.std.proofs.Common.{ℕ, zero, suc, ◌++◌, List, append_assoc, sym, ap, ◌∙◌}
use Rattle.run_model.specs.Workers.{PartBy}
use Rattle.threads_model.specs.Shared.{SharedPart}
use Rattle.threads_model.proofs.PlainShared.{plain_is_shared}
use Rattle.threads_model.proofs.RoundShared.{shared_longer}
use Rattle.world_model.specs.Machine.{Machine, IsMachine}
use Rattle.world_model.specs.Messages.{Entry}
use Rattle.world_model.specs.Plain.{PlainPart}
use Rattle.world_model.specs.Rounds.{Results, Round, Why}
use Rattle.world_model.proofs.BegunFacts.{Good, Longer, begun_longer}

module _ {F : Type 0} (m : Machine) (why : Why F) where
  pub plain_by_any : (workers now : ℕ) (round : Round) → IsMachine m → (results : Results F) (before after : List Entry) → Good m before
      → PlainPart m why now round results before after → PartBy workers m why now round results before after
  plain_by_any zero now round machine results before after good part = part
  plain_by_any (suc others) now round machine results before after good part = plain_is_shared m why now round machine results before after good part

  shared_goes_on : (now : ℕ) (round : Round) (results : Results F) (before after : List Entry)
      → SharedPart m why now round results before after → Longer before after
  shared_goes_on now round results before after part =
      let b = begun_longer m now round before in
      let s = shared_longer m why now round results before after part in
      (b.0 ++ s.0, sym s.1 ∙ (ap (λ (xs : List Entry). xs ++ s.0) b.1 ∙ append_assoc before b.0 s.0))

  pub part_goes_on : (workers now : ℕ) (round : Round) → IsMachine m → (results : Results F) (before after : List Entry) → Good m before
      → PartBy workers m why now round results before after → Longer before after
  part_goes_on zero now round machine results before after good part =
      shared_goes_on now round results before after (plain_is_shared m why now round machine results before after good part)
  part_goes_on (suc others) now round machine results before after good part = shared_goes_on now round results before after part
