use Rattle.std.proofs.Common.{inl, inr}
use Rattle.ledger_model.proofs.Lists.{contains_from_In}
use Rattle.world_model.specs.World.{Submit, SubmitRaw}
use Rattle.world_model.proofs.Origins.{origins}
use Rattle.world_model.proofs.laws.requests_of_events.Goals as goal

pub returns : goal.returns
returns c m events k request machine there =
    elim (origins m events machine k request there) [
      | inl raw ↦ inl (contains_from_In events (SubmitRaw request) raw)
      | inr s ↦ inr (s.0, s.1, s.2, contains_from_In events (Submit s.0) s.3, s.4, s.5)
    ]
