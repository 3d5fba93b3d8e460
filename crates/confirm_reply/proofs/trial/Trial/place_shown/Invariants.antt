use Rattle.std.proofs.Common.{◌≡◌, ◌+◌, ℕ, drop}
use Rattle.std.specs.Prelude.{option_map}
use Rattle.confirm_reply.specs.Fit.{matter_of}
use Rattle.confirm_reply.specs.Tried.{place_shown, shows_at}
use Rattle.confirm_reply.proofs.trial.Trial.place_shown.Given as goal

abbrev pub invariant-loop-at : goal.invariant-loop-at
invariant-loop-at g l =
    option_map (λ (k : ℕ). l.at + k) (place_shown (shows_at l.self.input.now (matter_of l.self) l.reason) (drop l.at l.core))
    ≡ place_shown (shows_at l.self.input.now (matter_of l.self) l.reason) l.self.core.now
