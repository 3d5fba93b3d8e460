-- Neither submissions nor raw requests of an accepted script have an id that is kept for rules.
use Rattle.std.proofs.Common.{◌≡◌, ℕ, ◌+◌, false, List, [], ◌∷◌}
use Rattle.std.specs.Prelude.{All}
use Rattle.std.proofs.lemmas.List.Elements.{All-cons, All-head, All-nil, All-tail}
use Rattle.ledger_terms.specs.declared.host.Host.{Host}
use Rattle.ledger_terms.specs.declared.raw_request.RawRequest.{RawRequest}
use Rattle.canton_model.specs.declared.request.Request.{Request}
use Rattle.node_core.specs.declared.submit_result.SubmitResult.{SubmitResult}
use Rattle.script_read.specs.Kept.{IsRaw, IsRound}
use Rattle.script_read.specs.declared.round.Round.{Round}
use Rattle.trigger_model.specs.CausedRequests.{HasOwnIds}
use Rattle.trigger_rules.specs.Ids.{is_rule_command}
use Rattle.trigger_rules.specs.declared.caused.Caused.{Caused}
use Rattle.trigger_rules.specs.declared.rule.Rule.{Rule}
use Rattle.canton_run.specs.Answered.{request_of, requests_of}
use Rattle.canton_run.specs.Parts.{round_parts}

module _ (hosts : List Host) (rules : List Rule) where
  raws_own : (raws : List RawRequest) → All (IsRaw hosts rules) raws
      → All (λ (request : Request). is_rule_command rules request.sender request.command ≡ false) (requests_of raws)
  raws_own [] h = All-nil (λ (request : Request). is_rule_command rules request.sender request.command ≡ false)
  raws_own (raw ∷ raws) h =
      All-cons (λ (request : Request). is_rule_command rules request.sender request.command ≡ false) (request_of raw) (requests_of raws)
      (All-head (IsRaw hosts rules) raw raws h).own (raws_own raws (All-tail (IsRaw hosts rules) raw raws h))

  pub own_ids : (number : ℕ) (rounds : List Round) (caused : List Caused) (results : List SubmitResult) (ends : List ℕ) → All (IsRound hosts rules) rounds
      → All (HasOwnIds rules) (round_parts number rounds caused results ends)
  own_ids number [] caused results ends h = All-nil (HasOwnIds rules)
  own_ids number (x ∷ rounds) caused results [] h = All-nil (HasOwnIds rules)
  own_ids number (x ∷ rounds) caused results (e ∷ []) h = All-nil (HasOwnIds rules)
  own_ids number (x ∷ rounds) caused results (e ∷ f ∷ ends) h =
      let is = All-head (IsRound hosts rules) x rounds h in
      All-cons (HasOwnIds rules) _ _ (record { submits = λ k d lt. (is.submits k d lt).own; raws = raws_own x.raws is.raws })
      (own_ids (number + 1) rounds caused _ ends (All-tail (IsRound hosts rules) x rounds h))
