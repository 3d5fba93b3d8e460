-- What is claimed and what is sent next is the same.
use Rattle.std.proofs.Common.{◌≡◌, ℕ, zero, suc, ◌<◌, ◌≤◌, Bool, true, false, Option, Some, None, length, refl, sym, ap, ◌∙◌, inl, inr, not}
use Rattle.std.specs.Prelude.{is_some, ◌&&◌, if◌then◌else◌, option_and_then}
use Rattle.std.proofs.lemmas.Bool.{cases_Bool, cases_lt, and_parts}
use Rattle.ledger_terms.specs.declared.params.Params.{Params}
use Rattle.ledger_model.specs.Terms.{ParticipantId}
use Rattle.canton_model.specs.declared.response.Response.{Response}
use Rattle.canton_model.specs.Reading.{Reading}
use Rattle.canton_model.specs.Inbox.{Notice, notice_at, is_decided_in}
use Rattle.world_model.specs.Machine.{confirms_some_view}
use Rattle.world_model.specs.Node.{NodeState, owes_at, is_decided_now, is_claimable, next_claim, waits_at, waiting_to, is_waiting_at, outbox_head}
use Rattle.world_model.specs.Places.{first_from, has_place}
use Rattle.pruned_inbox.specs.Alike.{AnswersAlike}
use Rattle.pruned_inbox.specs.Duties.{DutiesAlike}
use Rattle.pruned_inbox.specs.Start.{Start}
use Rattle.pruned_inbox.proofs.Kept.{noticed_received}
use Rattle.std.specs.Prelude.{slice_get}

first_same : (test test' : ℕ → Bool) (start count : ℕ) → ((k : ℕ) → test k ≡ test' k) → first_from test start count ≡ first_from test' start count
first_same test test' start zero h = refl
first_same test test' start (suc count) h =
    ap (λ (here : Bool). if here then Some start else first_from test (suc start) count) (h start)
    ∙ ap (λ (later : Option ℕ). if test' start then Some start else later) (first_same test test' (suc start) count h)

-- what is done with the first that passes, by two that agree on those that pass
first_then : (test : ℕ → Bool) (f g : ℕ → Option Response) (start count : ℕ) → ((k : ℕ) → test k ≡ true → f k ≡ g k) → option_and_then f (first_from test start count) ≡ option_and_then g (first_from test start count)
first_then test f g start zero h = refl
first_then test f g start (suc count) h =
    elim (cases_Bool (test start)) [
      | inl passes ↦ rw passes (h start passes)
      | inr fails ↦ rw fails (first_then test f g (suc start) count h)
    ]

confirms_noticed : (o : Option Notice) → confirms_some_view o ≡ true → is_some o ≡ true
confirms_noticed None e = absurd cc
confirms_noticed (Some notice) e = refl

shut : (a : Bool) → (a && false) ≡ false
shut true = refl
shut false = refl

module _ (reading : Reading) (params : Params) (p : ParticipantId) (b : ℕ) (start : Start) (whole kept : NodeState) (alike : AnswersAlike reading params p whole.items kept.items b start) (duties : DutiesAlike reading p b whole kept) where
  owes_same : (k : ℕ) → b ≤ k → owes_at reading p kept.items k ≡ owes_at reading p whole.items k
  owes_same k le = ap confirms_some_view (alike.noticed k le)

  owes_nothing : (k : ℕ) → k < b → owes_at reading p kept.items k ≡ false
  owes_nothing k lt = ap confirms_some_view (alike.unnoticed k lt)

  decided_same : (k : ℕ) → b ≤ k → owes_at reading p whole.items k ≡ true → is_decided_now params kept.items k ≡ is_decided_now params whole.items k
  decided_same k le owes = ap (is_decided_in params kept.items k) alike.cursor ∙ alike.decided k (length whole.items) le (noticed_received (slice_get whole.items k) (confirms_noticed (notice_at whole.items k) owes))

  decided_long_ago : (k : ℕ) → k < b → b ≤ length whole.items → owes_at reading p whole.items k ≡ true → is_decided_now params whole.items k ≡ true
  decided_long_ago k lt within owes = alike.decided_below k (length whole.items) lt within (noticed_received (slice_get whole.items k) (confirms_noticed (notice_at whole.items k) owes))

  module _ (within : b ≤ length whole.items) where
    claimable : (k : ℕ) → is_claimable reading params p kept k ≡ is_claimable reading params p whole k
    claimable k =
        elim (cases_lt k b) [
          | inl lt ↦
              let right : (owes_at reading p whole.items k && not (is_decided_now params whole.items k)) ≡ false =
              elim (cases_Bool (owes_at reading p whole.items k)) [
                | inr not_owed ↦ ap (λ (o : Bool). o && not (is_decided_now params whole.items k)) not_owed
                | inl owes ↦ ap (λ (d : Bool). owes_at reading p whole.items k && not d) (decided_long_ago k lt within owes) ∙ shut (owes_at reading p whole.items k)
              ] in
              ap (λ (o : Bool). (o && not (is_decided_now params kept.items k)) && not (has_place kept.claimed k)) (owes_nothing k lt)
              ∙ sym (ap (λ (o : Bool). o && not (has_place whole.claimed k)) right)
          | inr far ↦
              let left : (owes_at reading p kept.items k && not (is_decided_now params kept.items k)) ≡ (owes_at reading p whole.items k && not (is_decided_now params whole.items k)) =
              elim (cases_Bool (owes_at reading p whole.items k)) [
                | inr not_owed ↦
                    ap (λ (o : Bool). o && not (is_decided_now params kept.items k)) (owes_same k far ∙ not_owed)
                    ∙ sym (ap (λ (o : Bool). o && not (is_decided_now params whole.items k)) not_owed)
                | inl owes ↦
                    ap (λ (o : Bool). o && not (is_decided_now params kept.items k)) (owes_same k far)
                    ∙ ap (λ (d : Bool). owes_at reading p whole.items k && not d) (decided_same k far owes)
              ] in
              ap (λ (o : Bool). o && not (has_place kept.claimed k)) left
              ∙ ap (λ (c : Bool). (owes_at reading p whole.items k && not (is_decided_now params whole.items k)) && not c) (duties.claims k far)
        ]

    pub claim_same : next_claim reading params p kept ≡ next_claim reading params p whole
    claim_same =
        first_same (is_claimable reading params p kept) (is_claimable reading params p whole) 0 (length kept.items) claimable
        ∙ ap (first_from (is_claimable reading params p whole) 0) alike.cursor

    waiting : (k : ℕ) → is_waiting_at params kept k ≡ is_waiting_at params whole k
    waiting k =
        elim (cases_lt k b) [
          | inl lt ↦
              let right : is_waiting_at params whole k ≡ false =
              elim (cases_Bool (waits_at whole.outbox k)) [
                | inr none ↦ ap (λ (w : Bool). w && not (is_decided_now params whole.items k)) none
                | inl waits ↦ ap (λ (d : Bool). waits_at whole.outbox k && not d) (decided_long_ago k lt within (duties.owed k waits)) ∙ shut (waits_at whole.outbox k)
              ] in
              ap (λ (w : Bool). w && not (is_decided_now params kept.items k)) (duties.none_below k lt) ∙ sym right
          | inr far ↦
              elim (cases_Bool (waits_at whole.outbox k)) [
                | inr none ↦
                    ap (λ (w : Bool). w && not (is_decided_now params kept.items k)) (duties.waits k far ∙ none)
                    ∙ sym (ap (λ (w : Bool). w && not (is_decided_now params whole.items k)) none)
                | inl waits ↦
                    ap (λ (w : Bool). w && not (is_decided_now params kept.items k)) (duties.waits k far)
                    ∙ ap (λ (d : Bool). waits_at whole.outbox k && not d) (decided_same k far (duties.owed k waits))
              ]
        ]

    from_base : (k : ℕ) → is_waiting_at params kept k ≡ true → waiting_to kept.outbox k ≡ waiting_to whole.outbox k
    from_base k waits =
        elim (cases_lt k b) [
          | inr far ↦ duties.responses k far
          | inl lt ↦
              let parts = and_parts (waits_at kept.outbox k) (not (is_decided_now params kept.items k)) waits in
              let wrong : true ≡ false = sym parts.0 ∙ duties.none_below k lt in absurd (cc)
        ]

    pub head_same : outbox_head params kept ≡ outbox_head params whole
    head_same =
        first_then (is_waiting_at params kept) (waiting_to kept.outbox) (waiting_to whole.outbox) 0 (length kept.items) from_base
        ∙ (ap (option_and_then (waiting_to whole.outbox)) (first_same (is_waiting_at params kept) (is_waiting_at params whole) 0 (length kept.items) waiting)
        ∙ ap (λ (n : ℕ). option_and_then (waiting_to whole.outbox) (first_from (is_waiting_at params whole) 0 n)) alike.cursor)
