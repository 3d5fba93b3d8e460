use Rattle.std.proofs.Common.{◌≡◌, ◌≤◌, ◌∙◌, ℕ, ap, length, map, refl, sym, subst}
use Rattle.pruned_inbox.specs.Base as base_specs
use Rattle.pruned_inbox.specs.Base.{IsBase}
use Rattle.pruned_inbox.specs.Start.{GoesOn, Start}
use Rattle.pruned_inbox.proofs.Cleaned.{base_is_base}
use Rattle.node_inbox.specs.Beginnings.{start_of}
use Rattle.node_inbox.specs.InboxState.{params_of as params_in, reading_of as reading_in}
use Rattle.node_inbox.specs.Raw.{AreCame, item_by}
use Rattle.node_core.specs.Participant.{IsPrunedTo, Participant, items_of, params_of, pruned_at, reading_of}
use Rattle.node_core.specs.States.{IsStateOf, start_in}
use Rattle.node_core.proofs.NodeStates.{pruned_state_is}
use Rattle.node_core.proofs.PrunedStates.{next_is_base, next_is_later}
use Rattle.node_core.proofs.ReadSteps.{participant_of}
use Rattle.node_core.proofs.node.Node.pruned_state.Goals as goal

pub beginning_at-requires : goal.beginning_at-requires
beginning_at-requires c =
    let i = c.self.inside.inbox in
    subst (λ (n : ℕ). n ≤ length i.items) (sym c.next_base-base.ensures) (base_is_base (params_in i) i.items).within

pub items_from-requires : goal.items_from-requires
items_from-requires c =
    let i = c.self.inside.inbox in
    subst (λ (n : ℕ). n ≤ length i.items) (sym c.next_base-base.ensures) (base_is_base (params_in i) i.items).within

pub returns-clause-base : goal.returns-clause-base
returns-clause-base c =
    subst (λ (p : Participant). c.state_with.result.base ≡ base_specs.base (params_of p) (items_of p)) c.self.view_is
    (c.state_with.ensures.base ∙ (c.in_ok-beginning.ensures.base ∙ c.next_base-base.ensures))

pub returns-clause-start : goal.returns-clause-start
returns-clause-start c =
    let parts = c.state_with.ensures in
    let begun = c.in_ok-beginning.ensures in
    subst (λ (p : Participant). GoesOn (reading_of p) (items_of p) c.state_with.result.base p.start (start_in c.state_with.result)) c.self.view_is
    (subst
    (λ (start : Start). GoesOn (reading_in c.self.inside.inbox) (c.self.inside.inbox).items c.state_with.result.base (c.self.inside.inbox).start start)
    (sym parts.start)
    (subst
    (λ (n : ℕ). GoesOn (reading_in c.self.inside.inbox) (c.self.inside.inbox).items n (c.self.inside.inbox).start (start_of c.in_ok-beginning.beginning))
    (sym (parts.base ∙ begun.base)) begun.start))

pub returns-clause-state : goal.returns-clause-state
returns-clause-state c =
    let i = c.self.inside.inbox in
    let kept = c.self.inside.duties in
    let paused = c.self.inside.is_paused in
    let inv = c.self.invariant in
    let state = c.state_with.result in
    let base = c.next_base-base.result in
    let at = c.next_base-base.ensures in
    let begun = c.in_ok-beginning.ensures in
    let items = c.in_ok-items.ensures in
    let parts = c.state_with.ensures in
    let placed = parts.base ∙ begun.base in
    let mine = sym c.self.view_is in
    λ whole pruned.
    let here = subst (λ (p : Participant). IsPrunedTo whole p) mine pruned in
    let le = subst (λ (n : ℕ). i.base ≤ n) (sym at) (next_is_later whole (participant_of i paused kept) here) in
    let based = subst (λ (n : ℕ). IsBase (params_in i) i.items n) (sym at) (next_is_base whole (participant_of i paused kept) here) in
    subst (λ (p : Participant). IsStateOf (pruned_at state.base (start_in state) p) state) c.self.view_is
    (subst (λ (n : ℕ). IsStateOf (pruned_at n (start_in state) (participant_of i paused kept)) state) (sym placed)
    (pruned_state_is i paused kept inv.1 state (parts.me ∙ ap (λ (p : Participant). p.me) mine)
    (parts.paused ∙ ap (λ (p : Participant). (p.state).is_paused) mine) (parts.outbox ∙ c.in_ok-outbox.ensures) base (parts.done ∙ c.in_ok-done.ensures)
    whole here le based (start_in state) placed (parts.base_time ∙ begun.base_time) refl (ap (map (item_by i.topology)) parts.items ∙ items.items)
    (subst (AreCame i.topology i.packages i.me base i.items) (sym parts.items) items.came)))
