use Rattle.std.proofs.Common.{◌≡◌, ℕ, refl, sym, ap, ◌∙◌, subst}
use Rattle.framed_form.specs.FramedReading.{framed_reading}
use Rattle.pruned_inbox.specs.Start.{Start}
use Rattle.node_inbox.specs.Beginnings.{IsBeginning, start_of}
use Rattle.node_inbox.specs.InboxState.{InboxState, params_of, reading_of}
use Rattle.node_core.specs.Duties.{Kept}
use Rattle.node_core.specs.Kept.{IsKept}
use Rattle.node_core.specs.States.{start_in}
use Rattle.node_core.proofs.Beginnings.{begun_is, begun_keeps}
use Rattle.node_core.proofs.node.Node.begin_at.Goals as goal

pub begin_at-requires : goal.begin_at-requires
begin_at-requires c =
    let state = c.args.state.now in
    let beginning = c.in_ok-beginning.beginning in
    let is = c.in_ok-beginning.ensures in
    let same : start_in state ≡ record { active = beginning.active; gone = beginning.gone } =
    λ i. record { active = sym (is.active ∙ c.as_slice.ensures) i; gone = sym (is.gone ∙ c.as_slice-2.ensures) i } in
    subst (λ (n : ℕ). IsBeginning n beginning.base_time (record { active = beginning.active; gone = beginning.gone })) (sym is.base)
    (subst (λ (t : ℕ). IsBeginning state.base t (record { active = beginning.active; gone = beginning.gone })) (sym is.base_time)
    (subst (λ (start : Start). IsBeginning state.base state.base_time start) same (c.requires).begins))

pub invariant_of-result : goal.invariant_of-result
invariant_of-result c =
    let topology = c.args.setup.now.topology in
    let begun = c.in_ok-inbox.ensures in
    let kept = c.new.result in
    let none = c.new.ensures in
    let beginning = c.in_ok-beginning.beginning in (
      sym (ap (λ (x : InboxState). x.me) begun),
      subst (λ (x : InboxState). IsKept (reading_of x) (params_of x) x.me x.items kept) (sym begun)
          (begun_keeps (framed_reading topology c.args.setup.now.checked) topology.params (c.args.state.now).me beginning.base beginning.base_time kept
          (ap (λ (k : Kept). k.owed) none) (ap (λ (k : Kept). k.passed) none) (ap (λ (k : Kept). k.claimed) none)
          (ap (λ (k : Kept). k.unfinished) none) (ap (λ (k : Kept). k.outbox) none)),
      sym (ap (λ (x : InboxState). x.topology) begun),
      sym (ap (λ (x : InboxState). x.packages) begun),
    )

pub returns : goal.returns
returns c =
    let state = c.args.state.now in
    let beginning = c.in_ok-beginning.beginning in
    let is = c.in_ok-beginning.ensures in
    begun_is c.in_ok-inbox.inbox state.paused c.new.result c.args.setup.now.topology c.args.setup.now.checked state beginning.base beginning.base_time
    (start_of beginning) c.in_ok-inbox.ensures c.new.ensures is.base is.base_time
    (λ i. record { active = (is.active ∙ c.as_slice.ensures) i; gone = (is.gone ∙ c.as_slice-2.ensures) i }) refl
