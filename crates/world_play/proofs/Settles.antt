-- Pass after pass.
use Rattle.std.proofs.Common.{◌≡◌, ℕ, zero, suc, ◌<◌, Bool, List, [], ◌∷◌, ◌++◌, length, refl, sym, ap, ◌∙◌, subst, inl, inr, arith, append-nil}
use Rattle.std.proofs.lemmas.List.{length-append}
use Rattle.ledger_model.specs.Terms.{ParticipantId}
use Rattle.ledger_terms.specs.declared.topology.Topology.{Topology}
use Rattle.lang_eval.specs.Found.{Packages}
use Rattle.world_model.specs.Messages.{Entry}
use Rattle.world_model.specs.Machine.{Machine}
use Rattle.world_model.specs.Mediator.{MediatorState}
use Rattle.world_model.specs.Lawful.{Lawful}
use Rattle.world_model.specs.Settled.{Settled, left, pass, passes}
use Rattle.world_model.specs.Settling.{WorldReady}
use Rattle.world_model.proofs.Ends.{pass_less, passes_settle}
use Rattle.world_model.proofs.WorldPasses.{one_pass_more, same_end}
use Rattle.seq_log.specs.Sequenced.{Sequenced}
use Rattle.world_play.specs.declared.world.World.{World}
use Rattle.world_play.specs.Parts.{GoesOn}
use Rattle.node_core.specs.Bases.{AreBases, Bases}
use Rattle.world_play.specs.Submitting.{AreSetUp}
use Rattle.world_play.specs.WorldOf.{world_of, IsWorldOf}
use Rattle.world_play.proofs.Passing.{length_states}
use Rattle.world_play.proofs.Sends.{stays, goes_further}

module _ (paused : List ParticipantId) (held : Bool) (first : World) where
  pub record IsPassing (world : World) : Type 0 where
    pub on : GoesOn first.sequencer world.sequencer
    pub now : world.now ≡ first.now
    pub lawful : (m : Machine) (state : MediatorState) → IsWorldOf m state first → Lawful m (world_of state first)
        → (after : MediatorState) × IsWorldOf m after world × Lawful m (world_of after world)
    pub set_up : (topology : Topology) (packages : Packages) → AreSetUp topology packages (first.nodes).items
        → AreSetUp topology packages (world.nodes).items
    pub bases : (bases : Bases) → AreBases bases (first.nodes).items → AreBases bases (world.nodes).items
    pub passed : (m : Machine) (state : MediatorState) → IsWorldOf m state first → WorldReady m paused (world_of state first)
        → (after : MediatorState) × (n : ℕ) × IsWorldOf m after world × WorldReady m paused (world_of after world)
        × ((world.sequencer).list ≡ passes m first.now paused held n (first.sequencer).list)

  pub passing_starts : IsPassing first
  passing_starts =
      record {
        on = stays first.sequencer;
        now = refl;
        lawful = λ m state is l. (state, is, l);
        set_up = λ topology packages u. u;
        bases = λ bases u. u;
        passed = λ m state is r. (state, zero, is, r, refl);
      }

  module _ (world : World) (p : IsPassing world) (next : World) (on : GoesOn world.sequencer next.sequencer) (same_now : next.now ≡ world.now)
      (lawful : (m : Machine) (state : MediatorState) → IsWorldOf m state world → Lawful m (world_of state world)
      → (after : MediatorState) × IsWorldOf m after next × Lawful m (world_of after next))
      (set_up : (topology : Topology) (packages : Packages) → AreSetUp topology packages (world.nodes).items
      → AreSetUp topology packages (next.nodes).items) (keeps : (bases : Bases) → AreBases bases (world.nodes).items → AreBases bases (next.nodes).items) where
    pub left_set_up : (topology : Topology) (packages : Packages) → AreSetUp topology packages (first.nodes).items
        → AreSetUp topology packages (next.nodes).items
    left_set_up topology packages u = set_up topology packages (p.set_up topology packages u)

    pub left_bases : (bases : Bases) → AreBases bases (first.nodes).items → AreBases bases (next.nodes).items
    left_bases bases u = keeps bases (p.bases bases u)

    pub left_on : GoesOn first.sequencer next.sequencer
    left_on = goes_further first.sequencer world.sequencer next.sequencer p.on on

    pub left_now : next.now ≡ first.now
    left_now = same_now ∙ p.now

    pub left_lawful : (m : Machine) (state : MediatorState) → IsWorldOf m state first → Lawful m (world_of state first)
        → (after : MediatorState) × IsWorldOf m after next × Lawful m (world_of after next)
    left_lawful m state is l = let w = p.lawful m state is l in lawful m w.0 w.1 w.2

    module _ (ok : (m : Machine) (state : MediatorState) → IsWorldOf m state world → WorldReady m paused (world_of state world)
        → (after : MediatorState) × IsWorldOf m after next × WorldReady m paused (world_of after next)
        × ((next.sequencer).list ≡ pass m world.now paused held (world.sequencer).list)) where
      stepped : (m : Machine) (state : MediatorState) → IsWorldOf m state first → WorldReady m paused (world_of state first)
          → (after : MediatorState) × IsWorldOf m after next × WorldReady m paused (world_of after next)
          × ((next.sequencer).list ≡ pass m first.now paused held (world.sequencer).list)
      stepped m state is r =
          let w = p.passed m state is r in
          let n = ok m w.0 w.2 w.3 in
          (n.0, n.1, n.2, n.3 ∙ ap (λ (t : ℕ). pass m t paused held (world.sequencer).list) p.now)

      pub passing_on : IsPassing next
      passing_on =
          record {
            on = left_on;
            now = left_now;
            lawful = left_lawful;
            set_up = left_set_up;
            bases = left_bases;
            passed = λ m state is r.
                let w = p.passed m state is r in
                let n = stepped m state is r in
                (n.0, suc w.1, n.1, n.2, n.3 ∙ (ap (pass m first.now paused held) w.4 ∙ one_pass_more m first.now paused held w.1 (first.sequencer).list));
          }

      -- a pass that appends nothing
      module _ (m : Machine) (state : MediatorState) (is : IsWorldOf m state first) (r : WorldReady m paused (world_of state first))
          (same : (next.sequencer).list ≡ (world.sequencer).list) where
        pub all_passed : (next.sequencer).list ≡ passes m first.now paused held (left m.hosts (first.sequencer).list) (first.sequencer).list
        all_passed =
            let w = p.passed m state is r in
            let n = stepped m state is r in
            let fixed =
            sym (ap (pass m first.now paused held) w.4) ∙ (sym n.3 ∙ (same ∙ w.4)) in
            same ∙ (w.4 ∙ same_end m first.now paused held w.1 (first.sequencer).list fixed)

        pub all_settled : Settled m paused held (next.sequencer).list
        all_settled =
            subst (Settled m paused held) (sym all_passed) (passes_settle m first.now paused held (first.sequencer).list)

      -- one that appends something leaves less
      pub passing_less : (m : Machine) (state : MediatorState) → IsWorldOf m state first → WorldReady m paused (world_of state first)
          → (length (next.sequencer).list ≡ length (world.sequencer).list → ⊥)
          → left (length (next.nodes).items) (next.sequencer).list < left (length (world.nodes).items) (world.sequencer).list
      passing_less m state is r longer =
          let w = p.passed m state is r in
          let n = stepped m state is r in
          let now_hosts : length (world.nodes).items ≡ m.hosts = sym (length_states (world.sequencer).list (world.nodes).items) ∙ ((w.3).lawful).hosts in
          let next_hosts : length (next.nodes).items ≡ m.hosts = sym (length_states (next.sequencer).list (next.nodes).items) ∙ ((n.2).lawful).hosts in
          elim (pass_less m first.now paused held (world.sequencer).list) [
            | inl e ↦ absurd (longer (ap length (n.3 ∙ e)))
            | inr l ↦
                let a : left (length (next.nodes).items) (next.sequencer).list ≡ left m.hosts (pass m first.now paused held (world.sequencer).list) =
                ap (λ (h : ℕ). left h (next.sequencer).list) next_hosts ∙ ap (left m.hosts) n.3 in
                let b : left (length (world.nodes).items) (world.sequencer).list ≡ left m.hosts (world.sequencer).list =
                ap (λ (h : ℕ). left h (world.sequencer).list) now_hosts in
                omega (arith, l, a, b)
          ]

no_length : {X : Type 0} (xs : List X) → length xs ≡ 0 → xs ≡ []
no_length [] e = refl
no_length (x ∷ xs) e = absurd (omega (arith, e))

-- a log that goes on and is as long as before is the same
pub same_list : (a b : Sequenced) → GoesOn a b → length b.list ≡ length a.list → b.list ≡ a.list
same_list a b on e =
    let long = length-append a.list on.more in
    let all = ap length on.is_more in
    let none : length on.more ≡ 0 = omega (arith, e, long, all) in
    on.is_more ∙ (ap (λ (xs : List Entry). a.list ++ xs) (no_length on.more none) ∙ append-nil a.list)
