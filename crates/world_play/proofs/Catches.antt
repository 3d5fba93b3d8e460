-- Every participant reads to the end.
use Rattle.std.proofs.Common.{◌≡◌, ℕ, suc, ◌+◌, List, [], ◌∷◌, length, map, Some, refl, sym, ap, ◌∙◌, arith, slice_set}
use Rattle.std.specs.Prelude.{slice_get}
use Rattle.std.proofs.lemmas.Option.{slice_get_within}
use Rattle.ledger_terms.specs.declared.topology.Topology.{Topology}
use Rattle.lang_eval.specs.Found.{Packages}
use Rattle.world_model.specs.Messages.{Entry}
use Rattle.world_model.specs.Machine.{Machine}
use Rattle.world_model.specs.Mediator.{MediatorState}
use Rattle.world_model.specs.Node.{NodeState}
use Rattle.world_model.specs.Lawful.{Lawful}
use Rattle.world_model.specs.Settling.{catch_each}
use Rattle.world_model.specs.Turns.{caught_up}
use Rattle.seq_log.specs.Sequenced.{Sequenced}
use Rattle.node_core.specs.Participant.{Participant as NodeValue, with_state}
use Rattle.world_play.specs.Reading.{IsReader, has_read}
use Rattle.world_play.specs.Parts.{IsParticipant}
use Rattle.node_core.specs.OverLog.{state_over}
use Rattle.world_play.specs.Worlds.{world_with, AreNodesOf}
use Rattle.world_play.proofs.Each.{AreDone}
use Rattle.node_core.specs.Bases.{AreBases, Bases}
use Rattle.world_play.specs.Submitting.{AreSetUp}
use Rattle.world_play.proofs.Passing.{bases_then, in_turn, inbox_turned, nodes_then, lawful_then, set_up_then}
use Rattle.world_play.proofs.Sends.{stays}
use Rattle.world_play.proofs.Turns.{caught_is, reader_is}

abbrev pub HasRead : Sequenced → ℕ → NodeValue → NodeValue → Type 0
HasRead s i x y = y ≡ has_read x s.list

pub reader_same : (x y : NodeValue) (log : List Entry) → IsReader x log y → y ≡ with_state x y.state
reader_same x y log r = r.is ∙ ap (λ (u : NodeValue). with_state x u.state) (sym r.is)

pub read_same : (x y : NodeValue) (log : List Entry) → y ≡ has_read x log → y ≡ with_state x y.state
read_same x y log is = is ∙ ap (λ (u : NodeValue). with_state x u.state) (sym is)

module _ (first : List NodeValue) (s : Sequenced) where
  pub record AreReading (nodes : List NodeValue) : Type 0 where
    pub nodes_of : (m : Machine) → AreNodesOf m first s → AreNodesOf m nodes s
    pub lawful : (m : Machine) (now : ℕ) (state : MediatorState) → AreNodesOf m first s → Lawful m (world_with now state first s)
        → Lawful m (world_with now state nodes s)
    pub set_up : (topology : Topology) (packages : Packages) → AreSetUp topology packages first → AreSetUp topology packages nodes
    pub bases : (bases : Bases) → AreBases bases first → AreBases bases nodes

  pub reading_starts : AreReading first
  reading_starts = record { nodes_of = λ m a. a; lawful = λ m now state a l. l; set_up = λ topology packages u. u; bases = λ bases u. u }

  pub reading_on : (nodes : List NodeValue) (k : ℕ) → AreReading nodes → (node : NodeValue) → slice_get nodes k ≡ Some node → (node' : NodeValue)
      → IsReader node s.list node' → (m : Machine) × (now : ℕ) × (state : MediatorState) × AreNodesOf m first s × Lawful m (world_with now state first s) → AreReading (slice_set nodes k node')
  reading_on nodes k r node at node' read g =
      let same = reader_same node node' s.list read in
      let keeps : (m : Machine) (p : ℕ) → IsParticipant m p node s → IsParticipant m p node' s = λ m p given. reader_is m p node s given node' read in
      let inbox = inbox_turned nodes s k node at node' s keeps g.0 g.1 g.2 (r.nodes_of g.0 g.3) (r.lawful g.0 g.1 g.2 g.3 g.4) in
      record {
        nodes_of = λ m a. nodes_then nodes s k node at node' s (stays s) same inbox m (r.nodes_of m a);
        lawful = λ m now state a l. lawful_then nodes s k node at node' s (stays s) same keeps m now state (r.nodes_of m a) (r.lawful m now state a l);
        set_up = λ topology packages u. set_up_then nodes s k node at node' same topology packages (r.set_up topology packages u);
        bases = λ bases u. bases_then nodes s k node at node' same bases (r.bases bases u);
      }

each_is : (m : Machine) (log : List Entry) (p : ℕ) (xs ys : List NodeValue) → length ys ≡ length xs
    → ((i : ℕ) (x y : NodeValue) → slice_get xs i ≡ Some x → slice_get ys i ≡ Some y → state_over log y ≡ caught_up m.reading (p + i) log (state_over log x))
    → map (state_over log) ys ≡ catch_each m log p (map (state_over log) xs)
each_is m log p [] [] long h = refl
each_is m log p [] (y ∷ ys) long h = absurd (omega (arith, long))
each_is m log p (x ∷ xs) [] long h = absurd (omega (arith, long))
each_is m log p (x ∷ xs) (y ∷ ys) long h =
    let z : p + 0 ≡ p = omega arith in
    let head : state_over log y ≡ caught_up m.reading p log (state_over log x) =
    h 0 x y refl refl ∙ ap (λ (n : ℕ). caught_up m.reading n log (state_over log x)) z in
    let rest =
    each_is m log (suc p) xs ys (omega (arith, long))
    (λ i u v a b.
    let n : p + suc i ≡ suc p + i = omega arith in h (suc i) u v a b ∙ ap (λ (j : ℕ). caught_up m.reading j log (state_over log u)) n) in
    ap (λ (t : NodeState). t ∷ map (state_over log) ys) head ∙ ap (λ (ts : List NodeState). caught_up m.reading p log (state_over log x) ∷ ts) rest

pub caught_states : (first : List NodeValue) (s : Sequenced) (nodes : List NodeValue) (k : ℕ) → AreDone (HasRead s) first nodes k → k ≡ length nodes
    → (m : Machine) (now : ℕ) (state : MediatorState) → AreNodesOf m first s → Lawful m (world_with now state first s)
    → map (state_over s.list) nodes ≡ catch_each m s.list 0 (map (state_over s.list) first)
caught_states first s nodes k r end m now state a l =
    each_is m s.list 0 first nodes r.long
    (λ i x y at there.
    let within = slice_get_within nodes i y there in
    let z : i ≡ 0 + i = omega arith in
    caught_is m i x s (in_turn first s i x at m now state a l) y (r.before i x y (omega (arith, within, end)) at there)
    ∙ ap (λ (j : ℕ). caught_up m.reading j s.list (state_over s.list x)) z)
