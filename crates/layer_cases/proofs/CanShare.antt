-- What is shared, before and after it was.
use Rattle.std.proofs.Common.{◌≡◌, ◌≤◌, sym, ap, ◌∙◌, subst, refl, rules, arith}
use Rattle.std.specs.Prelude.{◌^◌, ◌+◌, ℕ, Bool, false, []}
use Rattle.ledger_terms.specs.declared.topology.Topology.{Topology}
use Rattle.lang_eval.specs.Found.{Packages}
use Rattle.canton_model.specs.declared.entry.Entry.{Entry}
use Rattle.world_model.specs.Lawful.{Lawful}
use Rattle.world_model.specs.Machine.{Machine}
use Rattle.world_model.specs.Mediator.{MediatorState, new_mediator}
use Rattle.world_model.specs.World.{World as WorldState, new_world}
use Rattle.world_model.proofs.Steps.{new_lawful}
use Rattle.confirm_reply.specs.declared.setup.Setup.{Setup}
use Rattle.script_read.specs.declared.round.Round.{Round}
use Rattle.node_core.specs.Bases.{AreBases, Bases}
use Rattle.node_core.specs.Machines.{machine_of, why_of}
use Rattle.world_play.specs.Submitting.{AreSetUp}
use Rattle.world_play.specs.WorldOf.{IsWorldOf, world_of}
use Rattle.world_play.specs.declared.world.World.{World}
use Rattle.sync_shared.specs.SetUp.{IsSetUp}
use Rattle.shared_world.specs.Sharing.{Sharing}
use Rattle.sync_shared.specs.declared.round_rules.RoundRules.{RoundRules}
use Rattle.layer_cases.specs.Sharings.{CanBeShared, NameHosted}
use Rattle.std.specs.Prelude.{List}

pub is_set_up : (setup : Setup) (rounds : List Round) (capacity : ℕ) → NameHosted setup rounds
    → IsSetUp setup.topology setup.checked (machine_of setup.topology setup.checked capacity) (why_of setup.topology setup.checked)
is_set_up setup rounds capacity names = record { machine_is = refl; why_is = refl; valid = names.valid; named = names.packages }

-- a new synchroniser
pub new_can : (topology : Topology) (packages : Packages) (m : Machine) (world : World) → AreSetUp topology packages (world.nodes).items
    → AreBases (λ p. 0) (world.nodes).items → IsWorldOf m new_mediator world → world_of new_mediator world ≡ new_world m → CanBeShared topology packages m world
new_can topology packages m world nodes bases is new =
    record {
      nodes = nodes;
      bases = bases;
      state = new_mediator;
      is = is;
      lawful = subst (Lawful m) (sym new) (new_lawful m);
      now = subst (λ (n : ℕ). n ≤ 10 ^ 16) (sym (ap (λ (w : WorldState). w.now) new)) (search rules);
    }

pub left_can : (topology : Topology) (packages : Packages) (m : Machine) (world : World) → AreSetUp topology packages (world.nodes).items
    → AreBases (λ p. 0) (world.nodes).items → (state : MediatorState) × IsWorldOf m state world × Lawful m (world_of state world) → world.now ≤ 10 ^ 16 → CanBeShared topology packages m world
left_can topology packages m world nodes bases w now = record { nodes = nodes; bases = bases; state = w.0; is = w.1; lawful = w.2; now = now }

-- every place is at or after the base of who has forgotten nothing
pub from_first : (bases : Bases) → ((p : ℕ) → bases p ≡ 0) → (p k : ℕ) → bases p ≤ k
from_first bases none p k = let e = none p in omega (arith, e)

-- time stays in its range through a sharing in whose round nothing is moved on
pub in_time : (of asked left : Sharing) (entry now : ℕ) (known : List Entry)
    → of ≡ record { out = 0; counted = 0; round = record { time = entry; paused = []; hold_verdicts = false }; known = known }
    → asked.round ≡ of.round → left.round ≡ asked.round → now ≡ left.round.time → entry ≤ 10 ^ 16 → now ≤ 10 ^ 16
in_time of asked left entry now known is ask leave at bound =
    subst (λ (n : ℕ). n ≤ 10 ^ 16) (sym (at ∙ ap (λ (r : RoundRules). r.time) (leave ∙ (ask ∙ ap (λ (s : Sharing). s.round) is)))) bound
