-- What a submission does to a world.
use Rattle.std.proofs.Common.{◌≡◌, ◌≢◌, ℕ, zero, suc, Bool, true, false, List, [], ◌∷◌, map, take, length, Option, Some, None, refl, sym, ap}
use Rattle.std.proofs.Common.{◌∙◌, Result, Ok, Err, MatchResult, subst, arith}
use Rattle.std.specs.Prelude.{slice_get, IfOk}
use Rattle.std.specs.Result.{result_ok}
use Rattle.std.proofs.lemmas.Option.{none-some, slice_get_within}
use Rattle.ledger_terms.specs.declared.known.Known.{Known}
use Rattle.ledger_terms.specs.declared.submission.Submission.{Submission}
use Rattle.canton_model.specs.Inbox.{Item}
use Rattle.world_model.specs.Messages.{Entry, Request}
use Rattle.world_model.specs.Machine.{Machine}
use Rattle.world_model.specs.Mediator.{MediatorState}
use Rattle.world_model.specs.Node.{NodeState}
use Rattle.world_model.specs.World.{Submit, happens, at_node, submit, submit_wanted}
use Rattle.seq_log.specs.Sequenced.{Sequenced}
use Rattle.node_core.specs.Participant.{Participant as NodeValue}
use Rattle.ledger_terms.specs.Answers.{Follows}
use Rattle.ledger_terms.specs.declared.topology.Topology.{Topology}
use Rattle.canton_model.proofs.LongerLogs.{genuine_take}
use Rattle.lang_eval.specs.Found.{Packages}
use Rattle.lang_eval.specs.Named.{AreKnown}
use Rattle.interpret.specs.NamedParties.{parties_in_contracts}
use Rattle.sealed_form.specs.Within.{is_hosted}
use Rattle.prepare_request.specs.Prepared.{prepared}
use Rattle.prepare_request.proofs.Wanted.{none_if_refused}
use Rattle.prepare_request.specs.declared.submit_fault.SubmitFault.{SubmitFault}
use Rattle.prepare_request.specs.declared.submit_fault.SubmitFault.TheVariants.{Memory, Paused}
use Rattle.world_model.specs.Lawful.{Lawful}
use Rattle.node_core.specs.OverLog.{HasInbox, inbox_over, state_over}
use Rattle.node_core.specs.Participant.{reading_of}
use Rattle.node_core.specs.Preparing.{offered_by, prepare_answer}
use Rattle.node_core.proofs.OfferedNames.{offers_named}
use Rattle.node_core.proofs.OverLog.{offered_is}
use Rattle.node_core.specs.Machines.{offered_in, wanted_request}
use Rattle.world_play.specs.Submitting.{AreSetUp, CanPrepare, CanSubmit, wanted_of}
use Rattle.world_play.specs.Worlds.{world_with, AreNodesOf}
use Rattle.world_play.proofs.Passing.{in_turn, map_at}
use Rattle.world_play.proofs.Turns.{reads_of}

map_none : (log : List Entry) (nodes : List NodeValue) (k : ℕ) → slice_get nodes k ≡ None → slice_get (map (state_over log) nodes) k ≡ None
map_none log [] k e = refl
map_none log (x ∷ xs) zero e = absurd (none-some x (sym e))
map_none log (x ∷ xs) (suc k) e = map_none log xs k e

pub submits : (m : Machine) (now : ℕ) (state : MediatorState) (nodes : List NodeValue) (s : Sequenced) (what : Submission) → AreNodesOf m nodes s
    → submit_wanted m (world_with now state nodes s) (wanted_of s.list what now (slice_get nodes what.participant))
    ≡ happens m (world_with now state nodes s) (Submit what)
submits m now state nodes s what a = by_node (slice_get nodes what.participant) refl
  where
    by_flag : (node : NodeValue) (b : Bool) → (node.state).is_paused ≡ b
        → (m.prepare ≡ wanted_request node.topology node.packages) → submit_wanted m (world_with now state nodes s) (wanted_of s.list what now (Some node))
        ≡ submit m (world_with now state nodes s) what (state_over s.list node)
    by_flag node true b p = rw b refl
    by_flag node false b p =
        rw b
        (ap (λ (f : Submission → List Item → ℕ → Option Request). submit_wanted m (world_with now state nodes s) (f what (inbox_over s.list node) now)) (sym p))

    by_node : (o : Option NodeValue) → slice_get nodes what.participant ≡ o
        → submit_wanted m (world_with now state nodes s) (wanted_of s.list what now o) ≡ happens m (world_with now state nodes s) (Submit what)
    by_node None e =
        sym (ap (λ (o : Option NodeState). at_node (world_with now state nodes s) o (λ node. submit m (world_with now state nodes s) what node))
        (map_none s.list nodes what.participant e))
    by_node (Some node) e =
        by_flag node (node.state).is_paused refl (a.node what.participant node e).prepares
        ∙ sym (ap (λ (o : Option NodeState). at_node (world_with now state nodes s) o (λ x. submit m (world_with now state nodes s) what x))
        (map_at s.list nodes what.participant node e))

pub if_ok : {X Y : Type 0} (r : Result X Y) (P Q : X → Type 0) → IfOk r P → ((x : X) → P x → Q x) → IfOk r Q
if_ok (Ok x) P Q h f = f x h
if_ok (Err y) P Q h f = h

pub only_wanted : {X Y : Type 0} (r : Result X Y) (P : X → Type 0) (Q : Y → Type 0) → MatchResult r P Q → MatchResult r P (λ y. Unit {0})
only_wanted (Ok x) P Q h = h
only_wanted (Err y) P Q h = tt

-- what a participant answers
module _ (node : NodeValue) (what : Submission) (now : ℕ) (own : what.participant ≡ node.me) (log : List Entry)
    (has : HasInbox (inbox_over log node) node) where
  abbrev whole : List Item
  whole = inbox_over log node

  abbrev answer_to : (p : ℕ) → Result Request SubmitFault
  answer_to p = prepared node.topology node.packages p (offered_in node.topology node.packages p whole) what now

  abbrev answer_by : (p : ℕ) → List Known → Result Request SubmitFault
  answer_by p known = prepared node.topology node.packages p known what now

  refused : (fault : SubmitFault) → answer_to node.me ≡ Err fault → wanted_request node.topology node.packages what whole now ≡ None
  refused fault e =
      none_if_refused node.topology node.packages (offered_in node.topology node.packages) what whole now fault
      (subst (λ (p : ℕ). answer_to p ≡ Err fault) (sym own) e)

  pub told : (answer : Result Request SubmitFault) → answer ≢ Err Memory → ((node.state).is_paused ≡ true → answer ≡ Err Paused)
      → Follows Memory answer (prepare_answer node what now)
      → MatchResult answer (λ request. wanted_request node.topology node.packages what whole now ≡ Some request) (λ fault. Unit {0})
      → result_ok answer ≡ wanted_of log what now (Some node)
  told (Ok request) some paused exact wanted = by_flag (node.state).is_paused refl
    where
      by_flag : (b : Bool) → (node.state).is_paused ≡ b → Some request ≡ wanted_of log what now (Some node)
      by_flag true e = absurd (differ (paused e))
        where
          differ : Ok request ≡ Err Paused → ⊥
          differ same = absurd cc
      by_flag false e = rw e (sym wanted)
  told (Err fault) some paused exact wanted = by_flag (node.state).is_paused refl
    where
      by_flag : (b : Bool) → (node.state).is_paused ≡ b → None ≡ wanted_of log what now (Some node)
      by_flag true e = rw e refl
      by_flag false e =
          let answer : prepare_answer node what now ≡ Err fault = exact (λ same. some (ap Err same)) in
          rw e (sym (refused fault (ap (answer_by node.me) (sym (offered_is whole node has)) ∙ (rw e at answer))))

-- the submission is within the topology, and the participant may prepare it
pub can_prepare : (m : Machine) (now : ℕ) (state : MediatorState) (nodes : List NodeValue) (s : Sequenced) (what : Submission) → AreNodesOf m nodes s
    → Lawful m (world_with now state nodes s) → (topology : Topology) (packages : Packages) → AreSetUp topology packages nodes
    → CanSubmit topology packages what → (node : NodeValue) → slice_get nodes what.participant ≡ Some node → CanPrepare node what
can_prepare m now state nodes s what a l topology packages u c node at =
    let p = what.participant in
    let is = a.node p node at in
    let same = u.each p node at in
    let can : CanSubmit node.topology node.packages what =
    subst (λ (t : Topology). CanSubmit t node.packages what) (sym same.0) (subst (λ (ps : Packages). CanSubmit topology ps what) (sym same.1) c) in
    let reads = reads_of m p node s (in_turn nodes s p node at m now state a l) in
    let n = length (node.state).items in
    let known : AreKnown (is_hosted node.topology) (parties_in_contracts (offered_by node)) =
    subst (λ (known : List Known). AreKnown (is_hosted node.topology) (parties_in_contracts known)) (sym (offered_is (inbox_over s.list node) node reads.inbox))
    (offers_named node.topology node.packages (take n s.list) node.me
    (genuine_take (reading_of node) (node.topology).params s.list n reads.genuine)) in
    let within = slice_get_within nodes p node at in
    let many = u.many in
    let me = is.me in
    let hosts : length (node.topology).hosts ≡ length topology.hosts = ap (λ (t : Topology). length t.hosts) same.0 in
    record {
      own = sym is.me;
      valid = can.valid;
      within = record {
        is_host = omega (arith, within, many, me, hosts);
        named_by_packages = can.named_by_packages;
        named_by_known = known;
        named_by_input = can.named_by_input;
      };
    }
