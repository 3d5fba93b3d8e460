-- Submission after submission.
use Rattle.std.proofs.Common.{◌≡◌, ◌⊎◌, ℕ, suc, ◌+◌, List, [], ◌∷◌, ◌++◌, take, length, Some, refl, sym, ap, ◌∙◌, subst, arith}
use Rattle.std.proofs.Common.{append_assoc, append-nil, le_refl}
use Rattle.std.specs.Prelude.{slice_get, All}
use Rattle.std.proofs.lemmas.Option.{slice_get_within}
use Rattle.std.proofs.lemmas.List.{length-append, take_all}
use Rattle.std.proofs.lemmas.List.Elements.{All-nil, All-push}
use Rattle.ledger_terms.specs.declared.submission.Submission.{Submission}
use Rattle.ledger_terms.specs.declared.topology.Topology.{Topology}
use Rattle.ledger_model.specs.Terms.{ParticipantId}
use Rattle.lang_eval.specs.Found.{Packages}
use Rattle.world_model.specs.Messages.{Entry}
use Rattle.world_model.specs.Machine.{Machine}
use Rattle.world_model.specs.Mediator.{MediatorState}
use Rattle.world_model.specs.Lawful.{Lawful}
use Rattle.world_model.specs.Rounds as w
use Rattle.world_model.specs.Plain.{IsAwakeAnswer, IsPausedAnswer, Submitted}
use Rattle.world_model.proofs.Steps.{length_take, take_next}
use Rattle.prepare_request.specs.declared.submit_fault.SubmitFault.{SubmitFault}
use Rattle.node_core.specs.declared.submit_result.SubmitResult.{SubmitResult}
use Rattle.world_play.specs.declared.world.World.{World}
use Rattle.world_play.specs.Answering.{IsAnswer}
use Rattle.world_play.specs.Flags.{ArePaused}
use Rattle.node_core.specs.Machines.{why_of}
use Rattle.world_play.specs.Results.{IsPlainResult, result_of, results_of}
use Rattle.world_play.specs.Parts.{GoesOn}
use Rattle.node_core.specs.Bases.{AreBases, Bases}
use Rattle.world_play.specs.Submitting.{AreSetUp}
use Rattle.world_play.specs.WorldOf.{IsWorldOf, world_of}
use Rattle.world_play.proofs.Sends.{goes_further, stays}

submitted_more : (m : Machine) (why : w.Why SubmitFault) (now : ℕ) (round : w.Round) (log : List Entry) (xs : w.Results SubmitFault)
    (x : Submission × w.SubmitResult SubmitFault) (mid after : List Entry) → Submitted m why now round log xs mid
    → IsPausedAnswer round mid x.0 x.1 after ⊎ IsAwakeAnswer m why now round mid x.0 x.1 after → Submitted m why now round log (xs ++ x ∷ []) after
submitted_more m why now round log [] x mid after h a =
    (after, subst (λ (l : List Entry). IsPausedAnswer round l x.0 x.1 after ⊎ IsAwakeAnswer m why now round l x.0 x.1 after) h a, refl)
submitted_more m why now round log (y ∷ ys) x mid after h a = (h.0, h.1, submitted_more m why now round h.0 ys x mid after h.2 a)

results_more : (xs : List Submission) (answers : List SubmitResult) (x : Submission) (answer : SubmitResult) → length answers ≡ length xs
    → results_of (xs ++ x ∷ []) (answers ++ answer ∷ []) ≡ results_of xs answers ++ (x, result_of answer) ∷ []
results_more [] [] x answer e = refl
results_more [] (b ∷ bs) x answer e = absurd (omega (arith, e))
results_more (y ∷ ys) [] x answer e = absurd (omega (arith, e))
results_more (y ∷ ys) (b ∷ bs) x answer e =
    ap (λ (rest : w.Results SubmitFault). (y, result_of b) ∷ rest) (results_more ys bs x answer (omega (arith, e)))

-- what each submission keeps of a world
pub record Keeps (first world : World) : Type 0 where
  pub on : GoesOn first.sequencer world.sequencer
  pub now : world.now ≡ first.now
  pub lawful : (m : Machine) (state : MediatorState) → IsWorldOf m state first → Lawful m (world_of state first)
      → IsWorldOf m state world × Lawful m (world_of state world)
  pub set_up : (topology : Topology) (packages : Packages) → AreSetUp topology packages (first.nodes).items → AreSetUp topology packages (world.nodes).items
  pub bases : (bases : Bases) → AreBases bases (first.nodes).items → AreBases bases (world.nodes).items
  pub paused : (paused : List ParticipantId) → ArePaused paused (first.nodes).items → ArePaused paused (world.nodes).items

pub keeps_same : (world : World) → Keeps world world
keeps_same world =
    record { on = stays world.sequencer; now = refl; lawful = λ m state is l. (is, l); set_up = λ topology packages u. u; bases = λ bases u. u; paused = λ paused p. p }

pub keeps_both : (a b c : World) → Keeps a b → Keeps b c → Keeps a c
keeps_both a b c x y =
    record {
      on = goes_further a.sequencer b.sequencer c.sequencer x.on y.on;
      now = y.now ∙ x.now;
      lawful = λ m state is l. let h = x.lawful m state is l in y.lawful m state h.0 h.1;
      set_up = λ topology packages u. y.set_up topology packages (x.set_up topology packages u);
      bases = λ bases u. y.bases bases (x.bases bases u);
      paused = λ paused p. y.paused paused (x.paused paused p);
    }

module _ (first : World) (submits : List Submission) (had : List SubmitResult) where
  pub record IsSubmitting (k : ℕ) (world : World) (results : List SubmitResult) : Type 0 where
    pub kept : Keeps first world
    pub answers : List SubmitResult
    pub is_more : results ≡ had ++ answers
    pub many : length answers ≡ k
    pub plain : All IsPlainResult answers
    pub submitted : (m : Machine) (state : MediatorState) (topology : Topology) (packages : Packages) (round : w.Round) → IsWorldOf m state first
        → Lawful m (world_of state first) → AreSetUp topology packages (first.nodes).items → ArePaused round.paused (first.nodes).items
        → Submitted m (why_of topology packages) first.now round (first.sequencer).list (results_of (take k submits) answers) (world.sequencer).list

  pub submitting_starts : IsSubmitting 0 first had
  submitting_starts =
      record {
        kept = keeps_same first;
        answers = [];
        is_more = sym (append-nil had);
        many = refl;
        plain = All-nil IsPlainResult;
        submitted = λ m state topology packages round is l u p. refl;
      }

  module _ (k : ℕ) (what : Submission) (at : slice_get submits k ≡ Some what) (world : World) (results : List SubmitResult)
      (s : IsSubmitting k world results) (next : World) (kept : Keeps world next) (answer : SubmitResult) (plain : IsPlainResult answer)
      (answered : (m : Machine) (state : MediatorState) (topology : Topology) (packages : Packages) (round : w.Round) → IsWorldOf m state world
      → Lawful m (world_of state world) → AreSetUp topology packages (world.nodes).items → ArePaused round.paused (world.nodes).items
      → IsAnswer m topology packages world.now round (world.sequencer).list what answer (next.sequencer).list) where
    one_more : take (k + 1) submits ≡ take k submits ++ what ∷ []
    one_more =
        let one : k + 1 ≡ suc k = omega arith in ap (λ (n : ℕ). take n submits) one ∙ take_next k submits what at

    same_many : length s.answers ≡ length (take k submits)
    same_many =
        let within = slice_get_within submits k what at in s.many ∙ sym (length_take k submits (omega (arith, within)))

    next_submitted : (m : Machine) (state : MediatorState) (topology : Topology) (packages : Packages) (round : w.Round) → IsWorldOf m state first
        → Lawful m (world_of state first) → AreSetUp topology packages (first.nodes).items → ArePaused round.paused (first.nodes).items
        → Submitted m (why_of topology packages) first.now round (first.sequencer).list (results_of (take (k + 1) submits) (s.answers ++ answer ∷ []))
        (next.sequencer).list
    next_submitted m state topology packages round is l u p =
        let h = (s.kept).lawful m state is l in
        let why = why_of topology packages in
        let here =
        answered m state topology packages round h.0 h.1 ((s.kept).set_up topology packages u) ((s.kept).paused round.paused p) in
        let then_here : IsAnswer m topology packages first.now round (world.sequencer).list what answer (next.sequencer).list =
        subst (λ (t : ℕ). IsAnswer m topology packages t round (world.sequencer).list what answer (next.sequencer).list) (s.kept).now here in
        subst (λ (rs : w.Results SubmitFault). Submitted m why first.now round (first.sequencer).list rs (next.sequencer).list)
        (sym (ap (λ (xs : List Submission). results_of xs (s.answers ++ answer ∷ [])) one_more
        ∙ results_more (take k submits) s.answers what answer same_many))
        (submitted_more m why first.now round (first.sequencer).list (results_of (take k submits) s.answers) (what, result_of answer) (world.sequencer).list
        (next.sequencer).list (s.submitted m state topology packages round is l u p) then_here)

    pub submitting_on : (results' : List SubmitResult) → results' ≡ results ++ answer ∷ [] → IsSubmitting (k + 1) next results'
    submitting_on results' is =
        record {
          kept = keeps_both first world next s.kept kept;
          answers = s.answers ++ answer ∷ [];
          is_more = is ∙ (ap (λ (xs : List SubmitResult). xs ++ answer ∷ []) s.is_more ∙ append_assoc had s.answers (answer ∷ []));
          many = let long = length-append s.answers (answer ∷ []) in let many = s.many in omega (arith, long, many);
          plain = All-push IsPlainResult s.answers answer s.plain plain;
          submitted = next_submitted;
        }

  -- all are done
  pub submitting_ends : (k : ℕ) (world : World) (results : List SubmitResult) → IsSubmitting k world results → k ≡ length submits
      → (answers : List SubmitResult) × (results ≡ had ++ answers) × (length answers ≡ length submits) × All IsPlainResult answers
      × ((m : Machine) (state : MediatorState) (topology : Topology) (packages : Packages) (round : w.Round) → IsWorldOf m state first
      → Lawful m (world_of state first) → AreSetUp topology packages (first.nodes).items → ArePaused round.paused (first.nodes).items
      → Submitted m (why_of topology packages) first.now round (first.sequencer).list (results_of submits answers) (world.sequencer).list)
  submitting_ends k world results s end = (
    s.answers,
    s.is_more,
    s.many ∙ end,
    s.plain,
    λ m state topology packages round is l u p.
        subst
        (λ (xs : List Submission). Submitted m (why_of topology packages) first.now round (first.sequencer).list (results_of xs s.answers)
        (world.sequencer).list) (ap (λ (n : ℕ). take n submits) end ∙ take_all (length submits) submits (le_refl (length submits)))
        (s.submitted m state topology packages round is l u p),
  )
