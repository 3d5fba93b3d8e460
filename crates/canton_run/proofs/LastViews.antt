-- What participants know when they have read the whole log.
use Rattle.std.proofs.Common.{◌≡◌, ℕ, suc, ◌+◌, ◌*◌, Bool, true, false, List, [], ◌∷◌, Option, None, Some, length, map, take, refl, sym, ap, ◌∙◌, subst, arith, append-nil, le_refl}
use Rattle.std.specs.Prelude.{◌||◌, is_some, option_map, slice_get}
use Rattle.std.specs.List.{list_any}
use Rattle.std.proofs.lemmas.List.{length-map, take_all}
use Rattle.canton_model.specs.Inbox.{Item, inbox}
use Rattle.canton_model.specs.Log.{Params}
use Rattle.canton_model.specs.Reading.{Reading}
use Rattle.canton_model.specs.declared.entry.Entry.{Entry}
use Rattle.ledger_model.specs.Terms.{ParticipantId}
use Rattle.commitment_text.specs.Knowledge.{KnowAlike, KnowsAlike, knowledge_from, knowledge_of, knowledge_over}
use Rattle.commitment_text.proofs.Knows.{knows_pruned}
use Rattle.node_core.specs.OverLog.{state_over}
use Rattle.node_core.specs.Participant.{IsPrunedTo, Participant as NodeValue, params_of, reading_of}
use Rattle.node_core.proofs.PrunedViews.{knows_rest}
use Rattle.node_core.specs.Views.{base_if, view_from, view_over, views_from}
use Rattle.node_core.specs.declared.node_view.NodeView.{NodeView}
use Rattle.node_core.specs.declared.submit_result.SubmitResult.{SubmitResult}
use Rattle.run_model.specs.Restarts.{base_or_first, base_over, last_restart}
use Rattle.run_model.proofs.Restarts.{restarted_is}
use Rattle.script_read.specs.declared.round.Round.{Round}
use Rattle.script_read.specs.declared.script.Script.{Script}
use Rattle.trigger_rules.specs.declared.caused.Caused.{Caused}
use Rattle.world_model.specs.Machine.{Machine}
use Rattle.world_model.specs.Mediator.{MediatorState}
use Rattle.world_model.specs.Lawful.{Lawful, NodeHas}
use Rattle.world_model.specs.Places.{has_place}
use Rattle.world_model.specs.Settling.{caught_up_world}
use Rattle.world_model.specs.World as w
use Rattle.world_model.proofs.CatchingUp.{node_caught}
use Rattle.world_play.specs.WorldOf.{IsWorldOf, world_of}
use Rattle.world_play.specs.declared.world.World.{World}
use Rattle.world_play.proofs.Passing.{map_at}
use Rattle.canton_run.specs.Between.{ArePlayed}
use Rattle.canton_run.specs.Jobs.{knowledge_in, views_in}
use Rattle.canton_run.specs.Parts.{parts_in}
use Rattle.canton_run.specs.Restarts.{ArePrunedBy, ArePrunedIn, base_in, begins_in, is_restarted, pruned_in, view_in}
use Rattle.canton_run.specs.Run.{machine_for, params_of as times_of, reading_for}
use Rattle.canton_run.proofs.PartsMore.{length_parts}

-- ---- who restarted

any_map : {X Y : Type 0} (f : X → Y) (test : Y → Bool) (xs : List X) → list_any test (map f xs) ≡ list_any (λ (x : X). test (f x)) xs
any_map f test [] = refl
any_map f test (x ∷ xs) = ap (λ (rest : Bool). test (f x) || rest) (any_map f test xs)

-- a base is told of exactly those that a round restarts
pub told_is : (script : Script) (log : List Entry) (ends : List ℕ) (p : ParticipantId) → length ends ≡ 2 * length script.rounds
    → is_restarted script.rounds p ≡ is_some (pruned_in script log ends p)
told_is script log ends p many =
    let names = map (λ (round : Round). round.restarts) script.rounds in
    let fits : length ends ≡ 2 * length names = many ∙ ap (λ (n : ℕ). 2 * n) (sym (length-map script.rounds (λ (round : Round). round.restarts))) in
    sym (any_map (λ (round : Round). round.restarts) (λ (of : List ParticipantId). has_place of p) script.rounds)
    ∙ (sym (restarted_is p 0 names ends fits) ∙ some_map (base_over (reading_for script) (times_of script) log p) (last_restart p (begins_in script.rounds ends)))
  where
    some_map : {X Y : Type 0} (f : X → Y) (o : Option X) → is_some o ≡ is_some (option_map f o)
    some_map f None = refl
    some_map f (Some x) = refl

base_told : (restarted : Bool) (b : ℕ) (o : Option ℕ) → restarted ≡ is_some o → b ≡ base_or_first o → base_if restarted b ≡ o
base_told true b None same is = absurd cc
base_told false b None same is = refl
base_told true b (Some c) same is = ap (λ (n : ℕ). Some n) is
base_told false b (Some c) same is = absurd cc

first_base : (restarted : Bool) (b : ℕ) (o : Option ℕ) → restarted ≡ is_some o → b ≡ base_or_first o → restarted ≡ false → b ≡ 0
first_base restarted b None same is none = is
first_base restarted b (Some c) same is none = absurd cc

-- ---- participants that have read all

module _ (reading : Reading) (params : Params) (log : List Entry) (rounds : List Round) (pruned : ParticipantId → Option ℕ)
    (told : (p : ParticipantId) → is_restarted rounds p ≡ is_some (pruned p)) where
  -- it is the participant at a place, and has read all of the log and forgotten what is below its base
  pub record HasReadAll (p : ℕ) (node : NodeValue) : Type 0 where
    pub reading_is : reading_of node ≡ reading
    pub params_are : params_of node ≡ params
    pub me : node.me ≡ p
    pub kept : IsPrunedTo (inbox reading p log) node
    pub base : node.base ≡ base_or_first (pruned p)

  -- they are those from a place on
  abbrev pub HaveReadAll : ℕ → List NodeValue → Type 0
  HaveReadAll start nodes = (k : ℕ) (node : NodeValue) → slice_get nodes k ≡ Some node → HasReadAll (start + k) node

  module _ (p : ℕ) (node : NodeValue) (has : HasReadAll p node) where
    abbrev whole : List Item
    whole = inbox reading p log

    told_here : is_restarted rounds node.me ≡ is_some (pruned p)
    told_here = ap (is_restarted rounds) has.me ∙ told p

    view_is : view_in rounds node ≡ view_from (pruned p) (view_over reading params p whole)
    view_is =
        let base = base_told (is_restarted rounds node.me) node.base (pruned p) told_here has.base in
        knows_rest whole node has.kept (is_restarted rounds node.me) (first_base (is_restarted rounds node.me) node.base (pruned p) told_here has.base)
        ∙ (λ i. view_from (base i) (view_over (has.reading_is i) (has.params_are i) (has.me i) whole))

    knowledge_is : KnowsAlike (knowledge_of node) (knowledge_over reading params p (base_or_first (pruned p)) whole)
    knowledge_is =
        let same : knowledge_over (reading_of node) (params_of node) node.me node.base whole ≡ knowledge_over reading params p (base_or_first (pruned p)) whole =
        (λ i. knowledge_over (has.reading_is i) (has.params_are i) (has.me i) (has.base i) whole) in
        subst (KnowsAlike (knowledge_of node)) same (knows_pruned whole node has.kept)

  first_has : (node : NodeValue) (nodes : List NodeValue) (start : ℕ) → HaveReadAll start (node ∷ nodes) → HasReadAll start node
  first_has node nodes start have = let here : start + 0 ≡ start = omega arith in subst (λ (p : ℕ). HasReadAll p node) here (have 0 node refl)

  others_have : (node : NodeValue) (nodes : List NodeValue) (start : ℕ) → HaveReadAll start (node ∷ nodes) → HaveReadAll (suc start) nodes
  others_have node nodes start have = λ k x at.
      let later : start + suc k ≡ suc start + k = omega arith in subst (λ (p : ℕ). HasReadAll p x) later (have (suc k) x at)

  pub each_view : (nodes : List NodeValue) (start : ℕ) → HaveReadAll start nodes
      → map (view_in rounds) nodes ≡ views_from reading params log pruned start (length nodes)
  each_view [] start have = refl
  each_view (node ∷ nodes) start have =
      ap (λ (v : NodeView). v ∷ map (view_in rounds) nodes) (view_is start node (first_has node nodes start have))
      ∙ ap (λ (vs : List NodeView). view_from (pruned start) (view_over reading params start (inbox reading start log)) ∷ vs)
      (each_view nodes (suc start) (others_have node nodes start have))

  pub each_known : (nodes : List NodeValue) (start : ℕ) → HaveReadAll start nodes
      → KnowAlike (map knowledge_of nodes) (knowledge_from reading params log (λ (p : ParticipantId). base_or_first (pruned p)) start (length nodes))
  each_known [] start have = tt
  each_known (node ∷ nodes) start have =
      (knowledge_is start node (first_has node nodes start have), each_known nodes (suc start) (others_have node nodes start have))

-- ---- the participants of a run

module _ (script : Script) (log : List Entry) (ends : List ℕ) (many : length ends ≡ 2 * length script.rounds) (nodes : List NodeValue)
    (have : HaveReadAll (reading_for script) (times_of script) log script.rounds (pruned_in script log ends) (λ p. told_is script log ends p many) 0 nodes)
    (all : length nodes ≡ length (script.topology).hosts) where
  pub views_are : map (view_in script.rounds) nodes ≡ views_in script log ends
  views_are =
      each_view (reading_for script) (times_of script) log script.rounds (pruned_in script log ends) (λ p. told_is script log ends p many) nodes 0 have
      ∙ ap (views_from (reading_for script) (times_of script) log (pruned_in script log ends) 0) all

  pub known_are : KnowAlike (map knowledge_of nodes) (knowledge_in script log ends)
  known_are =
      subst
      (λ (hosts : ℕ). KnowAlike (map knowledge_of nodes) (knowledge_from (reading_for script) (times_of script) log (base_in script log ends) 0 hosts)) all
      (each_known (reading_for script) (times_of script) log script.rounds (pruned_in script log ends) (λ p. told_is script log ends p many) nodes 0 have)

-- ---- after all participants read to the end

module _ (script : Script) (capacity : ℕ) where
  abbrev m : Machine
  m = machine_for script capacity

  -- two for each round
  pub two_ends_each : (workers : ℕ) (caused : List Caused) (world : World) (results : List SubmitResult) (ends : List ℕ)
      → ArePlayed script capacity workers (parts_in 0 (take (length script.rounds) script.rounds) caused) world results ends
      → length ends ≡ 2 * length script.rounds
  two_ends_each workers caused world results ends p =
      let all = take_all (length script.rounds) script.rounds (le_refl (length script.rounds)) in
      p.each_end ∙ (length_parts 0 (take (length script.rounds) script.rounds) caused ∙ ap (λ (rounds : List Round). 2 * length rounds) all)

  module _ (world after : World) (state : MediatorState) (is : IsWorldOf m state after) (lawful : Lawful m (world_of state world))
      (caught : world_of state after ≡ caught_up_world m (world_of state world)) (log : List Entry) (same : log ≡ (world.sequencer).list)
      (ends : List ℕ) (many : length ends ≡ 2 * length script.rounds)
      (bases : ArePrunedIn script log (begins_in script.rounds ends) (after.nodes).items) where
    pub have_read_all : HaveReadAll (reading_for script) (times_of script) log script.rounds (pruned_in script log ends) (λ p. told_is script log ends p many) 0
        (after.nodes).items
    have_read_all k node at =
        let first : k ≡ 0 + k = omega arith in
        let one = (is.nodes).node k node at in
        let over = state_over (after.sequencer).list node in
        let there : slice_get (caught_up_world m (world_of state world)).nodes k ≡ Some over =
        subst (λ (x : w.World). slice_get x.nodes k ≡ Some over) caught (map_at (after.sequencer).list (after.nodes).items k node at) in
        let has : NodeHas m k log over =
        subst (λ (xs : List Entry). NodeHas m k xs over) (sym same) (node_caught m (world_of state world) lawful k over there) in
        subst
        (λ (p : ℕ). HasReadAll (reading_for script) (times_of script) log script.rounds (pruned_in script log ends) (λ q. told_is script log ends q many) p node)
        first
        (record {
          reading_is = one.reading;
          params_are = one.params;
          me = one.me;
          kept = subst (λ (items : List Item). IsPrunedTo items node) has.items ((is.nodes).inbox k node at).pruned;
          base = bases k node at;
        })

-- the bases of the rounds are those of the whole log
pub bases_over : (script : Script) (world : World) (ends : List ℕ) (log : List Entry) → log ≡ (world.sequencer).list
    → ArePrunedBy script script.rounds ends world → ArePrunedIn script log (begins_in script.rounds ends) (world.nodes).items
bases_over script world ends log same pruned =
    subst (λ (xs : List Entry). ArePrunedIn script xs (begins_in script.rounds ends) (world.nodes).items)
    (append-nil (world.sequencer).list ∙ sym same) (pruned [])
