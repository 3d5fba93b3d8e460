-- What is wanted is built, so it is the only one.
use Rattle.std.proofs.Common.{◌≡◌, ℕ, zero, suc, ◌+◌, ◌<◌, ◌≤◌, Bool, true, false, List, [], ◌∷◌, ◌++◌, Ok, refl, sym, ap, subst, ◌∙◌, arith}
use Rattle.std.specs.Prelude.{nat_le, not}
use Rattle.std.proofs.lemmas.Bool.Decides.{nat_tests}
use Rattle.ledger_terms.proofs.Deciding.{both}
use Rattle.ledger_terms.specs.declared.value.Value.{Value}
use Rattle.ledger_terms.specs.declared.value.Value.TheVariants.{Unit as UnitValue}
use Rattle.ledger_terms.specs.declared.instance.Instance.{Instance}
use Rattle.ledger_terms.specs.declared.known.Known.{Known}
use Rattle.ledger_terms.specs.declared.template_name.TemplateName.{TemplateName}
use Rattle.ledger_terms.specs.declared.action.Action.{Action}
use Rattle.ledger_terms.specs.declared.action.Action.TheVariants.{Create, Exercise, Fetch}
use Rattle.ledger_terms.specs.Trees.{ActionNode}
use Rattle.ledger_terms.specs.Forest.{NoRoots, Root, preorder, join}
use Rattle.ledger_terms.specs.declared.act.Act.{Act}
use Rattle.ledger_terms.specs.Trees.{Actions}
use Rattle.ledger_terms.specs.Grown.{tree_of}
use Rattle.ledger_terms.proofs.Grow.{join-assoc, join-end}
use Rattle.ledger_model.specs.Parties.{is_empty}
use Rattle.ledger_model.specs.declared.step.ChildResult.{ChildResult}
use Rattle.ledger_model.specs.Authority.{same_members}
use Rattle.lang_eval.specs.Found.{Packages}
use Rattle.lang_eval.specs.Language.{parties_if_typed, signatories_in}
use Rattle.lang_eval.specs.Parts.{PartyNames}
use Rattle.interpret.specs.declared.progress.Progress.{Progress}
use Rattle.interpret.specs.declared.demand.Demand.{Demand}
use Rattle.interpret.specs.declared.demand.Demand.TheVariants.{Create as CreateDemand, Exercise as ExerciseDemand, Fetch as FetchDemand}
use Rattle.interpret.specs.Ids.{Hash, child_seed}
use Rattle.interpret.specs.Tested.{authorisers, fetchers, signers}
use Rattle.interpret.specs.Act.{Runner, Source, End, Child, with_action, with_consumed, do_demand, call_of, body_source, follow, most_children, level, act}
use Rattle.interpret.specs.Wanted.{Wanted, IsTree, after_action, after, after_all, progress_with, one_less, source_of, result_of, no_source}
use Rattle.interpret.proofs.Facts.{created_back, exercised_back}
use Rattle.interpret.proofs.Law.{after_all-append}
use Rattle.interpret.proofs.Steps.{most_is}

pub after_action-count : (p : Progress) (seed : Hash) (a : Action) → (after_action p seed a).count ≡ p.count + 1
after_action-count p seed (Create id i) = refl
after_action-count p seed (Exercise id salt i choice args actors consuming result) = refl
after_action-count p seed (Fetch id salt i actors) = refl

pub after_all-grows : (p : Progress) (xs : List Act) → p.count ≤ (after_all p xs).count
after_all-grows p [] = omega arith
after_all-grows p (x ∷ xs) = omega (arith, after_all-grows (after p x) xs, after_action-count p x.seed x.action)

pub one_grows : (p : Progress) (n : ActionNode) → p.count + 1 ≤ (progress_with p n).count
one_grows p n = omega (arith, after_action-count p n.root.seed n.root.action, after_all-grows (after p n.root) (preorder n.below))

module _ (packages : Packages) (known : List Known) where
  -- a wanted forest keeps the limit on actions
  pub wanted_room : (left : ℕ) (source : Source) (result : Value) (by : PartyNames) (seen : List ChildResult) (seed : Hash) (path : List ℕ) (index : ℕ)
      (progress : Progress) (forest : Actions) → progress.count ≤ 64
      → Wanted packages known left source result by seen seed path index progress forest → (after_all progress (preorder forest)).count ≤ 64
  wanted_room left source result by seen seed path index progress NoRoots room w = room
  wanted_room left source result by seen seed path index progress (Root a consequences others) room w =
      let one : (after progress a).count ≤ 64 = omega (arith, after_action-count progress a.seed a.action, w.2) in
      let down : (after_all (after progress a) (preorder consequences)).count ≤ 64 =
      wanted_room (one_less left) (source_of packages (path ++ index ∷ []) a.action) (result_of a.action) _ [] a.seed (path ++ index ∷ []) 0
      (after progress a) consequences one w.5 in
      let along : (after_all (after_all (after progress a) (preorder consequences)) (preorder others)).count ≤ 64 =
      wanted_room left source result by (source.learn seen a.action) seed path (index + 1) (after_all (after progress a) (preorder consequences))
      others down w.6 in
      subst (λ (p : Progress). p.count ≤ 64) (sym (after_all-append (after progress a) (preorder consequences) (preorder others))) along

  abbrev pub Complete : ℕ → Runner → Type 0
  Complete left run =
      (progress : Progress) (path : List ℕ) (seed : Hash) (by : PartyNames) (demand : Demand) (s : Hash) (action : Action) (children : Actions)
      → IsTree packages known left progress path seed by demand (record { root = record { seed = s; action = action }; below = children })
      → run progress path seed by demand
      ≡ Ok (record { root = record { seed = s; action = action }; below = children }, after_all (after_action progress s action) (preorder children))

  module _ (left : ℕ) (run : Runner) (complete : Complete left run) (source : Source) (result : Value) (by : PartyNames) (seed : Hash) (path : List ℕ) where
    pub follow_done : (forest : Actions) (n : ℕ) (progress : Progress) (seen : List ChildResult) (children : Actions) (index : ℕ) → 64 < n + progress.count
        → progress.count ≤ 64 → Wanted packages known left source result by seen seed path index progress forest
        → follow n source run seed path by progress seen children index
        ≡ Ok (record { children = join children forest; result = result; progress = after_all progress (preorder forest) })
    unfolding follow
    follow_done NoRoots zero progress seen children index turns room w = absurd (omega (arith, turns, room))
    follow_done NoRoots (suc n) progress seen children index turns room w = rw w
        (ap (λ (f : Actions). Ok (record { children = f; result = result; progress = progress })) (sym (join-end children)))
    follow_done (Root a consequences others) zero progress seen children index turns room w = absurd (omega (arith, turns, room))
    follow_done (Root a consequences others) (suc n) progress seen children index turns room w =
        let node : ActionNode = record { root = record { seed = a.seed; action = a.action }; below = consequences } in
        let tree : IsTree packages known left progress (path ++ index ∷ []) (child_seed seed index) by w.0.0 node =
        record { some = w.1; room = w.2; seeded = w.3; demanded = w.0.2; sound = w.4; children = w.5 } in
        let ran = complete progress (path ++ index ∷ []) (child_seed seed index) by w.0.0 a.seed a.action consequences tree in
        let grows = one_grows progress node in
        let within : (progress_with progress node).count ≤ 64 =
        wanted_room (one_less left) (source_of packages (path ++ index ∷ []) a.action) (result_of a.action) _ [] a.seed (path ++ index ∷ []) 0
        (after progress a) consequences (omega (arith, after_action-count progress a.seed a.action, w.2)) w.5 in
        let rest = follow_done others n (progress_with progress node) (source.learn seen a.action) (join children (tree_of node)) (index + 1)
        (omega (arith, grows, turns)) within w.6 in
        rw (w.0.1, ran) (
        rest ∙ (ap (λ (f : Actions). Ok
        (record { children = f; result = result; progress = after_all (progress_with progress node) (preorder others) }))
        (join-assoc children (tree_of node) others)
        ∙ ap (λ (p : Progress). Ok (record { children = join children (Root a consequences others); result = result; progress = p }))
        (sym (after_all-append (after progress a) (preorder consequences) (preorder others)))))

  -- nothing stands below an action without a body
  none_below : (left : ℕ) (by : PartyNames) (seed : Hash) (path : List ℕ) (progress : Progress) (children : Actions) (result : Value)
      → Wanted packages known left no_source result by [] seed path 0 progress children → children ≡ NoRoots
  none_below left by seed path progress NoRoots result w = refl
  none_below left by seed path progress (Root a consequences others) result w = absurd (let no : End UnitValue ≡ Child w.0.0 = w.0.1 in cc)

  created : (left : ℕ) (run : Runner) (progress : Progress) (path : List ℕ) (seed : Hash) (by : PartyNames) (t : TemplateName) (fields : List Value)
      (s id : Hash) (i : Instance) (children : Actions)
      → IsTree packages known (suc left) progress path seed by (CreateDemand t fields)
      (record { root = record { seed = s; action = Create id i }; below = children })
      → do_demand packages known run progress path seed by (CreateDemand t fields)
      ≡ Ok (record { root = record { seed = s; action = Create id i }; below = children }, after_all (after_action progress s (Create id i)) (preorder children))
  created left run progress path seed by t fields s id i children h =
      let none = none_below left _ s path (after_action progress s (Create id i)) children _ h.children in
      let made = created_back packages i (signatories_in (parties_if_typed packages i)) h.sound.possible.0 h.sound.possible.1 refl in
      rw (h.sound.input, h.seeded, none, ← h.demanded.0, ← h.demanded.1, made, h.sound.authorised) refl

  module _ (left : ℕ) (run : Runner) (complete : Complete left run) where
    exercised : (progress : Progress) (path : List ℕ) (seed : Hash) (by : PartyNames) (t : TemplateName) (id : Hash) (choice : List ℕ)
        (args : List Value) (s id' salt : Hash) (i : Instance) (choice' : List ℕ) (args' : List Value) (actors : PartyNames) (consuming : Bool)
        (result : Value) (children : Actions)
        → IsTree packages known (suc left) progress path seed by (ExerciseDemand t id choice args)
        (record { root = record { seed = s; action = Exercise id' salt i choice' args' actors consuming result }; below = children })
        → do_demand packages known run progress path seed by (ExerciseDemand t id choice args)
        ≡ Ok (
          record { root = record { seed = s; action = Exercise id' salt i choice' args' actors consuming result }; below = children },
          after_all
              (after_action progress s (Exercise id' salt i choice' args' actors consuming result)) (preorder children),
        )
    unfolding signers
    exercised progress path seed by t id choice args s id' salt i choice' args' actors consuming result children h =
        let k : Known = record { id = id'; salt = salt; instance = i } in
        let facts = exercised_back packages (call_of k choice' args') actors consuming result h.sound.possible.1 in
        let kids : Wanted packages known left (body_source packages (call_of k choice' args') path) result (authorisers packages i actors) [] s path
        0 (with_consumed consuming id' (with_action progress)) children = h.children in
        let ran = follow_done left run complete (body_source packages (call_of k choice' args') path) result
        (authorisers packages i actors) s path children most_children (with_consumed consuming id' (with_action progress)) [] NoRoots 0
        (omega (arith, most_is)) (omega (arith, h.room)) kids in
        rw (
          ← h.demanded.0,
          ← h.demanded.1,
          ← h.demanded.2,
          ← h.demanded.3,
          h.sound.input,
          facts.controllers,
          h.sound.authorised,
          facts.consumes,
          ←
              h.seeded,
          ran,
        ) refl

  fetched : (left : ℕ) (run : Runner) (progress : Progress) (path : List ℕ) (seed : Hash) (by : PartyNames) (t : TemplateName) (id s id' salt : Hash)
      (i : Instance) (actors : PartyNames) (children : Actions)
      → IsTree packages known (suc left) progress path seed by (FetchDemand t id)
      (record { root = record { seed = s; action = Fetch id' salt i actors }; below = children })
      → do_demand packages known run progress path seed by (FetchDemand t id)
      ≡ Ok (
        record { root = record { seed = s; action = Fetch id' salt i actors }; below = children },
        after_all (after_action progress s (Fetch id' salt i actors))
            (preorder children),
      )
  fetched left run progress path seed by t id s id' salt i actors children h =
      let none = none_below left _ s path (after_action progress s (Fetch id' salt i actors)) children _ h.children in
      let some = both (not (is_empty actors)) (same_members actors _) h.sound.authorised in
      let full : is_empty (fetchers packages i by) ≡ false = not_empty (fetchers packages i by)
      (ap (λ (a : PartyNames). not (is_empty a)) (sym h.sound.fetched) ∙ some.0) in
      rw (none, h.seeded, ← h.demanded.0, ← h.demanded.1, h.sound.input, h.sound.fetched, full) refl
    where
      not_empty : (s : PartyNames) → not (is_empty s) ≡ true → is_empty s ≡ false
      not_empty [] h = cc
      not_empty (a ∷ s) h = refl

  module _ (left : ℕ) (run : Runner) (complete : Complete left run) where
    stepped : (progress : Progress) (path : List ℕ) (seed : Hash) (by : PartyNames) (demand : Demand) (s : Hash) (action : Action)
        (children : Actions) → IsTree packages known (suc left) progress path seed by demand
        (record { root = record { seed = s; action = action }; below = children })
        → do_demand packages known run progress path seed by demand
        ≡ Ok (record { root = record { seed = s; action = action }; below = children }, after_all (after_action progress s action) (preorder children))
    stepped progress path seed by (CreateDemand t fields) s (Create id i) children h = created left run progress path seed by t fields s id i children h
    stepped progress path seed by (ExerciseDemand t id choice args) s (Exercise id' salt i choice' args' actors consuming result) children h =
        exercised left run complete progress path seed by t id choice args s id' salt i choice' args' actors consuming result children h
    stepped progress path seed by (FetchDemand t id) s (Fetch id' salt i actors) children h = fetched left run progress path seed by t id s id' salt
        i actors children h
    stepped progress path seed by (CreateDemand t fields) s (Exercise id' salt i choice' args' actors consuming result) children h = absurd h.demanded
    stepped progress path seed by (CreateDemand t fields) s (Fetch id' salt i actors) children h = absurd h.demanded
    stepped progress path seed by (ExerciseDemand t id choice args) s (Create id' i) children h = absurd h.demanded
    stepped progress path seed by (ExerciseDemand t id choice args) s (Fetch id' salt i actors) children h = absurd h.demanded
    stepped progress path seed by (FetchDemand t id) s (Create id' i) children h = absurd h.demanded
    stepped progress path seed by (FetchDemand t id) s (Exercise id' salt i choice' args' actors consuming result) children h = absurd h.demanded

    levelled : Complete (suc left) (level packages known run)
    levelled progress path seed by demand s action children h =
        let room : nat_le 64 progress.count ≡ false = grind (arith, nat_tests, h.room) in
        rw room (stepped progress path seed by demand s action children h)

  -- What is wanted at any depth is built.
  pub act_done : (left : ℕ) → Complete left (act left packages known)
  unfolding act
  act_done zero = λ progress path seed by demand s action children h. absurd (omega (arith, h.some))
  act_done (suc left) = levelled left (act left packages known) (act_done left)
