-- The definitions of an action and of what follows, one step at a time.
use Rattle.std.proofs.Common.{◌≡◌, true, false, ℕ, zero, suc, ◌+◌, ◌<◌, ◌≤◌, List, [], ◌∷◌, ◌++◌, Result, Ok, Err, refl, ap, ◌∙◌, arith}
use Rattle.std.specs.Prelude.{nat_le}
use Rattle.std.proofs.lemmas.Bool.Decides.{nat_tests}
use Rattle.ledger_terms.specs.declared.known.Known.{Known}
use Rattle.ledger_terms.specs.declared.value.Value.{Value}
use Rattle.ledger_terms.specs.Trees.{ActionNode}
use Rattle.ledger_terms.specs.Forest.{join}
use Rattle.ledger_terms.specs.Trees.{Actions}
use Rattle.ledger_terms.specs.Grown.{tree_of}
use Rattle.ledger_model.specs.declared.step.ChildResult.{ChildResult}
use Rattle.lang_eval.specs.Found.{Packages}
use Rattle.lang_eval.specs.Parts.{PartyNames}
use Rattle.interpret.specs.declared.command_fault.CommandFault.{CommandFault}
use Rattle.interpret.specs.declared.command_fault.CommandFault.TheVariants.{TooDeep, TooMany}
use Rattle.interpret.specs.declared.progress.Progress.{Progress}
use Rattle.interpret.specs.declared.turn.Turn.{Turn as Next}
use Rattle.interpret.specs.declared.turn.Turn.TheVariants.{End as NextEnd, Child as NextChild}
use Rattle.interpret.specs.TurnAnswers.{turn_shown}
use Rattle.interpret.specs.declared.demand.Demand.{Demand}
use Rattle.interpret.specs.Ids.{Hash, child_seed}
use Rattle.interpret.specs.Act.{Runner, Source, Turn, Stop, End, Child, follow, most_children, level, do_demand, act}

pub most_is : most_children ≡ 65
unfolding most_children
most_is = refl

pub act_none : (n : ℕ) (p : Packages) (k : List Known) (progress : Progress) (path : List ℕ) (seed : Hash) (by : PartyNames) (demand : Demand)
    → n ≡ 0 → act n p k progress path seed by demand ≡ Err (TooDeep path)
unfolding act
act_none zero p k progress path seed by demand h = refl
act_none (suc n) p k progress path seed by demand h = absurd (omega arith)

pub act_level : (n m : ℕ) (p : Packages) (k : List Known) → n ≡ m + 1 → act n p k ≡ level p k (act m p k)
unfolding act
act_level zero m p k h = absurd (omega arith)
act_level (suc n) m p k h = let same : n ≡ m = omega arith in ap (λ (m : ℕ). level p k (act m p k)) same

pub act_many : (n m : ℕ) (p : Packages) (k : List Known) (progress : Progress) (path : List ℕ) (seed : Hash) (by : PartyNames) (demand : Demand)
    → n ≡ m + 1 → 64 ≤ progress.count → act n p k progress path seed by demand ≡ Err (TooMany path)
act_many n m p k progress path seed by demand h many =
    let b : nat_le 64 progress.count ≡ true = grind (arith, nat_tests) in
    ap (λ (r : Runner). r progress path seed by demand) (act_level n m p k h) ∙ rw b refl

pub act_less : (n m : ℕ) (p : Packages) (k : List Known) (progress : Progress) (path : List ℕ) (seed : Hash) (by : PartyNames) (demand : Demand)
    → n ≡ m + 1 → progress.count < 64 → act n p k progress path seed by demand ≡ do_demand p k (act m p k) progress path seed by demand
act_less n m p k progress path seed by demand h less =
    let b : nat_le 64 progress.count ≡ false = grind (arith, nat_tests) in
    ap (λ (r : Runner). r progress path seed by demand) (act_level n m p k h) ∙ rw b refl

-- with as many levels left as a place has
pub act_at : (n m : ℕ) (p : Packages) (k : List Known) (progress : Progress) (path : List ℕ) (seed : Hash) (by : PartyNames) (demand : Demand)
    (r : Result (ActionNode × Progress) CommandFault)
    → n ≡ m → r ≡ act n p k progress path seed by demand → r ≡ act m p k progress path seed by demand
act_at n m p k progress path seed by demand r same h = h ∙ ap (λ (n : ℕ). act n p k progress path seed by demand) same

-- and at its path and seed
pub act_there : (n m : ℕ) (p : Packages) (k : List Known) (progress : Progress) (path path' : List ℕ) (seed seed' : Hash) (by : PartyNames) (demand : Demand)
    (r : Result (ActionNode × Progress) CommandFault)
    → n ≡ m → path ≡ path' → seed ≡ seed' → r ≡ act n p k progress path seed by demand → r ≡ act m p k progress path' seed' by demand
act_there n m p k progress path path' seed seed' by demand r same at is h =
    act_at n m p k progress path seed by demand r same h
    ∙ (ap (λ (q : List ℕ). act m p k progress q seed by demand) at ∙ ap (λ (s : Hash). act m p k progress path' s by demand) is)

module _ (source : Source) (run : Runner) (seed : Hash) (path : List ℕ) (by : PartyNames) (progress : Progress) (seen : List ChildResult)
    (children : Actions) (index : ℕ) where
  pub follow_none : (n : ℕ) → n ≡ 0 → follow n source run seed path by progress seen children index ≡ Err (TooMany path)
  unfolding follow
  follow_none zero h = refl
  follow_none (suc n) h = absurd (omega arith)

  pub follow_fault : (n : ℕ) (e : CommandFault) → 0 < n → Stop e ≡ source.turn index seen
      → follow n source run seed path by progress seen children index ≡ Err e
  unfolding follow
  follow_fault zero e h is = absurd (omega arith)
  follow_fault (suc n) e h is = rw (← is) refl

  pub follow_value : (n : ℕ) (v : Value) → 0 < n → End v ≡ source.turn index seen
      → follow n source run seed path by progress seen children index ≡ Ok (record { children = children; result = v; progress = progress })
  unfolding follow
  follow_value zero v h is = absurd (omega arith)
  follow_value (suc n) v h is = rw (← is) refl

  -- a child that is refused
  pub follow_refused : (n : ℕ) (d : Demand) (e : CommandFault) (q : List ℕ) (sd : Hash) → 0 < n → Child d ≡ source.turn index seen
      → q ≡ path ++ index ∷ [] → sd ≡ child_seed seed index → Err e ≡ run progress q sd by d
      → follow n source run seed path by progress seen children index ≡ Err e
  unfolding follow
  follow_refused zero d e q sd h is at at_seed ran = absurd (omega arith)
  follow_refused (suc n) d e q sd h is at at_seed ran =
      let here : Err e ≡ run progress (path ++ index ∷ []) (child_seed seed index) by d =
      ran ∙ (ap (λ (sd : Hash). run progress q sd by d) at_seed ∙ ap (λ (q : List ℕ). run progress q (child_seed seed index) by d) at) in
      rw (← is, ← here) refl

  -- a child that is run
  pub follow_child : (n m : ℕ) (d : Demand) (node : ActionNode) (next_progress : Progress) (q : List ℕ) (sd : Hash) (seen' : List ChildResult)
      (children' : Actions) → n ≡ m + 1 → Child d ≡ source.turn index seen → q ≡ path ++ index ∷ [] → sd ≡ child_seed seed index
      → Ok (node, next_progress) ≡ run progress q sd by d → seen' ≡ source.learn seen node.root.action → children' ≡ join children (tree_of node)
      → follow n source run seed path by progress seen children index ≡ follow m source run seed path by next_progress seen' children' (index + 1)
  unfolding follow
  follow_child zero m d node next_progress q sd seen' children' h is at at_seed ran grown joins = absurd (omega arith)
  follow_child (suc n) m d node next_progress q sd seen' children' h is at at_seed ran grown joins =
      let same : n ≡ m = omega arith in
      let here : Ok (node, next_progress) ≡ run progress (path ++ index ∷ []) (child_seed seed index) by d =
      ran ∙ (ap (λ (sd : Hash). run progress q sd by d) at_seed ∙ ap (λ (q : List ℕ). run progress q (child_seed seed index) by d) at) in
      rw (← is, ← here, grown, joins)
      (ap (λ (m : ℕ). follow m source run seed path by next_progress (source.learn seen node.root.action) (join children (tree_of node)) (index + 1)) same)

-- what the code answers for the next thing
pub end_shown : (n : Next) (v : Value) (t : Turn) → n ≡ NextEnd v → turn_shown (Ok n) ≡ t → End v ≡ t
end_shown n v t is shown = rw is at shown

pub child_shown : (n : Next) (s : Demand) (t : Turn) → n ≡ NextChild s → turn_shown (Ok n) ≡ t → Child s ≡ t
child_shown n s t is shown = rw is at shown
