-- What stands below an action of a view's core: actions, and holes for the views below.
use Rattle.std.specs.Prelude.{◌≡◌, ℕ, suc, ◌+◌, drop, List, [], ◌∷◌, ◌++◌, Option, Some, None, refl}
use Rattle.std.proofs.Common.{◌∙◌, ap}
use Rattle.std.specs.Coded.{Coded, code_by, coded_list, coded_option}
use Rattle.ledger_terms.specs.Forest.{Forest, NoRoots, Root}

-- The part of a tree that is in a view's core, below its first action: nothing (`NoMore`); or an action (`Inner`) with what is below it and what comes
-- after it; or a hole (`Hole`), where a view below was cut out, and what comes after it.
pub data Holed (A : Type 0) : Type 0 where
  NoMore : Holed A
  Inner : (root : A) (below others : Holed A) → Holed A
  Hole : (others : Holed A) → Holed A

module _ {A : Type 0} where
  -- the actions of a part of a core in pre-order, without the holes
  abbrev pub inner : Holed A → List A
  inner NoMore = []
  inner (Inner root below others) = root ∷ (inner below ++ inner others)
  inner (Hole others) = inner others

  -- how many holes a part of a core has, at any depth
  abbrev pub holes : Holed A → ℕ
  holes NoMore = 0
  holes (Inner root below others) = holes below + holes others
  holes (Hole others) = suc (holes others)

  -- how many actions and holes of a part of a core stand side by side at its top
  abbrev pub width : Holed A → ℕ
  width NoMore = 0
  width (Inner root below others) = suc (width others)
  width (Hole others) = suc (width others)

  -- what stands side by side at the top of the first, and then what stands at the top of the second, each with all below it
  abbrev pub beside : Holed A → Holed A → Holed A
  beside NoMore more = more
  beside (Inner root below others) more = Inner root below (beside others more)
  beside (Hole others) more = Hole (beside others more)

  -- The trees that are left over once each hole of a part of a core, in pre-order, has taken one of these trees; none where there are fewer trees than
  -- holes.
  abbrev pub after_holes : Holed A → Forest A → Forest A
  after_holes NoMore trees = trees
  after_holes (Inner root below others) trees = after_holes others (after_holes below trees)
  after_holes (Hole others) NoRoots = NoRoots
  after_holes (Hole others) (Root root below more) = after_holes others more

  -- The trees that come of a part of a core when each hole, in pre-order, takes the next of these trees. A hole for which no tree is left is dropped.
  abbrev pub fill : Holed A → Forest A → Forest A
  fill NoMore trees = NoRoots
  fill (Inner root below others) trees = Root root (fill below trees) (fill others (after_holes below trees))
  fill (Hole others) NoRoots = fill others NoRoots
  fill (Hole others) (Root root below more) = Root root below (fill others more)

  -- The actions side by side at the top of a part of a core, where each hole stands for the next of `firsts`, the first actions of the views below,
  -- which all holes take in pre-order, also those further down. A hole for which none is left is dropped.
  abbrev pub children_with : Holed A → List A → List A
  children_with NoMore firsts = []
  children_with (Inner root below others) firsts = root ∷ children_with others (drop (holes below) firsts)
  children_with (Hole others) [] = children_with others []
  children_with (Hole others) (first ∷ firsts) = first ∷ children_with others firsts

  -- A part of a core written as a list of marks, in front of the marks `after`: None is an end, Some None a hole, Some (Some a) the action a. So it can
  -- be coded as a list can.
  abbrev pub marks : Holed A → List (Option (Option A)) → List (Option (Option A))
  marks NoMore after = None ∷ after
  marks (Hole others) after = marks others (Some None ∷ after)
  marks (Inner root below others) after = marks below (marks others (Some (Some root) ∷ after))

  -- Reads marks back. The stack has what was read so far, the last in front. Where a mark finds too little on the stack, the result is [].
  abbrev pub unmarked : List (Option (Option A)) → List (Holed A) → List (Holed A)
  unmarked [] stack = stack
  unmarked (None ∷ after) stack = unmarked after (NoMore ∷ stack)
  unmarked (Some None ∷ after) [] = []
  unmarked (Some None ∷ after) (others ∷ stack) = unmarked after (Hole others ∷ stack)
  unmarked (Some (Some root) ∷ after) [] = []
  unmarked (Some (Some root) ∷ after) (others ∷ []) = []
  unmarked (Some (Some root) ∷ after) (others ∷ below ∷ stack) = unmarked after (Inner root below others ∷ stack)

  -- the first of the list, and nothing (`NoMore`) of an empty one
  abbrev pub first_or_none : List (Holed A) → Holed A
  first_or_none [] = NoMore
  first_or_none (h ∷ hs) = h

  pub unmarked-marks : (h : Holed A) (after : List (Option (Option A))) (stack : List (Holed A)) → unmarked (marks h after) stack ≡ unmarked after (h ∷ stack)
  unmarked-marks NoMore after stack = refl
  unmarked-marks (Hole others) after stack = unmarked-marks others (Some None ∷ after) stack
  unmarked-marks (Inner root below others) after stack =
      unmarked-marks below (marks others (Some (Some root) ∷ after)) stack ∙ unmarked-marks others (Some (Some root) ∷ after) (below ∷ stack)

  -- That such values can be coded where their actions can, by their marks; the language asks for it.
  abbrev pub coded_holed : Coded A → Coded (Holed A)
  coded_holed c =
      code_by (List (Option (Option A))) (coded_list (coded_option (coded_option c))) (λ h. marks h [])
      (λ l. first_or_none (unmarked l [])) (λ h. ap first_or_none (unmarked-marks h [] []))
