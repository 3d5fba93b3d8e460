-- A core's children, one at a time.
use Rattle.std.proofs.Common.{◌≡◌, ℕ, zero, suc, ◌+◌, ◌<◌, ◌≤◌, List, [], ◌∷◌, length, get_or, drop, refl, sym, ◌∙◌, ap, subst, arith}
use Rattle.std.proofs.lemmas.List.{drop_more}
use Rattle.std.proofs.Math.ListN.{drop_of_length-le}
use Rattle.ledger_terms.specs.Forest.{NoRoots, Root, join}
use Rattle.ledger_terms.specs.declared.act.Act.{Act}
use Rattle.ledger_terms.specs.Trees.{Actions}
use Rattle.ledger_terms.proofs.Grow.{join-assoc, join-end}
use Rattle.view_split.specs.Holed.{Holed, NoMore, fill, after_holes}
use Rattle.view_split.specs.Holed as holed
use Rattle.view_split.specs.CoreLists.{act_of, children_of, core_weight}
use Rattle.view_split.specs.Split.{assembled}
use Rattle.ledger_terms.specs.Grown.{forest_of, tree_of}
use Rattle.view_split.specs.declared.core_node.CoreNode.{CoreNode}
use Rattle.view_split.specs.declared.core_node.CoreChild.{CoreChild}
use Rattle.view_split.specs.declared.core_node.CoreChild.TheVariants.{Inner, Hole}
use Rattle.view_split.specs.ViewTrees.{View}

abbrev with_child : CoreChild → Holed Act → Holed Act
with_child (Inner node) rest = holed.Inner (act_of node) node.children rest
with_child Hole rest = holed.Hole rest

core_next : (c : CoreChild) (cs : List CoreChild) → children_of (c ∷ cs) ≡ with_child c (children_of cs)
core_next (Inner node) cs = refl
core_next Hole cs = refl

pub next_child : (cs : List CoreChild) (i : ℕ) (c known : CoreChild) → i < length cs → c ≡ get_or cs i c → c ≡ known → children_of (drop i cs) ≡ with_child known (children_of (drop (i + 1) cs))
next_child cs i c known h at is = rw (drop_more cs i c h, ← at) (core_next c (drop (i + 1) cs) ∙ ap (λ (k : CoreChild). with_child k (children_of (drop (i + 1) cs))) is)

pub count_with : (c : CoreChild) (cs : List CoreChild) → core_weight (children_of cs) < core_weight (children_of (c ∷ cs))
count_with (Inner node) cs = omega arith
count_with Hole cs = omega arith

pub child_below : (cs : List CoreChild) (i : ℕ) (d : CoreChild) (node : CoreNode) → i < length cs → get_or cs i d ≡ Inner node → core_weight node.children < core_weight (children_of cs)
child_below [] i d node h e = absurd (omega arith)
child_below (c ∷ cs) zero d node h e =
    let same : children_of (c ∷ cs) ≡ with_child (Inner node) (children_of cs) = core_next c cs ∙ ap (λ (k : CoreChild). with_child k (children_of cs)) e in
    rw same (omega arith)
child_below (c ∷ cs) (suc i) d node h e = let r = child_below cs i d node (omega arith) e in let w = count_with c cs in omega (arith, r, w)

-- what the loop keeps: what is still to come gives the whole, and leaves what the whole leaves
abbrev pub Keeps : (cs : List CoreChild) (i : ℕ) (out trees all left : Actions) → Type 0
Keeps cs i out trees all left = (join out (fill (children_of (drop i cs)) trees) ≡ all) × (after_holes (children_of (drop i cs)) trees ≡ left)

pub step_inner : (cs : List CoreChild) (i : ℕ) (c : CoreChild) (node : CoreNode) (out new trees rest children all left : Actions)
    → i < length cs → c ≡ get_or cs i c → c ≡ Inner node
    → new ≡ join out (Root (act_of node) children NoRoots) → children ≡ fill node.children trees → rest ≡ after_holes node.children trees
    → Keeps cs i out trees all left → Keeps cs (i + 1) new rest all left
step_inner cs i c node out new trees rest children all left h at is grown filled taken keeps =
    let next = next_child cs i c (Inner node) h at is in
    let more = children_of (drop (i + 1) cs) in (
      (λ k. join (grown k) (fill more (taken k)))
          ∙ (join-assoc out (Root (act_of node) children NoRoots) (fill more (after_holes node.children trees))
          ∙ ((λ k. join out (Root (act_of node) (filled k) (fill more (after_holes node.children trees))))
          ∙ ((λ k. join out (fill (sym next k) trees)) ∙ keeps.0))),
      ap (after_holes more) taken ∙ (ap (λ (x : Holed Act). after_holes x trees) (sym next) ∙ keeps.1),
    )

pub step_hole : (cs : List CoreChild) (i : ℕ) (c : CoreChild) (label : Act) (below out new trees rest all left : Actions)
    → i < length cs → c ≡ get_or cs i c → c ≡ Hole
    → trees ≡ Root label below rest → new ≡ join out (Root label below NoRoots)
    → Keeps cs i out trees all left → Keeps cs (i + 1) new rest all left
step_hole cs i c label below out new trees rest all left h at is popped grown keeps =
    let next = next_child cs i c Hole h at is in
    let more = children_of (drop (i + 1) cs) in (
      ap (λ (x : Actions). join x (fill more rest)) grown
          ∙ (join-assoc out (Root label below NoRoots) (fill more rest)
          ∙ ((λ k. join out (fill (holed.Hole more) (sym popped k))) ∙ ((λ k. join out (fill (sym next k) trees)) ∙ keeps.0))),
      ap (after_holes (holed.Hole more)) (sym popped) ∙ (ap (λ (x : Holed Act). after_holes x trees) (sym next) ∙ keeps.1),
    )

pub after_none : (h : Holed Act) → after_holes h (NoRoots) ≡ NoRoots
after_none NoMore = refl
after_none (holed.Inner root below others) = ap (after_holes others) (after_none below) ∙ after_none others
after_none (holed.Hole others) = refl

-- without a tree nothing comes for a hole, nor for any after it
pub step_empty : (cs : List CoreChild) (i : ℕ) (c : CoreChild) (out trees rest all left : Actions)
    → i < length cs → c ≡ get_or cs i c → c ≡ Hole
    → trees ≡ rest → rest ≡ NoRoots
    → Keeps cs i out trees all left → Keeps cs (i + 1) out rest all left
step_empty cs i c out trees rest all left h at is same none keeps =
    let next = next_child cs i c Hole h at is in
    let more = children_of (drop (i + 1) cs) in
    let empty : trees ≡ NoRoots = same ∙ none in (
      (λ k. join out (fill more (none k))) ∙ ((λ k. join out (fill (holed.Hole more) (sym empty k))) ∙ ((λ k. join out (fill (sym next k) trees)) ∙ keeps.0)),
      ap (after_holes more) none ∙ (after_none more ∙ (ap (after_holes (holed.Hole more)) (sym empty) ∙ (ap (λ (x : Holed Act). after_holes x trees) (sym next) ∙ keeps.1))),
    )

-- what a hole takes, if anything is left
pub step_next : (cs : List CoreChild) (i : ℕ) (c : CoreChild) (out new trees rest all left : Actions)
    → i < length cs → c ≡ get_or cs i c → c ≡ Hole
    → new ≡ join out (fill (holed.Hole NoMore) trees) → rest ≡ after_holes (holed.Hole NoMore) trees
    → Keeps cs i out trees all left → Keeps cs (i + 1) new rest all left
step_next cs i c out new NoRoots rest all left h at is grown taken keeps =
    subst (λ (o : Actions). Keeps cs (i + 1) o rest all left) (sym (grown ∙ join-end out)) (step_empty cs i c out NoRoots rest all left h at is (sym taken) taken keeps)
step_next cs i c out new (Root label below more) rest all left h at is grown taken keeps =
    step_hole cs i c label below out new (Root label below more) rest all left h at is (ap (Root label below) (sym taken)) grown keeps

pub filled_end : (cs : List CoreChild) (i : ℕ) (out trees all left : Actions) → length cs ≤ i → Keeps cs i out trees all left → out ≡ all
filled_end cs i out trees all left past keeps =
    let over : children_of (drop i cs) ≡ NoMore = rw (drop_of_length-le cs past) refl in
    sym (join-end out) ∙ ((λ k. join out (fill (sym over k) trees)) ∙ keeps.0)

-- views, one at a time
pub step_view : (vs : List View) (i : ℕ) (v : View) (all out new tree : Actions) → i < length vs → v ≡ get_or vs i v
    → new ≡ join out tree → tree ≡ assembled (tree_of v)
    → join out (assembled (forest_of (drop i vs))) ≡ all → join new (assembled (forest_of (drop (i + 1) vs))) ≡ all
step_view vs i v all out new tree h at grown put before =
    let rest = assembled (forest_of (drop (i + 1) vs)) in
    let next : assembled (forest_of (drop i vs)) ≡ join (assembled (tree_of v)) rest = rw (drop_more vs i v h, ← at) refl in
    ap (λ (x : Actions). join x rest) grown ∙ (join-assoc out tree rest ∙ ((λ k. join out (join (put k) rest)) ∙ (ap (join out) (sym next) ∙ before)))

pub views_end : (vs : List View) (i : ℕ) (all out : Actions) → length vs ≤ i → join out (assembled (forest_of (drop i vs))) ≡ all → out ≡ all
views_end vs i all out past before = sym (join-end out) ∙ (rw (drop_of_length-le vs past) at before)
