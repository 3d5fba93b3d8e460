-- Vertices side by side, with all that stands below them.
use Rattle.std.specs.Prelude.{◌≡◌, ℕ, suc, ◌≤◌, List, [], ◌∷◌, Option, Some, None, refl, ◌⊎◌}
use Rattle.std.proofs.Common.{◌∙◌, ap, inl, inr}
use Rattle.std.specs.Coded.{Coded, code_by, coded_list, codes}
use Rattle.blind_tree.specs.declared.leaf.Leaf.{Leaf}

-- Vertices of a tree side by side: none, or a first one and those after it (`others`). The first one either shows its hash alone, or has its two leaves
-- and the vertices below it (`subviews`). Each of the two leaves shows its bytes with their salt, or its hash alone.
pub data Vertices : Type 0 where
  NoVertices : Vertices
  BlindVertex : (hash : List ℕ) (others : Vertices) → Vertices
  InnerVertex : (informees contents : Leaf) (subviews others : Vertices) → Vertices

-- how many stand side by side, those below not counted
abbrev pub count : Vertices → ℕ
count NoVertices = 0
count (BlindVertex hash others) = suc (count others)
count (InnerVertex informees contents subviews others) = suc (count others)

-- the vertices of the first list and then those of the second, side by side
abbrev pub beside : Vertices → Vertices → Vertices
beside NoVertices more = more
beside (BlindVertex hash others) more = BlindVertex hash (beside others more)
beside (InnerVertex informees contents subviews others) more = InnerVertex informees contents subviews (beside others more)

-- at most 65,536 vertices stand side by side below each of these, so that a step of a path, of 16 bits, can name each
abbrev pub AreNarrow : Vertices → Type 0
AreNarrow NoVertices = Unit {0}
AreNarrow (BlindVertex hash others) = AreNarrow others
AreNarrow (InnerVertex informees contents subviews others) = (count subviews ≤ 65536) × AreNarrow subviews × AreNarrow others

-- at most 65,536 vertices stand side by side, at the top and below each
abbrev pub IsNarrow : Vertices → Type 0
IsNarrow views = (count views ≤ 65536) × AreNarrow views

-- What one vertex is written as in `marks`: its hash where it shows that alone (`inl`), or else its two leaves, informees and contents (`inr`). The
-- list has these as Some; a None there is the end of vertices side by side.
abbrev pub Mark : Type 0
Mark = List ℕ ⊎ (Leaf × Leaf)

-- The vertices written as a list of marks, in front of the marks `after`. So they can be coded as a list can.
abbrev pub marks : Vertices → List (Option Mark) → List (Option Mark)
marks NoVertices after = None ∷ after
marks (BlindVertex hash others) after = marks others (Some (inl hash) ∷ after)
marks (InnerVertex informees contents subviews others) after = marks subviews (marks others (Some (inr (informees, contents)) ∷ after))

-- Reads marks back. The stack has what was read so far, the last in front. Where a mark finds too little on the stack, the result is [].
abbrev pub unmarked : List (Option Mark) → List Vertices → List Vertices
unmarked [] stack = stack
unmarked (None ∷ after) stack = unmarked after (NoVertices ∷ stack)
unmarked (Some (inl hash) ∷ after) [] = []
unmarked (Some (inl hash) ∷ after) (others ∷ stack) = unmarked after (BlindVertex hash others ∷ stack)
unmarked (Some (inr leaves) ∷ after) [] = []
unmarked (Some (inr leaves) ∷ after) (others ∷ []) = []
unmarked (Some (inr leaves) ∷ after) (others ∷ subviews ∷ stack) = unmarked after (InnerVertex leaves.0 leaves.1 subviews others ∷ stack)

-- the first of the list, and no vertices of an empty one
abbrev pub first_or_none : List Vertices → Vertices
first_or_none [] = NoVertices
first_or_none (v ∷ vs) = v

pub unmarked-marks : (v : Vertices) (after : List (Option Mark)) (stack : List Vertices) → unmarked (marks v after) stack ≡ unmarked after (v ∷ stack)
unmarked-marks NoVertices after stack = refl
unmarked-marks (BlindVertex hash others) after stack = unmarked-marks others (Some (inl hash) ∷ after) stack
unmarked-marks (InnerVertex informees contents subviews others) after stack =
    unmarked-marks subviews (marks others (Some (inr (informees, contents)) ∷ after)) stack
    ∙ unmarked-marks others (Some (inr (informees, contents)) ∷ after) (subviews ∷ stack)

pub coded_mark : Coded (Option Mark)
coded_mark = hlevel codes

-- That vertices can be coded, by their marks; the language asks for it.
abbrev pub coded_vertices : Coded Vertices
coded_vertices =
    code_by (List (Option Mark)) (coded_list coded_mark) (λ v. marks v []) (λ l. first_or_none (unmarked l []))
    (λ v. ap first_or_none (unmarked-marks v [] []))
