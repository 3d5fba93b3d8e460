-- What complete envelopes open together, walked over the mediator's vertices.
use Rattle.std.specs.Prelude.{ℕ, zero, suc, List, [], ◌∷◌, ◌++◌, Option, Some, None, option_to_list, option_map}
use Rattle.ledger_terms.specs.Forest.{Forest, NoRoots, Root}
use Rattle.view_split.specs.declared.split_view.SplitView.{SplitView}
use Rattle.blind_tree.specs.OpenedFor.{is_listed}
use Rattle.blind_tree.specs.Vertices.{Vertices, NoVertices, BlindVertex, InnerVertex}
use Rattle.framed_form.specs.Together.{Part, others_in, view_at}

-- what an envelope shows of views side by side: the paths of all views that it opens, and its vertices for these views
abbrev pub Shown : Type 0
Shown = List (List ℕ) × Vertices

-- the vertices from number k on, counted from 0; none where there are no more
abbrev pub from : ℕ → Vertices → Vertices
from zero vertices = vertices
from (suc k) vertices = others_in (from k vertices)

-- what an envelope shows of the vertices from number k on, with the test which views it opens
abbrev pub part_at : ℕ → Shown → Part
part_at k shown = record { opens = is_listed shown.0; views = from k shown.1 }

-- what each of these envelopes shows of the vertices from number k on, in order
abbrev pub parts_at : ℕ → List Shown → List Part
parts_at k [] = []
parts_at k (shown ∷ more) = part_at k shown ∷ parts_at k more

-- the vertices below the first of these; None where that is blinded or there is none
abbrev pub subviews_in : Vertices → Option Vertices
subviews_in NoVertices = None
subviews_in (BlindVertex hash others) = None
subviews_in (InnerVertex informees contents subviews others) = Some subviews

-- what an envelope shows of the views below vertex number k; None where that vertex is blinded or not there
abbrev pub below_at : ℕ → Shown → Option Shown
below_at k shown = option_map (λ (subviews : Vertices). (shown.0, subviews)) (subviews_in (from k shown.1))

-- what these envelopes show of the views below vertex number k, without those in which that vertex is blinded or not there
abbrev pub shown_below : ℕ → List Shown → List Shown
shown_below k [] = []
shown_below k (shown ∷ more) = option_to_list (below_at k shown) ++ shown_below k more

-- a view, the views below it and those behind it as one forest, and None where one of the three isn't there
abbrev pub with_rest : Option SplitView → (below rest : Option (Forest SplitView)) → Option (Forest SplitView)
with_rest None below rest = None
with_rest (Some view) None rest = None
with_rest (Some view) (Some below) None = None
with_rest (Some view) (Some below) (Some rest) = Some (Root view below rest)

-- All views that the mediator's vertices (last argument) stand for, the first of which is number k below the path `above`: each from the first of the
-- envelopes (third argument) that opens it. None where one is opened by no envelope, or is blinded to the mediator.
abbrev pub together : List ℕ → ℕ → List Shown → Vertices → Option (Forest SplitView)
together above k shown NoVertices = Some NoRoots
together above k shown (BlindVertex hash others) = None
together above k shown (InnerVertex informees contents subviews others) =
    with_rest (view_at (above ++ k ∷ []) (parts_at k shown)) (together (above ++ k ∷ []) 0 (shown_below k shown) subviews)
    (together above (suc k) shown others)

-- One view at this path, number k of those side by side, with all below it, over the mediator's vertices below it (last argument): each from the first
-- of the envelopes (third argument) that opens it. None where one is opened by no envelope, or one below it is blinded to the mediator.
abbrev pub root_together : List ℕ → ℕ → List Shown → Vertices → Option (Forest SplitView)
root_together path k shown subviews = with_rest (view_at path (parts_at k shown)) (together path 0 (shown_below k shown) subviews) (Some NoRoots)
