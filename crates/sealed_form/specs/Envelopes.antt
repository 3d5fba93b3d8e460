-- What a recipient's tree shows of the contents of views, against who hosts their informees.
use Rattle.std.specs.Prelude.{ℕ, zero, suc, Bool, List, [], ◌∷◌, Option, Some, None}
use Rattle.std.specs.List.{list_any}
use Rattle.ledger_terms.specs.Forest.{Forest, NoRoots, Root}
use Rattle.ledger_model.specs.Terms.{Path}
use Rattle.view_split.specs.declared.split_view.SplitView.{SplitView}
use Rattle.view_split.specs.SeenViews.{is_sight}
use Rattle.blind_tree.specs.Vertices.{Vertices, NoVertices, BlindVertex, InnerVertex}
use Rattle.blind_tree.specs.declared.leaf.Leaf.{Leaf}
use Rattle.blind_tree.specs.declared.leaf.Leaf.TheVariants.{Blind, Plain}

-- the view at a path of these views, None where none stands there
abbrev pub view_at : Path → Forest SplitView → Option SplitView
view_at path NoRoots = None
view_at [] (Root view subviews others) = None
view_at (zero ∷ []) (Root view subviews others) = Some view
view_at (zero ∷ (step ∷ path)) (Root view subviews others) = view_at (step ∷ path) subviews
view_at (suc k ∷ path) (Root view subviews others) = view_at (k ∷ path) others

-- The views on the way down a path, from the root view to the one at its end, as far as they are there.
abbrev pub views_down : Path → Forest SplitView → List SplitView
views_down path NoRoots = []
views_down [] (Root view subviews others) = []
views_down (zero ∷ path) (Root view subviews others) = view ∷ views_down path subviews
views_down (suc k ∷ path) (Root view subviews others) = views_down (k ∷ path) others

-- one of the views on the way down this path, be it the one at its end, has a hosted informee; `hosts` tells which parties are hosted. Where the path
-- leads beyond the views, those that are there count
abbrev pub sees_at : (hosts : List ℕ → Bool) → Path → Forest SplitView → Bool
sees_at hosts path views = list_any (is_sight hosts) (views_down path views)

-- the bytes that a leaf shows, None where it shows its hash alone
abbrev pub plain_bytes : Leaf → Option (List ℕ)
plain_bytes (Blind hash) = None
plain_bytes (Plain salt bytes) = Some bytes

-- The bytes of the contents leaf of the vertex at a path, where it shows them; None where it doesn't, or no vertex stands there.
abbrev pub contents_at : Path → Vertices → Option (List ℕ)
contents_at path NoVertices = None
contents_at [] (BlindVertex hash others) = None
contents_at (zero ∷ path) (BlindVertex hash others) = None
contents_at (suc k ∷ path) (BlindVertex hash others) = contents_at (k ∷ path) others
contents_at [] (InnerVertex informees contents subviews others) = None
contents_at (zero ∷ []) (InnerVertex informees contents subviews others) = plain_bytes contents
contents_at (zero ∷ (step ∷ path)) (InnerVertex informees contents subviews others) = contents_at (step ∷ path) subviews
contents_at (suc k ∷ path) (InnerVertex informees contents subviews others) = contents_at (k ∷ path) others
