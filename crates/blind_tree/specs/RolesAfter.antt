-- The informees and confirmers of views, put behind those before them.
use Rattle.std.specs.Prelude.{ℕ, suc, List, [], ◌∷◌, ◌++◌, Result, Ok, Err}
use Rattle.wire_form.specs.declared.wire_fault.WireFault.{WireFault}
use Rattle.wire_form.specs.declared.wire_fault.WireFault.TheVariants.{Bad}
use Rattle.blind_tree.specs.Vertices.{Vertices, NoVertices, BlindVertex, InnerVertex}
use Rattle.blind_tree.specs.Opening.{with_read, read_leaf, roles_at, view_roles}
use Rattle.blind_tree.specs.declared.leaf.Leaf.{Leaf}
use Rattle.blind_tree.specs.declared.view_roles.ViewRoles.{ViewRoles}

-- The list so far, and behind it the informees and confirmers of the views of these vertices and of all views below them, in order of path. The first
-- vertex has index k below the view with the path `above`. Err (Bad) where a vertex or an informees leaf is blinded or can't be read; contents leaves
-- aren't looked at.
abbrev pub roles_after : List ℕ → ℕ → Vertices → List ViewRoles → Result (List ViewRoles) WireFault
roles_after above k NoVertices so_far = Ok so_far
roles_after above k (BlindVertex hash others) so_far = Err (Bad 0)
roles_after above k (InnerVertex informees contents subviews others) so_far =
    with_read (read_leaf roles_at informees) (λ roles.
    with_read (roles_after (above ++ k ∷ []) 0 subviews (so_far ++ view_roles (above ++ k ∷ []) roles ∷ [])) (λ more. roles_after above (suc k) others more))

-- The list so far, and behind it the informees and confirmers of one view and of all views below it, in order of path. The view is number k below the
-- path `above`, given by its informees leaf and the vertices below it. It is a fault where that leaf, one of these vertices or an informees leaf of
-- theirs is blinded or can't be read.
abbrev pub view_roles_after : List ℕ → ℕ → Leaf → Vertices → List ViewRoles → Result (List ViewRoles) WireFault
view_roles_after above k informees subviews so_far =
    with_read (read_leaf roles_at informees) (λ roles. roles_after (above ++ k ∷ []) 0 subviews (so_far ++ view_roles (above ++ k ∷ []) roles ∷ []))
