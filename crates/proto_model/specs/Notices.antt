-- What a participant reads of a request that anybody may have sent.
use Rattle.std.specs.Prelude.{◌≡◌, ℕ, Bool, List, Option, Some, None, filter, map, nat_lt, length, if◌then◌else◌}
use Rattle.std.specs.List.{list_any}
use Rattle.ledger_terms.specs.declared.topology.Topology.{Topology}
use Rattle.ledger_model.specs.Terms.{Name, ParticipantId, Path}
use Rattle.canton_model.specs.Reading.{Reading, paths_confirmed, paths_seen}
use Rattle.canton_model.specs.declared.request.Request.{Request}
use Rattle.blind_tree.specs.declared.view_roles.ViewRoles.{ViewRoles}
use Rattle.framed_form.specs.FramedForm.{offered, root_of}
use Rattle.proto_model.specs.declared.notice.Notice.{Notice}

-- the paths of those of the views that have a confirmer for whom the participant confirms, in their order; `confirms` tells for which parties it does
abbrev pub confirmed_among : (confirms : Name → Bool) → List ViewRoles → List Path
confirmed_among confirms views =
    map (λ (view : ViewRoles). view.path) (filter (λ (view : ViewRoles). list_any confirms view.confirmers) views)

-- how many steps a view's path has, where the participant hosts an informee of it; else None. `hosts` tells which parties it hosts. For `top_seen`.
abbrev pub top_here : (hosts : Name → Bool) → ViewRoles → Option ℕ
top_here hosts view = if list_any hosts view.informees then Some (length view.path) else None

-- How many steps the path has of the topmost view that the participant sees, of this one and those above it; None where it sees none of them. `top`
-- is this of the view before it in order of path.
abbrev pub top_seen : (hosts : Name → Bool) → (top : Option ℕ) → ViewRoles → Option ℕ
top_seen hosts None view = top_here hosts view
top_seen hosts (Some depth) view = if nat_lt depth (length view.path) then Some depth else top_here hosts view

-- What participant `me` reads of a request is this: the hash of the mediator's tree, the paths of the views that it sees and of those that it
-- confirms, and what its envelope offers it.
pub record IsNotice (topology : Topology) (reading : Reading) (me : ParticipantId) (request : Request) (notice : Notice) : Type 0 where
  pub root : notice.root ≡ root_of request
  pub seen : notice.seen ≡ paths_seen reading me request
  pub confirmed : notice.confirmed ≡ paths_confirmed reading me request
  pub offered : notice.offered ≡ offered topology me request
