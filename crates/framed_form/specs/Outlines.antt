-- What the mediator's bytes tell everybody.
use Rattle.std.specs.Prelude.{◌≡◌, List, [], map, Option, Some, None, Ok}
use Rattle.ledger_terms.specs.Forest.{Forest, paths_from, preorder}
use Rattle.ledger_model.specs.Terms.{Path}
use Rattle.canton_model.specs.declared.message.Message.{Message}
use Rattle.canton_model.specs.declared.message.Message.TheVariants.{Request as RequestMessage, Response as ResponseMessage, Verdict as VerdictMessage, Tick}
use Rattle.canton_model.specs.declared.request.Request.{Request}
use Rattle.blind_tree.specs.Leaves.{Sets}
use Rattle.blind_tree.specs.Opening.{informee_tree_of, view_roles}
use Rattle.blind_tree.specs.Vertices.{IsNarrow}
use Rattle.blind_tree.specs.declared.view_roles.ViewRoles.{ViewRoles}
use Rattle.sealed_form.specs.SealedForm.{tree_in}
use Rattle.framed_form.specs.FramedForm.{outline_of, root_of}
use Rattle.framed_form.specs.declared.outline.Outline.{Outline}
use Rattle.framed_form.specs.declared.told_tree.ToldTree.{ToldTree}

-- `told` is what the mediator's bytes of a request tell: they spell the tree `told.tree`, in which at most 65,536 vertices stand side by side, and this
-- tells the sender and the roles of the views, `told.roles`.
pub record IsTold (request : Request) (told : ToldTree) : Type 0 where
  pub spells : tree_in request.mediator ≡ Some told.tree
  pub narrow : IsNarrow told.tree.views
  pub tells : informee_tree_of told.tree ≡ Ok told.roles

-- The views of a forest, in which each stands as its informees and its confirmers (`Sets`): in one list, each with these and with its path, before
-- those below it.
abbrev pub listed_views : Forest Sets → List ViewRoles
listed_views views = map (λ (view : Path × Sets). view_roles view.0 view.1) (preorder (paths_from [] 0 views))

-- What the mediator's bytes of a request tell: their tree's root hash, and its views.
pub record IsOutline (request : Request) (outline : Outline) : Type 0 where
  pub root : outline.root ≡ root_of request
  pub views : outline.views ≡ listed_views (outline_of request)

-- Of a request: there is an outline, and it is what the mediator's bytes tell (`IsOutline`). Of a message that is no request nothing is said.
abbrev pub IsOutlined : Message → Option Outline → Type 0
IsOutlined (RequestMessage request) None = ⊥
IsOutlined (RequestMessage request) (Some outline) = IsOutline request outline
IsOutlined (ResponseMessage response) outline = Unit {0}
IsOutlined (VerdictMessage verdict) outline = Unit {0}
IsOutlined Tick outline = Unit {0}
