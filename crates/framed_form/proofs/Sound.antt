-- A request of which each view was found well split by somebody is as good as one whose sender keeps the rules.
use Rattle.std.proofs.Common.{◌≡◌, ℕ, true, false, List, [], ◌∷◌, Ok, refl, sym, ap, ◌∙◌, subst, inl, inr}
use Rattle.std.specs.Prelude.{Option, Some, None, nat_eq}
use Rattle.std.proofs.lemmas.Bool.{cases_Bool}
use Rattle.std.proofs.lemmas.Bool.Decides.{Decides-eqb}
use Rattle.std.proofs.lemmas.Option.{same_Some, none-some}
use Rattle.ledger_terms.specs.Forest.{Forest, paths_from}
use Rattle.ledger_terms.specs.Hosting.{hosts_at}
use Rattle.ledger_terms.specs.declared.action.Action.{Action}
use Rattle.ledger_terms.specs.declared.topology.Topology.{Topology}
use Rattle.ledger_model.specs.declared.roles.Roles.{Roles}
use Rattle.ledger_model.proofs.Lists.{In}
use Rattle.canton_model.specs.declared.envelope.Envelope.{Envelope}
use Rattle.canton_model.specs.declared.request.Request.{Request}
use Rattle.view_split.specs.Filled.{AreFilled}
use Rattle.view_split.specs.Placed.{placed_forest}
use Rattle.view_split.specs.SeenViews.{is_sight}
use Rattle.view_split.specs.Split.{assembled, split}
use Rattle.view_split.specs.declared.opened_tree.OpenedTree.{OpenedTree}
use Rattle.view_split.specs.declared.split_view.SplitView.{SplitView}
use Rattle.view_split.proofs.Tops.{tops_seen}
use Rattle.blind_tree.specs.Leaves.{Sets}
use Rattle.blind_tree.specs.OpenedFor.{is_listed}
use Rattle.blind_tree.specs.declared.tree.Tree.{Tree}
use Rattle.sealed_form.specs.SealedForm.{envelope_to, tree_in}
use Rattle.framed_form.specs.Agreeing.{AreAgreed}
use Rattle.framed_form.specs.FramedForm.{complete_in, offered_by, offered_in, opened_to, outline_of, parts_of, paths_seen, whole_views}
use Rattle.framed_form.specs.Frames.{paths_in, roles_read}
use Rattle.framed_form.specs.Together.{views_together}
use Rattle.framed_form.proofs.Listed.{Lists, lists_seen}
use Rattle.framed_form.proofs.SplitAgain.{split_again}
use Rattle.framed_form.proofs.There.{Opener, filled_together, outline, whole_is_there}
use Rattle.framed_form.proofs.Vouched.{Found, Voucher, all_structured}
use Rattle.framed_form.proofs.Wholes.{agree_parts, all_paths, m_in, opened_in_whole, root_is, seen_is, whole_is_told, within_all}

-- the first envelope to a participant
pub first_envelope : (p : ℕ) (envelopes : List Envelope) (bytes : List ℕ) → envelope_to p envelopes ≡ Some bytes → (e : Envelope) × In e envelopes × (e.to ≡ p) × (e.bytes ≡ bytes)
first_envelope p [] bytes h = absurd (none-some bytes h)
first_envelope p (e ∷ envelopes) bytes h = elim (cases_Bool (nat_eq e.to p)) [
  | inl is ↦
      (let there : Some e.bytes ≡ Some bytes = rw is at h in
      (e, inl refl, (Decides-eqb e.to p).0 is, same_Some e.bytes bytes there))
  | inr out ↦
      (let there : envelope_to p envelopes ≡ Some bytes = rw out at h in
      let more = first_envelope p envelopes bytes there in
      (more.0, inr more.1, more.2, more.3))
]

-- the envelope of what is opened to a participant
pub given_by : (topology : Topology) (request : Request) (p : ℕ) (opened : OpenedTree) → opened_to topology p request ≡ Some opened
    → (bytes : List ℕ) × (envelope_to p request.envelopes ≡ Some bytes) × (complete_in (offered_by topology p request bytes) ≡ Some opened)
given_by topology request p opened e = by_envelope (envelope_to p request.envelopes) refl e
  where
    by_envelope : (b : Option (List ℕ)) → envelope_to p request.envelopes ≡ b → complete_in (offered_in topology p request b) ≡ Some opened
        → (bytes : List ℕ) × (envelope_to p request.envelopes ≡ Some bytes) × (complete_in (offered_by topology p request bytes) ≡ Some opened)
    by_envelope None is h = absurd (none-some opened h)
    by_envelope (Some bytes) is h = (bytes, is, h)

-- Somebody sees the view at a path by a complete envelope, and found it well split.
pub record IsVouched (topology : Topology) (roles : Action → Roles) (request : Request) (path : List ℕ) : Type 0 where
  pub participant : ℕ
  pub opened : OpenedTree
  pub is_opened : opened_to topology participant request ≡ Some opened
  pub sees : is_listed (paths_seen topology participant request) path ≡ true
  pub found : Found roles path (placed_forest opened.views)

module _ (topology : Topology) (request : Request) (agreed : AreAgreed request) (m : Tree) (f : Forest Sets) (spelled : tree_in request.mediator ≡ Some m) (told : roles_read m.views ≡ Ok f)
    (roles : Action → Roles) (vouched : (path : List ℕ) → In path (paths_in (paths_from [] 0 f)) → IsVouched topology roles request path) where
  opener : (path : List ℕ) → In path (paths_in (paths_from [] 0 f)) → Opener topology request agreed m f spelled told path
  opener path there =
      let v = vouched path there in
      let given = given_by topology request v.participant v.opened v.is_opened in
      let e = first_envelope v.participant request.envelopes given.0 given.1 in
      let complete : complete_in (offered_by topology (e.0).to request (e.0).bytes) ≡ Some v.opened =
      (λ i. complete_in (offered_by topology (e.2 i) request (e.3 i))) ∙ given.2 in (
        e.0,
        e.1,
        (v.opened, complete),
        ap (λ (p : ℕ). is_listed (paths_seen topology p request) path) e.2 ∙ v.sees,
      )

  pub views_there : (w : Forest SplitView) × (whole_views topology request ≡ Some w)
  views_there = whole_is_there topology request agreed m f spelled told opener

  abbrev w : Forest SplitView
  w = views_there.0

  outline_is : outline_of request ≡ f
  outline_is = outline topology request agreed m f spelled told

  pub views_filled : AreFilled w
  views_filled =
      (filled_together [] 0 (parts_of topology request request.envelopes) f w m.views
      (subst (λ (g : Forest Sets). views_together [] 0 (parts_of topology request request.envelopes) g ≡ Some w) outline_is views_there.1) told
      (agree_parts topology request agreed m (m_in topology request agreed m f spelled told w views_there.1) (root_is topology request agreed m f spelled told w views_there.1)
      request.envelopes (λ e h. inr (within_all topology request agreed request.envelopes e h)))).0

  voucher : (path : List ℕ) → In path (paths_in (paths_from [] 0 f)) → Voucher roles w path
  voucher path there =
      let v = vouched path there in
      let hosts = hosts_at topology.hosts v.participant in
      let seen = seen_is topology request agreed m f spelled told w views_there.1 v.participant in
      let views = opened_in_whole topology request agreed m f spelled told w views_there.1 v.participant v.opened v.is_opened in
      record {
        keeps = is_sight hosts;
        listed = is_listed (paths_seen topology v.participant request);
        lists = subst (λ (paths : List (List ℕ)). Lists (is_sight hosts) (is_listed paths) false [] 0 w) (sym seen) (lists_seen (is_sight hosts) w);
        sees = v.sees;
        found = subst (Found roles path) (ap placed_forest views ∙ tops_seen hosts w) v.found;
      }

  -- the paths of the views are those that the mediator is told
  same_places : paths_in (paths_from [] 0 w) ≡ paths_in (paths_from [] 0 f)
  same_places =
      sym (all_paths [] 0 w)
      ∙ ap (λ (g : Forest Sets). paths_in (paths_from [] 0 g)) (whole_is_told topology request agreed m f spelled told w views_there.1)

  -- The views are those of the transaction that they are put back to.
  pub views_are_split : split roles (assembled w) ≡ w
  views_are_split = split_again roles w views_filled (all_structured roles w (λ path h. voucher path (subst (In path) same_places h)))
