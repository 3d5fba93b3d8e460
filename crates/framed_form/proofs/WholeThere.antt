-- Where each view of a framed request is vouched for, its whole is there.
use Rattle.std.proofs.Common.{◌≡◌, ℕ, true, List, [], ◌∷◌, Some, Result, refl, sym, ap, ◌∙◌, inl}
use Rattle.std.specs.Prelude.{option_and_then}
use Rattle.std.specs.Str.{bytes_eq}
use Rattle.std.proofs.lemmas.Slice.Eq.{bytes_eq-Decides}
use Rattle.ledger_terms.specs.Forest.{Forest, NoRoots, Root, paths_from, preorder}
use Rattle.ledger_terms.specs.declared.action.Action.{Action}
use Rattle.ledger_terms.specs.declared.topology.Topology.{Topology}
use Rattle.ledger_model.specs.Opening.{is_root_path}
use Rattle.ledger_model.specs.declared.roles.Roles.{Roles}
use Rattle.ledger_model.proofs.Lists.{In, from_any, in_any}
use Rattle.canton_model.specs.declared.request.Request.{Request}
use Rattle.wire_form.specs.declared.wire_fault.WireFault.{WireFault}
use Rattle.view_split.specs.declared.split_view.SplitView.{SplitView}
use Rattle.blind_tree.specs.Leaves.{Sets}
use Rattle.blind_tree.specs.Opening.{head_at, read_leaf}
use Rattle.blind_tree.specs.declared.tree.Tree.{Tree}
use Rattle.sealed_form.specs.SealedForm.{found}
use Rattle.framed_form.specs.Agreeing.{AreAgreed}
use Rattle.framed_form.specs.Framed.{IsFramed}
use Rattle.framed_form.specs.FramedForm.{Whole, complete_in, head_of, offered_by, paths_seen, requesters_of, sees_root_view, whole_of, whole_views, whole_with}
use Rattle.framed_form.specs.Frames.{paths_in}
use Rattle.framed_form.proofs.Facts.{some_view, told}
use Rattle.framed_form.proofs.Heads.{requesters_there}
use Rattle.framed_form.proofs.Sound.{IsVouched, first_envelope, given_by, views_there}

-- the first root view has its path
pub root_path : (f : Forest Sets) (v : List ℕ × Sets) → In v (preorder (paths_from [] 0 f)) → In (0 ∷ []) (paths_in (paths_from [] 0 f))
root_path NoRoots v h = absurd h
root_path (Root sets below others) v h = inl refl

module _ (topology : Topology) (roles : Action → Roles) (request : Request) (agreed : AreAgreed request) (framed : IsFramed topology request) where
  abbrev pub outlined : Forest Sets
  outlined = (told topology request framed).outline

  module _ (vouched : (path : List ℕ) → In path (paths_in (paths_from [] 0 outlined)) → IsVouched topology roles request path) where
    abbrev pub head : List ℕ × ℕ
    head = (told topology request framed).head

    pub head_there : head_of request ≡ Some head
    head_there =
        ap (option_and_then (λ (tree : Tree). found (read_leaf head_at tree.common))) framed.spells
        ∙ ap (λ (r : Result (List ℕ × ℕ) WireFault). found r) (told topology request framed).head_read

    abbrev pub views : (w : Forest SplitView) × (whole_views topology request ≡ Some w)
    views = views_there topology request agreed framed.tree outlined framed.spells (told topology request framed).outline_read roles vouched

    voucher : IsVouched topology roles request (0 ∷ [])
    voucher = let v = some_view topology request framed in vouched (0 ∷ []) (root_path outlined v.0 v.1)

    -- who vouches for a root view sees one
    sees_root : sees_root_view topology voucher.participant request ≡ true
    sees_root =
        let paths = paths_seen topology voucher.participant request in
        let w = from_any (bytes_eq (0 ∷ [])) paths voucher.sees in
        in_any is_root_path paths w.0 w.1 (ap is_root_path (sym ((bytes_eq-Decides (0 ∷ []) w.0).0 w.2)))

    pub requesters : (names : List (List ℕ)) × (requesters_of topology request request.envelopes ≡ Some names)
    requesters =
        let given = given_by topology request voucher.participant voucher.opened voucher.is_opened in
        let e = first_envelope voucher.participant request.envelopes given.0 given.1 in
        requesters_there topology request agreed request.envelopes e.0 voucher.opened e.1
        ((λ i. complete_in (offered_by topology (e.2 i) request (e.3 i))) ∙ given.2)
        ((λ i. sees_root_view topology (e.2 i) request) ∙ sees_root)

    abbrev pub the_whole : Whole
    the_whole = record { sender = head.0; ledger_time = head.1; requesters = requesters.0; views = views.0 }

    pub whole_there : whole_of topology request ≡ Some the_whole
    whole_there = λ i. whole_with (head_there i) (requesters.1 i) (views.1 i)
