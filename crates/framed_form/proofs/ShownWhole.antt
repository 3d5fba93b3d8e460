-- What a participant is shown of a request, each view of which somebody vouches for, is what its transaction shows by the rules.
use Rattle.std.proofs.Common.{◌≡◌, ℕ, Bool, List, [], ◌∷◌, map, Ok, sym, ap, ◌∙◌, subst, inr}
use Rattle.std.specs.Prelude.{Option, Some, None, if◌then◌else◌}
use Rattle.std.specs.List.{list_any}
use Rattle.std.proofs.lemmas.Option.{same_Some, none-some}
use Rattle.ledger_terms.specs.Forest.{Forest, paths_from}
use Rattle.ledger_terms.specs.Hosting.{hosts_at}
use Rattle.ledger_terms.specs.declared.topology.Topology.{Topology}
use Rattle.ledger_model.specs.Language.{Language, roles_of}
use Rattle.ledger_model.specs.Opening.{Shown, Transaction, is_root_path, opened_of, opened_views_of, seen_paths}
use Rattle.ledger_model.specs.Terms.{Name, Path}
use Rattle.ledger_model.proofs.Lists.{In}
use Rattle.canton_model.specs.declared.request.Request.{Request}
use Rattle.view_split.specs.Placed.{shown_by, tops}
use Rattle.view_split.specs.SeenViews.{seen_views}
use Rattle.view_split.specs.Split.{assembled, split}
use Rattle.view_split.specs.declared.opened_tree.OpenedTree.{OpenedTree}
use Rattle.view_split.specs.declared.split_view.SplitView.{SplitView}
use Rattle.view_split.proofs.Shown.{seen_paths_are}
use Rattle.view_split.proofs.Tops.{shown_is_by_rules}
use Rattle.blind_tree.specs.Leaves.{Sets}
use Rattle.blind_tree.specs.Opening.{head_at, read_leaf}
use Rattle.blind_tree.specs.declared.tree.Tree.{Tree}
use Rattle.sealed_form.specs.SealedForm.{bytes_of, tree_in}
use Rattle.framed_form.specs.Agreeing.{AreAgreed}
use Rattle.framed_form.specs.FramedForm.{Whole, complete_in, head_of, offered_by, opened_to, requesters_of, sees_root_view, transaction_of, whole_of, whole_views, whole_with}
use Rattle.framed_form.specs.Frames.{paths_in, roles_read}
use Rattle.framed_form.proofs.Heads.{head_is, requesters_are}
use Rattle.framed_form.proofs.Sound.{IsVouched, first_envelope, given_by, views_are_split, views_there}
use Rattle.framed_form.proofs.Wholes.{opened_in_whole, seen_is, within_all}

-- the parts of a whole
record Parts (h : Option (List ℕ × ℕ)) (r : Option (List (List ℕ))) (v : Option (Forest SplitView)) (whole : Whole) : Type 0 where
  head : h ≡ Some (whole.sender, whole.ledger_time)
  requesters : r ≡ Some whole.requesters
  views : v ≡ Some whole.views

parts_of_whole : (h : Option (List ℕ × ℕ)) (r : Option (List (List ℕ))) (v : Option (Forest SplitView)) (whole : Whole) → whole_with h r v ≡ Some whole → Parts h r v whole
parts_of_whole None r v whole e = absurd (none-some whole e)
parts_of_whole (Some head) None v whole e = absurd (none-some whole e)
parts_of_whole (Some head) (Some names) None whole e = absurd (none-some whole e)
parts_of_whole (Some head) (Some names) (Some views) whole e =
    let same = same_Some (record { sender = head.0; ledger_time = head.1; requesters = names; views = views }) whole e in
    record {
      head = λ i. Some ((same i).sender, (same i).ledger_time);
      requesters = λ i. Some (same i).requesters;
      views = λ i. Some (same i).views;
    }

-- what a transaction that this one sends shows to somebody
abbrev pub shown_here : Language → (hosts : Name → Bool) → (sender : Name) → Transaction → Shown
shown_here language hosts sender t =
    record {
      sender = sender;
      ledger_time = t.ledger_time;
      requesters = if list_any is_root_path (seen_paths (roles_of language) hosts t.roots) then Some t.requesters else None;
      roots = opened_of language hosts t.roots;
      views = opened_views_of language hosts t.roots;
    }

module _ (topology : Topology) (request : Request) (agreed : AreAgreed request) (m : Tree) (f : Forest Sets) (spelled : tree_in request.mediator ≡ Some m) (told : roles_read m.views ≡ Ok f)
    (language : Language) (vouched : (path : List ℕ) → In path (paths_in (paths_from [] 0 f)) → IsVouched topology (roles_of language) request path)
    (head : List ℕ × ℕ) (head_read : read_leaf head_at m.common ≡ Ok head) (whole : Whole) (is_whole : whole_of topology request ≡ Some whole) where
  parts : Parts (head_of request) (requesters_of topology request request.envelopes) (whole_views topology request) whole
  parts = parts_of_whole (head_of request) (requesters_of topology request request.envelopes) (whole_views topology request) whole is_whole

  abbrev there : (w : Forest SplitView) × (whole_views topology request ≡ Some w)
  there = views_there topology request agreed m f spelled told (roles_of language) vouched

  same_views : there.0 ≡ whole.views
  same_views = same_Some there.0 whole.views (sym there.1 ∙ parts.views)

  by_rules : there.0 ≡ split (roles_of language) (assembled whole.views)
  by_rules =
      sym (views_are_split topology request agreed m f spelled told (roles_of language) vouched)
      ∙ ap (λ (g : Forest SplitView). split (roles_of language) (assembled g)) same_views

  module _ (p : ℕ) (opened : OpenedTree) (is_opened : opened_to topology p request ≡ Some opened) where
    abbrev hosts : Name → Bool
    hosts = hosts_at topology.hosts p

    abbrev paths : List Path
    paths = seen_paths (roles_of language) hosts (transaction_of whole).roots

    sees_by_rules : sees_root_view topology p request ≡ list_any is_root_path paths
    sees_by_rules =
        ap (λ (ps : List Path). list_any is_root_path ps)
        (seen_is topology request agreed m f spelled told there.0 there.1 p
        ∙ (ap (λ (g : Forest SplitView). paths_in (seen_views hosts g)) by_rules
        ∙ seen_paths_are (roles_of language) hosts (assembled whole.views)))

    in_bytes : (bytes : List ℕ) × (In bytes (request.mediator ∷ map bytes_of request.envelopes)) × (complete_in (offered_by topology p request bytes) ≡ Some opened)
    in_bytes =
        let given = given_by topology request p opened is_opened in
        let e = first_envelope p request.envelopes given.0 given.1 in (
          given.0,
          inr (subst (λ (bytes : List ℕ). In bytes (map bytes_of request.envelopes)) e.3 (within_all topology request agreed request.envelopes e.0 e.1)),
          given.2,
        )

    -- it is told the sender of the whole
    pub sender_is : opened.sender ≡ whole.sender
    sender_is =
        let h = head_is topology request agreed m head spelled head_read p in_bytes.0 opened in_bytes.1 in_bytes.2 in
        h.1 ∙ ap (λ (x : List ℕ × ℕ). x.0) (same_Some head (whole.sender, whole.ledger_time) (sym h.0 ∙ parts.head))

    -- and shown just what the whole shows
    pub shown_is : shown_by opened ≡ shown_here language hosts whole.sender (transaction_of whole)
    shown_is =
        let h = head_is topology request agreed m head spelled head_read p in_bytes.0 opened in_bytes.1 in_bytes.2 in
        let names = requesters_are topology request agreed whole.requesters parts.requesters p in_bytes.0 opened in_bytes.1 in_bytes.2 in
        shown_is_by_rules language hosts whole.sender (transaction_of whole) opened sender_is
        (h.2 ∙ ap (λ (x : List ℕ × ℕ). x.1) (same_Some head (whole.sender, whole.ledger_time) (sym h.0 ∙ parts.head)))
        (names ∙ ap (λ (b : Bool). if b then Some whole.requesters else None) sees_by_rules)
        (opened_in_whole topology request agreed m f spelled told there.0 there.1 p opened is_opened
        ∙ ap (λ (g : Forest SplitView). tops (seen_views hosts g)) by_rules)
