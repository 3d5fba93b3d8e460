-- What complete envelopes say together is the whole of a framed request.
use Rattle.std.proofs.Common.{◌≡◌, ℕ, true, false, inl, inr, List, [], ◌∷◌, ◌++◌, Option, Some, None, Result, Ok, Err, ◌+◌, ◌<◌, length, drop, get_or, refl, sym, ap, ◌∙◌, append_assoc}
use Rattle.std.specs.Prelude.{if◌then◌else◌, option_and_then, option_map, option_to_list}
use Rattle.std.proofs.lemmas.Bool.{cases_Bool}
use Rattle.std.proofs.lemmas.List.{drop_more}
use Rattle.std.proofs.lemmas.Option.{same_Some}
use Rattle.std.specs.List.{list_any}
use Rattle.ledger_terms.specs.Forest.{Forest}
use Rattle.ledger_terms.specs.declared.topology.Topology.{Topology}
use Rattle.ledger_model.specs.Opening.{is_root_path}
use Rattle.canton_model.specs.Timeline.{or_else}
use Rattle.canton_model.specs.declared.envelope.Envelope.{Envelope}
use Rattle.canton_model.specs.declared.request.Request.{Request}
use Rattle.wire_form.specs.declared.wire_fault.WireFault.{WireFault}
use Rattle.view_split.specs.declared.opened_tree.OpenedTree.{OpenedTree}
use Rattle.view_split.specs.declared.split_view.SplitView.{SplitView}
use Rattle.blind_tree.specs.Leaves.{Sets}
use Rattle.blind_tree.specs.Opening.{head_at, read_leaf}
use Rattle.blind_tree.specs.OpenedFor.{is_listed, of_tree}
use Rattle.blind_tree.specs.Reading.{read_all, tree_at}
use Rattle.blind_tree.specs.declared.tree.Tree.{Tree}
use Rattle.sealed_form.specs.SealedForm.{found, tree_in}
use Rattle.framed_form.specs.Framed.{IsFramed, is_framed}
use Rattle.framed_form.specs.FramedForm.{complete_in, forest_in, if_known, offered_by, outline_in, outline_of, part_if, part_of, parts_of, paths_seen, requesters_in, requesters_of, root_of, sees_root_view, transaction_of, whole_of, whole_with}
use Rattle.framed_form.specs.Frames.{roles_read}
use Rattle.framed_form.specs.Together.{Part, views_together}
use Rattle.framed_form.proofs.Decided.{framed_decides}
use Rattle.framed_form.proofs.Facts.{told}
use Rattle.whole_request.specs.Completes.{complete_of, completed, completes, requesters_among, shown, time_told, transaction_with, whole_told}
use Rattle.whole_request.specs.Places.{parts_at, together}
use Rattle.whole_request.specs.declared.complete.Complete.{Complete}
use Rattle.whole_request.proofs.Walked.{together_is}

-- ---- the parts

part_is : (seen : List (List ℕ)) (opened : Option OpenedTree) (tree : Option Tree) (more : List Complete)
    → parts_at 0 (shown (option_to_list (completed seen opened tree) ++ more)) ≡ part_if (is_listed seen) opened tree ++ parts_at 0 (shown more)
part_is seen None tree more = refl
part_is seen (Some opened) None more = refl
part_is seen (Some opened) (Some tree) more = refl

module _ (topology : Topology) (request : Request) where
  abbrev opened_by : Envelope → Option OpenedTree
  opened_by envelope = complete_in (offered_by topology envelope.to request envelope.bytes)

  parts_are : (envelopes : List Envelope) → parts_at 0 (shown (completes topology request envelopes)) ≡ parts_of topology request envelopes
  parts_are [] = refl
  parts_are (envelope ∷ more) =
      part_is (paths_seen topology envelope.to request) (opened_by envelope) (tree_in envelope.bytes) (completes topology request more)
      ∙ ap (λ (parts : List Part). part_of topology request envelope ++ parts) (parts_are more)

  pub one_more : (es : List Envelope) (i : ℕ) (e : Envelope) (out new all : List Complete) (one : Option Complete) → i < length es → e ≡ get_or es i e
      → one ≡ complete_of topology request e → new ≡ out ++ option_to_list one
      → out ++ completes topology request (drop i es) ≡ all → new ++ completes topology request (drop (i + 1) es) ≡ all
  one_more es i e out new all one h at is grown before =
      let rest = completes topology request (drop (i + 1) es) in
      ap (λ (found : List Complete). found ++ rest) (grown ∙ ap (λ (o : Option Complete). out ++ option_to_list o) is)
      ∙ (append_assoc out (option_to_list (complete_of topology request e)) rest
      ∙ (ap (λ (es : List Envelope). out ++ completes topology request es) (sym (drop_more es i e h ∙ ap (λ (x : Envelope). x ∷ drop (i + 1) es) (sym at))) ∙ before))

-- ---- the requesters

told_where : (seen : List (List ℕ)) (opened : Option OpenedTree) (tree : Tree) (more : List Complete)
    → requesters_among (option_to_list (completed seen opened (Some tree)) ++ more)
    ≡ or_else (if list_any is_root_path seen then requesters_in opened else None) (requesters_among more)
told_where seen opened tree more = elim (cases_Bool (list_any is_root_path seen)) [ inl is ↦ by_root opened is | inr out ↦ by_other opened out ]
  where
    by_root : (opened : Option OpenedTree) → list_any is_root_path seen ≡ true
        → requesters_among (option_to_list (completed seen opened (Some tree)) ++ more)
        ≡ or_else (if list_any is_root_path seen then requesters_in opened else None) (requesters_among more)
    by_root None is = rw is refl
    by_root (Some o) is = refl

    by_other : (opened : Option OpenedTree) → list_any is_root_path seen ≡ false
        → requesters_among (option_to_list (completed seen opened (Some tree)) ++ more)
        ≡ or_else (if list_any is_root_path seen then requesters_in opened else None) (requesters_among more)
    by_other None out = rw out refl
    by_other (Some o) out = refl

-- nothing is opened of bytes that are no tree
told_by : (topology : Topology) (root : List ℕ) (seen : List (List ℕ)) (read : Result Tree WireFault) (more : List Complete)
    → requesters_among (option_to_list (completed seen (complete_in (if_known topology (of_tree root seen (list_any is_root_path seen) read))) (found read)) ++ more)
    ≡ or_else (if list_any is_root_path seen then requesters_in (complete_in (if_known topology (of_tree root seen (list_any is_root_path seen) read))) else None) (requesters_among more)
told_by topology root seen (Err fault) more = elim (cases_Bool (list_any is_root_path seen)) [ inl is ↦ rw is refl | inr out ↦ rw out refl ]
told_by topology root seen (Ok tree) more = told_where seen (complete_in (if_known topology (of_tree root seen (list_any is_root_path seen) (Ok tree)))) tree more

module _ (topology : Topology) (request : Request) where
  requesters_are : (envelopes : List Envelope) → requesters_among (completes topology request envelopes) ≡ requesters_of topology request envelopes
  requesters_are [] = refl
  requesters_are (envelope ∷ more) =
      told_by topology (root_of request) (paths_seen topology envelope.to request) (read_all tree_at envelope.bytes) (completes topology request more)
      ∙ ap (or_else (if sees_root_view topology envelope.to request then requesters_in (opened_by topology request envelope) else None)) (requesters_are more)

-- ---- the whole

with_head : (head : Option (List ℕ × ℕ)) (requesters : Option (List (List ℕ))) (views : Option (Forest SplitView))
    → transaction_with (option_map (λ (h : List ℕ × ℕ). h.1) head) requesters views ≡ option_map transaction_of (whole_with head requesters views)
with_head None requesters views = refl
with_head (Some head) None views = refl
with_head (Some head) (Some requesters) None = refl
with_head (Some head) (Some requesters) (Some views) = refl

module _ (topology : Topology) (request : Request) where
  whole_by : (tree : Tree) (f : Forest Sets) → tree_in request.mediator ≡ Some tree → roles_read tree.views ≡ Ok f
      → whole_told (completes topology request request.envelopes) tree ≡ option_map transaction_of (whole_of topology request)
  whole_by tree f spelled read =
      let outline_is : outline_of request ≡ f = ap outline_in spelled ∙ ap forest_in read in
      let views_are : together [] 0 (shown (completes topology request request.envelopes)) tree.views ≡ views_together [] 0 (parts_of topology request request.envelopes) (outline_of request) =
      together_is [] 0 (shown (completes topology request request.envelopes)) tree.views f read
      ∙ (λ i. views_together [] 0 (parts_are topology request request.envelopes i) (sym outline_is i)) in
      (λ i. transaction_with (time_told tree) (requesters_are topology request request.envelopes i) (views_are i))
      ∙ (with_head (found (read_leaf head_at tree.common)) (requesters_of topology request request.envelopes) (views_together [] 0 (parts_of topology request request.envelopes) (outline_of request))
      ∙ ap (λ (o : Option Tree). option_map transaction_of (whole_with (option_and_then (λ (t : Tree). found (read_leaf head_at t.common)) o) (requesters_of topology request request.envelopes)
      (views_together [] 0 (parts_of topology request request.envelopes) (outline_of request)))) (sym spelled))

  pub whole_read : (tree : Tree) → tree_in request.mediator ≡ Some tree → is_framed topology request ≡ true
      → whole_told (completes topology request request.envelopes) tree ≡ option_map transaction_of (whole_of topology request)
  whole_read tree spelled framed =
      let is : IsFramed topology request = (framed_decides topology request).0 framed in
      let views = told topology request is in
      let same : is.tree ≡ tree = same_Some is.tree tree (sym is.spells ∙ spelled) in
      whole_by tree views.outline spelled (ap (λ (t : Tree). roles_read t.views) (sym same) ∙ views.outline_read)

  pub whole_unread : tree_in request.mediator ≡ None → option_map transaction_of (whole_of topology request) ≡ None
  whole_unread none =
      ap (λ (o : Option Tree). option_map transaction_of (whole_with (option_and_then (λ (t : Tree). found (read_leaf head_at t.common)) o) (requesters_of topology request request.envelopes)
      (views_together [] 0 (parts_of topology request request.envelopes) (outline_of request)))) none
