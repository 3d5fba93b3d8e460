-- What can be sealed and keeps the limits on transactions is sealed in few bytes.
use Rattle.std.proofs.Common.{◌≡◌, ℕ, ◌≤◌, Bool, false, List, length, Contains, refl, sym, subst, arith}
use Rattle.std.specs.Prelude.{nat_eq, ◌||◌}
use Rattle.sha2.specs.Sha256.{sha256}
use Rattle.sha2.proofs.Facts256.{length-sha256}
use Rattle.ledger_terms.specs.Forest.{Forest, NoRoots, Root, size}
use Rattle.ledger_terms.specs.Hosting.{hosts_at}
use Rattle.ledger_terms.specs.declared.topology.Topology.{Topology}
use Rattle.ledger_model.specs.Opening.{Transaction}
use Rattle.canton_model.specs.declared.envelope.Envelope.{Envelope}
use Rattle.canton_model.specs.declared.request.Request.{Request}
use Rattle.ledger_model.proofs.Lists.{in_from_Contains}
use Rattle.lang_eval.specs.Found.{Packages}
use Rattle.view_split.specs.declared.split_view.SplitView.{SplitView}
use Rattle.view_split.specs.Numbered.{map_forest}
use Rattle.view_split.proofs.Confirming.{from_map}
use Rattle.blind_tree.specs.Blind.{Visibility, informees_alone, sees_root, shown_to, tree_with, views_shown}
use Rattle.blind_tree.specs.Limits.{HaveSets, KeepLimits}
use Rattle.blind_tree.specs.Recipients.{recipients_of}
use Rattle.blind_tree.specs.ShownViews.{AreViews}
use Rattle.blind_tree.specs.Spelling.{spell_tree}
use Rattle.blind_tree.proofs.KeptLaws.{unshown, unnamed}
use Rattle.sealed_form.specs.SealedForm.{CanBeSealed, IsSealedForm, Whole, envelope_for, request_of, roles_by, views_by}
use Rattle.sealed_form.proofs.Made.{made_is_sealed, made_whole}
use Rattle.sealed_form.proofs.Short.{AreShort, short_split, size_split, tree_length}

sets_of : (views : Forest SplitView) → AreViews views → HaveSets views
sets_of NoRoots h = tt
sets_of (Root view subviews others) h = (((h.0).informees_are, (h.0).confirmers_are), sets_of subviews h.1, sets_of others h.2)

module _ (topology : Topology) (packages : Packages) (sender : ℕ) (command : List ℕ) (whole : Whole)
    (can : CanBeSealed topology packages sender whole) (limits : KeepLimits (whole.transaction).roots) where
  abbrev t : Transaction
  t = whole.transaction

  abbrev views : Forest SplitView
  views = views_by packages t

  abbrev made : Request
  made = request_of topology packages sender whole.sender command whole.salts t

  short_views : AreShort views
  short_views = short_split (roles_by packages) t.roots limits.few limits.short (sets_of views (can.in_range).each)

  few_views : size views ≤ 64
  few_views = let s = size_split (roles_by packages) t.roots in omega (arith, s, limits.few)

  short_tree : (shows : Bool) (f : Forest (Visibility × SplitView)) → views_shown f ≡ views
      → length (spell_tree (tree_with sha256 whole.salts whole.sender shows t f)) ≤ 4194304
  short_tree shows f same =
      tree_length sha256 length-sha256 whole.salts whole.sender shows t f can.common_salt can.requesters_salt (can.in_range).sender_is
      (can.in_range).requesters_are
      (subst AreShort (sym same) short_views) (subst (λ (v : Forest SplitView). size v ≤ 64) (sym same) few_views)

  short_envelope : (e : Envelope) → Contains made.envelopes e → length e.bytes ≤ 4194304
  short_envelope e there =
      let p = from_map (envelope_for topology packages sender whole.sender whole.salts t) (recipients_of topology.hosts views sender) e
      (in_from_Contains made.envelopes e there) in
      let hosts = hosts_at topology.hosts p.0 in
      subst (λ (x : Envelope). length x.bytes ≤ 4194304) p.2
      (short_tree (sees_root hosts views || nat_eq p.0 sender) (shown_to hosts false views) (unshown hosts false views))

  short_tree_of_mediator : length made.mediator ≤ 4194304
  short_tree_of_mediator = short_tree false (map_forest informees_alone views) (unnamed views)

  pub limited_is_sealed : IsSealedForm topology packages made
  limited_is_sealed = made_is_sealed topology packages sender command whole made can refl short_tree_of_mediator short_envelope

  pub limited_whole : limited_is_sealed.whole ≡ whole
  unfolding limited_is_sealed
  limited_whole = made_whole topology packages sender command whole made can refl short_tree_of_mediator short_envelope
