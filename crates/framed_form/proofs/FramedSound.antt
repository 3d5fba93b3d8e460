-- A framed request of which each view is vouched for is sound, where its trees agree.
use Rattle.std.proofs.Common.{◌≡◌, ℕ, Bool, true, List, [], map, filter, Some, None, Contains, refl, sym, ap, ◌∙◌, subst, inl, inr}
use Rattle.std.specs.Prelude.{◌||◌, nat_eq, option_map}
use Rattle.std.specs.Str.{bytes_eq}
use Rattle.std.specs.List.{list_any}
use Rattle.std.proofs.lemmas.Bool.{cases_Bool}
use Rattle.std.proofs.lemmas.Option.{same_Some, none-some}
use Rattle.std.proofs.lemmas.Slice.Eq.{bytes_eq-Decides}
use Rattle.ledger_terms.specs.Hosting.{confirms_at, hosts_at}
use Rattle.ledger_terms.specs.declared.act.Act.{Act}
use Rattle.ledger_terms.specs.Forest.{Forest, NoRoots, Root, paths_from, preorder, project}
use Rattle.ledger_terms.specs.declared.topology.Topology.{Topology}
use Rattle.ledger_model.specs.Forest.{trees_of}
use Rattle.ledger_model.specs.Language.{Language, roles_of}
use Rattle.ledger_model.specs.Opening.{Shown, Transaction, seen_paths, shown_if, shown_of}
use Rattle.ledger_model.specs.Terms.{Name, ParticipantId, Path}
use Rattle.ledger_model.proofs.Lists.{In, contains_from_In, from_filter, in_any, in_from_Contains, in_map}
use Rattle.canton_model.specs.declared.request.Request.{Request}
use Rattle.canton_model.specs.Checks.{is_split_core, subview_starts}
use Rattle.canton_model.specs.Genuine.{IsSound, IsVouched}
use Rattle.canton_model.specs.Reading.{Outlined, Reading, is_recipient, is_some_path, paths_confirmed, placed_outline, shown_in_offer, shown_to, view_paths}
use Rattle.view_split.specs.Numbered.{map_forest}
use Rattle.view_split.specs.Placed.{placed_forest, shown_by}
use Rattle.view_split.specs.Split.{split}
use Rattle.view_split.specs.declared.opened_tree.OpenedTree.{OpenedTree}
use Rattle.view_split.specs.declared.split_view.SplitView.{SplitView}
use Rattle.view_split.proofs.Confirming.{from_map, in_kept}
use Rattle.view_split.proofs.Fitting.{preorder-map}
use Rattle.view_split.proofs.Sight.{without_paths}
use Rattle.blind_tree.specs.Leaves.{Sets}
use Rattle.blind_tree.specs.OpenedFor.{is_listed}
use Rattle.blind_tree.specs.declared.shown_for.OpenedFor.{OpenedFor}
use Rattle.blind_tree.specs.declared.shown_for.OpenedFor.TheVariants.{Mismatch, Missing, Open}
use Rattle.sealed_form.proofs.Hosts.{confirmer_found, confirmer_hosts}
use Rattle.framed_form.specs.Agreeing.{AreAgreed}
use Rattle.framed_form.specs.Framed.{IsFramed}
use Rattle.framed_form.specs.FramedForm.{Whole, complete_in, forest_in, offered, opened_to, outline_in, outline_of, paths_seen, transaction_of, whole_of}
use Rattle.framed_form.specs.Frames.{paths_in, tells}
use Rattle.framed_form.proofs.Facts.{each_confirmed, informed, told}
use Rattle.framed_form.proofs.Filled.{opened_filled}
use Rattle.framed_form.proofs.Lying.{sets_of}
use Rattle.framed_form.proofs.SealedFramed.{from_subset}
use Rattle.framed_form.proofs.ShownPaths.{shown_rises}
use Rattle.framed_form.proofs.ShownWhole.{shown_here, shown_is}
use Rattle.framed_form.proofs.Sound as bytes
use Rattle.framed_form.proofs.Sound.{given_by, views_are_split}
use Rattle.framed_form.proofs.Wholes.{complete_from, whole_is_told}
use Rattle.framed_form.specs.ByRules.{HasSignatories, IsByRules, told_of}
use Rattle.framed_form.specs.FramedReading.{framed_reading_over, offer_of, stated}
use Rattle.framed_form.proofs.Places.{paths_mapped, seen_are, with_path}
use Rattle.framed_form.proofs.Vouching.{sound_where_vouched}
use Rattle.framed_form.proofs.WellSplit.{structured}
use Rattle.framed_form.proofs.WholeThere.{the_whole, views, whole_there}

abbrev pub Placed : Type 0
Placed = List ℕ × Sets

pub stated_sets : (w : Forest SplitView) → map_forest stated (map_forest sets_of w) ≡ map_forest told_of w
stated_sets NoRoots = refl
stated_sets (Root view below others) = λ i. Root (told_of view) (stated_sets below i) (stated_sets others i)

module _ (topology : Topology) (language : Language) (conforms : Forest Act → Bool) (is_authentic : Act → Bool) (request : Request) (framed : IsFramed topology request) where
  abbrev pub reading : Reading
  reading = framed_reading_over topology language conforms is_authentic

  abbrev pub f : Forest Sets
  f = (told topology request framed).outline

  pub outline_is : outline_of request ≡ f
  outline_is = ap outline_in framed.spells ∙ ap forest_in (told topology request framed).outline_read

  -- what is shown is what a complete envelope opens to a recipient
  pub record IsOpened (p : ParticipantId) (shown : Shown) : Type 0 where
    pub opened : OpenedTree
    pub is_opened : opened_to topology p request ≡ Some opened
    pub same : shown_by opened ≡ shown
    pub recipient : is_recipient reading p request ≡ true

  pub is_opened_as : (p : ParticipantId) (shown : Shown) → shown_to reading p request ≡ Some shown → IsOpened p shown
  is_opened_as p shown h = elim (cases_Bool (is_recipient reading p request)) [
    | inl is ↦ (let there : shown_in_offer (offer_of (offered topology p request)) ≡ Some shown = rw is at h in by_offer (offered topology p request) refl there is)
    | inr out ↦ (let none : None ≡ Some shown = rw out at h in absurd (none-some shown none))
  ]
    where
      by_offer : (o : OpenedFor) → offered topology p request ≡ o → shown_in_offer (offer_of o) ≡ Some shown → is_recipient reading p request ≡ true → IsOpened p shown
      by_offer Mismatch is there r = absurd (none-some shown there)
      by_offer Missing is there r = absurd (none-some shown there)
      by_offer (Open opened) is there r =
          record { opened = opened; is_opened = ap complete_in is; same = same_Some (shown_by opened) shown there; recipient = r }

  -- a view that the reading lists is one that the mediator is told of
  pub told_as : (view : Path × Outlined) → In view (preorder (placed_outline reading request)) → (v : Placed) × In v (preorder (paths_from [] 0 f)) × (with_path stated v ≡ view)
  told_as view h =
      let placed : placed_outline reading request ≡ map_forest (with_path stated) (paths_from [] 0 f) =
      ap (λ (g : Forest Sets). paths_from [] 0 (map_forest stated g)) outline_is ∙ paths_mapped stated [] 0 f in
      from_map (with_path stated) (preorder (paths_from [] 0 f)) view
      (subst (λ (vs : List (Path × Outlined)). In view vs) (preorder-map (with_path stated) (paths_from [] 0 f))
      (subst (λ (g : Forest (Path × Outlined)). In view (preorder g)) placed h))

  -- who confirms a view sees it
  confirmed_seen : (p : ParticipantId) (path : Path) → Contains (paths_confirmed reading p request) path → is_listed (paths_seen topology p request) path ≡ true
  confirmed_seen p path h =
      let confirms : Path × Outlined → Bool = λ view. list_any (reading.confirms p) (view.1).confirmers in
      let view = from_map (λ (x : Path × Outlined). x.0) (filter confirms (preorder (placed_outline reading request))) path (in_from_Contains (paths_confirmed reading p request) path h) in
      let kept = from_filter confirms (preorder (placed_outline reading request)) view.0 view.1 in
      let v = told_as view.0 kept.0 in
      let sees = informed topology request framed p v.0 v.1 (ap (λ (x : Path × Outlined). list_any (confirms_at topology.hosts p) (x.1).confirmers) v.2 ∙ kept.1) in
      let there = in_kept (λ (x : Placed). tells (hosts_at topology.hosts p) x.1) (paths_from [] 0 f) v.0 v.1 sees in
      let seen : In (v.0).0 (paths_seen topology p request) =
      subst (λ (g : Forest Sets). In (v.0).0 (paths_in (project (λ (x : Placed). tells (hosts_at topology.hosts p) x.1) (paths_from [] 0 g)))) (sym outline_is)
      (in_map (λ (x : Placed). x.0) _ v.0 there) in
      in_any (bytes_eq path) (paths_seen topology p request) (v.0).0 seen ((bytes_eq-Decides path (v.0).0).1 (sym (ap (λ (x : Path × Outlined). x.0) v.2 ∙ view.2)))

  -- somebody confirms each confirmer
  pub known : (view : Outlined) (name : Name) → Contains (preorder (reading.outline request)) view → Contains view.confirmers name
      → (p : ParticipantId) × (reading.confirms p name ≡ true)
  known view name h c =
      let listed : In view (map stated (preorder f)) =
      subst (λ (vs : List Outlined). In view vs) (preorder-map stated f)
      (subst (λ (g : Forest Sets). In view (preorder (map_forest stated g))) outline_is (in_from_Contains (preorder (reading.outline request)) view h)) in
      let sets = from_map stated (preorder f) view listed in
      let placed : In sets.0 (map (λ (x : Placed). x.1) (preorder (paths_from [] 0 f))) =
      subst (λ (xs : List Sets). In sets.0 xs) (preorder-map (λ (x : Placed). x.1) (paths_from [] 0 f))
      (subst (λ (g : Forest Sets). In sets.0 (preorder g)) (sym (without_paths [] 0 f)) sets.1) in
      let v = from_map (λ (x : Placed). x.1) (preorder (paths_from [] 0 f)) sets.0 placed in
      let one = each_confirmed topology request framed v.0 v.1 in
      let same : stated (v.0).1 ≡ view = ap stated v.2 ∙ sets.2 in
      let confirmer : In name ((v.0).1).1 = subst (λ (o : Outlined). In name o.confirmers) (sym same) (in_from_Contains view.confirmers name c) in
      confirmer_found topology.hosts name
      (one.known name (contains_from_In ((v.0).1).0 name (from_subset ((v.0).1).1 ((v.0).1).0 name one.among confirmer)))

  module _ (agreed : AreAgreed request) (vouched : (path : Path) → Contains (view_paths reading request) path → IsVouched reading request path) where
    pub vouched_by : (path : List ℕ) → In path (paths_in (paths_from [] 0 f)) → bytes.IsVouched topology (roles_of language) request path
    vouched_by path h =
        let v = from_map (λ (x : Placed). x.0) (preorder (paths_from [] 0 f)) path h in
        let placed : placed_outline reading request ≡ map_forest (with_path stated) (paths_from [] 0 f) =
        ap (λ (g : Forest Sets). paths_from [] 0 (map_forest stated g)) outline_is ∙ paths_mapped stated [] 0 f in
        let listed : In (with_path stated v.0) (preorder (placed_outline reading request)) =
        subst (λ (g : Forest (Path × Outlined)). In (with_path stated v.0) (preorder g)) (sym placed)
        (subst (λ (vs : List (Path × Outlined)). In (with_path stated v.0) vs) (sym (preorder-map (with_path stated) (paths_from [] 0 f)))
        (in_map (with_path stated) (preorder (paths_from [] 0 f)) v.0 v.1)) in
        let there : In (v.0).0 (view_paths reading request) = in_map (λ (x : Path × Outlined). x.0) (preorder (placed_outline reading request)) (with_path stated v.0) listed in
        let w = vouched path (contains_from_In (view_paths reading request) path (subst (λ (q : Path). In q (view_paths reading request)) v.2 there)) in
        let o = is_opened_as w.participant w.shown w.is_shown in
        let given = given_by topology request w.participant o.opened o.is_opened in
        let c = complete_from topology w.participant request given.0 o.opened given.2 in
        let opened : In w.view (shown_by o.opened).views = subst (λ (s : Shown). In w.view s.views) (sym o.same) (in_from_Contains (w.shown).views w.view w.is_opened) in
        let well : is_split_core language (w.view).informees (w.view).confirmers (w.view).core (subview_starts (shown_by o.opened) w.view) ≡ true =
        ap (λ (s : Shown). is_split_core language (w.view).informees (w.view).confirmers (w.view).core (subview_starts s w.view)) o.same ∙ w.split_well in
        record {
          participant = w.participant;
          opened = o.opened;
          is_opened = o.is_opened;
          sees = confirmed_seen w.participant path w.is_confirmed;
          found = record {
            right = λ view subviews i.
                structured language o.opened (opened_filled _ _ c.tree o.opened c.opens) (shown_rises _ _ c.tree o.opened c.opens) w.view opened well view subviews
                (subst (λ (q : Path). In ((q, view), subviews) (trees_of (placed_forest (o.opened).views))) (sym w.has_path) i);
          };
        }

    abbrev pub whole : Whole
    whole = the_whole topology (roles_of language) request agreed framed vouched_by

    abbrev pub t : Transaction
    t = transaction_of whole

    pub is_there : whole_of topology request ≡ Some whole
    is_there = whole_there topology (roles_of language) request agreed framed vouched_by

    views_told : reading.outline request ≡ map_forest told_of (split (roles_of language) t.roots)
    views_told =
        let read = (told topology request framed).outline_read in
        let w = views topology (roles_of language) request agreed framed vouched_by in
        ap (map_forest stated) (outline_is ∙ sym (whole_is_told topology request agreed framed.tree f framed.spells read w.0 w.1))
        ∙ (stated_sets w.0
        ∙ ap (map_forest told_of) (sym (views_are_split topology request agreed framed.tree f framed.spells read (roles_of language) vouched_by)))

    shown_by_rules : (p : ParticipantId) (shown : Shown) → shown_to reading p request ≡ Some shown
        → shown_of language (reading.hosts p) (nat_eq p request.sender) whole.sender t ≡ Some shown
    shown_by_rules p shown h =
        let o = is_opened_as p shown h in
        let here : Shown = shown_here language (hosts_at topology.hosts p) whole.sender t in
        let test : (nat_eq p request.sender || is_some_path (seen_paths (roles_of language) (reading.hosts p) t.roots)) ≡ true =
        ap (λ (ps : List Path). nat_eq p request.sender || is_some_path ps) (sym (seen_are reading request t views_told p)) ∙ o.recipient in
        let same : shown_by o.opened ≡ here =
        shown_is topology request agreed framed.tree f framed.spells (told topology request framed).outline_read language vouched_by
        (told topology request framed).head (told topology request framed).head_read whole is_there p o.opened o.is_opened in
        ap (λ (b : Bool). shown_if b here) test ∙ ap (λ (s : Shown). Some s) (sym same ∙ o.same)

    by_rules : IsByRules reading request whole.sender t
    by_rules = record { is_whole = ap (option_map transaction_of) is_there; told = views_told; known = known; shown = shown_by_rules }

    pub framed_sound : HasSignatories language → IsSound reading request
    framed_sound signs = sound_where_vouched reading request whole.sender t (λ p name h. confirmer_hosts topology.hosts p name h) signs by_rules vouched
