-- The envelopes of a sealed request are complete, and show what the rules show of its transaction.
use Rattle.std.proofs.Common.{◌≡◌, ℕ, Bool, true, false, List, [], ◌∷◌, Option, Some, None, Result, Ok, refl, sym, ap, ◌∙◌, subst, inl, inr}
use Rattle.std.specs.Prelude.{◌||◌, flat_map, nat_eq, if◌then◌else◌}
use Rattle.std.specs.List.{list_any}
use Rattle.std.proofs.lemmas.Slice.Eq.{bytes_eq-Decides}
use Rattle.sha2.specs.Sha256.{sha256}
use Rattle.ledger_terms.specs.Hosting.{hosts_at}
use Rattle.ledger_terms.specs.declared.act.Act.{Act}
use Rattle.ledger_terms.specs.Forest.{Forest, NoRoots, Root, preorder, project}
use Rattle.ledger_terms.specs.declared.topology.Topology.{Topology}
use Rattle.ledger_model.specs.Forest.{acts}
use Rattle.ledger_model.specs.Language.{informees_of}
use Rattle.ledger_model.specs.Opening.{Transaction, is_root_path, seen_paths, shown_if, shown_of}
use Rattle.ledger_model.specs.Terms.{Path}
use Rattle.ledger_model.proofs.Lists.{In}
use Rattle.ledger_model.proofs.Projected.{in_project}
use Rattle.canton_model.specs.Reading.{Reading, is_some_path, shown_in_offer, shown_to}
use Rattle.canton_model.specs.declared.request.Request.{Request}
use Rattle.lang_eval.specs.Found.{Packages}
use Rattle.lang_eval.specs.Named.{AreKnown}
use Rattle.lang_eval.proofs.Known.{known_append}
use Rattle.interpret.specs.Language.{the_language}
use Rattle.interpret.specs.NamedParties.{parties_in_act, parties_in_forest}
use Rattle.wire_form.specs.declared.wire_fault.WireFault.{WireFault}
use Rattle.view_split.specs.Numbered.{map_forest}
use Rattle.view_split.specs.Placed.{shown_by, tops}
use Rattle.view_split.specs.SeenViews.{put_back, seen_views}
use Rattle.view_split.specs.declared.opened_tree.OpenedTree.{OpenedTree}
use Rattle.view_split.specs.declared.split_view.SplitView.{SplitView}
use Rattle.view_split.proofs.Shown.{seen_paths_are}
use Rattle.view_split.proofs.Sight.{seen_put_back}
use Rattle.view_split.proofs.Tops.{shown_is_by_rules, tops_seen}
use Rattle.blind_tree.specs.Blind.{informees_alone, sees_root, tree_to_mediator, vertices_shown}
use Rattle.blind_tree.specs.OpenedFor.{of_tree, open_or_missing, opened_by, opened_of_views}
use Rattle.blind_tree.specs.Reading.{read_all, tree_at}
use Rattle.blind_tree.specs.Recipients.{is_recipient}
use Rattle.blind_tree.specs.ShownViews.{AreViews}
use Rattle.blind_tree.specs.Spelling.{spell_tree}
use Rattle.blind_tree.specs.TreeHashes.{hash_of_root}
use Rattle.blind_tree.specs.declared.shown_for.OpenedFor.{OpenedFor}
use Rattle.blind_tree.specs.declared.shown_for.OpenedFor.TheVariants.{Mismatch, Missing, Open}
use Rattle.blind_tree.specs.declared.tree.Tree.{Tree}
use Rattle.blind_tree.proofs.Blinded.{mediators_root, participants_root}
use Rattle.blind_tree.proofs.OpensLaws.{roles_again}
use Rattle.blind_tree.proofs.Sights.{root_paths, some_paths}
use Rattle.blind_tree.proofs.TreeLaws.{tree_reads}
use Rattle.sealed_form.specs.SealedForm.{IsSealedForm, Whole, roles_by, tree_for, tree_in, views_by}
use Rattle.sealed_form.specs.Within.{is_hosted}
use Rattle.sealed_form.proofs.Envelopes.{envelope_is}
use Rattle.sealed_form.proofs.Opens.{opens, tree_is_opened}
use Rattle.sealed_form.proofs.Parties.{own_known}
use Rattle.sealed_form.proofs.Trees.{is_tree, mediators_is_tree, read_again, tree_again}
use Rattle.framed_form.specs.ByRules.{told_of}
use Rattle.framed_form.specs.FramedForm.{forest_in, if_known, names_known, offered, offered_by, offered_in, outline_in, outline_of, paths_seen, root_in, root_of, sees_root_view}
use Rattle.framed_form.specs.FramedReading.{framed_reading, offer_of, stated}
use Rattle.framed_form.specs.Frames.{paths_in, roles_read, seen_in}
use Rattle.framed_form.proofs.FramedSound.{stated_sets}
use Rattle.framed_form.proofs.Lying.{done, sets_of}
use Rattle.framed_form.proofs.Offered.{honest_opens}
use Rattle.framed_form.proofs.Places.{seen_are}
use Rattle.framed_form.proofs.Wholes.{seen_alike}

-- what the mediator's tree tells of views, as a forest
told_forest : (f : Forest SplitView) → AreViews f → roles_read (vertices_shown sha256 (map_forest informees_alone f)) ≡ Ok (map_forest sets_of f)
told_forest NoRoots h = refl
told_forest (Root view subviews others) h = rw (roles_again view h.0, told_forest subviews h.1, told_forest others h.2) refl

each_known : (known : List ℕ → Bool) (xs : List Act) → ((a : Act) → In a xs → AreKnown known (parties_in_act a)) → AreKnown known (flat_map parties_in_act xs)
each_known known [] h = refl
each_known known (x ∷ xs) h =
    known_append known (parties_in_act x) (flat_map parties_in_act xs) (h x (inl refl)) (each_known known xs (λ a i. h a (inr i)))

names_by : (b more : Bool) (names : Option (List (List ℕ))) (all : List (List ℕ)) → (b ≡ true → names ≡ (if (b || more) then Some all else None)) → (b ≡ false → names ≡ None)
    → names ≡ (if b then Some all else None)
names_by true more names all told untold = told refl
names_by false more names all told untold = untold refl

module _ (topology : Topology) (packages : Packages) (request : Request) (sealed : IsSealedForm topology packages request) where
  abbrev pub whole : Whole
  whole = sealed.whole

  abbrev pub t : Transaction
  t = (sealed.whole).transaction

  abbrev pub views : Forest SplitView
  views = views_by packages (sealed.whole).transaction

  abbrev pub hosts : ℕ → List ℕ → Bool
  hosts p = hosts_at topology.hosts p

  abbrev pub tree : ℕ → Tree
  tree p = tree_for topology packages request.sender (sealed.whole).sender (sealed.whole).salts (sealed.whole).transaction p

  abbrev pub mediators : Tree
  mediators = tree_to_mediator sha256 (sealed.whole).salts (sealed.whole).sender (sealed.whole).transaction views

  abbrev reading : Reading
  reading = framed_reading topology packages

  -- ---- what the mediator is told

  pub mediator_spells : tree_in request.mediator ≡ Some mediators
  mediator_spells =
      ap (λ (r : Request). tree_in r.mediator) sealed.made
      ∙ tree_again mediators (mediators_is_tree topology packages request.sender sealed.whole sealed.can_be)

  pub roles_are : roles_read mediators.views ≡ Ok (map_forest sets_of views)
  roles_are = told_forest views ((sealed.can_be).in_range).each

  pub outline : outline_of request ≡ map_forest sets_of views
  outline = ap outline_in mediator_spells ∙ ap forest_in roles_are

  pub told : reading.outline request ≡ map_forest told_of views
  told = ap (map_forest stated) outline ∙ stated_sets views

  pub seen : (p : ℕ) → paths_seen topology p request ≡ paths_in (seen_views (hosts p) views)
  seen p = ap (seen_in (hosts p)) outline ∙ seen_alike (hosts p) views (map_forest sets_of views) refl

  pub sees : (p : ℕ) → sees_root_view topology p request ≡ sees_root (hosts p) views
  sees p =
      ap (λ (ps : List Path). list_any is_root_path ps) (seen p ∙ seen_paths_are (roles_by packages) (hosts p) t.roots)
      ∙ root_paths (roles_by packages) (hosts p) t.roots

  root : (p : ℕ) → root_of request ≡ hash_of_root sha256 (tree p)
  root p =
      ap root_in mediator_spells
      ∙ (mediators_root sha256 (sealed.whole).salts (sealed.whole).sender t views
      ∙ sym (participants_root sha256 (sealed.whole).salts (sealed.whole).sender t views (hosts p) (nat_eq p request.sender)))

  -- ---- what an envelope opens

  -- the views that the recipient sees, and the requesters where one of them is a root view
  abbrev pub opened_of : ℕ → OpenedTree
  opened_of p =
      record {
        sender = (sealed.whole).sender;
        ledger_time = ((sealed.whole).transaction).ledger_time;
        requesters = if sees_root (hosts p) views then Some ((sealed.whole).transaction).requesters else None;
        views = tops (seen_views (hosts p) views);
      }

  tree_read : (p : ℕ) → read_all tree_at (spell_tree (tree p)) ≡ Ok (tree p)
  tree_read p =
      read_again tree_at (spell_tree (tree p)) (tree p) (tree_reads.again (tree p) [] (is_tree topology packages request.sender sealed.whole sealed.can_be p))

  views_opened : (p : ℕ) → opened_of_views (paths_in (seen_views (hosts p) views)) (sees_root (hosts p) views) (tree p) ≡ Ok (opened_of p)
  views_opened p =
      let all = opens topology packages request.sender sealed.whole sealed.can_be p in
      let o =
      honest_opens sha256 (sealed.whole).salts (sealed.whole).sender t views (hosts p) (nat_eq p request.sender) (sees_root (hosts p) views) all
      (tree_is_opened topology packages request.sender sealed.whole sealed.can_be p) (λ h. h) in
      let names = names_by (sees_root (hosts p) views) (nat_eq p request.sender) o.names t.requesters o.told o.untold in
      o.opens ∙ (λ i. done (opened_by ((sealed.whole).sender, t.ledger_time) (names i) (tops (seen_views (hosts p) views))))

  -- all that is opened names parties of the topology alone
  known : (p : ℕ) → names_known topology (opened_of p) ≡ true
  known p =
      let there = (sealed.can_be).named in
      let informed : Act → Bool = λ act. list_any (hosts p) (informees_of (the_language packages) act.action) in
      let all : AreKnown (is_hosted topology) (parties_in_forest (project informed t.roots)) =
      each_known (is_hosted topology) (preorder (project informed t.roots)) (λ a i. own_known topology (acts t.roots) a there (in_project informed t.roots a i)) in
      subst (λ (f : Forest Act). AreKnown (is_hosted topology) (parties_in_forest f))
      (sym (ap put_back (tops_seen (hosts p) views) ∙ seen_put_back (roles_by packages) (hosts p) t.roots)) all

  pub offered_here : (p : ℕ) → offered_by topology p request (spell_tree (tree p)) ≡ Open (opened_of p)
  offered_here p =
      let hash = hash_of_root sha256 (tree p) in
      let paths = paths_in (seen_views (hosts p) views) in
      (λ i. if_known topology (of_tree (root p i) (seen p i) (sees p i) (tree_read p i)))
      ∙ (ap (λ (b : Bool). if_known topology (if b then open_or_missing (opened_of_views paths (sees_root (hosts p) views) (tree p)) else Mismatch))
      ((bytes_eq-Decides hash hash).1 refl)
      ∙ (ap (λ (r : Result OpenedTree WireFault). if_known topology (open_or_missing r)) (views_opened p)
      ∙ ap (λ (b : Bool). if b then Open (opened_of p) else Missing) (known p)))

  -- each recipient's envelope is complete
  pub complete : (p : ℕ) → is_recipient topology.hosts views request.sender p ≡ true → offered topology p request ≡ Open (opened_of p)
  complete p gets =
      ap (offered_in topology p request)
      (envelope_is topology packages request sealed p ∙ ap (λ (b : Bool). if b then Some (spell_tree (tree p)) else None) gets)
      ∙ offered_here p

  -- ---- what is shown

  abbrev paths : ℕ → List Path
  paths p = seen_paths (roles_by packages) (hosts p) t.roots

  abbrev test : ℕ → Bool
  test p = nat_eq p request.sender || list_any (λ (path : Path). true) (paths p)

  by_test : (p : ℕ) (b : Bool) → (b ≡ true → offered topology p request ≡ Open (opened_of p))
      → (if b then shown_in_offer (offer_of (offered topology p request)) else None) ≡ shown_if b (shown_by (opened_of p))
  by_test p true go = ap (λ (o : OpenedFor). shown_in_offer (offer_of o)) (go refl)
  by_test p false go = refl

  -- who gets something is shown what the rules show
  pub shown_by_rules : (p : ℕ) → shown_to reading p request ≡ shown_of (the_language packages) (hosts p) (nat_eq p request.sender) (sealed.whole).sender t
  shown_by_rules p =
      let gets : is_recipient topology.hosts views request.sender p ≡ test p =
      ap (λ (b : Bool). nat_eq p request.sender || b) (sym (some_paths (roles_by packages) (hosts p) t.roots)) in
      ap (λ (ps : List Path). if (nat_eq p request.sender || is_some_path ps) then shown_in_offer (offer_of (offered topology p request)) else None)
      (seen_are reading request t told p)
      ∙ (by_test p (test p) (λ h. complete p (gets ∙ h))
      ∙ ap (shown_if (test p))
      (shown_is_by_rules (the_language packages) (hosts p) (sealed.whole).sender t (opened_of p) refl refl
      (ap (λ (b : Bool). if b then Some t.requesters else None) (sym (root_paths (roles_by packages) (hosts p) t.roots))) refl))
