-- A request that is told and shown by the rules is sound.
use Rattle.std.proofs.Common.{◌≡◌, ℕ, ◌+◌, Bool, true, false, List, [], ◌∷◌, ◌++◌, length, Some, None, Contains, refl, sym, ap, ◌∙◌, subst, inl, arith}
use Rattle.std.specs.Prelude.{slice_get, nat_eq, if◌then◌else◌}
use Rattle.std.specs.List.{list_any}
use Rattle.std.proofs.lemmas.Bool.{eq-eqb}
use Rattle.std.proofs.lemmas.Option.{same_Some, none-some}
use Rattle.ledger_terms.specs.Parties.{set_of}
use Rattle.ledger_terms.specs.declared.act.Act.{Act}
use Rattle.ledger_terms.specs.Forest.{Forest, NoRoots, Root, preorder, paths_from, number_from, below_at, project}
use Rattle.ledger_model.specs.Terms.{Name, instance_of, ParticipantId, Path}
use Rattle.ledger_model.specs.Forest.{acts, trees_of, root_trees}
use Rattle.ledger_model.specs.Language.{Language, roles_of, actors_of, informees_of}
use Rattle.ledger_model.specs.Opening.{Transaction, OpenedView, Shown, roots_in, seen_paths, opened_of, opened_views_of, is_root_path, shown_if}
use Rattle.canton_model.specs.declared.request.Request.{Request}
use Rattle.canton_model.specs.Reading.{Reading, is_some_path, paths_confirmed, sees_some_view, shown_to}
use Rattle.canton_model.specs.Inbox.{confirms_signatory, is_informed}
use Rattle.canton_model.specs.Checks.{is_first, first_tree}
use Rattle.canton_model.specs.Genuine.{IsCovered, IsRootCovered, IsSound, TellsOf}
use Rattle.ledger_model.proofs.Lists.{In, in_any, from_any, in_at, in_map, in_from_Contains, contains_from_In}
use Rattle.ledger_model.proofs.Projected.{in_project}
use Rattle.ledger_model.proofs.Sets.{front_of_set}
use Rattle.ledger_model.proofs.Openings.{opens_projection, viewed_shown}
use Rattle.ledger_model.proofs.PathOrder as order
use Rattle.view_split.specs.Holed.{inner}
use Rattle.view_split.specs.declared.split_view.SplitView.{SplitView}
use Rattle.view_split.specs.Split.{confirmers_in, view_at, split}
use Rattle.view_split.specs.Numbered.{with_cores}
use Rattle.view_split.specs.SeenViews.{is_sight, seen_views, placed_numbered, opened_as}
use Rattle.view_split.proofs.Sight.{seen_are_views, seen_put_back}
use Rattle.view_split.proofs.Shown.{their_places, opened_are, seen_paths_are}
use Rattle.view_split.proofs.Confirming.{confirms_view, from_map, signatory_told}
use Rattle.view_split.proofs.TreesKept.{tree_kept, tree_at_number}
use Rattle.view_split.proofs.Roots.{Entry, RootShown, root_shown}
use Rattle.framed_form.specs.ByRules.{IsByRules}
use Rattle.framed_form.proofs.Places.{path_confirmed, seen_are}

shown_is : (b : Bool) (s s' : Shown) → shown_if b s ≡ Some s' → s ≡ s'
shown_is true s s' h = same_Some s s' h
shown_is false s s' h = absurd (none-some s' h)

not_shown : (b : Bool) (s : Shown) → b ≡ false → roots_in (shown_if b s) ≡ NoRoots
not_shown b s e = ap (λ (c : Bool). roots_in (shown_if c s)) e

module _ (language : Language) (hosts : Name → Bool) (roots : Forest Act) where
  abbrev pub seen_here : Forest (Path × SplitView)
  seen_here = seen_views hosts (split (roles_of language) roots)

  abbrev pub whole_here : Forest (Path × SplitView)
  whole_here = paths_from [] 0 (split (roles_of language) roots)

  entry_seen : (x : Entry) → In x (preorder (placed_numbered seen_here)) → In x.0 (preorder seen_here)
  entry_seen x h =
      subst (λ (vs : List (Path × SplitView)). In x.0 vs)
      (their_places (roles_of language) seen_here (opened_of language hosts roots) (seen_are_views (roles_of language) hosts roots))
      (in_map (λ (y : Entry). y.0) (preorder (placed_numbered seen_here)) x h)

  -- a view that is opened is one of the whole
  pub entry_of : (view : OpenedView) → In view (opened_views_of language hosts roots)
      → (x : Entry) × In x (preorder (placed_numbered seen_here)) × (opened_as x ≡ view) × In x.0 (preorder whole_here)
  entry_of view h =
      let x = from_map opened_as (preorder (placed_numbered seen_here)) view
      (subst (λ (os : List OpenedView). In view os) (sym (opened_are language hosts roots)) h) in
      (x.0, x.1, x.2, in_project (λ (v : Path × SplitView). is_sight hosts v.1) whole_here (x.0).0 (entry_seen x.0 x.1))

  pub path_seen : (x : Entry) → In x (preorder (placed_numbered seen_here)) → In (x.0).0 (seen_paths (roles_of language) hosts roots)
  path_seen x h =
      subst (λ (ps : List Path). In (x.0).0 ps) (seen_paths_are (roles_of language) hosts roots)
      (in_map (λ (v : Path × SplitView). v.0) (preorder seen_here) x.0 (entry_seen x h))

  -- the view of a root that is seen
  pub root_view : (tree : Act × Forest Act) → In tree (root_trees roots) → list_any hosts (informees_of language (tree.0).action) ≡ true
      → RootShown (roles_of language) 0 (placed_numbered seen_here) (opened_of language hosts roots) tree
  root_view tree h e =
      subst (λ (f : Forest Act). RootShown (roles_of language) 0 (with_cores_over f) (opened_of language hosts roots) tree)
      (sym (seen_put_back (roles_of language) hosts roots)) (root_shown (roles_of language) hosts 0 0 roots tree h e)
    where
      with_cores_over : Forest Act → Forest Entry
      with_cores_over f = with_cores (λ (v : Path × SplitView). (v.1).below) seen_here (number_from 0 f)

module _ (reading : Reading) (request : Request) (sender : Name) (t : Transaction)
    (confirms_hosted : (p : ParticipantId) (name : Name) → reading.confirms p name ≡ true → reading.hosts p name ≡ true)
    (rules : IsByRules reading request sender t) where
  abbrev language : Language
  language = reading.language

  hosted : (p : ParticipantId) (names : List Name) → list_any (reading.confirms p) names ≡ true → list_any (reading.hosts p) names ≡ true
  hosted p names h = let w = from_any (reading.confirms p) names h in in_any (reading.hosts p) names w.0 w.1 (confirms_hosted p w.0 w.2)

  informed : (p : ParticipantId) (a : Act) → confirms_signatory reading p a ≡ true → list_any (reading.hosts p) (informees_of language a.action) ≡ true
  informed p a h = signatory_told language (reading.hosts p) a.action (hosted p _ h)

  abbrev sends : ParticipantId → Bool
  sends p = nat_eq p request.sender

  abbrev paths : ParticipantId → List Path
  paths p = seen_paths (roles_of language) (reading.hosts p) t.roots

  abbrev record_shown : ParticipantId → Shown
  record_shown p =
      record {
        sender = sender;
        ledger_time = t.ledger_time;
        requesters = if list_any is_root_path (paths p) then Some t.requesters else None;
        roots = opened_of language (reading.hosts p) t.roots;
        views = opened_views_of language (reading.hosts p) t.roots;
      }

  pub their_shown : (p : ParticipantId) (shown : Shown) → shown_to reading p request ≡ Some shown → record_shown p ≡ shown
  their_shown p shown is = shown_is _ (record_shown p) shown (rules.shown p shown is)

  -- who confirms a confirmer of a view that is opened to it confirms its path
  confirmed_path : (p : ParticipantId) (shown : Shown) (view : OpenedView) → shown_to reading p request ≡ Some shown → Contains shown.views view
      → list_any (reading.confirms p) view.confirmers ≡ true → Contains (paths_confirmed reading p request) view.path
  confirmed_path p shown view is h c =
      let there : In view (opened_views_of language (reading.hosts p) t.roots) =
      subst (λ (s : Shown). In view s.views) (sym (their_shown p shown is)) (in_from_Contains shown.views view h) in
      let x = entry_of language (reading.hosts p) t.roots view there in
      subst (λ (v : OpenedView). Contains (paths_confirmed reading p request) v.path) x.2
      (path_confirmed reading request t rules.told p (x.0).0 x.3 (ap (λ (v : OpenedView). list_any (reading.confirms p) v.confirmers) x.2 ∙ c))

  hidden : (p : ParticipantId) → sees_some_view reading p request ≡ false → project (is_informed reading p) t.roots ≡ NoRoots
  hidden p h =
      let none : list_any (λ (path : Path). true) (paths p) ≡ false = sym (ap is_some_path (seen_are reading request t rules.told p)) ∙ h in
      sym (opens_projection language (reading.hosts p) false sender t) ∙ not_shown _ (record_shown p) none

  guarded : (a : Act) (p : ParticipantId) → Contains (acts t.roots) a → confirms_signatory reading p a ≡ true → (path : Path) × Contains (paths_confirmed reading p request) path
  guarded a p h signs =
      let at = in_at (acts t.roots) a (in_from_Contains (acts t.roots) a h) in
      let c = confirms_view language (reading.confirms p) (reading.hosts p) t.roots (confirms_hosted p) at.0 a at.1 signs in
      let there : In c.view (preorder (whole_here language (reading.hosts p) t.roots)) =
      in_project (λ (v : Path × SplitView). is_sight (reading.hosts p) v.1) (whole_here language (reading.hosts p) t.roots) c.view
      (in_from_Contains (preorder (seen_here language (reading.hosts p) t.roots)) c.view c.seen) in
      ((c.view).0, path_confirmed reading request t rules.told p c.view there c.confirmed)

  viewed : (p : ParticipantId) (shown : Shown) (i : ℕ) (a : Act) → shown_to reading p request ≡ Some shown → slice_get (acts shown.roots) i ≡ Some a
      → confirms_signatory reading p a ≡ true
      → (view : OpenedView) × Contains shown.views view × Contains view.core (i, a) × Contains (paths_confirmed reading p request) view.path
  viewed p shown i a is e signs =
      let v = viewed_shown language (reading.hosts p) (sends p) sender t (reading.confirms p) shown i a (rules.shown p shown is) e signs in
      (v.0, v.1, v.2, confirmed_path p shown v.0 is v.1 v.3)

  covered_by : (p : ParticipantId) (shown : Shown) (tree : Act × Forest Act) → shown_to reading p request ≡ Some shown → In tree (trees_of t.roots)
      → confirms_signatory reading p tree.0 ≡ true → IsCovered reading request p shown tree
  covered_by p shown tree is h signs =
      let told : Act → Bool = λ act. list_any (reading.hosts p) (informees_of language act.action) in
      let n = tree_at_number (opened_of language (reading.hosts p) t.roots) tree (tree_kept told t.roots tree h (informed p tree.0 signs)) in
      let same : opened_of language (reading.hosts p) t.roots ≡ shown.roots = ap (λ (x : Shown). x.roots) (their_shown p shown is) in
      let v = viewed p shown n.0 tree.0 is (ap (λ (f : Forest Act). slice_get (acts f) n.0) (sym same) ∙ n.1) signs in
      record { view = v.0; is_opened = v.1; is_confirmed = v.3; number = n.0; in_core = v.2; below = ap (below_at n.0) (sym same) ∙ n.2 }

  root_covered_by : (p : ParticipantId) (shown : Shown) (tree : Act × Forest Act) → shown_to reading p request ≡ Some shown
      → confirms_signatory reading p tree.0 ≡ true
      → RootShown (roles_of language) 0 (placed_numbered (seen_here language (reading.hosts p) t.roots)) (opened_of language (reading.hosts p) t.roots) tree
      → IsRootCovered reading request p shown t.requesters tree
  root_covered_by p shown tree is signs r =
      let same = their_shown p shown is in
      let view : OpenedView = opened_as r.entry in
      let listed : In view (opened_views_of language (reading.hosts p) t.roots) =
      subst (λ (os : List OpenedView). In view os) (opened_are language (reading.hosts p) t.roots)
      (in_map opened_as (preorder (placed_numbered (seen_here language (reading.hosts p) t.roots))) r.entry r.there) in
      let opened : Contains shown.views view = contains_from_In shown.views view (subst (λ (x : Shown). In view x.views) same listed) in
      let number : 0 + r.number ≡ r.number = omega arith in
      let core : view.core ≡ (r.number, tree.0) ∷ r.rest = r.core ∙ ap (λ (m : ℕ). (m, tree.0) ∷ r.rest) number in
      let signatories = language.signatories (instance_of (tree.0).action) in
      let confirmed : list_any (reading.confirms p) view.confirmers ≡ true =
      ap (λ (v : SplitView). list_any (reading.confirms p) v.confirmers) r.view
      ∙ front_of_set (reading.confirms p) (set_of (signatories ++ actors_of (tree.0).action))
      (confirmers_in (roles_of language) (inner (view_at (roles_of language) tree.0 tree.1).below))
      (front_of_set (reading.confirms p) signatories (actors_of (tree.0).action) signs) in
      let rooted : list_any is_root_path (paths p) ≡ true =
      in_any is_root_path _ view.path (path_seen language (reading.hosts p) t.roots r.entry r.there) (ap is_root_path r.path) in
      let below : below_at r.number shown.roots ≡ tree.1 = ap (λ (x : Shown). below_at r.number x.roots) (sym same) ∙ r.below in
      record {
        covered = record {
          view = view;
          is_opened = opened;
          is_confirmed = confirmed_path p shown view is opened confirmed;
          number = r.number;
          in_core = contains_from_In view.core (r.number, tree.0) (subst (λ (c : List (ℕ × Act)). In (r.number, tree.0) c) (sym core) (inl refl));
          below = below;
        };
        is_first = ap (λ (c : List (ℕ × Act)). is_first c r.number) core ∙ eq-eqb r.number r.number refl;
        first = ap (first_tree shown) core ∙ ap (λ (f : Forest Act). Root tree.0 f NoRoots) below;
        is_root = ap (λ (path : Path). nat_eq (length path) 1) r.path;
        known = ap (λ (x : Shown). x.requesters) (sym same) ∙ ap (λ (b : Bool). if b then Some t.requesters else None) rooted;
      }

  root_covered : (p : ParticipantId) (shown : Shown) (tree : Act × Forest Act) → shown_to reading p request ≡ Some shown → In tree (root_trees t.roots)
      → confirms_signatory reading p tree.0 ≡ true → IsRootCovered reading request p shown t.requesters tree
  root_covered p shown tree is h signs =
      root_covered_by p shown tree is signs (root_view language (reading.hosts p) t.roots tree h (informed p tree.0 signs))

  tells : (p : ParticipantId) (shown : Shown) → shown_to reading p request ≡ Some shown → TellsOf t shown
  tells p shown is =
      let told = order.told_of language (reading.hosts p) (sends p) sender t shown (rules.shown p shown is) in
      record { ledger_time = told.0; requesters = told.1 }

  pub sound : ((a : Act) → Contains (acts t.roots) a → language.has_roles a.action ≡ true)
      → ((a : Act) → Contains (acts t.roots) a → (p : ParticipantId) × (confirms_signatory reading p a ≡ true))
      → IsSound reading request
  sound has_roles confirmed =
      record {
        transaction = t;
        is_whole = rules.is_whole;
        has_roles = has_roles;
        opens = λ p shown is. sym (ap roots_in (rules.shown p shown is)) ∙ opens_projection language (reading.hosts p) (sends p) sender t;
        hidden = hidden;
        confirmed = confirmed;
        guarded = guarded;
        viewed = viewed;
        tells = tells;
        covers = λ p shown tree is h signs. covered_by p shown tree is (in_from_Contains (trees_of t.roots) tree h) signs;
        roots = λ p shown tree is h signs. root_covered p shown tree is (in_from_Contains (root_trees t.roots) tree h) signs;
      }
