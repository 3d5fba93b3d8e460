-- Where each view of a request is vouched for its actions have roles, and somebody confirms a signatory of each.
use Rattle.std.proofs.Common.{◌≡◌, ℕ, true, List, [], ◌∷◌, ◌++◌, map, Contains, sym, ap, ◌∙◌, subst}
use Rattle.std.specs.Prelude.{flat_map}
use Rattle.std.specs.List.{list_all}
use Rattle.std.proofs.lemmas.Bool.{and_parts}
use Rattle.ledger_terms.specs.declared.act.Act.{Act}
use Rattle.ledger_terms.specs.Forest.{Forest, preorder, number_from}
use Rattle.ledger_model.specs.Terms.{Name, PartySet, instance_of, ParticipantId, Path}
use Rattle.ledger_model.specs.Forest.{acts}
use Rattle.ledger_model.specs.Language.{Language, roles_of, actors_of}
use Rattle.ledger_model.specs.Opening.{Transaction, OpenedView, Shown, opened_of, opened_views_of}
use Rattle.ledger_model.specs.Views.{View, confirmers_of, views}
use Rattle.ledger_model.proofs.Lists.{In, in_any, in_at, in_append_left, in_map, in_from_Contains, contains_from_In}
use Rattle.ledger_model.proofs.Projected.{stands}
use Rattle.ledger_model.proofs.Sets.{in_set_of}
use Rattle.canton_model.specs.declared.request.Request.{Request}
use Rattle.canton_model.specs.Reading.{Outlined, Reading, view_paths}
use Rattle.canton_model.specs.Inbox.{confirms_signatory}
use Rattle.canton_model.specs.Checks.{is_split_core, subview_starts}
use Rattle.canton_model.specs.Genuine.{IsSound, IsVouched}
use Rattle.view_split.specs.Filled.{AreFilled}
use Rattle.view_split.specs.Numbered.{map_forest, seen_as}
use Rattle.view_split.specs.SeenViews.{placed_numbered, put_back}
use Rattle.view_split.specs.Split.{core_acts, split}
use Rattle.view_split.specs.declared.split_view.SplitView.{SplitView}
use Rattle.view_split.proofs.Confirming.{from_map}
use Rattle.view_split.proofs.Cores.{plain_numbered}
use Rattle.view_split.proofs.Fitting.{preorder-map}
use Rattle.view_split.proofs.Holes.{filled}
use Rattle.view_split.proofs.InPlace.{acts_in, acts_of_core}
use Rattle.view_split.proofs.Once.{at_numbered}
use Rattle.view_split.proofs.Roots.{Entry}
use Rattle.view_split.proofs.Shown.{seen_as_views, their_places}
use Rattle.view_split.proofs.Sight.{from_all, seen_are_views, without_paths}
use Rattle.framed_form.specs.ByRules.{HasSignatories, IsByRules, told_of}
use Rattle.framed_form.proofs.Agreed.{in_flat_map}
use Rattle.framed_form.proofs.Places.{one_at, path_told, tree_with}
use Rattle.framed_form.proofs.SoundByRules.{entry_of, seen_here, sound, their_shown, whole_here}

-- the actions of a core that is well split have roles
roles_in_core : (language : Language) (informees confirmers : PartySet) (core : List (ℕ × Act)) (below : List Act) → is_split_core language informees confirmers core below ≡ true
    → (a : Act) → In a (acts_in core) → language.has_roles a.action ≡ true
roles_in_core language informees confirmers [] below e a h = absurd h
roles_in_core language informees confirmers (first ∷ rest) below e a h =
    from_all (λ (b : Act). language.has_roles b.action) (acts_in (first ∷ rest) ++ below) a
    (and_parts (list_all (λ (b : Act). language.has_roles b.action) (acts_in (first ∷ rest) ++ below)) _ e).0
    (in_append_left (acts_in (first ∷ rest)) below a h)

-- a view with its core holds the actions of that core
core_of_entry : (placed : Forest (Path × SplitView)) → AreFilled (map_forest (λ (v : Path × SplitView). v.1) placed) → (x : Entry) → In x (preorder (placed_numbered placed))
    → acts_in x.1 ≡ core_acts (x.0).1
core_of_entry placed full x h =
    let tree = tree_with (placed_numbered placed) x h in
    acts_of_core placed (number_from 0 (put_back placed)) (x, tree.0) full (plain_numbered 0 (put_back placed)) tree.1

module _ (language : Language) (roots : Forest Act) where
  abbrev whole : Forest (Path × SplitView)
  whole = whole_here language (λ (name : Name). true) roots

  -- a view of the whole in whose core an action stands
  record HasView (a : Act) : Type 0 where
    place : Path × SplitView
    there : In place (preorder whole)
    in_core : In a (core_acts place.1)
    confirmed : (name : Name) → In name (language.signatories (instance_of a.action)) → In name (place.1).confirmers

  view_with : (a : Act) → In a (acts roots) → HasView a
  view_with a h =
      let at = in_at (acts roots) a h in
      let s = stands (roles_of language) (number_from 0 roots) (at.0, a) (at_numbered roots at.0 a at.1) in
      let told : View → View × PartySet = λ v. (v, confirmers_of (roles_of language) v) in
      let shows : Entry → View × PartySet = λ z. seen_as ((z.0).1, z.1) in
      let alone = without_paths [] 0 (split (roles_of language) roots) in
      let listed : In (told s.view) (map shows (preorder (placed_numbered whole))) =
      subst (λ (xs : List (View × PartySet)). In (told s.view) xs) (sym (seen_as_views (roles_of language) whole roots alone))
      (in_map told (preorder (views (roles_of language) roots)) s.view s.there) in
      let y = from_map shows (preorder (placed_numbered whole)) (told s.view) listed in
      let core : In {X = ℕ × Act} (at.0, a) (y.0).1 = subst (λ (c : List (ℕ × Act)). In {X = ℕ × Act} (at.0, a) c) (sym (ap (λ (v : View × PartySet). (v.0).core) y.2)) s.in_core in
      record {
        place = (y.0).0;
        there = subst (λ (vs : List (Path × SplitView)). In (y.0).0 vs) (their_places (roles_of language) whole roots alone)
            (in_map (λ (z : Entry). z.0) (preorder (placed_numbered whole)) y.0 y.1);
        in_core = subst (λ (xs : List Act). In a xs)
            (core_of_entry whole (subst AreFilled (sym alone) (filled (roles_of language) roots)) y.0 y.1)
            (in_map (λ (z : ℕ × Act). z.1) (y.0).1 (at.0, a) core);
        confirmed = λ name i.
            let each : ℕ × Act → List Name = λ act. (roles_of language (act.1).action).confirmers in
            subst (λ (ns : List Name). In name ns) (sym (ap (λ (v : View × PartySet). v.1) y.2))
            (in_set_of (flat_map each (s.view).core) name (in_flat_map each (s.view).core (at.0, a) name s.in_core
            (in_set_of (language.signatories (instance_of a.action) ++ actors_of a.action) name
            (in_append_left (language.signatories (instance_of a.action)) (actors_of a.action) name i))));
      }

module _ (reading : Reading) (request : Request) (sender : Name) (t : Transaction)
    (confirms_hosted : (p : ParticipantId) (name : Name) → reading.confirms p name ≡ true → reading.hosts p name ≡ true)
    (signs : HasSignatories reading.language) (rules : IsByRules reading request sender t) where
  abbrev language : Language
  language = reading.language

  confirmed : ((a : Act) → Contains (acts t.roots) a → language.has_roles a.action ≡ true) → (a : Act) → Contains (acts t.roots) a → (p : ParticipantId) × (confirms_signatory reading p a ≡ true)
  confirmed has_roles a h =
      let v = view_with language t.roots a (in_from_Contains (acts t.roots) a h) in
      let names = language.signatories (instance_of a.action) in
      let one = signs a.action (has_roles a h) in
      let signatory : In one.0 names = in_from_Contains names one.0 one.1 in
      let listed : In (told_of (v.place).1) (preorder (reading.outline request)) =
      subst (λ (f : Forest Outlined). In (told_of (v.place).1) (preorder f)) (sym rules.told)
      (subst (λ (os : List Outlined). In (told_of (v.place).1) os) (sym (preorder-map told_of (split (roles_of language) t.roots)))
      (in_map told_of (preorder (split (roles_of language) t.roots)) (v.place).1 (bare_in v.place v.there))) in
      let p = rules.known (told_of (v.place).1) one.0 (contains_from_In (preorder (reading.outline request)) (told_of (v.place).1) listed)
      (contains_from_In ((v.place).1).confirmers one.0 (v.confirmed one.0 signatory)) in
      (p.0, in_any (reading.confirms p.0) names one.0 signatory p.1)
    where
      bare_in : (u : Path × SplitView) → In u (preorder (whole language t.roots)) → In u.1 (preorder (split (roles_of language) t.roots))
      bare_in u i =
          subst (λ (f : Forest SplitView). In u.1 (preorder f)) (without_paths [] 0 (split (roles_of language) t.roots))
          (subst (λ (xs : List SplitView). In u.1 xs) (sym (preorder-map (λ (z : Path × SplitView). z.1) (whole language t.roots)))
          (in_map (λ (z : Path × SplitView). z.1) (preorder (whole language t.roots)) u i))

  -- where its actions have roles it is sound
  pub sound_with_roles : ((a : Act) → Contains (acts t.roots) a → language.has_roles a.action ≡ true) → IsSound reading request
  sound_with_roles has_roles = sound reading request sender t confirms_hosted rules has_roles (confirmed has_roles)

  module _ (vouched : (path : Path) → Contains (view_paths reading request) path → IsVouched reading request path) where
    has_roles : (a : Act) → Contains (acts t.roots) a → language.has_roles a.action ≡ true
    has_roles a h =
        let v = view_with language t.roots a (in_from_Contains (acts t.roots) a h) in
        let w = vouched (v.place).0 (path_told reading request t rules.told v.place v.there) in
        let hosts = reading.hosts w.participant in
        let same = their_shown reading request sender t confirms_hosted rules w.participant w.shown w.is_shown in
        let opened : In w.view (opened_views_of language hosts t.roots) = subst (λ (s : Shown). In w.view s.views) (sym same) (in_from_Contains (w.shown).views w.view w.is_opened) in
        let x = entry_of language hosts t.roots w.view opened in
        let path : ((x.0).0).0 ≡ (v.place).0 = ap (λ (o : OpenedView). o.path) x.2 ∙ w.has_path in
        let place : (x.0).0 ≡ v.place = one_at [] 0 (split (roles_of language) t.roots) (x.0).0 v.place x.3 v.there path in
        let full : AreFilled (map_forest (λ (u : Path × SplitView). u.1) (seen_here language hosts t.roots)) =
        subst AreFilled (sym (seen_are_views (roles_of language) hosts t.roots)) (filled (roles_of language) (opened_of language hosts t.roots)) in
        let core : acts_in (w.view).core ≡ core_acts (v.place).1 =
        ap (λ (o : OpenedView). acts_in o.core) (sym x.2)
        ∙ (core_of_entry (seen_here language hosts t.roots) full x.0 x.1 ∙ ap (λ (u : Path × SplitView). core_acts u.1) place) in
        roles_in_core language (w.view).informees (w.view).confirmers (w.view).core (subview_starts w.shown w.view) w.split_well a
        (subst (λ (xs : List Act). In a xs) (sym core) v.in_core)

    -- and so it is where each view is vouched for
    pub sound_where_vouched : IsSound reading request
    sound_where_vouched = sound_with_roles has_roles
