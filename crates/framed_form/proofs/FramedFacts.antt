-- What a framed request has of its reading, whoever sent it.
use Rattle.std.proofs.Common.{◌≡◌, ℕ, zero, suc, ◌+◌, ◌<◌, Bool, true, List, [], length, map, filter, Some, Contains, sym, ap, ◌∙◌, subst, inl, inr, arith}
use Rattle.std.specs.Prelude.{slice_get, slice_index}
use Rattle.std.specs.List.{list_any, range_with_len}
use Rattle.std.specs.List.Sorted.{IsStrictlyIncreasing}
use Rattle.std.proofs.lemmas.List.Kept.{IsStrictlyIncreasing-filter}
use Rattle.ledger_terms.specs.Hosting.{confirms_at}
use Rattle.ledger_terms.specs.declared.act.Act.{Act}
use Rattle.ledger_terms.specs.Forest.{Forest, NoRoots, Root, number_from, paths_from, preorder, project}
use Rattle.ledger_terms.specs.declared.topology.Topology.{Topology}
use Rattle.ledger_model.specs.Forest.{acts}
use Rattle.ledger_model.specs.Language.{Language}
use Rattle.ledger_model.specs.Opening.{OpenedView, Shown}
use Rattle.ledger_model.specs.Terms.{ParticipantId, Path}
use Rattle.ledger_model.proofs.Lists.{In, contains_from_In, from_any, from_filter, in_any, in_append_cases, in_append_left, in_append_right, in_filter, in_from_Contains, in_map}
use Rattle.ledger_model.proofs.Projected.{preorder_join}
use Rattle.canton_model.specs.declared.request.Request.{Request}
use Rattle.canton_model.specs.Genuine.{FramedFacts, IsPlaced}
use Rattle.canton_model.specs.Reading.{Outlined, Reading, paths_confirmed, paths_seen, placed_outline, shown_to, view_paths}
use Rattle.view_split.specs.Holed.{Holed, NoMore, Inner, Hole}
use Rattle.view_split.specs.Numbered.{core_in, held_in, map_forest, with_cores}
use Rattle.view_split.specs.Placed.{placed_forest, shown_by}
use Rattle.view_split.specs.SeenViews.{opened_as, placed_numbered, put_back}
use Rattle.view_split.specs.declared.split_view.SplitView.{SplitView}
use Rattle.view_split.proofs.Confirming.{from_map, in_kept}
use Rattle.view_split.proofs.Fitting.{preorder-map}
use Rattle.view_split.proofs.Once.{numbered_at}
use Rattle.view_split.proofs.Sight.{map_project}
use Rattle.blind_tree.specs.Leaves.{Sets}
use Rattle.sealed_form.specs.Within.{participants_of}
use Rattle.sealed_form.proofs.Hosts.{confirmer_below}
use Rattle.framed_form.specs.Framed.{IsFramed}
use Rattle.framed_form.specs.FramedForm as bytes
use Rattle.framed_form.specs.FramedForm.{outline_of}
use Rattle.framed_form.specs.Frames.{tells}
use Rattle.framed_form.proofs.Facts as facts
use Rattle.framed_form.proofs.ShownPaths.{shown_rises}
use Rattle.framed_form.proofs.ShownSeen.{shown_seen}
use Rattle.framed_form.proofs.Sound.{given_by}
use Rattle.framed_form.proofs.Wholes.{complete_from}
use Rattle.framed_form.specs.FramedReading.{framed_reading_over, stated}
use Rattle.framed_form.proofs.FramedSound.{is_opened_as, outline_is, told_as}
use Rattle.framed_form.proofs.Places.{paths_alike, paths_mapped, with_path}

-- ---- participants, by their indices

in_range : (a n k : ℕ) → k < n → In (a + k) (range_with_len a n)
in_range a zero k h = absurd (omega arith)
in_range a (suc n) zero h = inl (omega arith)
in_range a (suc n) (suc k) h =
    let next : (a + 1) + k ≡ a + suc k = omega arith in
    inr (subst (λ (m : ℕ). In m (range_with_len (a + 1) n)) next (in_range (a + 1) n k (omega arith)))

range_length : (a n : ℕ) → length (range_with_len a n) ≡ n
range_length a zero = omega arith
range_length a (suc n) = let r = range_length (a + 1) n in omega (arith, r)

range_at : (a n k : ℕ) → k < n → slice_index (range_with_len a n) k ≡ a + k
range_at a zero k h = absurd (omega arith)
range_at a (suc n) zero h = let here : a ≡ a + zero = omega arith in here
range_at a (suc n) (suc k) h = let next : (a + 1) + k ≡ a + suc k = omega arith in range_at (a + 1) n k (omega arith) ∙ next

range_rises : (a n : ℕ) → IsStrictlyIncreasing (range_with_len a n)
range_rises a n k h =
    let long = range_length a n in
    let here = range_at a n k (omega (arith, long)) in
    let next = range_at a n (k + 1) (omega (arith, long)) in
    omega (arith, here, next)

-- ---- numbers of the actions of cores

module _ {A B : Type 0} where
  core_inside : (h : Holed A) (trees : Forest B) (b : B) → In b (core_in h trees) → In b (preorder trees)
  core_inside NoMore trees b i = absurd i
  core_inside (Inner a below others) NoRoots b i = absurd i
  core_inside (Inner a below others) (Root x children more) b (inl same) = inl same
  core_inside (Inner a below others) (Root x children more) b (inr t) =
      elim (in_append_cases (core_in below children) (core_in others more) b t) [
        | inl l ↦ inr (in_append_left (preorder children) (preorder more) b (core_inside below children b l))
        | inr o ↦ inr (in_append_right (preorder children) (preorder more) b (core_inside others more b o))
      ]
  core_inside (Hole others) NoRoots b i = absurd i
  core_inside (Hole others) (Root x children more) b i = inr (in_append_right (preorder children) (preorder more) b (core_inside others more b i))

  held_inside : (h : Holed A) (trees : Forest B) (b : B) → In b (preorder (held_in h trees)) → In b (preorder trees)
  held_inside NoMore trees b i = absurd i
  held_inside (Inner a below others) NoRoots b i = absurd i
  held_inside (Inner a below others) (Root x children more) b i =
      elim (in_append_cases (preorder (held_in below children)) (preorder (held_in others more)) b
      (subst (λ (bs : List B). In b bs) (preorder_join (held_in below children) (held_in others more)) i)) [
        | inl l ↦ inr (in_append_left (preorder children) (preorder more) b (held_inside below children b l))
        | inr o ↦ inr (in_append_right (preorder children) (preorder more) b (held_inside others more b o))
      ]
  held_inside (Hole others) NoRoots b i = absurd i
  held_inside (Hole others) (Root x children more) b (inl same) = inl same
  held_inside (Hole others) (Root x children more) b (inr t) =
      elim (in_append_cases (preorder children) (preorder (held_in others more)) b t) [
        | inl l ↦ inr (in_append_left (preorder children) (preorder more) b l)
        | inr o ↦ inr (in_append_right (preorder children) (preorder more) b (held_inside others more b o))
      ]

cores_inside : {V B : Type 0} (below_of : V → Holed Act) (v : Forest V) (trees : Forest B) (x : V × List B) (b : B)
    → In x (preorder (with_cores below_of v trees)) → In b x.1 → In b (preorder trees)
cores_inside below_of NoRoots trees x b h i = absurd h
cores_inside below_of (Root view subviews others) NoRoots x b h i = absurd h
cores_inside {V} {B} below_of (Root view subviews others) (Root y children more) x b (inl same) i =
    elim (subst (λ (z : V × List B). In b z.1) (sym same) i) [
      | inl first ↦ inl first
      | inr rest ↦ inr (in_append_left (preorder children) (preorder more) b (core_inside (below_of view) children b rest))
    ]
cores_inside below_of (Root view subviews others) (Root y children more) x b (inr t) i =
    elim (in_append_cases (preorder (with_cores below_of subviews (held_in (below_of view) children))) (preorder (with_cores below_of others more)) x t) [
      | inl l ↦ inr (in_append_left (preorder children) (preorder more) b
          (held_inside (below_of view) children b (cores_inside below_of subviews (held_in (below_of view) children) x b l i)))
      | inr o ↦ inr (in_append_right (preorder children) (preorder more) b (cores_inside below_of others more x b o i))
    ]

-- the actions of an opened view's core have their numbers among all that is opened
numbered_in : (placed : Forest (Path × SplitView)) (view : OpenedView) (i : ℕ) (a : Act) → In view (map opened_as (preorder (placed_numbered placed)))
    → In {X = ℕ × Act} (i, a) view.core → slice_get (acts (put_back placed)) i ≡ Some a
numbered_in placed view i a h c =
    let x = from_map opened_as (preorder (placed_numbered placed)) view h in
    let core : In {X = ℕ × Act} (i, a) (x.0).1 = subst (λ (o : OpenedView). In {X = ℕ × Act} (i, a) o.core) (sym x.2) c in
    numbered_at (put_back placed) i a (cores_inside (λ (v : Path × SplitView). (v.1).below) placed (number_from 0 (put_back placed)) x.0 (i, a) x.1 core)

module _ (topology : Topology) (language : Language) (conforms : Forest Act → Bool) (is_authentic : Act → Bool) (request : Request) (framed : IsFramed topology request) where
  abbrev reading : Reading
  reading = framed_reading_over topology language conforms is_authentic

  abbrev Placed : Type 0
  Placed = List ℕ × Sets

  abbrev listed : List Placed
  listed = facts.views topology request framed

  abbrev confirms : ParticipantId → Path × Outlined → Bool
  confirms p view = list_any (reading.confirms p) (view.1).confirmers

  view_listed : (v : Placed) → In v listed → In (with_path stated v) (preorder (placed_outline reading request))
  view_listed v h =
      let f = (facts.told topology request framed).outline in
      let placed : placed_outline reading request ≡ map_forest (with_path stated) (paths_from [] 0 f) =
      ap (λ (g : Forest Sets). paths_from [] 0 (map_forest stated g)) (outline_is topology language conforms is_authentic request framed) ∙ paths_mapped stated [] 0 f in
      subst (λ (g : Forest (Path × Outlined)). In (with_path stated v) (preorder g)) (sym placed)
      (subst (λ (vs : List (Path × Outlined)). In (with_path stated v) vs) (sym (preorder-map (with_path stated) (paths_from [] 0 f)))
      (in_map (with_path stated) (preorder (paths_from [] 0 f)) v h))

  told_view : (view : Path × Outlined) → In view (preorder (placed_outline reading request)) → (v : Placed) × In v listed × (with_path stated v ≡ view)
  told_view = told_as topology language conforms is_authentic request framed

  path_listed : (v : Placed) → In v listed → Contains (view_paths reading request) v.0
  path_listed v h =
      contains_from_In (view_paths reading request) v.0
      (in_map (λ (view : Path × Outlined). view.0) (preorder (placed_outline reading request)) (with_path stated v) (view_listed v h))

  path_confirmed : (p : ParticipantId) (v : Placed) → In v listed → list_any (confirms_at topology.hosts p) (v.1).1 ≡ true → Contains (paths_confirmed reading p request) v.0
  path_confirmed p v h c =
      contains_from_In (paths_confirmed reading p request) v.0
      (in_map (λ (view : Path × Outlined). view.0) _ (with_path stated v)
      (in_filter (confirms p) (preorder (placed_outline reading request)) (with_path stated v) (view_listed v h) c))

  -- a view that a participant confirms
  confirmed_view : (p : ParticipantId) (path : Path) → Contains (paths_confirmed reading p request) path
      → (v : Placed) × In v listed × (v.0 ≡ path) × (list_any (confirms_at topology.hosts p) (v.1).1 ≡ true)
  confirmed_view p path h =
      let view = from_map (λ (x : Path × Outlined). x.0) (filter (confirms p) (preorder (placed_outline reading request))) path (in_from_Contains (paths_confirmed reading p request) path h) in
      let kept = from_filter (confirms p) (preorder (placed_outline reading request)) view.0 view.1 in
      let v = told_view view.0 kept.0 in
      (v.0, v.1, ap (λ (x : Path × Outlined). x.0) v.2 ∙ view.2, ap (confirms p) v.2 ∙ kept.1)

  confirmed : (path : Path) → Contains (view_paths reading request) path → (p : ParticipantId) × Contains (paths_confirmed reading p request) path
  confirmed path h =
      let view = from_map (λ (x : Path × Outlined). x.0) (preorder (placed_outline reading request)) path (in_from_Contains (view_paths reading request) path h) in
      let v = told_view view.0 view.1 in
      let p = facts.confirmed topology request framed v.0 v.1 in
      (p.0, subst (λ (q : Path). Contains (paths_confirmed reading p.0 request) q) (ap (λ (x : Path × Outlined). x.0) v.2 ∙ view.2) (path_confirmed p.0 v.0 v.1 p.1))

  sees : (p : ParticipantId) (path : Path) → Contains (paths_confirmed reading p request) path → Contains (paths_seen reading p request) path
  sees p path h =
      let v = confirmed_view p path h in
      let told = facts.informed topology request framed p v.0 v.1 v.3 in
      let informs : Path × Outlined → Bool = λ view. list_any (reading.hosts p) (view.1).informees in
      let there = in_kept informs (placed_outline reading request) (with_path stated v.0) (view_listed v.0 v.1) told in
      subst (λ (q : Path). Contains (paths_seen reading p request) q) v.2
      (contains_from_In (paths_seen reading p request) (v.0).0 (in_map (λ (view : Path × Outlined). view.0) _ (with_path stated v.0) there))

  asked : (p : ParticipantId) (path : Path) → Contains (paths_confirmed reading p request) path → Contains request.confirming p
  asked p path h =
      let v = confirmed_view p path h in
      let w = from_any (confirms_at topology.hosts p) ((v.0).1).1 v.3 in
      let same : 0 + p ≡ p = omega arith in
      let participant : In p (participants_of topology) =
      subst (λ (m : ℕ). In m (participants_of topology)) same (in_range 0 (length topology.hosts) p (confirmer_below topology.hosts p w.0 w.2)) in
      contains_from_In request.confirming p
      (facts.answers topology request framed p participant (in_any (λ (x : Placed). list_any (confirms_at topology.hosts p) (x.1).1) listed v.0 v.1 v.3))

  answers : (p : ParticipantId) → Contains request.confirming p → (path : Path) × Contains (paths_confirmed reading p request) path
  answers p h =
      let a = facts.asked topology request framed p (in_from_Contains request.confirming p h) in
      let v = from_any (λ (x : Placed). list_any (confirms_at topology.hosts p) (x.1).1) listed a.1 in
      ((v.0).0, path_confirmed p v.0 v.1 v.2)

  -- what is told of a participant's views is what the reading tells
  seen_is : (p : ParticipantId) → paths_seen reading p request ≡ bytes.paths_seen topology p request
  seen_is p =
      let sees : Path × Outlined → Bool = λ view. list_any (reading.hosts p) (view.1).informees in
      ap (λ (f : Forest (Path × Outlined)). map (λ (view : Path × Outlined). view.0) (preorder (project sees f))) (paths_mapped stated [] 0 (outline_of request))
      ∙ (ap (λ (f : Forest (Path × Outlined)). map (λ (view : Path × Outlined). view.0) (preorder f))
      (sym (map_project (with_path stated) sees (paths_from [] 0 (outline_of request))))
      ∙ paths_alike stated (project (λ (v : Placed). tells (reading.hosts p) v.1) (paths_from [] 0 (outline_of request))))

  placed : (p : ParticipantId) (shown : Shown) → shown_to reading p request ≡ Some shown → IsPlaced (paths_seen reading p request) shown
  placed p shown h =
      let o = is_opened_as topology language conforms is_authentic request framed p shown h in
      let given = given_by topology request p o.opened o.is_opened in
      let c = complete_from topology p request given.0 o.opened given.2 in
      let seen = bytes.paths_seen topology p request in
      subst (IsPlaced (paths_seen reading p request)) o.same (record {
        all_seen = λ path there.
            let listed : In path seen = subst (λ (ps : List Path). In path ps) (seen_is p) (in_from_Contains (paths_seen reading p request) path there) in
            let view = from_map (λ (v : OpenedView). v.path) (shown_by o.opened).views path (shown_seen seen _ c.tree o.opened c.opens path listed) in
            (view.0, contains_from_In (shown_by o.opened).views view.0 view.1, view.2);
        numbered = λ view i a there core.
            numbered_in (placed_forest (o.opened).views) view i a (in_from_Contains (shown_by o.opened).views view there) (in_from_Contains view.core (i, a) core);
        path_order = shown_rises _ _ c.tree o.opened c.opens;
      })

  pub framed_facts : FramedFacts reading request
  framed_facts =
      let one = facts.some_view topology request framed in
      record {
        some_view = ((one.0).0, path_listed one.0 one.1);
        confirmed = confirmed;
        sees = sees;
        confirming_order = subst IsStrictlyIncreasing (sym framed.confirming) (IsStrictlyIncreasing-filter _ (participants_of topology) (range_rises 0 (length topology.hosts)));
        asked = asked;
        answers = answers;
        placed = placed;
      }
