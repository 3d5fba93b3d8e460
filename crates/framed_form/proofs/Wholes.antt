-- What a complete envelope opens is part of what complete envelopes say together.
use Rattle.std.proofs.Common.{◌≡◌, ℕ, suc, Bool, true, false, List, [], ◌∷◌, ◌++◌, map, Result, Ok, Err, refl, sym, ap, ◌∙◌, subst, inl, inr}
use Rattle.std.specs.Prelude.{Option, Some, None, nat_eq, option_to_list}
use Rattle.std.specs.List.{list_all}
use Rattle.std.specs.Str.{bytes_eq}
use Rattle.std.proofs.lemmas.Bool.{and_parts, cases_Bool}
use Rattle.std.proofs.lemmas.Option.{same_Some, none-some}
use Rattle.std.proofs.lemmas.Slice.Eq.{bytes_eq-Decides}
use Rattle.sha2.specs.Sha256.{sha256}
use Rattle.ledger_terms.specs.Forest.{Forest, NoRoots, Root, join, paths_from, preorder, project}
use Rattle.ledger_terms.specs.Hosting.{hosts_at}
use Rattle.ledger_terms.specs.declared.topology.Topology.{Topology}
use Rattle.ledger_model.proofs.Lists.{In, in_append_left, in_append_right, contains_from_In}
use Rattle.canton_model.specs.declared.envelope.Envelope.{Envelope}
use Rattle.canton_model.specs.declared.request.Request.{Request}
use Rattle.wire_form.specs.declared.wire_fault.WireFault.{WireFault}
use Rattle.view_split.specs.Numbered.{map_forest}
use Rattle.view_split.proofs.Fitting.{preorder-map}
use Rattle.view_split.specs.Placed.{tops}
use Rattle.view_split.specs.SeenViews.{is_sight, seen_views}
use Rattle.view_split.specs.declared.opened_tree.OpenedTree.{OpenedTree}
use Rattle.view_split.specs.declared.split_view.SplitView.{SplitView}
use Rattle.blind_tree.specs.Leaves.{Sets}
use Rattle.blind_tree.specs.OpenedFor.{is_listed, of_tree, open_or_missing, opened_by, opened_of_views, requesters_if, stands_at, views_listed}
use Rattle.blind_tree.specs.Opening.{head_at, read_leaf}
use Rattle.blind_tree.specs.Reading.{read_all, tree_at}
use Rattle.blind_tree.specs.TreeHashes.{hash_of_root}
use Rattle.blind_tree.specs.declared.tree.Tree.{Tree}
use Rattle.sealed_form.specs.SealedForm.{bytes_of, envelope_to, found, tree_in, trees_in}
use Rattle.framed_form.specs.Agreeing.{AreAgreed, request_trees}
use Rattle.framed_form.specs.FramedForm.{complete_in, forest_in, if_known, names_known, offered_by, offered_in, opened_to, outline_of, outline_in, part_if, parts_of, paths_seen, root_in, root_of, sees_root_view, whole_views}
use Rattle.framed_form.specs.Frames.{paths_in, roles_read, seen_in, tells}
use Rattle.framed_form.specs.Together.{views_together}
use Rattle.framed_form.proofs.Listed.{Lists, lists_seen}
use Rattle.framed_form.proofs.Lying.{AllAgree, Lies, Stand, done, if_there, lies_together, opens_kept, read_ok, same_ok, sets_of, told_of}

-- ---- paths of views and of what is told of them

same_paths : (hosts : List ℕ → Bool) (above : List ℕ) (k : ℕ) (w : Forest SplitView)
    → map_forest (λ (v : List ℕ × SplitView). (v.0, sets_of v.1)) (project (λ (v : List ℕ × SplitView). is_sight hosts v.1) (paths_from above k w))
    ≡ project (λ (v : List ℕ × Sets). tells hosts v.1) (paths_from above k (map_forest sets_of w))
same_paths hosts above k NoRoots = refl
same_paths hosts above k (Root view below rest) =
    let path = above ++ k ∷ [] in
    elim (cases_Bool (is_sight hosts view)) [
      | inl is ↦ rw is (λ i. Root (path, sets_of view) (all path 0 below i) (same_paths hosts above (suc k) rest i))
      | inr out ↦ rw out (mapped_join _ (project (λ (v : List ℕ × SplitView). is_sight hosts v.1) (paths_from path 0 below)) (project (λ (v : List ℕ × SplitView). is_sight hosts v.1) (paths_from above (suc k) rest))
          ∙ (λ i. join (same_paths hosts path 0 below i) (same_paths hosts above (suc k) rest i)))
    ]
  where
    all : (above : List ℕ) (k : ℕ) (w : Forest SplitView) → map_forest (λ (v : List ℕ × SplitView). (v.0, sets_of v.1)) (paths_from above k w) ≡ paths_from above k (map_forest sets_of w)
    all above k NoRoots = refl
    all above k (Root view below rest) = λ i. Root (above ++ k ∷ [], sets_of view) (all (above ++ k ∷ []) 0 below i) (all above (suc k) rest i)

    mapped_join : {A B : Type 0} (g : A → B) (f h : Forest A) → map_forest g (join f h) ≡ join (map_forest g f) (map_forest g h)
    mapped_join g NoRoots h = refl
    mapped_join g (Root x f o) h = ap (Root (g x) (map_forest g f)) (mapped_join g o h)

map_twice : {A B : Type 0} (g : A → B) (xs : List (List ℕ × A)) → map (λ (v : List ℕ × B). v.0) (map (λ (v : List ℕ × A). (v.0, g v.1)) xs) ≡ map (λ (v : List ℕ × A). v.0) xs
map_twice g [] = refl
map_twice g (x ∷ xs) = ap (λ (ps : List (List ℕ)). x.0 ∷ ps) (map_twice g xs)

mapped_paths : {A B : Type 0} (g : A → B) (f : Forest (List ℕ × A)) → paths_in (map_forest (λ (v : List ℕ × A). (v.0, g v.1)) f) ≡ paths_in f
mapped_paths {A} {B} g f =
    ap (λ (ps : List (List ℕ × B)). map (λ (v : List ℕ × B). v.0) ps) (preorder-map (λ (v : List ℕ × A). (v.0, g v.1)) f)
    ∙ map_twice g (preorder f)

all_mapped : (above : List ℕ) (k : ℕ) (w : Forest SplitView) → map_forest (λ (v : List ℕ × SplitView). (v.0, sets_of v.1)) (paths_from above k w) ≡ paths_from above k (map_forest sets_of w)
all_mapped above k NoRoots = refl
all_mapped above k (Root view below rest) = λ i. Root (above ++ k ∷ [], sets_of view) (all_mapped (above ++ k ∷ []) 0 below i) (all_mapped above (suc k) rest i)

-- views have the paths of what is told of them
pub all_paths : (above : List ℕ) (k : ℕ) (w : Forest SplitView) → paths_in (paths_from above k (map_forest sets_of w)) ≡ paths_in (paths_from above k w)
all_paths above k w = ap (λ (g : Forest (List ℕ × Sets)). paths_in g) (sym (all_mapped above k w)) ∙ mapped_paths sets_of (paths_from above k w)

-- what somebody sees by what is told is what it sees of the views
pub seen_alike : (hosts : List ℕ → Bool) (w : Forest SplitView) (f : Forest Sets) → map_forest sets_of w ≡ f → seen_in hosts f ≡ paths_in (seen_views hosts w)
seen_alike hosts w f same =
    ap (seen_in hosts) (sym same)
    ∙ (ap (λ (g : Forest (List ℕ × Sets)). paths_in g) (sym (same_paths hosts [] 0 w))
    ∙ mapped_paths sets_of (seen_views hosts w))

-- ---- what a tree opens

pub all_from : {A : Type 0} (test : A → Bool) (xs : List A) (x : A) → list_all test xs ≡ true → In x xs → test x ≡ true
all_from test [] x e h = absurd h
all_from test (y ∷ ys) x e (inl same) = subst (λ z. test z ≡ true) same (and_parts (test y) (list_all test ys) e).0
all_from test (y ∷ ys) x e (inr later) = all_from test ys x (and_parts (test y) (list_all test ys) e).1 later

-- the parts of what a tree opens
pub record Opens (seen : List (List ℕ)) (requesters : Bool) (tree : Tree) (opened : OpenedTree) : Type 0 where
  pub stand : list_all (stands_at 0 tree.views) seen ≡ true
  pub head : read_leaf head_at tree.common ≡ Ok (opened.sender, opened.ledger_time)
  pub names : requesters_if requesters tree.requesters ≡ Ok opened.requesters
  pub views : views_listed (is_listed seen) [] 0 tree.views ≡ Ok opened.views

pub opens_from : (seen : List (List ℕ)) (requesters : Bool) (tree : Tree) (opened : OpenedTree) → opened_of_views seen requesters tree ≡ Ok opened → Opens seen requesters tree opened
opens_from seen requesters tree opened e =
    let there = if_there (list_all (stands_at 0 tree.views) seen) _ opened e in
    let head = read_ok (read_leaf head_at tree.common) _ opened there.1 in
    let names = read_ok (requesters_if requesters tree.requesters) _ opened head.2 in
    let views = read_ok (views_listed (is_listed seen) [] 0 tree.views) _ opened names.2 in
    let same = same_ok (opened_by head.0 names.0 views.0) opened views.2 in
    record {
      stand = there.0;
      head = head.1 ∙ (λ i. done ((same i).sender, (same i).ledger_time));
      names = names.1 ∙ (λ i. done (same i).requesters);
      views = views.1 ∙ (λ i. done (same i).views);
    }

-- over views that a tree lies in, it opens those that are seen
pub opens_seen : (hosts : List ℕ → Bool) (w : Forest SplitView) (seen : List (List ℕ)) (requesters : Bool) (tree : Tree) (opened : OpenedTree)
    → Lies w tree.views → seen ≡ paths_in (seen_views hosts w) → Opens seen requesters tree opened → opened.views ≡ tops (seen_views hosts w)
opens_seen hosts w seen requesters tree opened lie same opens =
    let lists : Lists (is_sight hosts) (is_listed seen) false [] 0 w =
    subst (λ (paths : List (List ℕ)). Lists (is_sight hosts) (is_listed paths) false [] 0 w) (sym same) (lists_seen (is_sight hosts) w) in
    let stand : Stand [] 0 tree.views (paths_in (seen_views hosts w)) =
    λ step rest least there. all_from (stands_at 0 tree.views) seen (step ∷ rest) opens.stand (subst (In (step ∷ rest)) (sym same) there) in
    opens_kept (is_sight hosts) (is_listed seen) [] 0 w tree.views opened.views lie lists stand opens.views

-- ---- what an envelope offers

pub record Complete (topology : Topology) (p : ℕ) (request : Request) (bytes : List ℕ) (opened : OpenedTree) : Type 0 where
  pub tree : Tree
  pub spelled : tree_in bytes ≡ Some tree
  pub root : root_of request ≡ hash_of_root sha256 tree
  pub opens : Opens (paths_seen topology p request) (sees_root_view topology p request) tree opened
  pub known : names_known topology opened ≡ true

module _ (topology : Topology) (p : ℕ) (request : Request) (bytes : List ℕ) (opened : OpenedTree) where
  abbrev root : List ℕ
  root = root_of request

  abbrev seen : List (List ℕ)
  seen = paths_seen topology p request

  abbrev names : Bool
  names = sees_root_view topology p request

  by_known : (tree : Tree) (r : Result OpenedTree WireFault) → opened_of_views seen names tree ≡ r → complete_in (if_known topology (open_or_missing r)) ≡ Some opened
      → (opened_of_views seen names tree ≡ Ok opened) × (names_known topology opened ≡ true)
  by_known tree (Err fault) is h = absurd (none-some opened h)
  by_known tree (Ok o) is h = elim (cases_Bool (names_known topology o)) [
    | inl told ↦
        (let there : Some o ≡ Some opened = rw told at h in
        let same = same_Some o opened there in
        (is ∙ ap (λ (x : OpenedTree). done x) same, subst (λ (x : OpenedTree). names_known topology x ≡ true) same told))
    | inr out ↦ (let none : None ≡ Some opened = rw out at h in absurd (none-some opened none))
  ]

  by_read : (r : Result Tree WireFault) → read_all tree_at bytes ≡ r → complete_in (if_known topology (of_tree root seen names r)) ≡ Some opened → Complete topology p request bytes opened
  by_read (Err fault) is h = absurd (none-some opened h)
  by_read (Ok tree) is h = elim (cases_Bool (bytes_eq root (hash_of_root sha256 tree))) [
    | inl told ↦
        (let there : complete_in (if_known topology (open_or_missing (opened_of_views seen names tree))) ≡ Some opened = rw told at h in
        let two = by_known tree (opened_of_views seen names tree) refl there in
        record {
          tree = tree;
          spelled = ap (λ (x : Result Tree WireFault). found x) is;
          root = (bytes_eq-Decides root (hash_of_root sha256 tree)).0 told;
          opens = opens_from seen names tree opened two.0;
          known = two.1;
        })
    | inr out ↦ (let none : None ≡ Some opened = rw out at h in absurd (none-some opened none))
  ]

  pub complete_from : complete_in (offered_by topology p request bytes) ≡ Some opened → Complete topology p request bytes opened
  complete_from e = by_read (read_all tree_at bytes) refl e

-- ---- the trees of a request

pub in_trees : (all : List (List ℕ)) (bytes : List ℕ) (tree : Tree) → In bytes all → tree_in bytes ≡ Some tree → In tree (trees_in all)
in_trees [] bytes tree h e = absurd h
in_trees (first ∷ more) bytes tree (inl same) e =
    in_append_left (option_to_list (tree_in first)) (trees_in more) tree
    (subst (λ (r : Option Tree). In tree (option_to_list r)) (sym (ap tree_in same ∙ e)) (inl refl))
in_trees (first ∷ more) bytes tree (inr later) e = in_append_right (option_to_list (tree_in first)) (trees_in more) tree (in_trees more bytes tree later e)

module _ (topology : Topology) (request : Request) (agreed : AreAgreed request) where
  -- a tree with the request's root agrees with every part
  pub agree_parts : (t : Tree) → In t (request_trees request) → root_of request ≡ hash_of_root sha256 t
      → (envelopes : List Envelope) → ((e : Envelope) → In e envelopes → In e.bytes (request.mediator ∷ map bytes_of request.envelopes))
      → AllAgree t.views (parts_of topology request envelopes)
  agree_parts t there one_root [] within = tt
  agree_parts t there one_root (e ∷ envelopes) within =
      one (complete_in (offered_by topology e.to request e.bytes)) refl (tree_in e.bytes) refl (agree_parts t there one_root envelopes (λ d h. within d (inr h)))
    where
      one : (c : Option OpenedTree) → complete_in (offered_by topology e.to request e.bytes) ≡ c → (u : Option Tree) → tree_in e.bytes ≡ u
          → AllAgree t.views (parts_of topology request envelopes)
          → AllAgree t.views (part_if (is_listed (paths_seen topology e.to request)) c u ++ parts_of topology request envelopes)
      one None is u at more = more
      one (Some opened) is None at more = more
      one (Some opened) is (Some u) at more =
          let c = complete_from topology e.to request e.bytes opened is in
          let same : c.tree ≡ u = same_Some c.tree u (sym c.spelled ∙ at) in
          let hash : hash_of_root sha256 t ≡ hash_of_root sha256 u = sym one_root ∙ (c.root ∙ ap (hash_of_root sha256) same) in
          let in_u : In u (request_trees request) = in_trees (request.mediator ∷ map bytes_of request.envelopes) e.bytes u (within e (inl refl)) at in
          ((agreed t u (contains_from_In (request_trees request) t there) (contains_from_In (request_trees request) u in_u) hash).vertices, more)

  -- the bytes of an envelope are those of the request
  pub within_all : (envelopes : List Envelope) (e : Envelope) → In e envelopes → In e.bytes (map bytes_of envelopes)
  within_all [] e h = absurd h
  within_all (d ∷ ds) e (inl same) = inl (ap bytes_of same)
  within_all (d ∷ ds) e (inr later) = inr (within_all ds e later)

  envelope_in : (p : ℕ) (envelopes : List Envelope) (bytes : List ℕ) → envelope_to p envelopes ≡ Some bytes → In bytes (map bytes_of envelopes)
  envelope_in p [] bytes h = absurd (none-some bytes h)
  envelope_in p (e ∷ envelopes) bytes h = elim (cases_Bool (nat_eq e.to p)) [
    | inl is ↦ (let there : Some e.bytes ≡ Some bytes = rw is at h in inl (same_Some e.bytes bytes there))
    | inr out ↦ (let there : envelope_to p envelopes ≡ Some bytes = rw out at h in inr (envelope_in p envelopes bytes there))
  ]

  module _ (m : Tree) (f : Forest Sets) (spelled : tree_in request.mediator ≡ Some m) (told : roles_read m.views ≡ Ok f)
      (w : Forest SplitView) (whole : whole_views topology request ≡ Some w) where
    outline_is : outline_of request ≡ f
    outline_is = ap outline_in spelled ∙ ap forest_in told

    pub root_is : root_of request ≡ hash_of_root sha256 m
    root_is = ap root_in spelled

    pub m_in : In m (request_trees request)
    m_in = in_trees (request.mediator ∷ map bytes_of request.envelopes) request.mediator m (inl refl) spelled

    -- each tree with the request's root lies in what is said together
    pub in_whole : (t : Tree) → In t (request_trees request) → root_of request ≡ hash_of_root sha256 t → Lies w t.views
    in_whole t there root =
        lies_together [] 0 (parts_of topology request request.envelopes) f w m.views t.views
        (subst (λ (g : Forest Sets). views_together [] 0 (parts_of topology request request.envelopes) g ≡ Some w) outline_is whole) told
        (agreed t m (contains_from_In (request_trees request) t there) (contains_from_In (request_trees request) m m_in) (sym root ∙ root_is)).vertices
        (agree_parts t there root request.envelopes (λ e h. inr (within_all request.envelopes e h)))

    -- the informees and confirmers are those that the mediator is told
    pub whole_is_told : map_forest sets_of w ≡ f
    whole_is_told = told_of w m.views f (in_whole m m_in root_is) told

    pub seen_is : (p : ℕ) → paths_seen topology p request ≡ paths_in (seen_views (hosts_at topology.hosts p) w)
    seen_is p = ap (seen_in (hosts_at topology.hosts p)) outline_is ∙ seen_alike (hosts_at topology.hosts p) w f whole_is_told

    -- what bytes open to a participant
    pub views_by : (p : ℕ) (bytes : List ℕ) (opened : OpenedTree) → In bytes (request.mediator ∷ map bytes_of request.envelopes)
        → complete_in (offered_by topology p request bytes) ≡ Some opened → opened.views ≡ tops (seen_views (hosts_at topology.hosts p) w)
    views_by p bytes opened there e =
        let c = complete_from topology p request bytes opened e in
        let in_c = in_trees (request.mediator ∷ map bytes_of request.envelopes) bytes c.tree there c.spelled in
        opens_seen (hosts_at topology.hosts p) w (paths_seen topology p request) (sees_root_view topology p request) c.tree opened
        (in_whole c.tree in_c c.root) (seen_is p) c.opens

    -- What a complete envelope opens are the topmost views of the whole that its participant sees.
    pub opened_in_whole : (p : ℕ) (opened : OpenedTree) → opened_to topology p request ≡ Some opened → opened.views ≡ tops (seen_views (hosts_at topology.hosts p) w)
    opened_in_whole p opened e = by_envelope (envelope_to p request.envelopes) refl e
      where
        by_envelope : (b : Option (List ℕ)) → envelope_to p request.envelopes ≡ b → complete_in (offered_in topology p request b) ≡ Some opened
            → opened.views ≡ tops (seen_views (hosts_at topology.hosts p) w)
        by_envelope None is h = absurd (none-some opened h)
        by_envelope (Some bytes) is h = views_by p bytes opened (inr (envelope_in p request.envelopes bytes is)) h
