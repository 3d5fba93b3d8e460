-- What framed requests tell and show is within bounds.
use Rattle.std.proofs.Common.{◌≡◌, ℕ, suc, ◌+◌, ◌*◌, ◌≤◌, Bool, true, List, [], ◌∷◌, ◌++◌, length, map, filter, Result, Ok, Err, refl, sym, ap, subst, inl, inr, arith}
use Rattle.std.specs.Prelude.{Option, Some, None, All, nat_eq}
use Rattle.std.specs.List.{AllByRecursion, flat_map, list_all, list_any}
use Rattle.std.proofs.lemmas.Bool.{and_parts, and_from, cases_Bool}
use Rattle.std.proofs.lemmas.List.{length-map}
use Rattle.std.proofs.lemmas.List.FromFn.{length-range_with_len}
use Rattle.std.proofs.lemmas.List.Elements.{All-contains, All-from_recursion}
use Rattle.std.proofs.lemmas.Option.{none-some, same_Some}
use Rattle.ledger_terms.specs.Depth.{depth}
use Rattle.ledger_terms.specs.Forest.{Forest, NoRoots, Root, preorder, project, size}
use Rattle.ledger_terms.specs.Hosting.{confirms_at}
use Rattle.ledger_terms.specs.declared.act.Act.{Act}
use Rattle.ledger_terms.specs.declared.topology.Topology.{Topology}
use Rattle.ledger_model.specs.Forest.{acts}
use Rattle.ledger_model.specs.Opening.{Shown}
use Rattle.ledger_model.specs.Terms.{ParticipantId, Path}
use Rattle.ledger_model.proofs.Lists.{In, contains_from_In, from_filter}
use Rattle.ledger_model.proofs.Projected.{in_project}
use Rattle.canton_model.specs.Reading.{Outlined, Reading, paths_confirmed, paths_in, paths_seen, placed_outline, view_paths}
use Rattle.canton_model.specs.Reading as reading
use Rattle.canton_model.specs.declared.envelope.Envelope.{Envelope}
use Rattle.canton_model.specs.declared.request.Request.{Request}
use Rattle.lang_eval.specs.Found.{Packages}
use Rattle.lang_eval.specs.Named.{AreKnown, parties_in_action, parties_in_instance}
use Rattle.ledger_model.specs.Terms.{Action, instance_of}
use Rattle.ledger_model.specs.Terms as terms
use Rattle.interpret.specs.NamedParties.{parties_in_act}
use Rattle.message_bytes.specs.Spellable.{IsSpellablePath}
use Rattle.snapshot_store.specs.Spellable.{AreSpellablePaths}
use Rattle.wire_form.specs.declared.wire_fault.WireFault.{WireFault}
use Rattle.view_split.specs.Numbered.{map_forest}
use Rattle.view_split.specs.Placed.{shown_by}
use Rattle.view_split.specs.declared.opened_tree.OpenedTree.{OpenedTree}
use Rattle.blind_tree.specs.OpenedFor.{is_listed}
use Rattle.blind_tree.specs.Reading.{read_all, tree_at}
use Rattle.blind_tree.specs.declared.shown_for.OpenedFor.{OpenedFor}
use Rattle.blind_tree.specs.declared.shown_for.OpenedFor.TheVariants.{Mismatch, Missing, Open}
use Rattle.blind_tree.specs.declared.tree.Tree.{Tree}
use Rattle.blind_tree.specs.declared.view_roles.ViewRoles.{ViewRoles}
use Rattle.sealed_form.specs.SealedForm.{envelope_to, found}
use Rattle.sealed_form.specs.Within.{is_hosted, participants_of}
use Rattle.framed_form.specs.Framed.{IsFramed, RisesBetween, recipient_of}
use Rattle.framed_form.specs.FramedForm.{complete_in, offered, offered_in, outline_of}
use Rattle.framed_form.specs.FramedForm as form
use Rattle.framed_form.specs.FramedReading.{framed_reading, offer_of, stated}
use Rattle.framed_form.proofs.Wholes.{Complete, complete_from}
use Rattle.log_bounds.proofs.Opened.{listed_are_few}
use Rattle.log_bounds.proofs.Spelled.{HasSpelling, listed_fit}
use Rattle.log_bounds.proofs.Told.{outline_is_small, placed_length, placed_size, projected_length}

-- ---- lists

by_each : {X : Type 0} (P : X → Type 0) (xs : List X) → ((x : X) → In x xs → P x) → AllByRecursion P xs
by_each P [] h = tt
by_each P (x ∷ xs) h = (h x (inl refl), by_each P xs (λ y i. h y (inr i)))

pub all_in : {X : Type 0} (P : X → Type 0) (xs : List X) → ((x : X) → In x xs → P x) → All P xs
all_in P xs h = All-from_recursion P xs (by_each P xs h)

pub one_in : {X : Type 0} (P : X → Type 0) (xs : List X) → All P xs → (x : X) → In x xs → P x
one_in P xs all x i = All-contains P xs x all (contains_from_In xs x i)

pub filter_length : {X : Type 0} (test : X → Bool) (xs : List X) → length (filter test xs) ≤ length xs
filter_length test [] = omega arith
filter_length test (x ∷ xs) =
    let r = filter_length test xs in
    elim (cases_Bool (test x)) [ inl b ↦ rw b (omega (arith, r)) | inr b ↦ rw b (omega (arith, r)) ]

pub in_map : {X Y : Type 0} (f : X → Y) (xs : List X) (y : Y) → In y (map f xs) → (x : X) × In x xs × (f x ≡ y)
in_map f [] y i = absurd i
in_map f (x ∷ xs) y (inl same) = (x, inl refl, same)
in_map f (x ∷ xs) y (inr i) = let r = in_map f xs y i in (r.0, inr r.1, r.2)

-- ---- paths

mapped_size : {A B : Type 0} (f : A → B) (forest : Forest A) → size (map_forest f forest) ≡ size forest
mapped_size f NoRoots = refl
mapped_size f (Root root below others) =
    let b = mapped_size f below in
    let o = mapped_size f others in
    omega (arith, b, o)

mapped_depth : {A B : Type 0} (f : A → B) (forest : Forest A) → depth (map_forest f forest) ≡ depth forest
mapped_depth f NoRoots = refl
mapped_depth f (Root root below others) =
    let b = mapped_depth f below in
    let o = mapped_depth f others in
    omega (arith, b, o)

module _ (topology : Topology) (packages : Packages) (request : Request) (short : length request.mediator ≤ 4194304) where
  abbrev its_reading : Reading
  its_reading = framed_reading topology packages

  abbrev placed_views : Forest (Path × Outlined)
  placed_views = placed_outline its_reading request

  outline_size : length (preorder placed_views) ≤ 65535
  outline_size =
      let s = (outline_is_small request).0 in
      let m = mapped_size stated (outline_of request) in
      let p = placed_size [] 0 (map_forest stated (outline_of request)) in
      omega (arith, s, m, p, short)

  is_short : (v : Path × Outlined) → In v (preorder placed_views) → length v.0 ≤ 16
  is_short v i =
      let d = (outline_is_small request).1 in
      let m = mapped_depth stated (outline_of request) in
      let p = placed_length [] 0 (map_forest stated (outline_of request)) v i in
      omega (arith, d, m, p)

  -- some of the views
  fit : (views : List (Path × Outlined)) → length views ≤ length (preorder placed_views) → ((v : Path × Outlined) → In v views → In v (preorder placed_views))
      → AreSpellablePaths (map (λ (v : Path × Outlined). v.0) views)
  fit views few within =
      let n = outline_size in
      let l : length (map (λ (v : Path × Outlined). v.0) views) ≡ length views = length-map views (λ (v : Path × Outlined). v.0) in
      record {
        few = omega (arith, few, n, l);
        each = all_in IsSpellablePath (map (λ (v : Path × Outlined). v.0) views) (λ path i.
            let v = in_map (λ (v : Path × Outlined). v.0) views path i in
            subst IsSpellablePath v.2 (is_short v.0 (within v.0 v.1)));
      }

  pub views_fit : AreSpellablePaths (view_paths its_reading request)
  views_fit = fit (preorder placed_views) (omega arith) (λ v i. i)

  pub seen_fit : (p : ParticipantId) → AreSpellablePaths (paths_seen its_reading p request)
  seen_fit p =
      let keeps = λ (view : Path × Outlined). list_any (its_reading.hosts p) (view.1).informees in
      fit (preorder (project keeps placed_views)) (projected_length keeps placed_views) (λ v i. in_project keeps placed_views v i)

  pub confirmed_fit : (p : ParticipantId) → AreSpellablePaths (paths_confirmed its_reading p request)
  confirmed_fit p =
      let keeps = λ (view : Path × Outlined). list_any (its_reading.confirms p) (view.1).confirmers in
      fit (filter keeps (preorder placed_views)) (filter_length keeps (preorder placed_views)) (λ v i. (from_filter keeps (preorder placed_views) v i).0)

-- ---- what is shown

found_is : (r : Result Tree WireFault) (tree : Tree) → found r ≡ Some tree → r ≡ Ok tree
found_is (Ok t) tree e = ap (λ (x : Tree). its x) (same_Some t tree e)
  where
    its : Tree → Result Tree WireFault
    its x = Ok x
found_is (Err fault) tree e = absurd (none-some tree e)

sent_to : (p : ℕ) (envelopes : List Envelope) (bytes : List ℕ) → envelope_to p envelopes ≡ Some bytes → (e : Envelope) × In e envelopes × (e.bytes ≡ bytes)
sent_to p [] bytes h = absurd (none-some bytes h)
sent_to p (envelope ∷ rest) bytes h =
    elim (cases_Bool (nat_eq envelope.to p)) [
      | inl is ↦ (let there : Some envelope.bytes ≡ Some bytes = rw is at h in (envelope, inl refl, same_Some envelope.bytes bytes there))
      | inr out ↦ (let r = sent_to p rest bytes (rw out at h) in (r.0, inr r.1, r.2))
    ]

offer_is : (o : OpenedFor) (shown : Shown) → offer_of o ≡ reading.Open shown → (opened : OpenedTree) × (complete_in o ≡ Some opened) × (shown_by opened ≡ shown)
offer_is Mismatch shown e = absurd cc
offer_is Missing shown e = absurd cc
offer_is (Open opened) shown e = (opened, refl, cc)

-- The envelope behind what is shown.
pub record IsShown (topology : Topology) (p : ParticipantId) (request : Request) (shown : Shown) : Type 0 where
  pub envelope : Envelope
  pub sent : In envelope request.envelopes
  pub opened : OpenedTree
  pub complete : Complete topology p request envelope.bytes opened
  pub shows : shown_by opened ≡ shown

module _ (topology : Topology) (packages : Packages) (request : Request) (p : ParticipantId) (shown : Shown) where
  by_bytes : (o : Option (List ℕ)) → envelope_to p request.envelopes ≡ o → offer_of (offered_in topology p request o) ≡ reading.Open shown → IsShown topology p request shown
  by_bytes None at h = absurd cc
  by_bytes (Some bytes) at h =
      let e = sent_to p request.envelopes bytes at in
      let o = offer_is (form.offered_by topology p request bytes) shown h in
      record {
        envelope = e.0;
        sent = e.1;
        opened = o.0;
        complete = subst (λ (b : List ℕ). Complete topology p request b o.0) (sym e.2) (complete_from topology p request bytes o.0 o.1);
        shows = o.2;
      }

  pub is_shown : (framed_reading topology packages).offered p request ≡ reading.Open shown → IsShown topology p request shown
  is_shown h = by_bytes (envelope_to p request.envelopes) refl h

  module _ (is : (framed_reading topology packages).offered p request ≡ reading.Open shown) where
    abbrev its : IsShown topology p request shown
    its = is_shown is

    few_in : 32 * length (acts shown.roots) ≤ length (its.envelope).bytes
    few_in =
        subst (λ (s : Shown). 32 * length (acts s.roots) ≤ length (its.envelope).bytes) its.shows
        (listed_are_few (is_listed (form.paths_seen topology p request)) (its.envelope).bytes (its.complete).tree (its.opened).views
        (found_is (read_all tree_at (its.envelope).bytes) (its.complete).tree (its.complete).spelled) ((its.complete).opens).views)

    -- at most so many actions
    pub few_shown : IsFramed topology request → length (acts shown.roots) ≤ 131072
    few_shown framed =
        let f = few_in in
        let s = framed.short its.envelope (contains_from_In request.envelopes its.envelope its.sent) in
        omega (arith, f, s)

    -- each can be spelled again
    pub spelled_shown : (act : Act) → In act (acts shown.roots) → HasSpelling act
    spelled_shown act i =
        listed_fit (is_listed (form.paths_seen topology p request)) [] 0 ((its.complete).tree).views (its.opened).views ((its.complete).opens).views act
        (subst (λ (s : Shown). In act (acts s.roots)) (sym its.shows) i)

    -- each names parties of the topology
    pub known_shown : (act : Act) → In act (acts shown.roots) → AreKnown (is_hosted topology) (parties_in_action act.action)
    known_shown act i =
        let known : list_all (is_hosted topology) (flat_map parties_in_act (acts shown.roots)) ≡ true =
        subst (λ (s : Shown). list_all (is_hosted topology) (flat_map parties_in_act (acts s.roots)) ≡ true) its.shows (its.complete).known in
        each_known (acts shown.roots) known i
      where
        parts : (xs ys : List (List ℕ)) → list_all (is_hosted topology) (xs ++ ys) ≡ true → (list_all (is_hosted topology) xs ≡ true) × (list_all (is_hosted topology) ys ≡ true)
        parts [] ys h = (refl, h)
        parts (x ∷ xs) ys h =
            let a = and_parts (is_hosted topology x) (list_all (is_hosted topology) (xs ++ ys)) h in
            let r = parts xs ys a.1 in
            (and_from _ _ a.0 r.0, r.1)

        each_known : (xs : List Act) → list_all (is_hosted topology) (flat_map parties_in_act xs) ≡ true → In act xs → AreKnown (is_hosted topology) (parties_in_action act.action)
        each_known [] h j = absurd j
        each_known (x ∷ xs) h (inl same) = subst (λ (a : Act). AreKnown (is_hosted topology) (parties_in_action a.action)) same (parts (parties_in_act x) (flat_map parties_in_act xs) h).0
        each_known (x ∷ xs) h (inr j) = each_known xs (parts (parties_in_act x) (flat_map parties_in_act xs) h).1 j

-- the parties of its contract's fields are among those that an action names
module _ (test : List ℕ → Bool) where
  front : (xs ys : List (List ℕ)) → list_all test (xs ++ ys) ≡ true → list_all test xs ≡ true
  front [] ys h = refl
  front (x ∷ xs) ys h = let a = and_parts (test x) (list_all test (xs ++ ys)) h in and_from _ _ a.0 (front xs ys a.1)

  pub instance_known : (action : Action) → AreKnown test (parties_in_action action) → AreKnown test (parties_in_instance (instance_of action))
  instance_known (terms.Create id instance) h = h
  instance_known (terms.Exercise id salt instance choice args actors consuming result) h = front (parties_in_instance instance) _ h
  instance_known (terms.Fetch id salt instance actors) h = front (parties_in_instance instance) _ h

-- ---- who is asked, and who is sent an envelope

pub few_asked : (topology : Topology) (request : Request) → IsFramed topology request → length request.confirming ≤ length topology.hosts
few_asked topology request framed =
    let test = λ (p : ParticipantId). list_any (λ (view : ViewRoles). list_any (confirms_at topology.hosts p) view.confirmers) (framed.roles).views in
    let f = filter_length test (participants_of topology) in
    let n = length-range_with_len 0 (length topology.hosts) in
    let c : length request.confirming ≡ length (filter test (participants_of topology)) = ap length framed.confirming in
    omega (arith, f, n, c)

rising_length : (low : ℕ) (ns : List ℕ) (high : ℕ) → RisesBetween low ns high → low + length ns ≤ high
rising_length low [] high r = let h : low ≤ high = r in omega (arith, h)
rising_length low (n ∷ ns) high r = let m = rising_length (suc n) ns high r.1 in omega (arith, m, r.0)

pub few_envelopes : (topology : Topology) (request : Request) → IsFramed topology request → length request.envelopes ≤ length topology.hosts
few_envelopes topology request framed =
    let r = rising_length 0 (map recipient_of request.envelopes) (length topology.hosts) framed.envelopes in
    let m : length (map recipient_of request.envelopes) ≡ length request.envelopes = length-map request.envelopes recipient_of in
    omega (arith, r, m)
