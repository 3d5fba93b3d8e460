-- The test of a framed request decides it.
use Rattle.std.proofs.Common.{◌≡◌, ◌≢◌, ℕ, suc, ◌≤◌, ◌<◌, Bool, true, false, List, [], ◌∷◌, ◌++◌, length, map, Option, Some, None, Contains, refl, sym, subst, arith, inl, inr}
use Rattle.std.specs.Prelude.{◌&&◌, not, nat_lt, nat_le}
use Rattle.std.specs.Bool.{Decides}
use Rattle.std.proofs.lemmas.Bool.{both_ways, and_parts, and_from}
use Rattle.std.proofs.lemmas.Slice.Eq.{bytes_eq-Decides}
use Rattle.ledger_terms.specs.Parties.{is_subset}
use Rattle.ledger_terms.specs.declared.limits.TheConstants.{MOST_TREE_BYTES}
use Rattle.ledger_terms.specs.declared.topology.Topology.{Topology}
use Rattle.ledger_model.proofs.Lists.{In, in_from_Contains, contains_from_In}
use Rattle.canton_model.specs.declared.envelope.Envelope.{Envelope}
use Rattle.canton_model.specs.declared.request.Request.{Request}
use Rattle.blind_tree.specs.Opening.{informee_tree_of}
use Rattle.blind_tree.specs.ShownViews.{contents_shown, is_plain, path_if}
use Rattle.blind_tree.specs.Vertices.{Vertices, NoVertices, BlindVertex, InnerVertex}
use Rattle.blind_tree.specs.declared.roles_tree.RolesTree.{RolesTree}
use Rattle.blind_tree.specs.declared.tree.Tree.{Tree}
use Rattle.blind_tree.specs.declared.view_roles.ViewRoles.{ViewRoles}
use Rattle.sealed_form.specs.SealedForm.{found, tree_in}
use Rattle.sealed_form.specs.Within.{is_hosted}
use Rattle.sealed_form.proofs.Deciding.{all_decide, at_most, below, itself, three_decide}
use Rattle.framed_form.specs.Framed.{AreBytes, IsConfirmed, IsFramed, RisesBetween, are_envelopes_framed, are_views_framed, asked_by, hides_contents, is_confirmed, is_framed, is_short, is_tree_framed, recipient_of}
use Rattle.framed_form.proofs.FramedParts.{short_decides}

-- ---- parts

-- a list isn't empty
some_decides : {A : Type 0} (xs : List A) → Decides (nat_lt 0 (length xs)) (xs ≢ [])
some_decides [] = (λ h. absurd (none ((below 0 0).0 h)), λ h. absurd (h refl))
  where
    none : 0 < 0 → ⊥
    none l = omega (arith, l)
some_decides {A} (x ∷ xs) = (λ h e. absurd (no_end e), λ h. (below 0 (length (x ∷ xs))).1 (omega arith))
  where
    no_end : x ∷ xs ≡ [] → ⊥
    no_end e = cc

not_decides : (b : Bool) → Decides (not b) (b ≡ false)
not_decides true = (λ h. absurd (both_ways false refl h), λ h. absurd (both_ways true h refl))
not_decides false = (λ h. refl, λ h. refl)

none_from : {A : Type 0} (xs ys : List A) → (xs ++ ys) ≡ [] → (xs ≡ []) × (ys ≡ [])
none_from [] ys e = (refl, e)
none_from (x ∷ xs) ys e = absurd (no_end e)
  where
    no_end : x ∷ (xs ++ ys) ≡ [] → ⊥
    no_end h = cc

hidden_from : (b : Bool) (path : List ℕ) → path_if b path ≡ [] → b ≡ false
hidden_from true path e = absurd (no_end e)
  where
    no_end : path ∷ [] ≡ [] → ⊥
    no_end h = cc
hidden_from false path e = refl

hides : (above : List ℕ) (k : ℕ) (v : Vertices) → hides_contents v ≡ true → contents_shown above k v ≡ []
hides above k NoVertices h = refl
hides above k (BlindVertex hash others) h = hides above (suc k) others h
hides above k (InnerVertex informees contents subviews others) h =
    let p = and_parts (not (is_plain contents)) (hides_contents subviews && hides_contents others) h in
    let q = and_parts (hides_contents subviews) (hides_contents others) p.1 in
    let here : is_plain contents ≡ false = (not_decides (is_plain contents)).0 p.0 in
    rw (here, hides (above ++ k ∷ []) 0 subviews q.0, hides above (suc k) others q.1) refl

hidden : (above : List ℕ) (k : ℕ) (v : Vertices) → contents_shown above k v ≡ [] → hides_contents v ≡ true
hidden above k NoVertices e = refl
hidden above k (BlindVertex hash others) e = hidden above (suc k) others e
hidden above k (InnerVertex informees contents subviews others) e =
    let path = above ++ k ∷ [] in
    let p = none_from (path_if (is_plain contents) path) _ e in
    let q = none_from (contents_shown path 0 subviews) (contents_shown above (suc k) others) p.1 in
    and_from (not (is_plain contents)) (hides_contents subviews && hides_contents others) ((not_decides (is_plain contents)).1 (hidden_from (is_plain contents) path p.0))
    (and_from (hides_contents subviews) (hides_contents others) (hidden path 0 subviews q.0) (hidden above (suc k) others q.1))

-- envelopes in order, and short
abbrev AreShort : List Envelope → Type 0
AreShort envelopes = (e : Envelope) → Contains envelopes e → (length e.bytes ≤ MOST_TREE_BYTES) × AreBytes e.bytes

short_more : (e : Envelope) (rest : List Envelope) → (length e.bytes ≤ MOST_TREE_BYTES) × AreBytes e.bytes → AreShort rest → AreShort (e ∷ rest)
short_more e rest here more d there = one (in_from_Contains (e ∷ rest) d there)
  where
    one : In d (e ∷ rest) → (length d.bytes ≤ MOST_TREE_BYTES) × AreBytes d.bytes
    one (inl same) = subst (λ (x : Envelope). (length x.bytes ≤ MOST_TREE_BYTES) × AreBytes x.bytes) same here
    one (inr later) = more d (contains_from_In rest d later)

short_rest : (e : Envelope) (rest : List Envelope) → AreShort (e ∷ rest) → AreShort rest
short_rest e rest all d there = all d (contains_from_In (e ∷ rest) d (inr (in_from_Contains rest d there)))

last : (low high : ℕ) (ns : List ℕ) → RisesBetween low ns high → low ≤ high
last low high [] r = r
last low high (n ∷ ns) r = let m = last (suc n) high ns r.1 in let l = r.0 in omega (arith, l, m)

envelopes_decide : (next hosts : ℕ) (envelopes : List Envelope) → next ≤ hosts
    → Decides (are_envelopes_framed next hosts envelopes) (RisesBetween next (map recipient_of envelopes) hosts × AreShort envelopes)
envelopes_decide next hosts [] within = (λ h. (within, λ e there. absurd (in_from_Contains [] e there)), λ h. refl)
envelopes_decide next hosts (e ∷ rest) within = (
  λ h.
      let p = and_parts (nat_le next e.to) (nat_lt e.to hosts && (is_short e.bytes && are_envelopes_framed (suc e.to) hosts rest)) h in
      let q = and_parts (nat_lt e.to hosts) (is_short e.bytes && are_envelopes_framed (suc e.to) hosts rest) p.1 in
      let r = and_parts (is_short e.bytes) (are_envelopes_framed (suc e.to) hosts rest) q.1 in
      let l : e.to < hosts = (below e.to hosts).0 q.0 in
      let more = (envelopes_decide (suc e.to) hosts rest (omega (arith, l))).0 r.1 in
      (((at_most next e.to).0 p.0, more.0), short_more e rest ((short_decides e.bytes).0 r.0) more.1),
  λ h.
      let l = last (suc e.to) hosts (map recipient_of rest) h.0.1 in
      and_from (nat_le next e.to) _ ((at_most next e.to).1 h.0.0)
      (and_from (nat_lt e.to hosts) _ ((below e.to hosts).1 (omega (arith, l)))
      (and_from (is_short e.bytes) _ ((short_decides e.bytes).1 (h.1 e (contains_from_In (e ∷ rest) e (inl refl))))
      ((envelopes_decide (suc e.to) hosts rest l).1 (h.0.1, short_rest e rest h.1)))),
)

module _ (topology : Topology) where
  confirmed_decides : (view : ViewRoles) → Decides (is_confirmed topology view) (IsConfirmed topology view)
  confirmed_decides view =
      let d = three_decide (some_decides view.confirmers) (itself (is_subset view.confirmers view.informees)) (all_decide (is_hosted topology) view.informees) in (
        λ h. let p = d.0 h in record { some = p.0; among = p.1; known = p.2 },
        λ c. d.1 (c.some, c.among, c.known),
      )

  module _ (request : Request) where
    abbrev AreFramed : Option RolesTree → Type 0
    AreFramed roles =
        (r : RolesTree) × (roles ≡ Some r) × (r.views ≢ []) × ((view : ViewRoles) → Contains r.views view → IsConfirmed topology view)
        × (request.confirming ≡ asked_by topology r.views)

    views_of : (roles : RolesTree) → Decides (are_views_framed topology request.confirming (Some roles))
        ((roles.views ≢ []) × ((view : ViewRoles) → Contains roles.views view → IsConfirmed topology view) × (request.confirming ≡ asked_by topology roles.views))
    views_of roles =
        let all = all_decide (is_confirmed topology) roles.views in
        three_decide (some_decides roles.views)
        (λ h view there. (confirmed_decides view).0 (all.0 h view there), λ f. all.1 (λ view there. (confirmed_decides view).1 (f view there)))
        (bytes_eq-Decides request.confirming (asked_by topology roles.views))

    views_to : (roles : Option RolesTree) → are_views_framed topology request.confirming roles ≡ true → AreFramed roles
    views_to None h = absurd (both_ways false refl h)
    views_to (Some roles) h = let p = (views_of roles).0 h in (roles, refl, p.0, p.1, p.2)

    tree_of : (tree : Tree) → is_tree_framed topology request.confirming (Some tree) ≡ true
        → (is_plain tree.requesters ≡ false) × (contents_shown [] 0 tree.views ≡ []) × AreFramed (found (informee_tree_of tree))
    tree_of tree h =
        let p = and_parts (not (is_plain tree.requesters)) _ h in
        let q = and_parts (hides_contents tree.views) _ p.1 in
        ((not_decides (is_plain tree.requesters)).0 p.0, hides [] 0 tree.views q.0, views_to (found (informee_tree_of tree)) q.1)

    to_framed : (t : Option Tree) → tree_in request.mediator ≡ t → is_tree_framed topology request.confirming t ≡ true
        → request.sender < length topology.hosts → (length request.mediator ≤ MOST_TREE_BYTES) × AreBytes request.mediator
        → RisesBetween 0 (map recipient_of request.envelopes) (length topology.hosts) × AreShort request.envelopes → IsFramed topology request
    to_framed None is h sender short envelopes = absurd (both_ways false refl h)
    to_framed (Some tree) is h sender short envelopes =
        let p = tree_of tree h in
        let roles = p.2 in
        record {
          tree = tree;
          spells = is;
          roles = roles.0;
          tells = roles.1;
          requesters_hidden = p.0;
          contents_hidden = p.1;
          some_view = roles.2;
          views = roles.3;
          confirming = roles.4;
          sender = sender;
          envelopes = envelopes.0;
          mediator_bytes = short.1;
          short_mediator = short.0;
          bytes = λ e there. (envelopes.1 e there).1;
          short = λ e there. (envelopes.1 e there).0;
        }

    from_framed : IsFramed topology request → is_tree_framed topology request.confirming (tree_in request.mediator) ≡ true
    from_framed f =
        subst (λ (t : Option Tree). is_tree_framed topology request.confirming t ≡ true) (sym f.spells)
        (and_from (not (is_plain (f.tree).requesters)) _ ((not_decides (is_plain (f.tree).requesters)).1 f.requesters_hidden)
        (and_from (hides_contents (f.tree).views) _ (hidden [] 0 (f.tree).views f.contents_hidden)
        (subst (λ (r : Option RolesTree). are_views_framed topology request.confirming r ≡ true) (sym f.tells)
        ((views_of f.roles).1 (f.some_view, f.views, f.confirming)))))

    abbrev envelopes_are : Decides (are_envelopes_framed 0 (length topology.hosts) request.envelopes) (RisesBetween 0 (map recipient_of request.envelopes) (length topology.hosts) × AreShort request.envelopes)
    envelopes_are = envelopes_decide 0 (length topology.hosts) request.envelopes (omega arith)

    pub framed_decides : Decides (is_framed topology request) (IsFramed topology request)
    unfolding is_framed
    framed_decides = (
      λ h.
          let p = and_parts (nat_lt request.sender (length topology.hosts)) _ h in
          let q = and_parts (is_short request.mediator) _ p.1 in
          let r = and_parts (are_envelopes_framed 0 (length topology.hosts) request.envelopes) _ q.1 in
          to_framed (tree_in request.mediator) refl r.1 ((below request.sender (length topology.hosts)).0 p.0) ((short_decides request.mediator).0 q.0) (envelopes_are.0 r.0),
      λ f.
          and_from (nat_lt request.sender (length topology.hosts)) _ ((below request.sender (length topology.hosts)).1 f.sender)
          (and_from (is_short request.mediator) _ ((short_decides request.mediator).1 (f.short_mediator, f.mediator_bytes))
          (and_from (are_envelopes_framed 0 (length topology.hosts) request.envelopes) _ (envelopes_are.1 (f.envelopes, λ e there. (f.short e there, f.bytes e there))) (from_framed f))),
    )
