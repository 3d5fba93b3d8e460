-- Where a log doesn't collide, the trees of each of its requests agree.
use Rattle.std.proofs.Common.{◌≡◌, ℕ, zero, suc, ◌<◌, List, [], ◌∷◌, map, length, Option, Some, None, Result, Ok, Err, refl, sym, ap, subst, ◌∙◌, inl, inr, arith}
use Rattle.std.specs.Prelude.{Contains, flat_map, option_to_list}
use Rattle.std.proofs.lemmas.Bool.{cases_lt}
use Rattle.std.proofs.lemmas.List.{get_or_past}
use Rattle.std.proofs.lemmas.List.Elements.{All-get_or}
use Rattle.std.proofs.lemmas.Option.{same_Some, none-some}
use Rattle.sha2.specs.Sha256.{sha256}
use Rattle.sha2.proofs.Facts256.{length-sha256}
use Rattle.ledger_terms.specs.declared.topology.Topology.{Topology}
use Rattle.ledger_model.proofs.Lists.{In, contains_from_In, in_append_cases, in_append_left, in_append_right, in_from_Contains}
use Rattle.canton_model.specs.Log.{request_at, request_of}
use Rattle.canton_model.specs.declared.entry.Entry.{Entry}
use Rattle.canton_model.specs.declared.envelope.Envelope.{Envelope}
use Rattle.canton_model.specs.declared.request.Request.{Request}
use Rattle.canton_model.specs.declared.message.Message.{Message}
use Rattle.canton_model.specs.declared.message.Message.TheVariants.{Request as RequestMessage, Response as ResponseMessage, Verdict as VerdictMessage, Tick}
use Rattle.wire_form.specs.declared.wire_fault.WireFault.{WireFault}
use Rattle.wire_form.proofs.FormatLaws.{IsBytes}
use Rattle.blind_tree.specs.Agreement.{AreSized, Clash, IsSized, IsSizedLeaf}
use Rattle.blind_tree.specs.InRange.{AreVertices, IsLeaf, IsTree}
use Rattle.blind_tree.specs.Reading.{read_all, tree_at}
use Rattle.blind_tree.specs.Spelling.{spell_tree}
use Rattle.blind_tree.specs.TreeHashes.{tree_strings}
use Rattle.blind_tree.specs.Vertices.{Vertices, NoVertices, BlindVertex, InnerVertex}
use Rattle.blind_tree.specs.declared.leaf.Leaf.{Leaf}
use Rattle.blind_tree.specs.declared.leaf.Leaf.TheVariants.{Blind, Plain}
use Rattle.blind_tree.specs.declared.tree.Tree.{Tree}
use Rattle.blind_tree.proofs.Agreement.{agree_trees}
use Rattle.blind_tree.proofs.AllLaws.{all_found}
use Rattle.blind_tree.proofs.TreeLaws.{tree_reads}
use Rattle.sealed_form.specs.SealedForm.{bytes_of, found, tree_in, trees_in}
use Rattle.framed_form.specs.Agreeing.{AreAgreed, request_trees}
use Rattle.framed_form.specs.Collisions.{Collides, acts_in, hashed, message_strings, request_strings}
use Rattle.framed_form.specs.Framed.{AreBytes}
use Rattle.framed_form.specs.Collisions.{id_string}

-- ---- trees that are read of bytes have their hashes

sized_leaf : (l : Leaf) → IsLeaf l → IsSizedLeaf l
sized_leaf (Blind hash) h = h
sized_leaf (Plain salt bytes) h = h.0

sized_vertices : (v : Vertices) → AreVertices v → AreSized v
sized_vertices NoVertices h = tt
sized_vertices (BlindVertex hash others) h = (h.0, sized_vertices others h.1)
sized_vertices (InnerVertex informees contents subviews others) h =
    (sized_leaf informees h.0, sized_leaf contents h.1, sized_vertices subviews h.3, sized_vertices others h.4)

sized_tree : (t : Tree) → IsTree t → IsSized t
sized_tree t h =
    record { common_is = sized_leaf t.common h.common_is; requesters_is = sized_leaf t.requesters h.requesters_is; vertices = sized_vertices t.views h.vertices }

pub is_bytes : (bytes : List ℕ) → AreBytes bytes → IsBytes bytes
is_bytes bytes h i =
    elim (cases_lt i (length bytes)) [
      | inl lt ↦ All-get_or (λ b. b < 256) bytes i 0 lt h
      | inr le ↦ rw (get_or_past bytes i 0 le) (omega arith)
    ]

pub read_tree : (bytes : List ℕ) (t : Tree) → AreBytes bytes → tree_in bytes ≡ Some t → IsTree t
read_tree bytes t fits e = by_answer (read_all tree_at bytes) refl e
  where
    by_answer : (r : Result Tree WireFault) → read_all tree_at bytes ≡ r → found r ≡ Some t → IsTree t
    by_answer (Err fault) is h = absurd (none-some t h)
    by_answer (Ok u) is h = subst IsTree (same_Some u t h) (all_found spell_tree IsTree tree_at tree_reads bytes (Ok u) (is_bytes bytes fits) (λ other. sym is)).0

pub read_spelled : (bytes : List ℕ) (t : Tree) → AreBytes bytes → tree_in bytes ≡ Some t → bytes ≡ spell_tree t
read_spelled bytes t fits e = by_answer (read_all tree_at bytes) refl e
  where
    by_answer : (r : Result Tree WireFault) → read_all tree_at bytes ≡ r → found r ≡ Some t → bytes ≡ spell_tree t
    by_answer (Err fault) is h = absurd (none-some t h)
    by_answer (Ok u) is h = (all_found spell_tree IsTree tree_at tree_reads bytes (Ok u) (is_bytes bytes fits) (λ other. sym is)).1 ∙ ap spell_tree (same_Some u t h)

-- each tree of some bytes is one of them
only_one : (o : Option Tree) (t : Tree) → In t (option_to_list o) → o ≡ Some t
only_one None t h = absurd h
only_one (Some u) t (inl same) = ap (λ (x : Tree). Some x) same
only_one (Some u) t (inr none) = absurd none

tree_of : (all : List (List ℕ)) (t : Tree) → In t (trees_in all) → (bytes : List ℕ) × In bytes all × (tree_in bytes ≡ Some t)
tree_of [] t h = absurd h
tree_of (first ∷ more) t h =
    elim (in_append_cases (option_to_list (tree_in first)) (trees_in more) t h) [
      | inl here ↦ (first, inl refl, only_one (tree_in first) t here)
      | inr later ↦ (let r = tree_of more t later in (r.0, inr r.1, r.2))
    ]

pub in_flat_map : {X Y : Type 0} (f : X → List Y) (xs : List X) (x : X) (y : Y) → In x xs → In y (f x) → In y (flat_map f xs)
in_flat_map f [] x y i h = absurd i
in_flat_map {X} {Y} f (z ∷ xs) x y (inl same) h = in_append_left (f z) (flat_map f xs) y (subst (λ (w : X). In y (f w)) (sym same) h)
in_flat_map f (z ∷ xs) x y (inr later) h = in_append_right (f z) (flat_map f xs) y (in_flat_map f xs x y later h)

in_bytes : (envelopes : List Envelope) (bytes : List ℕ) → In bytes (map bytes_of envelopes) → (e : Envelope) × In e envelopes × (e.bytes ≡ bytes)
in_bytes [] bytes h = absurd h
in_bytes (e ∷ es) bytes (inl same) = (e, inl refl, same)
in_bytes (e ∷ es) bytes (inr later) = let r = in_bytes es bytes later in (r.0, inr r.1, r.2)

module _ (request : Request) (mediators : AreBytes request.mediator) (each : (e : Envelope) → Contains request.envelopes e → AreBytes e.bytes) where
  pub request_tree : (t : Tree) → In t (request_trees request) → IsTree t
  request_tree t h =
      let r = tree_of (request.mediator ∷ map bytes_of request.envelopes) t h in
      read_tree r.0 t (bytes_fit r.0 r.1) r.2
    where
      bytes_fit : (bytes : List ℕ) → In bytes (request.mediator ∷ map bytes_of request.envelopes) → AreBytes bytes
      bytes_fit bytes (inl same) = subst AreBytes same mediators
      bytes_fit bytes (inr later) =
          let e = in_bytes request.envelopes bytes later in
          subst AreBytes e.2 (each e.0 (contains_from_In request.envelopes e.0 e.1))

  -- the trees of a request agree, or two strings of them clash
  pub agreed_unless : ((t u : Tree) → In t (request_trees request) → In u (request_trees request) → Clash sha256 (tree_strings sha256 t) (tree_strings sha256 u) → ⊥) → AreAgreed request
  agreed_unless apart t u in_t in_u same =
      let here = in_from_Contains (request_trees request) t in_t in
      let there = in_from_Contains (request_trees request) u in_u in
      elim (agree_trees sha256 length-sha256 t u (sized_tree t (request_tree t here)) (sized_tree u (request_tree u there)) same) [
        | inl agree ↦ agree
        | inr clash ↦ absurd (apart t u here there clash)
      ]

-- ---- a log that doesn't collide

wider : (xs ys all : List (List ℕ)) → ((s : List ℕ) → In s xs → In s all) → ((s : List ℕ) → In s ys → In s all) → Clash sha256 xs ys → Clash sha256 all all
wider xs ys all f g c =
    record {
      one = c.one;
      other = c.other;
      of_some = contains_from_In all c.one (f c.one (in_from_Contains xs c.one c.of_some));
      of_others = contains_from_In all c.other (g c.other (in_from_Contains ys c.other c.of_others));
      differ = c.differ;
      meet = c.meet;
    }

module _ (topology : Topology) where
  strings_are : (m : Message) (request : Request) → request_of m ≡ Some request → message_strings topology m ≡ request_strings topology request
  strings_are (RequestMessage q) request e = ap (request_strings topology) (same_Some q request e)
  strings_are (ResponseMessage response) request e = absurd (none-some request e)
  strings_are (VerdictMessage verdict) request e = absurd (none-some request e)
  strings_are Tick request e = absurd (none-some request e)

  pub logged : (log : List Entry) (k : ℕ) (request : Request) (s : List ℕ) → request_at log k ≡ Some request → In s (request_strings topology request) → In s (hashed topology log)
  logged [] k request s e i = absurd (none-some request e)
  logged (entry ∷ log) zero request s e i =
      in_append_left (message_strings topology entry.message) (hashed topology log) s (subst (In s) (sym (strings_are entry.message request e)) i)
  logged (entry ∷ log) (suc k) request s e i = in_append_right (message_strings topology entry.message) (hashed topology log) s (logged log k request s e i)

  of_trees : (request : Request) (t : Tree) (s : List ℕ) → In t (request_trees request) → In s (tree_strings sha256 t) → In s (request_strings topology request)
  of_trees request t s there h =
      in_append_right (map id_string (acts_in topology request request.envelopes)) (flat_map (tree_strings sha256) (request_trees request)) s
      (in_flat_map (tree_strings sha256) (request_trees request) t s there h)

  -- the trees of its requests agree
  pub requests_agree : (log : List Entry) (k : ℕ) (request : Request) → (Collides topology log → ⊥) → request_at log k ≡ Some request
      → AreBytes request.mediator → ((e : Envelope) → Contains request.envelopes e → AreBytes e.bytes) → AreAgreed request
  requests_agree log k request apart there mediators each =
      agreed_unless request mediators each (λ t u in_t in_u clash. apart (wider (tree_strings sha256 t) (tree_strings sha256 u) (hashed topology log)
      (λ s h. logged log k request s there (of_trees request t s in_t h)) (λ s h. logged log k request s there (of_trees request u s in_u h)) clash))
