-- The parts of a framed request, one after another.
use Rattle.std.proofs.Common.{◌≡◌, ℕ, zero, suc, ◌+◌, ◌-◌, ◌<◌, ◌≤◌, Bool, true, false, List, [], ◌∷◌, length, get_or, drop, filter, refl, sym, ap, ◌∙◌, arith, inl, inr}
use Rattle.std.specs.Prelude.{◌&&◌, not, is_some, Option, Some, None, nat_eq, nat_le, nat_lt, option_map}
use Rattle.std.specs.Bool.{Decides}
use Rattle.std.specs.List.{AllByRecursion, list_any, range_with_len}
use Rattle.std.proofs.lemmas.List.Elements.{All-from_recursion, recursion_from_All}
use Rattle.ledger_terms.specs.declared.limits.TheConstants.{MOST_TREE_BYTES}
use Rattle.std.proofs.lemmas.List.{drop_more}
use Rattle.std.proofs.Math.ListN.{drop_of_length-le}
use Rattle.std.proofs.lemmas.Bool.Decides.{Decides-eqb}
use Rattle.std.proofs.lemmas.Bool.{and_from, and_parts, both_ways, cases_Bool, leb-true, le-leb, ltb-true, lt-ltb}
use Rattle.ledger_terms.specs.Hosting.{confirms_at, host_of, lists_party}
use Rattle.ledger_terms.specs.declared.topology.Topology.{Topology}
use Rattle.blind_tree.specs.declared.view_roles.ViewRoles.{ViewRoles}
use Rattle.ledger_terms.specs.declared.host.Host.{Host}
use Rattle.blind_tree.specs.ShownViews.{is_plain}
use Rattle.blind_tree.specs.Vertices.{Vertices}
use Rattle.blind_tree.specs.VertexLists.{vertices_of, with_vertex, one_vertex}
use Rattle.blind_tree.specs.declared.leaf.Leaf.{Leaf}
use Rattle.blind_tree.specs.declared.vertex.Vertex.{Vertex}
use Rattle.blind_tree.specs.declared.vertex.Vertex.TheVariants.{Blind, Inner}
use Rattle.blind_tree.proofs.Grow.{next_vertex}
use Rattle.framed_form.specs.Framed.{AreBytes, are_bytes, hides_contents, is_short, same_participants}

-- a party is hosted where some host lists it
pub hosted_where_listed : (hosts : List Host) (party : List ℕ) → is_some (host_of hosts party) ≡ list_any (lists_party party) hosts
hosted_where_listed [] party = refl
hosted_where_listed (host ∷ hosts) party =
    elim (cases_Bool (lists_party party host)) [
      | inl is ↦ rw is refl
      | inr out ↦ rw out (some_mapped (host_of hosts party) ∙ hosted_where_listed hosts party)
    ]
  where
    some_mapped : (o : Option ℕ) → is_some (option_map suc o) ≡ is_some o
    some_mapped None = refl
    some_mapped (Some n) = refl

and_true : (b : Bool) → (b && true) ≡ b
and_true true = refl
and_true false = refl

-- a vertex by itself
pub hides_one : (informees contents : Leaf) (subviews : Vertices) → hides_contents (one_vertex (Inner informees contents subviews)) ≡ (not (is_plain contents) && hides_contents subviews)
hides_one informees contents subviews = ap (λ (b : Bool). not (is_plain contents) && b) (and_true (hides_contents subviews))

hides_with : (v : Vertex) (rest : Vertices) → hides_contents (with_vertex v rest) ≡ (hides_contents (one_vertex v) && hides_contents rest)
hides_with (Blind hash) rest = refl
hides_with (Inner informees contents subviews) rest =
    elim (cases_Bool (not (is_plain contents))) [
      | inl is ↦ elim (cases_Bool (hides_contents subviews)) [ inl all ↦ rw (is, all) refl | inr some ↦ rw (is, some) refl ]
      | inr out ↦ rw out refl
    ]

hides_at : (vs : List Vertex) (i : ℕ) (v : Vertex) → i < length vs → v ≡ get_or vs i v
    → hides_contents (vertices_of (drop i vs)) ≡ (hides_contents (one_vertex v) && hides_contents (vertices_of (drop (i + 1) vs)))
hides_at vs i v h at = ap hides_contents (next_vertex vs i v h at) ∙ hides_with v (vertices_of (drop (i + 1) vs))

pub hides_step : (vs : List Vertex) (i : ℕ) (v : Vertex) (all : Bool) → i < length vs → v ≡ get_or vs i v
    → hides_contents (one_vertex v) ≡ true → hides_contents (vertices_of (drop i vs)) ≡ all → hides_contents (vertices_of (drop (i + 1) vs)) ≡ all
hides_step vs i v all h at one before = sym (hides_at vs i v h at ∙ ap (λ (b : Bool). b && hides_contents (vertices_of (drop (i + 1) vs))) one) ∙ before

pub hides_out : (vs : List Vertex) (i : ℕ) (v : Vertex) (all : Bool) → i < length vs → v ≡ get_or vs i v
    → hides_contents (one_vertex v) ≡ false → hides_contents (vertices_of (drop i vs)) ≡ all → all ≡ false
hides_out vs i v all h at one before = sym before ∙ (hides_at vs i v h at ∙ ap (λ (b : Bool). b && hides_contents (vertices_of (drop (i + 1) vs))) one)

-- ---- who is asked

-- the participants from one on that confirm a confirmer of one of these views
abbrev pub asked_from : Topology → List ViewRoles → ℕ → List ℕ
asked_from topology views at =
    filter (λ p. list_any (λ (view : ViewRoles). list_any (confirms_at topology.hosts p) view.confirmers) views) (range_with_len at (length topology.hosts - at))

abbrev pub is_asked : Topology → List ViewRoles → ℕ → Bool
is_asked topology views p = list_any (λ (view : ViewRoles). list_any (confirms_at topology.hosts p) view.confirmers) views

range_more : (at n : ℕ) → at < n → range_with_len at (n - at) ≡ at ∷ range_with_len (at + 1) (n - (at + 1))
range_more at n l =
    let more : n - at ≡ suc (n - (at + 1)) = omega (arith, l) in
    ap (λ (k : ℕ). range_with_len at k) more

range_end : (at n : ℕ) → n ≤ at → range_with_len at (n - at) ≡ []
range_end at n l =
    let none : n - at ≡ 0 = omega (arith, l) in
    ap (λ (k : ℕ). range_with_len at k) none

both_later : (m n : ℕ) → nat_eq (suc m) (suc n) ≡ nat_eq m n
both_later m n =
    elim (cases_Bool (nat_eq m n)) [
      | inl is ↦
          (let same = (Decides-eqb m n).0 is in
          let sames : suc m ≡ suc n = omega (arith, same) in
          (Decides-eqb (suc m) (suc n)).1 sames ∙ sym is)
      | inr out ↦ elim (cases_Bool (nat_eq (suc m) (suc n))) [
        | inl is ↦
            (let sames = (Decides-eqb (suc m) (suc n)).0 is in
            let same : m ≡ n = omega (arith, sames) in
            absurd (both_ways (nat_eq m n) out ((Decides-eqb m n).1 same)))
        | inr outs ↦ outs ∙ sym out
      ]
    ]

module _ (topology : Topology) (views : List ViewRoles) where
  skipped : (at : ℕ) → at < length topology.hosts → is_asked topology views at ≡ false → asked_from topology views at ≡ asked_from topology views (at + 1)
  skipped at l out = ap (filter (is_asked topology views)) (range_more at (length topology.hosts) l) ∙ rw out refl

  taken : (at : ℕ) → at < length topology.hosts → is_asked topology views at ≡ true → asked_from topology views at ≡ at ∷ asked_from topology views (at + 1)
  taken at l is = ap (filter (is_asked topology views)) (range_more at (length topology.hosts) l) ∙ rw is refl

  pub ended : (at : ℕ) → length topology.hosts ≤ at → asked_from topology views at ≡ []
  ended at l = ap (filter (is_asked topology views)) (range_end at (length topology.hosts) l)

  pub skip : (asked : List ℕ) (all : Bool) (next at : ℕ) → at < length topology.hosts → is_asked topology views at ≡ false
      → same_participants (drop next asked) (asked_from topology views at) ≡ all → same_participants (drop next asked) (asked_from topology views (at + 1)) ≡ all
  skip asked all next at l out before = ap (same_participants (drop next asked)) (sym (skipped at l out)) ∙ before

  pub take_one : (asked : List ℕ) (all : Bool) (next at p : ℕ) → at < length topology.hosts → is_asked topology views at ≡ true → next < length asked → p ≡ get_or asked next p → p ≡ at
      → same_participants (drop next asked) (asked_from topology views at) ≡ all → same_participants (drop (next + 1) asked) (asked_from topology views (at + 1)) ≡ all
  take_one asked all next at p l is there got same before =
      let both : same_participants (drop next asked) (asked_from topology views at) ≡ (nat_eq p at && same_participants (drop (next + 1) asked) (asked_from topology views (at + 1))) =
      rw (drop_more asked next p there, ← got, taken at l is) refl in
      let one : nat_eq p at ≡ true = (Decides-eqb p at).1 same in
      sym (both ∙ ap (λ (b : Bool). b && same_participants (drop (next + 1) asked) (asked_from topology views (at + 1))) one) ∙ before

  pub other_one : (asked : List ℕ) (all : Bool) (next at p : ℕ) → at < length topology.hosts → is_asked topology views at ≡ true → next < length asked → p ≡ get_or asked next p → (p ≡ at → ⊥)
      → same_participants (drop next asked) (asked_from topology views at) ≡ all → all ≡ false
  other_one asked all next at p l is there got differ before =
      let both : same_participants (drop next asked) (asked_from topology views at) ≡ (nat_eq p at && same_participants (drop (next + 1) asked) (asked_from topology views (at + 1))) =
      rw (drop_more asked next p there, ← got, taken at l is) refl in
      sym before ∙ (both ∙ ap (λ (b : Bool). b && same_participants (drop (next + 1) asked) (asked_from topology views (at + 1))) (not_same p at differ))
    where
      not_same : (m n : ℕ) → (m ≡ n → ⊥) → nat_eq m n ≡ false
      not_same m n d = elim (cases_Bool (nat_eq m n)) [ inl e ↦ absurd (d ((Decides-eqb m n).0 e)) | inr out ↦ out ]

  pub none_left : (asked : List ℕ) (all : Bool) (next at : ℕ) → at < length topology.hosts → is_asked topology views at ≡ true → length asked ≤ next
      → same_participants (drop next asked) (asked_from topology views at) ≡ all → all ≡ false
  none_left asked all next at l is past before = sym before ∙ rw (drop_of_length-le asked past, taken at l is) refl

  pub all_asked : (asked : List ℕ) (all : Bool) (next at : ℕ) → length topology.hosts ≤ at → next ≤ length asked
      → same_participants (drop next asked) (asked_from topology views at) ≡ all → all ≡ nat_eq next (length asked)
  all_asked asked all next at past within before = sym before ∙ (ap (same_participants (drop next asked)) (ended at past) ∙ left asked next within)
    where
      left : (xs : List ℕ) (n : ℕ) → n ≤ length xs → same_participants (drop n xs) [] ≡ nat_eq n (length xs)
      left [] n l = let none : n ≡ 0 = omega (arith, l) in rw none refl
      left (x ∷ xs) zero l = sym (differ 0 (suc (length xs)) (λ e. omega (arith, e)))
        where
          differ : (m k : ℕ) → (m ≡ k → ⊥) → nat_eq m k ≡ false
          differ m k d = elim (cases_Bool (nat_eq m k)) [ inl e ↦ absurd (d ((Decides-eqb m k).0 e)) | inr out ↦ out ]
      left (x ∷ xs) (suc n) l = left xs n (omega (arith, l)) ∙ sym (both_later n (length xs))

-- ---- bytes

-- what a slice of bytes keeps
pub bytes_by : (bytes : List ℕ) → ((i : ℕ) → get_or bytes i 0 < 256) → are_bytes bytes ≡ true
bytes_by [] f = refl
bytes_by (b ∷ bytes) f = and_from (nat_lt b 256) (are_bytes bytes) (lt-ltb b 256 (f 0)) (bytes_by bytes (λ i. f (suc i)))

bytes_from : (bytes : List ℕ) → AllByRecursion (λ b. b < 256) bytes → are_bytes bytes ≡ true
bytes_from [] all = refl
bytes_from (b ∷ bytes) all = and_from (nat_lt b 256) (are_bytes bytes) (lt-ltb b 256 all.0) (bytes_from bytes all.1)

pub all_bytes : (bytes : List ℕ) → AreBytes bytes → are_bytes bytes ≡ true
all_bytes bytes all = bytes_from bytes (recursion_from_All (λ b. b < 256) bytes all)

from_bytes : (bytes : List ℕ) → are_bytes bytes ≡ true → AllByRecursion (λ b. b < 256) bytes
from_bytes [] h = tt
from_bytes (b ∷ bytes) h = let p = and_parts (nat_lt b 256) (are_bytes bytes) h in (ltb-true b 256 p.0, from_bytes bytes p.1)

pub bytes_decide : (bytes : List ℕ) → Decides (are_bytes bytes) (AreBytes bytes)
bytes_decide bytes = (λ h. All-from_recursion (λ b. b < 256) bytes (from_bytes bytes h), all_bytes bytes)

pub short_decides : (bytes : List ℕ) → Decides (is_short bytes) ((length bytes ≤ MOST_TREE_BYTES) × AreBytes bytes)
short_decides bytes = (
  λ h. let p = and_parts (nat_le (length bytes) MOST_TREE_BYTES) (are_bytes bytes) h in (leb-true (length bytes) MOST_TREE_BYTES p.0, (bytes_decide bytes).0 p.1),
  λ h. and_from (nat_le (length bytes) MOST_TREE_BYTES) (are_bytes bytes) (le-leb (length bytes) MOST_TREE_BYTES h.0) ((bytes_decide bytes).1 h.1),
)
