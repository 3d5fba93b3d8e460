-- Two trees with one root agree, or two different strings hashed in them have one hash.
use Rattle.std.proofs.Common.{◌≡◌, ◌⊎◌, List, [], ◌∷◌, ◌++◌, refl, sym, ap, ◌∙◌, inl, inr, arith, append_assoc}
use Rattle.std.specs.Prelude.{◌+◌, ℕ, length}
use Rattle.std.specs.Int.{w32, to_be_bytes}
use Rattle.std.specs.List.{concat}
use Rattle.std.specs.Str.{bytes_eq}
use Rattle.std.proofs.lemmas.Bool.{cases_Bool, both_ways}
use Rattle.std.proofs.lemmas.List.{length-append}
use Rattle.std.proofs.lemmas.Slice.Eq.{bytes_eq-Decides}
use Rattle.ledger_model.proofs.Lists.{In, in_append_left, in_append_right, contains_from_In, in_from_Contains}
use Rattle.hash_id.specs.Tags.{tag_byte}
use Rattle.hash_id.specs.Strings.{inner_string, leaf_hash_string, view_hash_string}
use Rattle.hash_id.specs.declared.tag.Tag.{Tag}
use Rattle.hash_id.specs.declared.tag.Tag.TheVariants as tags
use Rattle.blind_tree.specs.Vertices.{Vertices, NoVertices, BlindVertex, InnerVertex}
use Rattle.blind_tree.specs.TreeHashes.{Hashing, hash_of_leaf, hashes_of_vertices, root_string, hash_of_root, leaf_strings, vertex_strings, tree_strings}
use Rattle.blind_tree.specs.Agreement.{Clash, IsSizedLeaf, AreSized, IsSized, AgreeLeaf, Agree, AgreeTrees}
use Rattle.blind_tree.specs.declared.leaf.Leaf.{Leaf}
use Rattle.blind_tree.specs.declared.leaf.Leaf.TheVariants.{Blind, Plain}
use Rattle.blind_tree.specs.declared.tree.Tree.{Tree}

-- two lists joined fall apart in one way
pub parts : {X : Type 0} (s t b c : List X) → length s ≡ length t → s ++ b ≡ t ++ c → (s ≡ t) × (b ≡ c)
parts [] [] b c l e = (refl, e)
parts [] (y ∷ t) b c l e = absurd (omega (arith, l))
parts (x ∷ s) [] b c l e = absurd (omega (arith, l))
parts (x ∷ s) (y ∷ t) b c l e =
    let head : x ≡ y = cc in
    let tail : s ++ b ≡ t ++ c = cc in
    let r = parts s t b c (omega (arith, l)) tail in
    (λ i. head i ∷ r.0 i, r.1)

-- the string over hashes, bracketed to the right
nested : (tag : Tag) (a b : List ℕ) (xs : List (List ℕ)) → inner_string tag a b xs ≡ tag_byte tag ∷ (a ++ (b ++ (to_be_bytes w32 (length xs) ++ concat xs)))
nested tag a b xs =
    ap (λ (k : List ℕ). tag_byte tag ∷ k)
    (append_assoc (a ++ b) (to_be_bytes w32 (length xs)) (concat xs) ∙ append_assoc a b (to_be_bytes w32 (length xs) ++ concat xs))

abbrev Sized : List (List ℕ) → Type 0
Sized [] = Unit {0}
Sized (d ∷ ds) = (length d ≡ 32) × Sized ds

concat_length : (d : List ℕ) (ds : List (List ℕ)) → length (concat (d ∷ ds)) ≡ length d + length (concat ds)
concat_length d ds = length-append d (concat ds)

concat_parts : (ds es : List (List ℕ)) → Sized ds → Sized es → concat ds ≡ concat es → ds ≡ es
concat_parts [] [] s t e = refl
concat_parts [] (d ∷ ds) s t e = let l = concat_length d ds in let m = ap (λ (xs : List ℕ). length xs) e in absurd (omega (arith, l, m, t.0))
concat_parts (d ∷ ds) [] s t e = let l = concat_length d ds in let m = ap (λ (xs : List ℕ). length xs) e in absurd (omega (arith, l, m, s.0))
concat_parts (d ∷ ds) (e ∷ es) s t same =
    let r = parts d e (concat ds) (concat es) (s.0 ∙ sym t.0) same in
    let more = concat_parts ds es s.1 t.1 r.1 in
    λ i. r.0 i ∷ more i

module _ (sha : Hashing) (long : (s : List ℕ) → length (sha s) ≡ 32) where
  -- a smaller pair of lists
  wider : (xs ys us vs : List (List ℕ)) → ((s : List ℕ) → In s xs → In s us) → ((s : List ℕ) → In s ys → In s vs) → Clash sha xs ys → Clash sha us vs
  wider xs ys us vs f g c =
      record {
        one = c.one;
        other = c.other;
        of_some = contains_from_In us c.one (f c.one (in_from_Contains xs c.one c.of_some));
        of_others = contains_from_In vs c.other (g c.other (in_from_Contains ys c.other c.of_others));
        differ = c.differ;
        meet = c.meet;
      }

  -- two strings with one hash are one, or clash
  one_or_clash : (s t : List ℕ) (xs ys : List (List ℕ)) → In s xs → In t ys → sha s ≡ sha t → (s ≡ t) ⊎ Clash sha xs ys
  one_or_clash s t xs ys i j e =
      elim (cases_Bool (bytes_eq s t)) [
        | inl same ↦ inl ((bytes_eq-Decides s t).0 same)
        | inr other ↦ inr (record {
          one = s;
          other = t;
          of_some = contains_from_In xs s i;
          of_others = contains_from_In ys t j;
          differ = λ same. both_ways _ other ((bytes_eq-Decides s t).1 same);
          meet = e;
        })
      ]

  leaf_long : (kind : ℕ) (l : Leaf) → IsSizedLeaf l → length (hash_of_leaf sha kind l) ≡ 32
  leaf_long kind (Blind hash) s = s
  leaf_long kind (Plain salt bytes) s = long (leaf_hash_string kind salt bytes)

  hashes_are_long : (v : Vertices) → AreSized v → Sized (hashes_of_vertices sha v)
  hashes_are_long NoVertices s = tt
  hashes_are_long (BlindVertex hash others) s = (s.0, hashes_are_long others s.1)
  hashes_are_long (InnerVertex informees contents subviews others) s =
      (long (view_hash_string (hash_of_leaf sha 3 informees) (hash_of_leaf sha 4 contents) (hashes_of_vertices sha subviews)), hashes_are_long others s.3)

  agree_leaf : (kind : ℕ) (l m : Leaf) → IsSizedLeaf l → IsSizedLeaf m → hash_of_leaf sha kind l ≡ hash_of_leaf sha kind m → AgreeLeaf l m ⊎ Clash sha (leaf_strings kind l) (leaf_strings kind m)
  agree_leaf kind (Blind hash) m s t e = inl tt
  agree_leaf kind (Plain salt bytes) (Blind hash) s t e = inl tt
  agree_leaf kind (Plain salt bytes) (Plain salt2 bytes2) s t e =
      elim (one_or_clash (leaf_hash_string kind salt bytes) (leaf_hash_string kind salt2 bytes2) (leaf_hash_string kind salt bytes ∷ []) (leaf_hash_string kind salt2 bytes2 ∷ []) (inl refl) (inl refl) e) [
        | inl same ↦ (let body : salt ++ bytes ≡ salt2 ++ bytes2 = cc in inl (parts salt salt2 bytes bytes2 (s ∙ sym t) body))
        | inr clash ↦ inr clash
      ]

  -- what a string of hashes says of them
  same_parts : (tag : Tag) (a b c d : List ℕ) (xs ys : List (List ℕ)) → length a ≡ 32 → length b ≡ 32 → length c ≡ 32 → length d ≡ 32 → Sized xs → Sized ys
      → inner_string tag a b xs ≡ inner_string tag c d ys → (a ≡ c) × (b ≡ d) × (xs ≡ ys)
  same_parts tag a b c d xs ys la lb lc ld lx ly e =
      let whole : tag_byte tag ∷ (a ++ (b ++ (to_be_bytes w32 (length xs) ++ concat xs))) ≡ tag_byte tag ∷ (c ++ (d ++ (to_be_bytes w32 (length ys) ++ concat ys))) =
      sym (nested tag a b xs) ∙ (e ∙ nested tag c d ys) in
      let body : a ++ (b ++ (to_be_bytes w32 (length xs) ++ concat xs)) ≡ c ++ (d ++ (to_be_bytes w32 (length ys) ++ concat ys)) = cc in
      let p = parts a c (b ++ (to_be_bytes w32 (length xs) ++ concat xs)) (d ++ (to_be_bytes w32 (length ys) ++ concat ys)) (la ∙ sym lc) body in
      let q = parts b d (to_be_bytes w32 (length xs) ++ concat xs) (to_be_bytes w32 (length ys) ++ concat ys) (lb ∙ sym ld) p.1 in
      let r = parts (to_be_bytes w32 (length xs)) (to_be_bytes w32 (length ys)) (concat xs) (concat ys) refl q.1 in
      (p.0, q.0, concat_parts xs ys lx ly r.1)

  in_first : (i c : Leaf) (v o : Vertices) (x : List ℕ) → In x (leaf_strings 3 i) → In x (vertex_strings sha (InnerVertex i c v o))
  in_first i c v o x h = inr (in_append_left (leaf_strings 3 i) (leaf_strings 4 c ++ (vertex_strings sha v ++ vertex_strings sha o)) x h)

  in_second : (i c : Leaf) (v o : Vertices) (x : List ℕ) → In x (leaf_strings 4 c) → In x (vertex_strings sha (InnerVertex i c v o))
  in_second i c v o x h = inr (in_append_right (leaf_strings 3 i) (leaf_strings 4 c ++ (vertex_strings sha v ++ vertex_strings sha o)) x (in_append_left (leaf_strings 4 c) (vertex_strings sha v ++ vertex_strings sha o) x h))

  in_below : (i c : Leaf) (v o : Vertices) (x : List ℕ) → In x (vertex_strings sha v) → In x (vertex_strings sha (InnerVertex i c v o))
  in_below i c v o x h = inr (in_append_right (leaf_strings 3 i) (leaf_strings 4 c ++ (vertex_strings sha v ++ vertex_strings sha o)) x (in_append_right (leaf_strings 4 c) (vertex_strings sha v ++ vertex_strings sha o) x (in_append_left (vertex_strings sha v) (vertex_strings sha o) x h)))

  in_others : (i c : Leaf) (v o : Vertices) (x : List ℕ) → In x (vertex_strings sha o) → In x (vertex_strings sha (InnerVertex i c v o))
  in_others i c v o x h = inr (in_append_right (leaf_strings 3 i) (leaf_strings 4 c ++ (vertex_strings sha v ++ vertex_strings sha o)) x (in_append_right (leaf_strings 4 c) (vertex_strings sha v ++ vertex_strings sha o) x (in_append_right (vertex_strings sha v) (vertex_strings sha o) x h)))

  agree : (v w : Vertices) → AreSized v → AreSized w → hashes_of_vertices sha v ≡ hashes_of_vertices sha w → Agree v w ⊎ Clash sha (vertex_strings sha v) (vertex_strings sha w)
  agree NoVertices NoVertices s t e = inl tt
  agree NoVertices (BlindVertex hash others) s t e = cc
  agree NoVertices (InnerVertex informees contents subviews others) s t e = cc
  agree (BlindVertex hash others) NoVertices s t e = cc
  agree (InnerVertex informees contents subviews others) NoVertices s t e = cc
  agree (BlindVertex hash others) (BlindVertex hash2 others2) s t e =
      agree others others2 s.1 t.1 cc
  agree (BlindVertex hash others) (InnerVertex i2 c2 v2 o2) s t e =
      let rest : hashes_of_vertices sha others ≡ hashes_of_vertices sha o2 = cc in
      elim (agree others o2 s.1 t.3 rest) [
        | inl fine ↦ inl fine
        | inr clash ↦ inr (wider (vertex_strings sha others) (vertex_strings sha o2) (vertex_strings sha (BlindVertex hash others)) (vertex_strings sha (InnerVertex i2 c2 v2 o2)) (λ x h. h) (λ x h. in_others i2 c2 v2 o2 x h) clash)
      ]
  agree (InnerVertex i c v o) (BlindVertex hash2 others2) s t e =
      let rest : hashes_of_vertices sha o ≡ hashes_of_vertices sha others2 = cc in
      elim (agree o others2 s.3 t.1 rest) [
        | inl fine ↦ inl fine
        | inr clash ↦ inr (wider (vertex_strings sha o) (vertex_strings sha others2) (vertex_strings sha (InnerVertex i c v o)) (vertex_strings sha (BlindVertex hash2 others2)) (λ x h. in_others i c v o x h) (λ x h. h) clash)
      ]
  agree (InnerVertex i c v o) (InnerVertex i2 c2 v2 o2) s t e =
      let one = view_hash_string (hash_of_leaf sha 3 i) (hash_of_leaf sha 4 c) (hashes_of_vertices sha v) in
      let two = view_hash_string (hash_of_leaf sha 3 i2) (hash_of_leaf sha 4 c2) (hashes_of_vertices sha v2) in
      let here : sha one ≡ sha two = cc in
      let rest : hashes_of_vertices sha o ≡ hashes_of_vertices sha o2 = cc in
      elim (one_or_clash one two (vertex_strings sha (InnerVertex i c v o)) (vertex_strings sha (InnerVertex i2 c2 v2 o2)) (inl refl) (inl refl) here) [
        | inr clash ↦ inr clash
        | inl same ↦
            let p = same_parts tags.View (hash_of_leaf sha 3 i) (hash_of_leaf sha 4 c) (hash_of_leaf sha 3 i2) (hash_of_leaf sha 4 c2) (hashes_of_vertices sha v) (hashes_of_vertices sha v2)
            (leaf_long 3 i s.0) (leaf_long 4 c s.1) (leaf_long 3 i2 t.0) (leaf_long 4 c2 t.1) (hashes_are_long v s.2) (hashes_are_long v2 t.2) same in
            elim (agree_leaf 3 i i2 s.0 t.0 p.0) [
              | inr clash ↦ inr (wider (leaf_strings 3 i) (leaf_strings 3 i2) (vertex_strings sha (InnerVertex i c v o)) (vertex_strings sha (InnerVertex i2 c2 v2 o2)) (λ x h. in_first i c v o x h) (λ x h. in_first i2 c2 v2 o2 x h) clash)
              | inl first ↦ elim (agree_leaf 4 c c2 s.1 t.1 p.1) [
                | inr clash ↦ inr (wider (leaf_strings 4 c) (leaf_strings 4 c2) (vertex_strings sha (InnerVertex i c v o)) (vertex_strings sha (InnerVertex i2 c2 v2 o2)) (λ x h. in_second i c v o x h) (λ x h. in_second i2 c2 v2 o2 x h) clash)
                | inl second ↦ elim (agree v v2 s.2 t.2 p.2) [
                  | inr clash ↦ inr (wider (vertex_strings sha v) (vertex_strings sha v2) (vertex_strings sha (InnerVertex i c v o)) (vertex_strings sha (InnerVertex i2 c2 v2 o2)) (λ x h. in_below i c v o x h) (λ x h. in_below i2 c2 v2 o2 x h) clash)
                  | inl below ↦ elim (agree o o2 s.3 t.3 rest) [
                    | inr clash ↦ inr (wider (vertex_strings sha o) (vertex_strings sha o2) (vertex_strings sha (InnerVertex i c v o)) (vertex_strings sha (InnerVertex i2 c2 v2 o2)) (λ x h. in_others i c v o x h) (λ x h. in_others i2 c2 v2 o2 x h) clash)
                    | inl after ↦ inl (first, second, below, after)
                  ]
                ]
              ]
            ]
      ]

  in_common : (t : Tree) (x : List ℕ) → In x (leaf_strings 1 t.common) → In x (tree_strings sha t)
  in_common t x h = inr (in_append_left (leaf_strings 1 t.common) (leaf_strings 2 t.requesters ++ vertex_strings sha t.views) x h)

  in_requesters : (t : Tree) (x : List ℕ) → In x (leaf_strings 2 t.requesters) → In x (tree_strings sha t)
  in_requesters t x h = inr (in_append_right (leaf_strings 1 t.common) (leaf_strings 2 t.requesters ++ vertex_strings sha t.views) x (in_append_left (leaf_strings 2 t.requesters) (vertex_strings sha t.views) x h))

  in_views : (t : Tree) (x : List ℕ) → In x (vertex_strings sha t.views) → In x (tree_strings sha t)
  in_views t x h = inr (in_append_right (leaf_strings 1 t.common) (leaf_strings 2 t.requesters ++ vertex_strings sha t.views) x (in_append_right (leaf_strings 2 t.requesters) (vertex_strings sha t.views) x h))

  pub agree_trees : (t u : Tree) → IsSized t → IsSized u → hash_of_root sha t ≡ hash_of_root sha u → AgreeTrees t u ⊎ Clash sha (tree_strings sha t) (tree_strings sha u)
  agree_trees t u s z e =
      elim (one_or_clash (root_string sha t) (root_string sha u) (tree_strings sha t) (tree_strings sha u) (inl refl) (inl refl) e) [
        | inr clash ↦ inr clash
        | inl same ↦
            let p = same_parts tags.Tree (hash_of_leaf sha 1 t.common) (hash_of_leaf sha 2 t.requesters) (hash_of_leaf sha 1 u.common) (hash_of_leaf sha 2 u.requesters) (hashes_of_vertices sha t.views) (hashes_of_vertices sha u.views)
            (leaf_long 1 t.common s.common_is) (leaf_long 2 t.requesters s.requesters_is) (leaf_long 1 u.common z.common_is) (leaf_long 2 u.requesters z.requesters_is) (hashes_are_long t.views s.vertices) (hashes_are_long u.views z.vertices) same in
            elim (agree_leaf 1 t.common u.common s.common_is z.common_is p.0) [
              | inr clash ↦ inr (wider (leaf_strings 1 t.common) (leaf_strings 1 u.common) (tree_strings sha t) (tree_strings sha u) (λ x h. in_common t x h) (λ x h. in_common u x h) clash)
              | inl common ↦ elim (agree_leaf 2 t.requesters u.requesters s.requesters_is z.requesters_is p.1) [
                | inr clash ↦ inr (wider (leaf_strings 2 t.requesters) (leaf_strings 2 u.requesters) (tree_strings sha t) (tree_strings sha u) (λ x h. in_requesters t x h) (λ x h. in_requesters u x h) clash)
                | inl requesters ↦ elim (agree t.views u.views s.vertices z.vertices p.2) [
                  | inr clash ↦ inr (wider (vertex_strings sha t.views) (vertex_strings sha u.views) (tree_strings sha t) (tree_strings sha u) (λ x h. in_views t x h) (λ x h. in_views u x h) clash)
                  | inl views ↦ inl (record { common_agree = common; requesters_agree = requesters; vertices = views })
                ]
              ]
            ]
      ]
