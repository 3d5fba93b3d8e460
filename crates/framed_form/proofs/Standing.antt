-- In a tree that was made by the rules a vertex stands at each path that its recipient sees.
use Rattle.std.proofs.Common.{◌≡◌, ℕ, suc, ◌≤◌, Bool, true, false, List, [], ◌∷◌, ◌++◌, refl, sym, subst, ◌∙◌, inl, inr, arith}
use Rattle.std.specs.Prelude.{◌||◌, nat_eq}
use Rattle.std.specs.List.{list_all, list_any}
use Rattle.std.proofs.lemmas.Bool.{and_from, cases_Bool}
use Rattle.std.proofs.lemmas.Bool.Decides.{Decides-eqb}
use Rattle.std.proofs.lemmas.List.Folds.{list_any-append}
use Rattle.ledger_terms.specs.Forest.{Forest, NoRoots, Root, join, paths_from, preorder}
use Rattle.ledger_model.proofs.Lists.{In, in_append_cases}
use Rattle.view_split.specs.SeenViews.{is_sight, seen_views}
use Rattle.view_split.specs.declared.split_view.SplitView.{SplitView}
use Rattle.blind_tree.specs.Blind.{has_sight, shown_to, vertices_shown}
use Rattle.blind_tree.specs.TreeHashes.{Hashing}
use Rattle.blind_tree.specs.Vertices.{Vertices, BlindVertex, InnerVertex}
use Rattle.blind_tree.specs.declared.leaf.Leaf.{Leaf}
use Rattle.blind_tree.specs.declared.leaf.Leaf.TheVariants.{Blind}
use Rattle.framed_form.specs.Frames.{paths_in}
use Rattle.blind_tree.specs.OpenedFor.{is_end, stands_at}
use Rattle.framed_form.proofs.Listed.{Region, all_in, kept, kept_in, one_on, paths_append, paths_root, same_on}

or_false : (a b : Bool) → a || b ≡ false → (a ≡ false) × (b ≡ false)
or_false true b e = absurd cc
or_false false b e = (refl, e)

differs : (step k : ℕ) → suc k ≤ step → nat_eq step k ≡ false
differs step k l = elim (cases_Bool (nat_eq step k)) [
  | inl is ↦ (let e = (Decides-eqb step k).0 is in absurd (omega (arith, e, l)))
  | inr out ↦ out
]

here_stands : (k : ℕ) (i c : Leaf) (s o : Vertices) (step : ℕ) (rest : List ℕ) → step ≡ k → is_end rest || stands_at 0 s rest ≡ true → stands_at k (InnerVertex i c s o) (step ∷ rest) ≡ true
here_stands k i c s o step rest same h = rw ((Decides-eqb step k).1 same) h

after_inner : (k : ℕ) (i c : Leaf) (s o : Vertices) (step : ℕ) (rest : List ℕ) → nat_eq step k ≡ false → stands_at (suc k) o (step ∷ rest) ≡ true → stands_at k (InnerVertex i c s o) (step ∷ rest) ≡ true
after_inner k i c s o step rest other h = rw other h

after_blind : (k : ℕ) (hash : List ℕ) (o : Vertices) (step : ℕ) (rest : List ℕ) → nat_eq step k ≡ false → stands_at (suc k) o (step ∷ rest) ≡ true → stands_at k (BlindVertex hash o) (step ∷ rest) ≡ true
after_blind k hash o step rest other h = rw other h

at_later : (above : List ℕ) (k step : ℕ) (rest : List ℕ) → Region above (suc k) (above ++ step ∷ rest) → nat_eq step k ≡ false
at_later above k step rest r =
    let same = same_on above step r.step rest r.rest r.is in
    differs step k (subst (λ (n : ℕ). suc k ≤ n) (sym same.0) r.least)

-- a path below a vertex, or after it
inner_stands : (above : List ℕ) (k : ℕ) (u a : List (List ℕ)) (i c : Leaf) (s o : Vertices) (step : ℕ) (rest : List ℕ)
    → ((q : List ℕ) → In q u → Region (above ++ k ∷ []) 0 q) → ((q : List ℕ) → In q a → Region above (suc k) q)
    → ((j : ℕ) (r : List ℕ) → In ((above ++ k ∷ []) ++ j ∷ r) u → stands_at 0 s (j ∷ r) ≡ true)
    → (In (above ++ step ∷ rest) a → stands_at (suc k) o (step ∷ rest) ≡ true)
    → In (above ++ step ∷ rest) (u ++ a) → stands_at k (InnerVertex i c s o) (step ∷ rest) ≡ true
inner_stands above k u a i c s o step rest hu ha iu ia h = elim (in_append_cases u a (above ++ step ∷ rest) h) [
  | inl b ↦
      (let r = hu (above ++ step ∷ rest) b in
      let same = same_on above step k rest (r.step ∷ r.rest) (r.is ∙ one_on above k (r.step ∷ r.rest)) in
      here_stands k i c s o step rest same.0
      (subst (λ (q : List ℕ). is_end q || stands_at 0 s q ≡ true) (sym same.1) (iu r.step r.rest (subst (λ (q : List ℕ). In q u) r.is b))))
  | inr j ↦ after_inner k i c s o step rest (at_later above k step rest (ha (above ++ step ∷ rest) j)) (ia j)
]

-- or it is this vertex's
one_stands : (above : List ℕ) (k : ℕ) (u a : List (List ℕ)) (i c : Leaf) (s o : Vertices) (step : ℕ) (rest : List ℕ)
    → ((q : List ℕ) → In q u → Region (above ++ k ∷ []) 0 q) → ((q : List ℕ) → In q a → Region above (suc k) q)
    → ((j : ℕ) (r : List ℕ) → In ((above ++ k ∷ []) ++ j ∷ r) u → stands_at 0 s (j ∷ r) ≡ true)
    → (In (above ++ step ∷ rest) a → stands_at (suc k) o (step ∷ rest) ≡ true)
    → In (above ++ step ∷ rest) ((above ++ k ∷ []) ∷ (u ++ a)) → stands_at k (InnerVertex i c s o) (step ∷ rest) ≡ true
one_stands above k u a i c s o step rest hu ha iu ia (inl same) =
    let both = same_on above step k rest [] (sym same) in
    here_stands k i c s o step rest both.0 (subst (λ (q : List ℕ). is_end q || stands_at 0 s q ≡ true) (sym both.1) refl)
one_stands above k u a i c s o step rest hu ha iu ia (inr more) = inner_stands above k u a i c s o step rest hu ha iu ia more

all_of : {A : Type 0} (P : A → Bool) (xs : List A) → ((x : A) → In x xs → P x ≡ true) → list_all P xs ≡ true
all_of P [] h = refl
all_of P (x ∷ xs) h = and_from (P x) (list_all P xs) (h x (inl refl)) (all_of P xs (λ y i. h y (inr i)))

-- (where vertices stand doesn't depend on what their leaves and hashes are, so any will do)
module _ (sha : Hashing) (hosts : List ℕ → Bool) where
  all_stand : (above : List ℕ) (k : ℕ) (f : Forest SplitView) (step : ℕ) (rest : List ℕ) → In (above ++ step ∷ rest) (paths_in (paths_from above k f))
      → stands_at k (vertices_shown sha (shown_to hosts true f)) (step ∷ rest) ≡ true
  all_stand above k NoRoots step rest h = absurd h
  all_stand above k (Root view below others) step rest h =
      let path = above ++ k ∷ [] in
      let under = paths_from path 0 below in
      let after = paths_from above (suc k) others in
      one_stands above k (paths_in under) (paths_in after) (Blind []) (Blind []) (vertices_shown sha (shown_to hosts true below)) (vertices_shown sha (shown_to hosts true others)) step rest
      (all_in path 0 below) (all_in above (suc k) others) (all_stand path 0 below) (all_stand above (suc k) others step rest)
      (subst (In (above ++ step ∷ rest)) (paths_root (path, view) under after) h)

  no_sight : (above : List ℕ) (k : ℕ) (f : Forest SplitView) (q : List ℕ) → has_sight hosts f ≡ false → In q (paths_in (kept (is_sight hosts) (paths_from above k f))) → ⊥
  no_sight above k NoRoots q e h = absurd h
  no_sight above k (Root view below others) q e h =
      let path = above ++ k ∷ [] in
      let under = kept (is_sight hosts) (paths_from path 0 below) in
      let after = kept (is_sight hosts) (paths_from above (suc k) others) in
      let neither = or_false (is_sight hosts view) (list_any (is_sight hosts) (preorder below ++ preorder others)) e in
      let both = or_false (list_any (is_sight hosts) (preorder below)) (list_any (is_sight hosts) (preorder others))
      (sym (list_any-append (is_sight hosts) (preorder below) (preorder others)) ∙ neither.1) in
      let h' : In q (paths_in (join under after)) = rw neither.0 at h in
      elim (in_append_cases (paths_in under) (paths_in after) q (subst (In q) (paths_append under after) h')) [
        | inl b ↦ no_sight path 0 below q both.0 b
        | inr o ↦ no_sight above (suc k) others q both.1 o
      ]

  seen_stand : (above : List ℕ) (k : ℕ) (f : Forest SplitView) (step : ℕ) (rest : List ℕ) → In (above ++ step ∷ rest) (paths_in (kept (is_sight hosts) (paths_from above k f)))
      → stands_at k (vertices_shown sha (shown_to hosts false f)) (step ∷ rest) ≡ true
  seen_stand above k NoRoots step rest h = absurd h
  seen_stand above k (Root view below others) step rest h =
      let path = above ++ k ∷ [] in
      let q = above ++ step ∷ rest in
      let after = kept (is_sight hosts) (paths_from above (suc k) others) in
      let vertices = vertices_shown sha (shown_to hosts false others) in
      elim (cases_Bool (is_sight hosts view)) [
        | inl sees ↦
            (let under = paths_from path 0 below in
            let h' : In q (paths_in (Root (path, view) under after)) = rw sees at h in
            rw sees (one_stands above k (paths_in under) (paths_in after) (Blind []) (Blind []) (vertices_shown sha (shown_to hosts true below)) vertices step rest
            (all_in path 0 below) (kept_in (is_sight hosts) above (suc k) others) (all_stand path 0 below) (seen_stand above (suc k) others step rest)
            (subst (In q) (paths_root (path, view) under after) h')))
        | inr unseen ↦
            (let under = kept (is_sight hosts) (paths_from path 0 below) in
            let h0 : In q (paths_in (join under after)) = rw unseen at h in
            let h' = subst (In q) (paths_append under after) h0 in
            elim (cases_Bool (has_sight hosts below)) [
              | inl some ↦
                  rw (unseen, some) (inner_stands above k (paths_in under) (paths_in after) (Blind []) (Blind []) (vertices_shown sha (shown_to hosts false below)) vertices step rest
                  (kept_in (is_sight hosts) path 0 below) (kept_in (is_sight hosts) above (suc k) others) (seen_stand path 0 below) (seen_stand above (suc k) others step rest) h')
              | inr none ↦
                  elim (in_append_cases (paths_in under) (paths_in after) q h') [
                    | inl b ↦ absurd (no_sight path 0 below q none b)
                    | inr o ↦ rw (unseen, none) (after_blind k [] vertices step rest (at_later above k step rest (kept_in (is_sight hosts) above (suc k) others q o)) (seen_stand above (suc k) others step rest o))
                  ]
            ])
      ]

  -- each path that is seen
  pub all_seen_stand : (w : Forest SplitView) → list_all (stands_at 0 (vertices_shown sha (shown_to hosts false w))) (paths_in (seen_views hosts w)) ≡ true
  all_seen_stand w =
      all_of (stands_at 0 (vertices_shown sha (shown_to hosts false w))) (paths_in (seen_views hosts w))
      (λ q h.
      let r = kept_in (is_sight hosts) [] 0 w q h in
      subst (λ (p : List ℕ). stands_at 0 (vertices_shown sha (shown_to hosts false w)) p ≡ true) (sym r.is)
      (seen_stand [] 0 w r.step r.rest (subst (λ (p : List ℕ). In p (paths_in (seen_views hosts w))) r.is h)))
