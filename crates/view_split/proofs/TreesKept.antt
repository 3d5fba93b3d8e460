-- Trees of a forest that a projection keeps, and their numbers.
use Rattle.std.proofs.Common.{◌≡◌, ◌<◌, ℕ, zero, suc, ◌+◌, Bool, true, false, List, [], ◌∷◌, ◌++◌, length, Some, refl, sym, ap, ◌∙◌, subst, inl, inr, arith}
use Rattle.std.specs.Prelude.{slice_get, ◌-◌, nat_lt}
use Rattle.std.proofs.lemmas.Bool.{cases_Bool, both_ways, lt-ltb, le-ltb}
use Rattle.std.proofs.lemmas.Option.{none-some}
use Rattle.ledger_terms.specs.Forest.{Forest, NoRoots, Root, join, project, preorder, size, below_at, number_from}
use Rattle.ledger_model.specs.Forest.{trees_of, root_trees}
use Rattle.ledger_model.proofs.Lists.{In, in_append_left, in_append_right, in_append_cases}
use Rattle.view_split.proofs.Once.{size_is_length}

module _ {A : Type 0} where
  trees_join : (f g : Forest A) → trees_of (join f g) ≡ trees_of f ++ trees_of g
  trees_join NoRoots g = refl
  trees_join (Root x below others) g =
      ap (λ (ts : List (A × Forest A)). (x, below) ∷ (trees_of below ++ ts)) (trees_join others g)
      ∙ ap (λ (ts : List (A × Forest A)). (x, below) ∷ ts) (sym (append_three (trees_of below) (trees_of others) (trees_of g)))
    where
      append_three : {X : Type 0} (xs ys zs : List X) → (xs ++ ys) ++ zs ≡ xs ++ (ys ++ zs)
      append_three [] ys zs = refl
      append_three (x ∷ xs) ys zs = ap (λ (ws : List _). x ∷ ws) (append_three xs ys zs)

  -- the tree of what is kept stays whole
  pub tree_kept : (keeps : A → Bool) (f : Forest A) (tree : A × Forest A) → In tree (trees_of f) → keeps tree.0 ≡ true → In tree (trees_of (project keeps f))
  tree_kept keeps NoRoots tree h e = absurd h
  tree_kept keeps (Root x below others) tree h e =
      elim (cases_Bool (keeps x)) [
        | inl kept ↦ rw kept (elim h [
          | inl same ↦ inl same
          | inr t ↦ elim (in_append_cases (trees_of below) (trees_of others) tree t) [
            | inl l ↦ inr (in_append_left (trees_of below) (trees_of (project keeps others)) tree l)
            | inr o ↦ inr (in_append_right (trees_of below) (trees_of (project keeps others)) tree (tree_kept keeps others tree o e))
          ]
        ])
        | inr dropped ↦ rw dropped (subst (λ (ts : List (A × Forest A)). In tree ts) (sym (trees_join (project keeps below) (project keeps others))) (elim h [
          | inl same ↦ absurd (both_ways _ (sym (ap (λ (t : A × Forest A). keeps t.0) same) ∙ dropped) e)
          | inr t ↦ elim (in_append_cases (trees_of below) (trees_of others) tree t) [
            | inl l ↦ in_append_left (trees_of (project keeps below)) (trees_of (project keeps others)) tree (tree_kept keeps below tree l e)
            | inr o ↦ in_append_right (trees_of (project keeps below)) (trees_of (project keeps others)) tree (tree_kept keeps others tree o e)
          ]
        ]))
      ]

  pub root_of_tree : (f : Forest A) (tree : A × Forest A) → In tree (trees_of f) → In tree.0 (preorder f)
  root_of_tree NoRoots tree h = absurd h
  root_of_tree (Root x below others) tree (inl same) = inl (ap (λ (t : A × Forest A). t.0) same)
  root_of_tree (Root x below others) tree (inr t) =
      elim (in_append_cases (trees_of below) (trees_of others) tree t) [
        | inl l ↦ inr (in_append_left (preorder below) (preorder others) tree.0 (root_of_tree below tree l))
        | inr o ↦ inr (in_append_right (preorder below) (preorder others) tree.0 (root_of_tree others tree o))
      ]

  pub is_tree : (f : Forest A) (tree : A × Forest A) → In tree (root_trees f) → In tree (trees_of f)
  is_tree NoRoots tree h = absurd h
  is_tree (Root x below others) tree (inl same) = inl same
  is_tree (Root x below others) tree (inr t) = inr (in_append_right (trees_of below) (trees_of others) tree (is_tree others tree t))

  at_left : (xs ys : List A) (i : ℕ) (a : A) → slice_get xs i ≡ Some a → slice_get (xs ++ ys) i ≡ Some a
  at_left [] ys i a e = absurd (none-some a e)
  at_left (x ∷ xs) ys zero a e = e
  at_left (x ∷ xs) ys (suc i) a e = at_left xs ys i a e

  at_right : (xs ys : List A) (i : ℕ) (a : A) → slice_get ys i ≡ Some a → slice_get (xs ++ ys) (length xs + i) ≡ Some a
  at_right [] ys i a e = let same : 0 + i ≡ i = omega arith in rw same e
  at_right (x ∷ xs) ys i a e = let same : suc (length xs) + i ≡ suc (length xs + i) = omega arith in rw same (at_right xs ys i a e)

  place_below : (xs : List A) (i : ℕ) (a : A) → slice_get xs i ≡ Some a → i < length xs
  place_below [] i a e = absurd (none-some a e)
  place_below (x ∷ xs) zero a e = omega arith
  place_below (x ∷ xs) (suc i) a e = let r = place_below xs i a e in omega (arith, r)

  pub below_next : (x : A) (below others : Forest A) (m : ℕ) → below_at (suc (size below + m)) (Root x below others) ≡ below_at m others
  below_next x below others m =
      let past : nat_lt (size below + m) (size below) ≡ false = le-ltb (size below + m) (size below) (omega arith) in
      let left : size below + m - size below ≡ m = omega arith in
      rw (past, left) refl

  pub below_join : (f g : Forest A) (m : ℕ) → below_at (size f + m) (join f g) ≡ below_at m g
  below_join NoRoots g m = ap (λ (k : ℕ). below_at k g) (omega arith)
  below_join (Root x below others) g m =
      let same : size (Root x below others) + m ≡ suc (size below + (size others + m)) = omega arith in
      ap (λ (k : ℕ). below_at k (Root x below (join others g))) same ∙ (below_next x below (join others g) (size others + m) ∙ below_join others g m)

  -- each tree has a number, below which it is
  pub tree_at_number : (f : Forest A) (tree : A × Forest A) → In tree (trees_of f) → (i : ℕ) × (slice_get (preorder f) i ≡ Some tree.0) × (below_at i f ≡ tree.1)
  tree_at_number NoRoots tree h = absurd h
  tree_at_number (Root x below others) tree (inl same) = (0, ap (λ (t : A × Forest A). Some t.0) same, ap (λ (t : A × Forest A). t.1) same)
  tree_at_number (Root x below others) tree (inr t) =
      elim (in_append_cases (trees_of below) (trees_of others) tree t) [
        | inl l ↦
            let r = tree_at_number below tree l in
            let inside = place_below (preorder below) r.0 tree.0 r.1 in
            let sized = size_is_length below in
            let here : nat_lt r.0 (size below) ≡ true = lt-ltb r.0 (size below) (omega (arith, inside, sized)) in
            (suc r.0, at_left (preorder below) (preorder others) r.0 tree.0 r.1, rw here r.2)
        | inr o ↦
            let r = tree_at_number others tree o in
            (suc (size below + r.0), ap (λ (k : ℕ). slice_get (preorder below ++ preorder others) (k + r.0)) (size_is_length below) ∙ at_right (preorder below) (preorder others) r.0 tree.0 r.1, below_next x below others r.0 ∙ r.2)
      ]

  pub size-join : (f g : Forest A) → size (join f g) ≡ size f + size g
  size-join NoRoots g = omega arith
  size-join (Root x below others) g = let r = size-join others g in omega (arith, r)

  pub number-join : (n : ℕ) (f g : Forest A) → number_from n (join f g) ≡ join (number_from n f) (number_from (n + size f) g)
  number-join n NoRoots g = ap (λ (k : ℕ). number_from k g) (omega arith)
  number-join n (Root x below others) g =
      let same : suc n + size below + size others ≡ n + size (Root x below others) = omega arith in
      ap (Root (n, x) (number_from (suc n) below)) (number-join (suc n + size below) others g ∙ ap (λ (k : ℕ). join (number_from (suc n + size below) others) (number_from k g)) same)
