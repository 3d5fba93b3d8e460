-- A view is opened at each path that is seen.
use Rattle.std.proofs.Common.{◌≡◌, ℕ, suc, Bool, true, false, List, [], ◌∷◌, ◌++◌, map, Ok, refl, sym, ap, ◌∙◌, subst, inl, inr}
use Rattle.std.specs.Prelude.{◌||◌, nat_eq, if◌then◌else◌}
use Rattle.std.specs.Str.{bytes_eq}
use Rattle.std.proofs.lemmas.Bool.{both_ways, cases_Bool}
use Rattle.std.proofs.lemmas.Bool.Decides.{Decides-eqb}
use Rattle.std.proofs.lemmas.Slice.Eq.{bytes_eq-Decides}
use Rattle.ledger_terms.specs.Forest.{Forest, join, paths_from}
use Rattle.ledger_terms.specs.Grown.{tree_of}
use Rattle.ledger_model.specs.Opening.{OpenedView}
use Rattle.ledger_model.proofs.Lists.{In, in_any, in_append_left, in_append_right}
use Rattle.view_split.specs.Placed.{placed_forest, shown_by}
use Rattle.view_split.specs.ViewTrees.{View}
use Rattle.view_split.specs.declared.opened_tree.OpenedTree.{OpenedTree}
use Rattle.view_split.specs.declared.placed_view.PlacedView.{PlacedView}
use Rattle.view_split.specs.declared.split_view.SplitView.{SplitView}
use Rattle.blind_tree.specs.OpenedFor.{are_listed, is_end, is_listed, missing, stands_at, views_listed}
use Rattle.blind_tree.specs.Opening.{parts_read, placed, view_of, view_read, views_read, with_read}
use Rattle.blind_tree.specs.Vertices.{Vertices, NoVertices, BlindVertex, InnerVertex, count}
use Rattle.blind_tree.specs.declared.leaf.Leaf.{Leaf}
use Rattle.blind_tree.specs.declared.tree.Tree.{Tree}
use Rattle.framed_form.specs.Frames.{paths_in}
use Rattle.framed_form.proofs.Filled.{opened_filled}
use Rattle.framed_form.proofs.Listed.{one_on, paths_append, paths_root}
use Rattle.framed_form.proofs.Lying.{done, if_there, read_ok, same_ok}
use Rattle.framed_form.proofs.Rising.{paths_of, placed_append}
use Rattle.framed_form.proofs.ShownPaths.{shown_paths}
use Rattle.framed_form.proofs.Wholes.{Opens, all_from}

-- a path that begins with a vertex's number is the vertex's or one below it
here_in : (above : List ℕ) (k step : ℕ) (rest : List ℕ) (s : Vertices) (u a : List (List ℕ)) → step ≡ k → (is_end rest || stands_at 0 s rest) ≡ true
    → ((j : ℕ) (more : List ℕ) → stands_at 0 s (j ∷ more) ≡ true → In ((above ++ k ∷ []) ++ j ∷ more) u)
    → In (above ++ step ∷ rest) ((above ++ k ∷ []) ∷ (u ++ a))
here_in above k step [] s u a same h below = inl (ap (λ (n : ℕ). above ++ n ∷ []) (sym same))
here_in above k step (j ∷ more) s u a same h below =
    inr (in_append_left u a (above ++ step ∷ (j ∷ more))
    (subst (λ (q : List ℕ). In q u) (one_on above k (j ∷ more) ∙ ap (λ (n : ℕ). above ++ n ∷ (j ∷ more)) (sym same)) (below j more h)))

-- where all views are read, one is read at each place of a vertex
read_stands : (above : List ℕ) (k : ℕ) (v : Vertices) (f : Forest SplitView) (step : ℕ) (rest : List ℕ) → views_read v ≡ Ok f
    → stands_at k v (step ∷ rest) ≡ true → In (above ++ step ∷ rest) (paths_in (paths_from above k f))
read_stands above k NoVertices f step rest e h = absurd (both_ways false refl h)
read_stands above k (BlindVertex hash others) f step rest e h = absurd cc
read_stands above k (InnerVertex i c s o) f step rest e h =
    let path = above ++ k ∷ [] in
    let parts = read_ok (parts_read i c (count s)) _ f e in
    let under = read_ok (views_read s) _ f parts.2 in
    let after = read_ok (views_read o) _ f under.2 in
    let view = view_of parts.0 under.0 in
    let inside = paths_from path 0 under.0 in
    let beside = paths_from above (suc k) after.0 in
    subst (λ (g : Forest SplitView). In (above ++ step ∷ rest) (paths_in (paths_from above k g))) (same_ok (join (tree_of view) after.0) f after.2)
    (subst (In (above ++ step ∷ rest)) (sym (paths_root (path, view.root) inside beside))
    (elim (cases_Bool (nat_eq step k)) [
      | inl is ↦
          (let there : (is_end rest || stands_at 0 s rest) ≡ true = rw is at h in
          here_in above k step rest s (paths_in inside) (paths_in beside) ((Decides-eqb step k).0 is) there
          (λ j more g. read_stands path 0 s under.0 j more under.1 g))
      | inr out ↦
          (let there : stands_at (suc k) o (step ∷ rest) ≡ true = rw out at h in
          inr (in_append_right (paths_in inside) (paths_in beside) (above ++ step ∷ rest) (read_stands above (suc k) o after.0 step rest after.1 there)))
    ]))

-- the views below one that is read
read_below : (i c : Leaf) (s : Vertices) (view : View) → view_read i c s ≡ Ok view → (f : Forest SplitView) × (views_read s ≡ Ok f) × (f ≡ view.below)
read_below i c s view e =
    let parts = read_ok (parts_read i c (count s)) _ view e in
    let under = read_ok (views_read s) _ view parts.2 in
    (under.0, under.1, ap (λ (v : View). v.below) (same_ok (view_of parts.0 under.0) view under.2))

module _ (listed : List ℕ → Bool) where
  -- what isn't listed isn't a path that is
  not_listed : (above : List ℕ) (k step : ℕ) → step ≡ k → listed (above ++ k ∷ []) ≡ false → listed (above ++ step ∷ []) ≡ true → ⊥
  not_listed above k step same out is = both_ways (listed (above ++ k ∷ [])) out (ap (λ (n : ℕ). listed (above ++ n ∷ [])) (sym same) ∙ is)

  opened_at : (above : List ℕ) (k : ℕ) (v : Vertices) (ps : List PlacedView) (step : ℕ) (rest : List ℕ) → listed (above ++ step ∷ rest) ≡ true
      → stands_at k v (step ∷ rest) ≡ true → views_listed listed above k v ≡ Ok ps → In (above ++ step ∷ rest) (paths_of ps)
  opened_at above k NoVertices ps step rest wanted h e = absurd (both_ways false refl h)
  opened_at above k (BlindVertex hash others) ps step rest wanted h e =
      elim (cases_Bool (listed (above ++ k ∷ []))) [
        | inl is ↦ (let none : missing ≡ done ps = rw is at e in absurd (not_there ps none))
        | inr out ↦
            (let more : views_listed listed above (suc k) others ≡ Ok ps = rw out at e in
            elim (cases_Bool (nat_eq step k)) [
              | inl here ↦ (let end : is_end rest ≡ true = rw here at h in absurd (at_end rest end wanted ((Decides-eqb step k).0 here) out))
              | inr other ↦ (let there : stands_at (suc k) others (step ∷ rest) ≡ true = rw other at h in opened_at above (suc k) others ps step rest wanted there more)
            ])
      ]
    where
      not_there : {A : Type 0} (x : A) → missing ≡ done x → ⊥
      not_there x e = cc

      at_end : (rest : List ℕ) → is_end rest ≡ true → listed (above ++ step ∷ rest) ≡ true → step ≡ k → listed (above ++ k ∷ []) ≡ false → ⊥
      at_end [] end is same out = not_listed above k step same out is
      at_end (j ∷ more) end is same out = both_ways false refl end
  opened_at above k (InnerVertex i c s o) ps step rest wanted h e =
      let path = above ++ k ∷ [] in
      elim (cases_Bool (listed path)) [
        | inl is ↦
            (let e1 : (if are_listed listed path 0 s then with_read (view_read i c s) (λ (view : View). with_read (views_listed listed above (suc k) o) (λ (more : List PlacedView). done (placed path view ∷ more))) else missing) ≡ Ok ps = rw is at e in
            let all = if_there (are_listed listed path 0 s) _ ps e1 in
            let view = read_ok (view_read i c s) _ ps all.1 in
            let more = read_ok (views_listed listed above (suc k) o) _ ps view.2 in
            let under = read_below i c s view.0 view.1 in
            let inside = paths_from path 0 (view.0).below in
            subst (λ (qs : List PlacedView). In (above ++ step ∷ rest) (paths_of qs)) (same_ok (placed path view.0 ∷ more.0) ps more.2)
            (subst (In (above ++ step ∷ rest)) (sym (paths_root (path, (view.0).root) inside (placed_forest more.0)))
            (elim (cases_Bool (nat_eq step k)) [
              | inl here ↦
                  (let there : (is_end rest || stands_at 0 s rest) ≡ true = rw here at h in
                  here_in above k step rest s (paths_in inside) (paths_of more.0) ((Decides-eqb step k).0 here) there
                  (λ j deeper g. subst (λ (f : Forest SplitView). In (path ++ j ∷ deeper) (paths_in (paths_from path 0 f))) under.2 (read_stands path 0 s under.0 j deeper under.1 g)))
              | inr other ↦
                  (let there : stands_at (suc k) o (step ∷ rest) ≡ true = rw other at h in
                  inr (in_append_right (paths_in inside) (paths_of more.0) (above ++ step ∷ rest) (opened_at above (suc k) o more.0 step rest wanted there more.1)))
            ])))
        | inr out ↦
            (let e1 : with_read (views_listed listed path 0 s) (λ (first : List PlacedView). with_read (views_listed listed above (suc k) o) (λ (more : List PlacedView). done (first ++ more))) ≡ Ok ps = rw out at e in
            let first = read_ok (views_listed listed path 0 s) _ ps e1 in
            let more = read_ok (views_listed listed above (suc k) o) _ ps first.2 in
            let apart : paths_of (first.0 ++ more.0) ≡ paths_of first.0 ++ paths_of more.0 =
            ap (λ (f : Forest (List ℕ × SplitView)). paths_in f) (placed_append first.0 more.0) ∙ paths_append (placed_forest first.0) (placed_forest more.0) in
            subst (λ (qs : List PlacedView). In (above ++ step ∷ rest) (paths_of qs)) (same_ok (first.0 ++ more.0) ps more.2)
            (subst (In (above ++ step ∷ rest)) (sym apart)
            (elim (cases_Bool (nat_eq step k)) [
              | inl here ↦
                  (let there : (is_end rest || stands_at 0 s rest) ≡ true = rw here at h in
                  in_append_left (paths_of first.0) (paths_of more.0) (above ++ step ∷ rest)
                  (deeper (paths_of first.0) rest (λ j below g w. opened_at path 0 s first.0 j below w g first.1) ((Decides-eqb step k).0 here) out wanted there))
              | inr other ↦
                  (let there : stands_at (suc k) o (step ∷ rest) ≡ true = rw other at h in
                  in_append_right (paths_of first.0) (paths_of more.0) (above ++ step ∷ rest) (opened_at above (suc k) o more.0 step rest wanted there more.1))
            ])))
      ]
    where
      deeper : (qs : List (List ℕ)) (rest : List ℕ)
          → ((j : ℕ) (below : List ℕ) → stands_at 0 s (j ∷ below) ≡ true → listed ((above ++ k ∷ []) ++ j ∷ below) ≡ true → In ((above ++ k ∷ []) ++ j ∷ below) qs)
          → step ≡ k → listed (above ++ k ∷ []) ≡ false → listed (above ++ step ∷ rest) ≡ true → (is_end rest || stands_at 0 s rest) ≡ true → In (above ++ step ∷ rest) qs
      deeper qs [] go same out is there = absurd (not_listed above k step same out is)
      deeper qs (j ∷ below) go same out is there =
          let one : (above ++ k ∷ []) ++ j ∷ below ≡ above ++ step ∷ (j ∷ below) = one_on above k (j ∷ below) ∙ ap (λ (n : ℕ). above ++ n ∷ (j ∷ below)) (sym same) in
          subst (λ (q : List ℕ). In q qs) one (go j below there (ap listed one ∙ is))

-- a view is shown at each path that is seen
pub shown_seen : (seen : List (List ℕ)) (wanted : Bool) (t : Tree) (opened : OpenedTree) → Opens seen wanted t opened → (path : List ℕ) → In path seen
    → In path (map (λ (v : OpenedView). v.path) (shown_by opened).views)
shown_seen seen wanted t opened opens path there =
    let stands = all_from (stands_at 0 t.views) seen path opens.stand there in
    let listed = in_any (bytes_eq path) seen path there ((bytes_eq-Decides path path).1 refl) in
    subst (λ (ps : List (List ℕ)). In path ps) (sym (shown_paths opened (opened_filled seen wanted t opened opens))) (at path stands listed)
  where
    nowhere : (v : Vertices) → stands_at 0 v [] ≡ true → ⊥
    nowhere NoVertices h = both_ways false refl h
    nowhere (BlindVertex hash others) h = both_ways false refl h
    nowhere (InnerVertex i c s o) h = both_ways false refl h

    at : (path : List ℕ) → stands_at 0 t.views path ≡ true → is_listed seen path ≡ true → In path (paths_of opened.views)
    at [] stands listed = absurd (nowhere t.views stands)
    at (step ∷ rest) stands listed = opened_at (is_listed seen) [] 0 t.views opened.views step rest listed stands opens.views
