-- A root that is seen is opened as a root view.
use Rattle.std.proofs.Common.{◌≡◌, ℕ, suc, ◌+◌, Bool, true, false, List, [], ◌∷◌, refl, sym, ap, ◌∙◌, subst, inl, inr, arith}
use Rattle.std.specs.List.{list_any}
use Rattle.std.proofs.lemmas.Bool.{cases_Bool, both_ways}
use Rattle.ledger_terms.specs.Roots.{trees_count}
use Rattle.ledger_terms.specs.declared.act.Act.{Act}
use Rattle.ledger_terms.specs.Forest.{Forest, NoRoots, Root, join, project, preorder, size, below_at, number_from, paths_from}
use Rattle.ledger_terms.specs.declared.action.Action.{Action}
use Rattle.ledger_model.specs.Terms.{Name, PartySet, Path}
use Rattle.ledger_model.specs.Forest.{root_trees}
use Rattle.ledger_model.specs.declared.roles.Roles.{Roles}
use Rattle.ledger_model.specs.Views.{its_informees}
use Rattle.ledger_model.proofs.Lists.{In, in_append_right}
use Rattle.ledger_model.proofs.Projected.{preorder_join}
use Rattle.view_split.specs.Holed.{Holed}
use Rattle.view_split.specs.declared.split_view.SplitView.{SplitView}
use Rattle.view_split.specs.Split.{view_at, split_below, split}
use Rattle.view_split.specs.Numbered.{map_forest, core_in, held_in, with_cores}
use Rattle.view_split.specs.SeenViews.{is_sight}
use Rattle.view_split.proofs.Sight.{is_told, map_project, without_paths, same_below}
use Rattle.view_split.proofs.TreesKept.{below_next, below_join, number-join}

module _ {V B : Type 0} (below_of : V → Holed Act) where
  -- as many trees as views
  pub cores-join : (v w : Forest V) (t u : Forest B) → trees_count v ≡ trees_count t → with_cores below_of (join v w) (join t u) ≡ join (with_cores below_of v t) (with_cores below_of w u)
  cores-join NoRoots w NoRoots u e = refl
  cores-join NoRoots w (Root x c m) u e = absurd (omega (arith, e))
  cores-join (Root view s o) w NoRoots u e = absurd (omega (arith, e))
  cores-join (Root view s o) w (Root x c m) u e =
      ap (Root (view, x ∷ core_in (below_of view) c) (with_cores below_of s (held_in (below_of view) c))) (cores-join o w m u (omega (arith, e)))

count_mapped : {A B : Type 0} (g : A → B) (f : Forest A) → trees_count (map_forest g f) ≡ trees_count f
count_mapped g NoRoots = refl
count_mapped g (Root x below others) = ap suc (count_mapped g others)

count_numbered : {A : Type 0} (n : ℕ) (f : Forest A) → trees_count (number_from n f) ≡ trees_count f
count_numbered n NoRoots = refl
count_numbered n (Root x below others) = ap suc (count_numbered (suc n + size below) others)

count_split : (roles : Action → Roles) (f : Forest Act) → trees_count (split roles f) ≡ trees_count f
count_split roles NoRoots = refl
count_split roles (Root act below others) = ap suc (count_split roles others)

abbrev pub Entry : Type 0
Entry = (Path × SplitView) × List (ℕ × Act)

-- the view that a root starts, with the root's number from n on
pub record RootShown (roles : Action → Roles) (n : ℕ) (opened : Forest Entry) (acts : Forest Act) (tree : Act × Forest Act) : Type 0 where
  pub entry : Entry
  pub there : In entry (preorder opened)
  pub step : ℕ
  pub path : (entry.0).0 ≡ step ∷ []
  pub view : (entry.0).1 ≡ view_at roles tree.0 tree.1
  pub number : ℕ
  pub rest : List (ℕ × Act)
  pub core : entry.1 ≡ (n + number, tree.0) ∷ rest
  pub below : below_at number acts ≡ tree.1

module _ (roles : Action → Roles) (hosts : Name → Bool) where
  abbrev told : Forest Act → Forest Act
  told f = project (is_told roles hosts) f

  abbrev sights : Forest (Path × SplitView) → Forest (Path × SplitView)
  sights v = project (λ (view : Path × SplitView). is_sight hosts view.1) v

  abbrev core_of_placed : Path × SplitView → Holed Act
  core_of_placed view = (view.1).below

  abbrev opened_from : (n k : ℕ) → Forest Act → Forest Entry
  opened_from n k f = with_cores core_of_placed (sights (paths_from [] k (split roles f))) (number_from n (told f))

  as_many : (path : Path) (e : PartySet) (n : ℕ) (f : Forest Act) → list_any hosts e ≡ false → trees_count (sights (paths_from path 0 (split_below roles e f))) ≡ trees_count (number_from n (told f))
  as_many path e n f out =
      sym (count_mapped (λ (v : Path × SplitView). v.1) (sights (paths_from path 0 (split_below roles e f))))
      ∙ (ap (λ (v : Forest SplitView). trees_count v)
      (map_project (λ (v : Path × SplitView). v.1) (is_sight hosts) (paths_from path 0 (split_below roles e f))
      ∙ (ap (project (is_sight hosts)) (without_paths path 0 (split_below roles e f)) ∙ same_below roles hosts e f out))
      ∙ (count_split roles (told f) ∙ sym (count_numbered n (told f))))

  pub root_shown : (n k : ℕ) (f : Forest Act) (tree : Act × Forest Act) → In tree (root_trees f) → list_any hosts (its_informees roles tree.0) ≡ true → RootShown roles n (opened_from n k f) (told f) tree
  root_shown n k NoRoots tree h e = absurd h
  root_shown n k (Root act below others) tree h e =
      elim (cases_Bool (list_any hosts (its_informees roles act))) [
        | inl seen ↦ rw seen (elim h [
          | inl same ↦ record {
            entry = ((k ∷ [], view_at roles act below), (n, act) ∷ core_in (view_at roles act below).below (number_from (suc n) below));
            there = inl refl;
            step = k;
            path = refl;
            view = (λ i. view_at roles (same i).0 (same i).1);
            number = 0;
            rest = core_in (view_at roles act below).below (number_from (suc n) below);
            core = (λ i. (plus_none n i, (same i).0) ∷ core_in (view_at roles act below).below (number_from (suc n) below));
            below = ap (λ (t : Act × Forest Act). t.1) same;
          }
          | inr t ↦
              let r = root_shown (suc n + size below) (suc k) others tree t e in
              let same : suc n + size below + r.number ≡ n + suc (size below + r.number) = omega arith in
              record {
                entry = r.entry;
                there = inr (in_append_right _ (preorder (opened_from (suc n + size below) (suc k) others)) r.entry r.there);
                step = r.step;
                path = r.path;
                view = r.view;
                number = suc (size below + r.number);
                rest = r.rest;
                core = r.core ∙ ap (λ (m : ℕ). (m, tree.0) ∷ r.rest) same;
                below = below_next act below (told others) r.number ∙ r.below;
              }
        ])
        | inr out ↦ rw out (elim h [
          | inl same ↦ absurd (both_ways _ (sym (ap (λ (t : Act × Forest Act). list_any hosts (its_informees roles t.0)) same) ∙ out) e)
          | inr t ↦
              let path = k ∷ [] in
              let first = sights (paths_from path 0 (split_below roles (its_informees roles act) below)) in
              let later = sights (paths_from [] (suc k) (split roles others)) in
              let r = root_shown (n + size (told below)) (suc k) others tree t e in
              let same : n + size (told below) + r.number ≡ n + (size (told below) + r.number) = omega arith in
              let parts : with_cores core_of_placed (join first later) (number_from n (join (told below) (told others)))
              ≡ join (with_cores core_of_placed first (number_from n (told below))) (opened_from (n + size (told below)) (suc k) others) =
              ap (with_cores core_of_placed (join first later)) (number-join n (told below) (told others))
              ∙ cores-join core_of_placed first later (number_from n (told below)) (number_from (n + size (told below)) (told others)) (as_many path (its_informees roles act) n below out) in
              record {
                entry = r.entry;
                there = subst (λ (f : Forest Entry). In r.entry (preorder f)) (sym parts)
                    (subst (λ (xs : List Entry). In r.entry xs) (sym (preorder_join (with_cores core_of_placed first (number_from n (told below))) (opened_from (n + size (told below)) (suc k) others)))
                    (in_append_right _ (preorder (opened_from (n + size (told below)) (suc k) others)) r.entry r.there));
                step = r.step;
                path = r.path;
                view = r.view;
                number = size (told below) + r.number;
                rest = r.rest;
                core = r.core ∙ ap (λ (m : ℕ). (m, tree.0) ∷ r.rest) same;
                below = below_join (told below) (told others) r.number ∙ r.below;
              }
        ])
      ]
    where
      plus_none : (n : ℕ) → n ≡ n + 0
      plus_none n = omega arith
