-- Which paths of a forest are listed, read off its structure.
use Rattle.std.proofs.Common.{◌≡◌, ℕ, suc, ◌≤◌, Bool, true, false, List, [], ◌∷◌, ◌++◌, map, refl, sym, ap, ◌∙◌, subst, inl, inr, arith, append_assoc}
use Rattle.std.specs.Prelude.{◌||◌}
use Rattle.std.specs.Str.{bytes_eq}
use Rattle.std.proofs.lemmas.Bool.{cases_Bool}
use Rattle.std.proofs.lemmas.List.Folds.{list_any-append}
use Rattle.std.proofs.lemmas.Slice.Eq.{bytes_eq-Decides}
use Rattle.ledger_terms.specs.Forest.{Forest, NoRoots, Root, join, paths_from, preorder, project}
use Rattle.ledger_model.proofs.Lists.{In, in_append_cases, from_any}
use Rattle.ledger_model.proofs.Projected.{preorder_join}
use Rattle.view_split.proofs.Fitting.{map-append}
use Rattle.framed_form.specs.Frames.{paths_in}
use Rattle.blind_tree.specs.OpenedFor.{is_listed}

-- a path that stands below another, at a number from k on
pub record Region (above : List ℕ) (k : ℕ) (q : List ℕ) : Type 0 where
  pub step : ℕ
  pub rest : List ℕ
  pub least : k ≤ step
  pub is : q ≡ above ++ step ∷ rest

-- two ways on from one path
pub same_on : (above : List ℕ) (j k : ℕ) (r s : List ℕ) → above ++ j ∷ r ≡ above ++ k ∷ s → (j ≡ k) × (r ≡ s)
same_on [] j k r s e = (cc, cc)
same_on (a ∷ above) j k r s e = let e' : above ++ j ∷ r ≡ above ++ k ∷ s = cc in same_on above j k r s e'

pub one_on : (above : List ℕ) (k : ℕ) (r : List ℕ) → (above ++ k ∷ []) ++ r ≡ above ++ k ∷ r
one_on above k r = append_assoc above (k ∷ []) r

-- what stands below number k doesn't end there, and doesn't stand at a later number
not_end : (above : List ℕ) (k j : ℕ) (r : List ℕ) → (above ++ k ∷ []) ++ j ∷ r ≡ above ++ k ∷ [] → ⊥
not_end above k j r e =
    let same = same_on above k k (j ∷ r) [] (sym (one_on above k (j ∷ r)) ∙ e) in
    nothing same.1
  where
    nothing : (j ∷ r ≡ []) → ⊥
    nothing h = cc

pub paths_append : {A : Type 0} (f g : Forest (List ℕ × A)) → paths_in (join f g) ≡ paths_in f ++ paths_in g
paths_append {A} f g = ap (map (λ (v : List ℕ × A). v.0)) (preorder_join f g) ∙ map-append (λ (v : List ℕ × A). v.0) (preorder f) (preorder g)

pub paths_root : {A : Type 0} (x : List ℕ × A) (f g : Forest (List ℕ × A)) → paths_in (Root x f g) ≡ x.0 ∷ (paths_in f ++ paths_in g)
paths_root {A} x f g = ap (λ (ps : List (List ℕ)). x.0 ∷ ps) (map-append (λ (v : List ℕ × A). v.0) (preorder f) (preorder g))

pub deeper : (above : List ℕ) (k : ℕ) (q : List ℕ) → Region (above ++ k ∷ []) 0 q → Region above k q
deeper above k q r = record { step = k; rest = r.step ∷ r.rest; least = omega arith; is = r.is ∙ one_on above k (r.step ∷ r.rest) }

pub later : (above : List ℕ) (k : ℕ) (q : List ℕ) → Region above (suc k) q → Region above k q
later above k q r = let l = r.least in record { step = r.step; rest = r.rest; least = omega (arith, l); is = r.is }

module _ {A : Type 0} where
  -- the paths of a forest stand in its region
  pub all_in : (above : List ℕ) (k : ℕ) (f : Forest A) (q : List ℕ) → In q (paths_in (paths_from above k f)) → Region above k q
  all_in above k NoRoots q h = absurd h
  all_in above k (Root x below others) q h =
      let path = above ++ k ∷ [] in
      elim (subst (In q) (paths_root (path, x) (paths_from path 0 below) (paths_from above (suc k) others)) h) [
        | inl same ↦ record { step = k; rest = []; least = omega arith; is = sym same }
        | inr more ↦ elim (in_append_cases (paths_in (paths_from path 0 below)) (paths_in (paths_from above (suc k) others)) q more) [
          | inl b ↦ deeper above k q (all_in path 0 below q b)
          | inr o ↦ later above k q (all_in above (suc k) others q o)
        ]
      ]

  module _ (keeps : A → Bool) where
    abbrev pub kept : Forest (List ℕ × A) → Forest (List ℕ × A)
    kept f = project (λ (v : List ℕ × A). keeps v.1) f

    pub kept_in : (above : List ℕ) (k : ℕ) (f : Forest A) (q : List ℕ) → In q (paths_in (kept (paths_from above k f))) → Region above k q
    kept_in above k NoRoots q h = absurd h
    kept_in above k (Root x below others) q h =
        let path = above ++ k ∷ [] in
        elim (cases_Bool (keeps x)) [
          | inl is ↦
              let h' : In q (paths_in (Root (path, x) (paths_from path 0 below) (kept (paths_from above (suc k) others)))) = rw is at h in
              elim (subst (In q) (paths_root (path, x) (paths_from path 0 below) (kept (paths_from above (suc k) others))) h') [
                | inl same ↦ record { step = k; rest = []; least = omega arith; is = sym same }
                | inr more ↦ elim (in_append_cases (paths_in (paths_from path 0 below)) (paths_in (kept (paths_from above (suc k) others))) q more) [
                  | inl b ↦ deeper above k q (all_in path 0 below q b)
                  | inr o ↦ later above k q (kept_in above (suc k) others q o)
                ]
              ]
          | inr out ↦
              let h' : In q (paths_in (join (kept (paths_from path 0 below)) (kept (paths_from above (suc k) others)))) = rw out at h in
              elim (in_append_cases (paths_in (kept (paths_from path 0 below))) (paths_in (kept (paths_from above (suc k) others))) q
              (subst (In q) (paths_append (kept (paths_from path 0 below)) (kept (paths_from above (suc k) others))) h')) [
                | inl b ↦ deeper above k q (kept_in path 0 below q b)
                | inr o ↦ later above k q (kept_in above (suc k) others q o)
              ]
        ]

    -- the paths of a forest that are listed are those of what is kept, with all below it
    abbrev pub Lists : (List ℕ → Bool) → (sees : Bool) → List ℕ → ℕ → Forest A → Type 0
    Lists listed sees above k NoRoots = Unit {0}
    Lists listed sees above k (Root x below others) =
        (listed (above ++ k ∷ []) ≡ (sees || keeps x))
        × Lists listed (sees || keeps x) (above ++ k ∷ []) 0 below
        × Lists listed sees above (suc k) others

-- the test agrees with a list in a region
abbrev Agrees : (List ℕ → Bool) → List (List ℕ) → List ℕ → ℕ → Type 0
Agrees listed paths above k = (q : List ℕ) → Region above k q → listed q ≡ is_listed paths q

unlisted : (paths : List (List ℕ)) (q : List ℕ) → (In q paths → ⊥) → is_listed paths q ≡ false
unlisted paths q none =
    elim (cases_Bool (is_listed paths q)) [
      | inr out ↦ out
      | inl is ↦
          let found = from_any (bytes_eq q) paths is in
          absurd (none (subst (λ (p : List ℕ). In p paths) (sym ((bytes_eq-Decides q found.0).0 found.2)) found.1))
    ]

listed_front : (path : List ℕ) (paths : List (List ℕ)) → is_listed (path ∷ paths) path ≡ true
listed_front path paths = rw ((bytes_eq-Decides path path).1 refl) refl

listed_first : (p q : List ℕ) (paths : List (List ℕ)) → (q ≡ p → ⊥) → is_listed (p ∷ paths) q ≡ is_listed paths q
listed_first p q paths differ =
    elim (cases_Bool (bytes_eq q p)) [
      | inl same ↦ absurd (differ ((bytes_eq-Decides q p).0 same))
      | inr out ↦ rw out refl
    ]

listed_left : (q : List ℕ) (paths more : List (List ℕ)) → (In q more → ⊥) → is_listed (paths ++ more) q ≡ is_listed paths q
listed_left q paths more none = list_any-append (bytes_eq q) paths more ∙ rw (unlisted more q none) (or_false (is_listed paths q))
  where
    or_false : (b : Bool) → (b || false) ≡ b
    or_false true = refl
    or_false false = refl

listed_right : (q : List ℕ) (paths more : List (List ℕ)) → (In q paths → ⊥) → is_listed (paths ++ more) q ≡ is_listed more q
listed_right q paths more none = list_any-append (bytes_eq q) paths more ∙ rw (unlisted paths q none) refl

-- what stands in one region stands in no other
apart : (above : List ℕ) (k : ℕ) (q : List ℕ) → Region (above ++ k ∷ []) 0 q → Region above (suc k) q → ⊥
apart above k q r s =
    let l = s.least in
    let same = same_on above k s.step (r.step ∷ r.rest) s.rest (sym (one_on above k (r.step ∷ r.rest)) ∙ (sym r.is ∙ s.is)) in
    let e = same.0 in
    omega (arith, l, e)

not_here : (above : List ℕ) (k : ℕ) (q : List ℕ) → Region (above ++ k ∷ []) 0 q → q ≡ above ++ k ∷ [] → ⊥
not_here above k q r e = not_end above k r.step r.rest (sym r.is ∙ e)

not_here_later : (above : List ℕ) (k : ℕ) (q : List ℕ) → Region above (suc k) q → q ≡ above ++ k ∷ [] → ⊥
not_here_later above k q r e =
    let l = r.least in
    let same = same_on above r.step k r.rest [] (sym r.is ∙ e) in
    let s = same.0 in
    omega (arith, l, s)

here : (above : List ℕ) (k : ℕ) → Region above k (above ++ k ∷ [])
here above k = record { step = k; rest = []; least = omega arith; is = refl }

module _ {A : Type 0} where
  module _ (keeps : A → Bool) (listed : List ℕ → Bool) where
    lists_all : (above : List ℕ) (k : ℕ) (f : Forest A) → Agrees listed (paths_in (paths_from above k f)) above k → Lists keeps listed true above k f
    lists_all above k NoRoots agrees = tt
    lists_all above k (Root x below others) agrees =
        let path = above ++ k ∷ [] in
        let b = paths_in (paths_from path 0 below) in
        let o = paths_in (paths_from above (suc k) others) in
        let is = paths_root (path, x) (paths_from path 0 below) (paths_from above (suc k) others) in
        let at : Agrees listed (path ∷ (b ++ o)) above k = subst (λ (ps : List (List ℕ)). Agrees listed ps above k) is agrees in (
          at path (here above k) ∙ listed_front path (b ++ o),
          lists_all path 0 below (λ q r. at q (deeper above k q r) ∙ (listed_first path q (b ++ o) (not_here above k q r) ∙ listed_left q b o (λ h. apart above k q r (all_in above (suc k) others q h)))),
          lists_all above (suc k) others (λ q r. at q (later above k q r) ∙ (listed_first path q (b ++ o) (not_here_later above k q r) ∙ listed_right q b o (λ h. apart above k q (all_in path 0 below q h) r))),
        )

    lists_kept : (above : List ℕ) (k : ℕ) (f : Forest A) → Agrees listed (paths_in (kept keeps (paths_from above k f))) above k → Lists keeps listed false above k f
    lists_kept above k NoRoots agrees = tt
    lists_kept above k (Root x below others) agrees =
        let path = above ++ k ∷ [] in
        let o = paths_in (kept keeps (paths_from above (suc k) others)) in
        elim (cases_Bool (keeps x)) [
          | inl is ↦
              (let b = paths_in (paths_from path 0 below) in
              let agrees' : Agrees listed (paths_in (Root (path, x) (paths_from path 0 below) (kept keeps (paths_from above (suc k) others)))) above k = rw is at agrees in
              let at : Agrees listed (path ∷ (b ++ o)) above k =
              subst (λ (ps : List (List ℕ)). Agrees listed ps above k) (paths_root (path, x) (paths_from path 0 below) (kept keeps (paths_from above (suc k) others))) agrees' in
              rw is (
                at path (here above k) ∙ listed_front path (b ++ o),
                lists_all path 0 below (λ q r. at q (deeper above k q r) ∙ (listed_first path q (b ++ o) (not_here above k q r) ∙ listed_left q b o (λ h. apart above k q r (kept_in keeps above (suc k) others q h)))),
                lists_kept above (suc k) others (λ q r. at q (later above k q r) ∙ (listed_first path q (b ++ o) (not_here_later above k q r) ∙ listed_right q b o (λ h. apart above k q (all_in path 0 below q h) r))),
              ))
          | inr out ↦
              (let b = paths_in (kept keeps (paths_from path 0 below)) in
              let agrees' : Agrees listed (paths_in (join (kept keeps (paths_from path 0 below)) (kept keeps (paths_from above (suc k) others)))) above k = rw out at agrees in
              let at : Agrees listed (b ++ o) above k =
              subst (λ (ps : List (List ℕ)). Agrees listed ps above k) (paths_append (kept keeps (paths_from path 0 below)) (kept keeps (paths_from above (suc k) others))) agrees' in
              rw out (
                at path (here above k) ∙ (listed_right path b o (λ h. not_here above k path (kept_in keeps path 0 below path h) refl)
                    ∙ unlisted o path (λ h. not_here_later above k path (kept_in keeps above (suc k) others path h) refl)),
                lists_kept path 0 below (λ q r. at q (deeper above k q r) ∙ listed_left q b o (λ h. apart above k q r (kept_in keeps above (suc k) others q h))),
                lists_kept above (suc k) others (λ q r. at q (later above k q r) ∙ listed_right q b o (λ h. apart above k q (kept_in keeps path 0 below q h) r)),
              ))
        ]

  -- the paths of what is kept of a forest list just that
  pub lists_seen : (keeps : A → Bool) (f : Forest A) → Lists keeps (is_listed (paths_in (kept keeps (paths_from [] 0 f)))) false [] 0 f
  lists_seen keeps f = lists_kept keeps (is_listed (paths_in (kept keeps (paths_from [] 0 f)))) [] 0 f (λ q r. refl)
