-- Where the first action without roles stands.
use Rattle.std.proofs.Common.{inl, inr, ◌≡◌, ◌<◌, ◌≤◌, ℕ, zero, suc, ◌+◌, List, [], ◌∷◌, ◌++◌, length, get_or, take, drop, refl, sym, ap, ◌∙◌, arith}
use Rattle.std.specs.Prelude.{◌≢◌, ◌%◌, ◌^◌, find, Option, Some, None, Ok, Err, option_map}
use Rattle.std.proofs.lemmas.Bool.{cases_Bool}
use Rattle.ledger_terms.specs.Forest.{Forest, NoRoots, Root, join, preorder, paths_from}
use Rattle.ledger_terms.specs.Roots.{trees_count}
use Rattle.ledger_terms.specs.declared.act.Act.{Act}
use Rattle.ledger_terms.specs.Trees.{Actions}
use Rattle.ledger_terms.specs.Grown.{forest_of, tree_of}
use Rattle.ledger_terms.specs.Trees.{ActionNode}
use Rattle.lang_eval.specs.Found.{Packages}
use Rattle.lang_eval.specs.Language.{has_roles, roles_in}
use Rattle.ledger_terms.specs.declared.tx.Tx.{Tx}
use Rattle.ledger_model.specs.Terms.{PartySet}
use Rattle.view_split.specs.Faults.{IsFault, fault_from, first_roleless, is_roleless, kept_path, or_else, unless_fault, views_of_tx}
use Rattle.view_split.specs.Split.{split}
use Rattle.view_split.specs.declared.split_view.SplitView.{SplitView}
use Rattle.view_split.specs.declared.views.Views.{Views}
use Rattle.view_split.specs.Walked.{node_fault}
use Rattle.view_split.specs.declared.split_fault.SplitFault.{SplitFault}
use Rattle.view_split.specs.declared.split_fault.SplitFault.TheVariants.{NoRoles, Memory}
use Rattle.view_split.proofs.Walks.{taken_more}

or_else-none : (o : Option (List ℕ)) → or_else o None ≡ o
or_else-none None = refl
or_else-none (Some path) = refl

or_else-assoc : (a b c : Option (List ℕ)) → or_else (or_else a b) c ≡ or_else a (or_else b c)
or_else-assoc None b c = refl
or_else-assoc (Some path) b c = refl

module _ (packages : Packages) where
  fault_join : (above : List ℕ) (k : ℕ) (f g : Actions) → fault_from packages above k (join f g) ≡ or_else (fault_from packages above k f) (fault_from packages above (k + trees_count f) g)
  fault_join above k NoRoots g = let same : k + 0 ≡ k = omega arith in rw same refl
  fault_join above k (Root act below others) g =
      let same : k + suc (trees_count others) ≡ suc k + trees_count others = omega arith in
      elim (cases_Bool (has_roles packages act.action)) [
        | inl given ↦ rw (given, same)
            (ap (or_else (fault_from packages (above ++ k % 2 ^ 16 ∷ []) 0 below)) (fault_join above (suc k) others g)
            ∙ sym (or_else-assoc (fault_from packages (above ++ k % 2 ^ 16 ∷ []) 0 below) (fault_from packages above (suc k) others) (fault_from packages above (suc k + trees_count others) g)))
        | inr missing ↦ rw missing refl
      ]

  fault_alone : (above : List ℕ) (k : ℕ) (node : ActionNode) → fault_from packages above k (tree_of node) ≡ node_fault packages (above ++ k % 2 ^ 16 ∷ []) node
  fault_alone above k node =
      elim (cases_Bool (has_roles packages node.root.action)) [
        | inl given ↦ rw given (or_else-none (fault_from packages (above ++ k % 2 ^ 16 ∷ []) 0 node.below))
        | inr missing ↦ rw missing refl
      ]

  count_taken : (ns : List ActionNode) (i : ℕ) → i ≤ length ns → trees_count (forest_of (take i ns)) ≡ i
  count_taken ns zero h = refl
  count_taken [] (suc i) h = absurd (omega arith)
  count_taken (n ∷ ns) (suc i) h = ap suc (count_taken ns i (omega arith))

  one_more : (above : List ℕ) (ns : List ActionNode) (i : ℕ) (n : ActionNode) → i < length ns → n ≡ get_or ns i n → fault_from packages above 0 (forest_of (take i ns)) ≡ None → fault_from packages above 0 (forest_of (take (i + 1) ns)) ≡ node_fault packages (above ++ i % 2 ^ 16 ∷ []) n
  one_more above ns i n h at none =
      let counted : 0 + trees_count (forest_of (take i ns)) ≡ i = let c = count_taken ns i (omega arith) in omega (arith, c) in
      ap (fault_from packages above 0) (taken_more ns i n h at)
      ∙ (fault_join above 0 (forest_of (take i ns)) (tree_of n)
      ∙ ((λ j. or_else (none j) (fault_from packages above (counted j) (tree_of n))) ∙ fault_alone above i n))

  -- the loop goes on where the next has none
  pub none_so_far : (above path : List ℕ) (ns : List ActionNode) (i : ℕ) (n : ActionNode) → i < length ns → n ≡ get_or ns i n → path ≡ above ++ i % 2 ^ 16 ∷ [] → node_fault packages path n ≡ None → fault_from packages above 0 (forest_of (take i ns)) ≡ None → fault_from packages above 0 (forest_of (take (i + 1) ns)) ≡ None
  none_so_far above path ns i n h at is here none = one_more above ns i n h at none ∙ (ap (λ (p : List ℕ). node_fault packages p n) (sym is) ∙ here)

  whole : (ns : List ActionNode) (i : ℕ) → join (forest_of (take i ns)) (forest_of (drop i ns)) ≡ forest_of ns
  whole ns zero = refl
  whole [] (suc i) = refl
  whole (n ∷ ns) (suc i) = ap (λ (f : Actions). Root n.root n.below f) (whole ns i)

  -- and ends where it has one
  pub found_here : (above path : List ℕ) (ns : List ActionNode) (i : ℕ) (n : ActionNode) (e : SplitFault) → i < length ns → n ≡ get_or ns i n → path ≡ above ++ i % 2 ^ 16 ∷ [] → IsFault (node_fault packages path n) e → fault_from packages above 0 (forest_of (take i ns)) ≡ None → IsFault (fault_from packages above 0 (forest_of ns)) e
  found_here above path ns i n Memory h at is here none = tt
  found_here above path ns i n (NoRoles first) h at is here none =
      let upto : fault_from packages above 0 (forest_of (take (i + 1) ns)) ≡ Some first = one_more above ns i n h at none ∙ (ap (λ (p : List ℕ). node_fault packages p n) (sym is) ∙ here) in
      ap (fault_from packages above 0) (sym (whole ns (i + 1)))
      ∙ (fault_join above 0 (forest_of (take (i + 1) ns)) (forest_of (drop (i + 1) ns))
      ∙ ap (λ (o : Option (List ℕ)). or_else o (fault_from packages above (0 + trees_count (forest_of (take (i + 1) ns))) (forest_of (drop (i + 1) ns)))) upto)

  -- the same as the first in pre-order
  kept-end : (path : List ℕ) (k : ℕ) → kept_path (path ++ k ∷ []) ≡ kept_path path ++ k % 2 ^ 16 ∷ []
  kept-end [] k = refl
  kept-end (step ∷ path) k = ap (λ (p : List ℕ). step % 2 ^ 16 ∷ p) (kept-end path k)

  abbrev found : List (List ℕ × Act) → Option (List ℕ)
  found xs = option_map (λ (placed : List ℕ × Act). kept_path placed.0) (find (is_roleless packages) xs)

  found-append : (xs ys : List (List ℕ × Act)) → found (xs ++ ys) ≡ or_else (found xs) (found ys)
  found-append [] ys = refl
  found-append (x ∷ xs) ys =
      elim (cases_Bool (is_roleless packages x)) [ inl here ↦ rw here refl | inr other ↦ rw other (found-append xs ys) ]

  first_from : (above : List ℕ) (k : ℕ) (f : Actions) → found (preorder (paths_from above k f)) ≡ fault_from packages (kept_path above) k f
  first_from above k NoRoots = refl
  first_from above k (Root act below others) =
      let here = kept-end above k in
      let step = above ++ k ∷ [] in
      elim (cases_Bool (has_roles packages act.action)) [
        | inl given ↦ rw given
            (found-append (preorder (paths_from step 0 below)) (preorder (paths_from above (suc k) others))
            ∙ (λ j. or_else ((first_from step 0 below ∙ ap (λ (p : List ℕ). fault_from packages p 0 below) here) j) (first_from above (suc k) others j)))
        | inr missing ↦ rw missing (ap (λ (p : List ℕ). Some p) here)
      ]

  pub first_is : (f : Actions) → first_roleless packages f ≡ fault_from packages [] 0 f
  first_is f = first_from [] 0 f

  pub gives_fault : (f : Actions) (views : Views) (e : SplitFault) → IsFault (fault_from packages [] 0 f) e → e ≢ Memory → unless_fault (first_roleless packages f) views ≡ Err e
  gives_fault f views Memory h other = absurd (other refl)
  gives_fault f views (NoRoles path) h other = ap (λ (o : Option (List ℕ)). unless_fault o views) (first_is f ∙ h)

  pub gives_views : (tx : Tx) (roots : Forest SplitView) (act_as : PartySet) → fault_from packages [] 0 tx.roots ≡ None → roots ≡ split (roles_in packages) tx.roots → act_as ≡ tx.act_as
      → views_of_tx packages tx ≡ Ok (record { act_as = act_as; ledger_time = tx.ledger_time; seed = tx.seed; roots = roots })
  gives_views tx roots act_as none is same =
      ap (λ (o : Option (List ℕ)). unless_fault o (record { act_as = tx.act_as; ledger_time = tx.ledger_time; seed = tx.seed; roots = split (roles_in packages) tx.roots })) (first_is tx.roots ∙ none)
      ∙ (λ i. Ok (record { act_as = sym same i; ledger_time = tx.ledger_time; seed = tx.seed; roots = sym is i }))
