-- Places of actions: as a walk finds them and as they are said, in a transaction and in a ledger.
use Rattle.std.proofs.Common.{◌≡◌, ℕ, suc, ◌+◌, ◌<◌, ◌%◌, ◌^◌, Bool, true, false, List, [], ◌∷◌, ◌++◌, Option, Some, None, length, get_or, drop, map, refl, sym, ◌∙◌, ap, inl, inr}
use Rattle.std.specs.Prelude.{option_map}
use Rattle.std.proofs.lemmas.List.{drop_more}
use Rattle.std.proofs.lemmas.Bool.{cases_Bool}
use Rattle.ledger_terms.specs.declared.act.Act.{Act}
use Rattle.ledger_terms.specs.Trees.{Actions}
use Rattle.ledger_terms.specs.Forest.{NoRoots, Root, preorder, paths_from}
use Rattle.ledger_model.specs.Forest.{Commit, ledger_acts}
use Rattle.ledger_model.specs.declared.commit.Commit.{Commit as CommitRoots}
use Rattle.consist.specs.declared.ledger_place.LedgerPlace.{LedgerPlace}
use Rattle.consist.specs.First.{acts_in, first_found}
use Rattle.consist.specs.Placed.{kept_path, placed, placed_in_part, placed_in, acts_of_parts, part_of}
use Rattle.consist.specs.Walked.{placed_from, IsWalked}
use Rattle.consist.proofs.Walking.{found_front, found_back, acts_in-append, stop_of, go_of}

kept-append : (above : List ℕ) (k : ℕ) → kept_path (above ++ k ∷ []) ≡ kept_path above ++ k % 2 ^ 16 ∷ []
kept-append [] k = refl
kept-append (step ∷ above) k = ap (λ (path : List ℕ). step % 2 ^ 16 ∷ path) (kept-append above k)

abbrev kept : List ℕ × Act → List ℕ × Act
kept x = (kept_path x.0, x.1)

kept-both : (xs ys : List (List ℕ × Act)) → map kept (xs ++ ys) ≡ map kept xs ++ map kept ys
kept-both [] ys = refl
kept-both (x ∷ xs) ys = ap (λ (zs : List (List ℕ × Act)). kept x ∷ zs) (kept-both xs ys)

placed_below : (above : List ℕ) (k : ℕ) (f : Actions) → map kept (preorder (paths_from above k f)) ≡ placed_from (kept_path above) k f
placed_below above k NoRoots = refl
placed_below above k (Root act below others) =
    let here = kept-append above k in
    let down : map kept (preorder (paths_from (above ++ k ∷ []) 0 below)) ≡ placed_from (kept_path above ++ k % 2 ^ 16 ∷ []) 0 below =
    placed_below (above ++ k ∷ []) 0 below ∙ ap (λ (path : List ℕ). placed_from path 0 below) here in
    ap (λ (path : List ℕ). (path, act) ∷ map kept (preorder (paths_from (above ++ k ∷ []) 0 below) ++ preorder (paths_from above (suc k) others))) here
    ∙ ap (λ (xs : List (List ℕ × Act)). (kept_path above ++ k % 2 ^ 16 ∷ [], act) ∷ xs)
    (kept-both (preorder (paths_from (above ++ k ∷ []) 0 below)) (preorder (paths_from above (suc k) others))
    ∙ (ap (λ (xs : List (List ℕ × Act)). xs ++ map kept (preorder (paths_from above (suc k) others))) down
    ∙ ap (λ (xs : List (List ℕ × Act)). placed_from (kept_path above ++ k % 2 ^ 16 ∷ []) 0 below ++ xs) (placed_below above (suc k) others)))

-- what a walk goes through is the placed actions
pub placed_is : (roots : Actions) → placed roots ≡ placed_from [] 0 roots
placed_is roots = placed_below [] 0 roots

acts_from : (above : List ℕ) (k : ℕ) (f : Actions) → acts_in (placed_from above k f) ≡ preorder f
acts_from above k NoRoots = refl
acts_from above k (Root act below others) =
    ap (λ (acts : List Act). act ∷ acts)
    (acts_in-append (placed_from (above ++ k % 2 ^ 16 ∷ []) 0 below) (placed_from above (suc k) others)
    ∙ (ap (λ (acts : List Act). acts ++ acts_in (placed_from above (suc k) others)) (acts_from (above ++ k % 2 ^ 16 ∷ []) 0 below)
    ∙ ap (λ (acts : List Act). preorder below ++ acts) (acts_from above (suc k) others)))

pub acts_of_placed : (roots : Actions) → acts_in (placed roots) ≡ preorder roots
acts_of_placed roots = ap acts_in (placed_is roots) ∙ acts_from [] 0 roots

-- places renamed
module _ {P Q : Type 0} (f : P → Q) where
  abbrev pub renamed : List (P × Act) → List (Q × Act)
  renamed xs = map (λ (x : P × Act). (f x.0, x.1)) xs

  pub acts_in-renamed : (xs : List (P × Act)) → acts_in (renamed xs) ≡ acts_in xs
  acts_in-renamed [] = refl
  acts_in-renamed (x ∷ xs) = ap (λ (acts : List Act). x.1 ∷ acts) (acts_in-renamed xs)

  pub found-renamed : (test : List Act → Act → Bool) (e : List Act) (xs : List (P × Act)) → first_found test e (renamed xs) ≡ option_map f (first_found test e xs)
  found-renamed test e [] = refl
  found-renamed test e (x ∷ xs) =
      elim (cases_Bool (test e x.1)) [ inl b ↦ rw b refl | inr b ↦ rw b (found-renamed test (e ++ x.1 ∷ []) xs) ]

abbrev in_commit : ℕ → List ℕ → LedgerPlace
in_commit place path = record { commit = place; path = path }

acts_of_part : (part : CommitRoots) → acts_in (placed_in_part part) ≡ preorder part.roots
acts_of_part part = acts_in-renamed (in_commit part.place) (placed part.roots) ∙ acts_of_placed part.roots

pub acts_of_placed_in : (parts : List CommitRoots) → acts_in (placed_in parts) ≡ acts_of_parts parts
acts_of_placed_in [] = refl
acts_of_placed_in (part ∷ parts) =
    acts_in-append (placed_in_part part) (placed_in parts)
    ∙ (ap (λ (acts : List Act). acts ++ acts_in (placed_in parts)) (acts_of_part part) ∙ ap (λ (acts : List Act). preorder part.roots ++ acts) (acts_of_placed_in parts))

pub acts_without_requesters : (ledger : List Commit) → acts_of_parts (map part_of ledger) ≡ ledger_acts ledger
acts_without_requesters [] = refl
acts_without_requesters (commit ∷ ledger) = ap (λ (acts : List Act). preorder commit.roots ++ acts) (acts_without_requesters ledger)

pub next_part : (parts : List CommitRoots) (i : ℕ) (part : CommitRoots) → i < length parts → part ≡ get_or parts i part → placed_in (drop i parts) ≡ placed_in_part part ++ placed_in (drop (i + 1) parts)
next_part parts i part h is = rw (drop_more parts i part h, ← is) refl

-- The next commit is walked.
module _ (test : List Act → Act → Bool) (e met : List Act) (start left : List ℕ) (stopped : Bool) (parts : List CommitRoots) (i : ℕ) (part : CommitRoots) (within : i < length parts) (is : part ≡ get_or parts i part) (begins : start ≡ []) (walked : IsWalked test e start (placed_from start 0 part.roots) stopped met left) where
  same_places : placed_from start 0 part.roots ≡ placed part.roots
  same_places = ap (λ (path : List ℕ). placed_from path 0 part.roots) begins ∙ sym (placed_is part.roots)

  found_in_part : first_found test e (placed_in_part part) ≡ option_map (in_commit part.place) (first_found test e (placed_from start 0 part.roots))
  found_in_part = found-renamed (in_commit part.place) test e (placed part.roots) ∙ ap (λ (xs : List (List ℕ × Act)). option_map (in_commit part.place) (first_found test e xs)) (sym same_places)

  -- it stops there
  pub part_stop : (all : Option LedgerPlace) → stopped ≡ true → first_found test e (placed_in (drop i parts)) ≡ all → all ≡ Some (in_commit part.place left)
  part_stop all stops before =
      let here : first_found test e (placed_in_part part) ≡ Some (in_commit part.place left) =
      found_in_part ∙ ap (option_map (in_commit part.place)) (stop_of test e start (placed_from start 0 part.roots) stopped met left stops walked) in
      sym before ∙ (ap (first_found test e) (next_part parts i part within is) ∙ found_front test e (placed_in_part part) (placed_in (drop (i + 1) parts)) _ here)

  -- it goes on behind it
  pub part_go : (all : Option LedgerPlace) → stopped ≡ false → first_found test e (placed_in (drop i parts)) ≡ all → first_found test met (placed_in (drop (i + 1) parts)) ≡ all
  part_go all goes before =
      let w = go_of test e start (placed_from start 0 part.roots) stopped met left goes walked in
      let here : first_found test e (placed_in_part part) ≡ None = found_in_part ∙ ap (option_map (in_commit part.place)) w.0 in
      let grown : met ≡ e ++ acts_in (placed_in_part part) =
      w.1 ∙ ap (λ (acts : List Act). e ++ acts) (ap acts_in same_places ∙ sym (acts_in-renamed (in_commit part.place) (placed part.roots))) in
      ap (λ (m : List Act). first_found test m (placed_in (drop (i + 1) parts))) grown
      ∙ (sym (found_back test e (placed_in_part part) (placed_in (drop (i + 1) parts)) here) ∙ (sym (ap (first_found test e) (next_part parts i part within is)) ∙ before))

-- A whole transaction is walked.
module _ (test : List Act → Act → Bool) (e met : List Act) (start left : List ℕ) (stopped : Bool) (roots : Actions) (fresh : e ≡ []) (begins : start ≡ []) (walked : IsWalked test e start (placed_from start 0 roots) stopped met left) where
  from_start : first_found test [] (placed roots) ≡ first_found test e (placed_from start 0 roots)
  from_start =
      ap (first_found test []) (placed_is roots)
      ∙ (ap (λ (path : List ℕ). first_found test [] (placed_from path 0 roots)) (sym begins) ∙ ap (λ (m : List Act). first_found test m (placed_from start 0 roots)) (sym fresh))

  pub whole_stop : stopped ≡ true → first_found test [] (placed roots) ≡ Some left
  whole_stop stops = from_start ∙ stop_of test e start (placed_from start 0 roots) stopped met left stops walked

  pub whole_go : stopped ≡ false → first_found test [] (placed roots) ≡ None
  whole_go goes = from_start ∙ (go_of test e start (placed_from start 0 roots) stopped met left goes walked).0
