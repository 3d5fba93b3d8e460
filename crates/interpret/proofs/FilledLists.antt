-- Drafts that are filled one after another.
use Rattle.std.proofs.Common.{◌≡◌, ℕ, zero, suc, ◌+◌, ◌-◌, cond, ◌<◌, ◌≤◌, Bool, true, false, List, [], ◌∷◌, ◌++◌, Some, length, get_or, drop, Result, Ok, Err, refl, sym, ap, ◌∙◌, arith}
use Rattle.std.proofs.lemmas.List.{drop_more}
use Rattle.std.proofs.Math.ListN.{drop_of_length-le}
use Rattle.ledger_terms.specs.declared.known.Known.{Known}
use Rattle.ledger_terms.specs.Drafts.{Draft}
use Rattle.ledger_terms.specs.Grown.{forest_of, tree_of, node_count}
use Rattle.ledger_terms.specs.Forest.{NoRoots, Root, join}
use Rattle.ledger_terms.specs.Trees.{Actions}
use Rattle.ledger_terms.proofs.Grow.{join-assoc, join-end}
use Rattle.interpret.specs.declared.command_fault.CommandFault.{CommandFault}
use Rattle.std.specs.Prelude.{◌&&◌, ◌↔◌, IsTrue, IfOk, nat_le, slice_get}
use Rattle.std.proofs.lemmas.Bool.Decides.{nat_tests}
use Rattle.std.proofs.lemmas.Option.{slice_get_within, get_or_from_slice_get, slice_get_read}
use Rattle.ledger_terms.proofs.Grow.{tree_within}
use Rattle.ledger_terms.specs.declared.action.Action.{Action}
use Rattle.interpret.specs.Stops.{is_zero}
use Rattle.interpret.specs.declared.command_fault.CommandFault.TheVariants.{ContractUnknown}
use Rattle.ledger_terms.specs.declared.instance.Instance.{Instance}
use Rattle.wire_form.specs.Spellable.{IsSpellableInstance}
use Rattle.interpret.proofs.Spelled.{values_are}
use Rattle.interpret.specs.Ids.{Hash, child_seed, contract_id}
use Rattle.interpret.specs.Act.{on}
use Rattle.interpret.specs.Filled.{all_named, behind, fill_all, fill_roots, fill_tree, filled_action, id_of, is_draft_named}

-- one more draft, and those after it
all_cons : (known : List Known) (left : ℕ) (seed : Hash) (path : List ℕ) (index count : ℕ) (d : Draft) (ds : List Draft)
    → fill_all known left seed path index count (forest_of (d ∷ ds))
    ≡ on (fill_tree known left (path ++ index ∷ []) (child_seed seed index) count (tree_of d))
    (λ x. on (fill_all known left seed path (index + 1) x.1 (forest_of ds)) (λ y. Ok (join x.0 y.0, y.1)))
all_cons known left seed path index count d ds = refl

behind_more : (front x : Actions) (r : Result (Actions × ℕ) CommandFault) → behind front (on r (λ y. Ok (join x y.0, y.1))) ≡ behind (join front x) r
behind_more front x (Ok y) = ap (λ (f : Actions). Ok (f, y.1)) (sym (join-assoc front x y.0))
behind_more front x (Err e) = refl

pub all_step : (known : List Known) (left : ℕ) (seed : Hash) (path : List ℕ) (index count count' : ℕ) (d : Draft) (ds : List Draft)
    (front tree : Actions) → index < length ds → d ≡ get_or ds index d
    → fill_tree known left (path ++ index ∷ []) (child_seed seed index) count (tree_of d) ≡ Ok (tree, count')
    → behind front (fill_all known left seed path index count (forest_of (drop index ds))) ≡ behind (join front tree)
    (fill_all known left seed path (index + 1) count' (forest_of (drop (index + 1) ds)))
all_step known left seed path index count count' d ds front tree within at ran =
    let here : forest_of (drop index ds) ≡ forest_of (d ∷ drop (index + 1) ds) = rw (drop_more ds index d within, ← at) refl in
    rw here (ap (λ r. behind front r) (all_cons known left seed path index count d (drop (index + 1) ds))
    ∙ rw ran (behind_more front tree (fill_all known left seed path (index + 1) count' (forest_of (drop (index + 1) ds)))))

pub all_end : (known : List Known) (left : ℕ) (seed : Hash) (path : List ℕ) (index count : ℕ) (ds : List Draft) (front : Actions) → length ds ≤ index
    → behind front (fill_all known left seed path index count (forest_of (drop index ds))) ≡ Ok (front, count)
all_end known left seed path index count ds front past = rw (drop_of_length-le ds past) (ap (λ (f : Actions). Ok (f, count)) (join-end front))

spelled_id : (salt : Hash) (i : Instance) (b : Bool) → IsTrue b ↔ IsSpellableInstance i → b ≡ true → id_of salt i ≡ contract_id salt i
unfolding id_of
spelled_id salt i b h t = rw (sym (values_are b i.fields h) ∙ t) refl

pub spelled_answer : {E : Type 0} (salt : Hash) (i : Instance) (b : Bool) (r : Result Hash E) → IsTrue b ↔ IsSpellableInstance i → b ≡ true
    → IfOk r (λ id. id ≡ contract_id salt i) → IfOk r (λ id. id ≡ id_of salt i)
spelled_answer salt i b (Ok id) h t is = is ∙ sym (spelled_id salt i b h t)
spelled_answer salt i b (Err e) h t is = tt

-- the names of one more draft, and of those after it
and_order : (a b c : Bool) → (a && (b && c)) ≡ ((a && (true && c)) && b)
and_order true true true = refl
and_order true true false = refl
and_order true false true = refl
and_order true false false = refl
and_order false b c = refl

named_cons : (known : List Known) (d : Draft) (ds : List Draft)
    → all_named known (forest_of (d ∷ ds)) ≡ (all_named known (tree_of d) && all_named known (forest_of ds))
named_cons known d ds = and_order (all_named known d.below) (all_named known (forest_of ds)) (is_draft_named known d.root)

pub named_next : (known : List Known) (index : ℕ) (d : Draft) (ds : List Draft) → index < length ds → d ≡ get_or ds index d
    → all_named known (forest_of (drop index ds)) ≡ (all_named known (tree_of d) && all_named known (forest_of (drop (index + 1) ds)))
named_next known index d ds within at = rw (drop_more ds index d within, ← at) (named_cons known d (drop (index + 1) ds))

not_zero : (n : ℕ) → 0 < n → is_zero n ≡ false
not_zero zero h = absurd (omega arith)
not_zero (suc n) h = refl

module _ (known : List Known) (left : ℕ) (path : List ℕ) (seed : Hash) (count : ℕ) (d : Draft) (a : Action) (some : 0 < left) (room : count < 64)
    (there : Some a ≡ filled_action known seed d.root) where
  pub tree_err : (e : CommandFault) → Err e ≡ fill_all known (left - 1) seed path 0 (count + 1) d.below
      → fill_tree known left path seed count (tree_of d) ≡ Err e
  tree_err e h =
      let few : nat_le 64 count ≡ false = grind (arith, nat_tests, room) in
      rw (not_zero left some, few, ← there, ← h) refl

  pub tree_ok : (f : Actions) (n : ℕ) → Ok (f, n) ≡ fill_all known (left - 1) seed path 0 (count + 1) d.below
      → fill_tree known left path seed count (tree_of d) ≡ Ok (Root (record { seed = seed; action = a }) f NoRoots, n)
  tree_ok f n h =
      let few : nat_le 64 count ≡ false = grind (arith, nat_tests, room) in
      rw (not_zero left some, few, ← there, ← h) refl

-- the draft at a place is no greater than the list
pub place_within : (ds all : _) (i : ℕ) (d : Draft) → forest_of ds ≡ all → Some d ≡ slice_get ds i → node_count (tree_of d) ≤ node_count all
place_within ds all i d is at =
    rw (← is, ← get_or_from_slice_get ds i d d (sym at)) (tree_within ds i d (slice_get_within ds i d (sym at)))

all_err_step : (known : List Known) (left : ℕ) (seed : Hash) (path : List ℕ) (index count : ℕ) (d : Draft) (ds : List Draft) (front : Actions)
    (e : CommandFault) → Some d ≡ slice_get ds index → fill_tree known left (path ++ index ∷ []) (child_seed seed index) count (tree_of d) ≡ Err e
    → behind front (fill_all known left seed path index count (forest_of (drop index ds))) ≡ Err e
all_err_step known left seed path index count d ds front e at ran =
    let here : forest_of (drop index ds) ≡ forest_of (d ∷ drop (index + 1) ds) = rw
    (drop_more ds index d (slice_get_within ds index d (sym at)), get_or_from_slice_get ds index d d (sym at)) refl in
    rw here (ap (λ r. behind front r) (all_cons known left seed path index count d (drop (index + 1) ds)) ∙ rw ran refl)

-- with the path, the seed and the tree as the loop has them
module _ (known : List Known) (left : ℕ) (seed : Hash) (path : List ℕ) (index count : ℕ) (d : Draft) (ds : List Draft) (front : Actions) (l : ℕ)
    (q : List ℕ) (sd : Hash) (at : Some d ≡ slice_get ds index) (at_left : l ≡ left) (at_path : q ≡ path ++ index ∷ [])
    (at_seed : sd ≡ child_seed seed index) where
  tree_here : fill_tree known l q sd count (tree_of d) ≡ fill_tree known left (path ++ index ∷ []) (child_seed seed index) count (tree_of d)
  tree_here =
      ap (λ (n : ℕ). fill_tree known n q sd count (tree_of d)) at_left
      ∙ (ap (λ (p : List ℕ). fill_tree known left p sd count (tree_of d)) at_path
      ∙ ap (λ (s : Hash). fill_tree known left (path ++ index ∷ []) s count (tree_of d)) at_seed)

  pub all_err : (e : CommandFault) → Err e ≡ fill_tree known l q sd count (tree_of d)
      → behind front (fill_all known left seed path index count (forest_of (drop index ds))) ≡ Err e
  all_err e h = all_err_step known left seed path index count d ds front e at (sym tree_here ∙ sym h)

  pub all_more : (tree front' : Actions) (count' : ℕ) → Ok (tree, count') ≡ fill_tree known l q sd count (tree_of d) → front' ≡ join front tree
      → behind front (fill_all known left seed path index count (forest_of (drop index ds)))
      ≡ behind front' (fill_all known left seed path (index + 1) count' (forest_of (drop (index + 1) ds)))
  all_more tree front' count' h joins =
      all_step known left seed path index count count' d ds front tree (slice_get_within ds index d (sym at))
      (sym (get_or_from_slice_get ds index d d (sym at))) (sym tree_here ∙ sym h)
      ∙ ap (λ (f : Actions). behind f (fill_all known left seed path (index + 1) count' (forest_of (drop (index + 1) ds)))) (sym joins)

-- the same of roots
roots_cons : (known : List Known) (seed : Hash) (index count : ℕ) (d : Draft) (ds : List Draft)
    → fill_roots known seed index count (forest_of (d ∷ ds)) ≡ cond (all_named known (tree_of d))
    (on (fill_tree known 16 (index ∷ []) (child_seed seed index) count (tree_of d))
    (λ x. on (fill_roots known seed (index + 1) x.1 (forest_of ds)) (λ y. Ok (join x.0 y.0, y.1)))) (Err (ContractUnknown (index ∷ [])))
roots_cons known seed index count d ds = refl

pub roots_end : (known : List Known) (seed : Hash) (index count : ℕ) (ds : List Draft) (front : Actions) → length ds ≤ index
    → behind front (fill_roots known seed index count (forest_of (drop index ds))) ≡ Ok (front, count)
roots_end known seed index count ds front past = rw (drop_of_length-le ds past) (ap (λ (f : Actions). Ok (f, count)) (join-end front))

module _ (known : List Known) (seed : Hash) (index count : ℕ) (d : Draft) (ds : List Draft) (front : Actions) (l : ℕ) (q : List ℕ) (sd : Hash)
    (at : Some d ≡ slice_get ds index) (at_left : l ≡ 16) (at_path : q ≡ index ∷ []) (at_seed : sd ≡ child_seed seed index) where
  here : forest_of (drop index ds) ≡ forest_of (d ∷ drop (index + 1) ds)
  here = rw (drop_more ds index d (slice_get_within ds index d (sym at)), get_or_from_slice_get ds index d d (sym at)) refl

  root_here : fill_tree known l q sd count (tree_of d) ≡ fill_tree known 16 (index ∷ []) (child_seed seed index) count (tree_of d)
  root_here =
      ap (λ (n : ℕ). fill_tree known n q sd count (tree_of d)) at_left
      ∙ (ap (λ (p : List ℕ). fill_tree known 16 p sd count (tree_of d)) at_path
      ∙ ap (λ (s : Hash). fill_tree known 16 (index ∷ []) s count (tree_of d)) at_seed)

  pub roots_unnamed : (b : Bool) → b ≡ all_named known (tree_of d) → b ≡ false
      → behind front (fill_roots known seed index count (forest_of (drop index ds))) ≡ Err (ContractUnknown q)
  roots_unnamed b is none = rw (here, roots_cons known seed index count d (drop (index + 1) ds), ← is, none, at_path) refl

  pub roots_err : (b : Bool) (e : CommandFault) → b ≡ all_named known (tree_of d) → b ≡ true → Err e ≡ fill_tree known l q sd count (tree_of d)
      → behind front (fill_roots known seed index count (forest_of (drop index ds))) ≡ Err e
  roots_err b e is yes' h = rw (here, roots_cons known seed index count d (drop (index + 1) ds), ← is, yes', ← root_here, ← h) refl

  pub roots_more : (b : Bool) (tree front' : Actions) (count' : ℕ) → b ≡ all_named known (tree_of d) → b ≡ true
      → Ok (tree, count') ≡ fill_tree known l q sd count (tree_of d) → front' ≡ join front tree
      → behind front (fill_roots known seed index count (forest_of (drop index ds)))
      ≡ behind front' (fill_roots known seed (index + 1) count' (forest_of (drop (index + 1) ds)))
  roots_more b tree front' count' is yes' h joins =
      rw (here, roots_cons known seed index count d (drop (index + 1) ds), ← is, yes', ← root_here, ← h, joins)
      (behind_more front tree (fill_roots known seed (index + 1) count' (forest_of (drop (index + 1) ds))))

-- what stands at a place that is inside
pub some_at : (ds : List Draft) (i : ℕ) (d : Draft) → i < length ds → d ≡ get_or ds i d → Some d ≡ slice_get ds i
some_at ds i d h at = sym (slice_get_read ds (length ds) i d refl h at)
