-- Drafts stop with no want of memory.
use Rattle.std.proofs.Common.{◌≡◌, Bool, true, false, if◌then◌else◌, List, [], ◌∷◌, ◌++◌, Some, Ok, Err, inl, inr, sym, subst}
use Rattle.std.specs.Prelude.{◌≢◌, IfErr, Result, flat_map}
use Rattle.ledger_terms.specs.Drafts.{Drafts}
use Rattle.ledger_terms.specs.Forest.{Forest, NoRoots, Root, number_from, paths_from, preorder}
use Rattle.ledger_terms.specs.declared.known.Known.{Known}
use Rattle.interpret.specs.FilledTree.{FillStops, Placed, action_tests, first_failing, root_tests}
use Rattle.interpret.specs.Ids.{Hash}
use Rattle.interpret.specs.Plain.{IsPlain}
use Rattle.interpret.specs.declared.command_fault.CommandFault.{CommandFault}
use Rattle.interpret.specs.declared.command_fault.CommandFault.TheVariants.{Memory}

abbrev Test : Type 0
Test = Bool × CommandFault

abbrev ArePlain : List Test → Type 0
ArePlain [] = Unit {0}
ArePlain (t ∷ ts) = IsPlain t.1 × ArePlain ts

plain_failing : (ts : List Test) (fault : CommandFault) → ArePlain ts → first_failing ts ≡ Some fault → IsPlain fault
plain_failing [] fault plain e = absurd cc
plain_failing (t ∷ ts) fault plain e = by t.0 e (plain_failing ts fault plain.1)
  where
    by : (b : Bool) → (if b then first_failing ts else Some t.1) ≡ Some fault → (first_failing ts ≡ Some fault → IsPlain fault) → IsPlain fault
    by true h rest = rest h
    by false h rest = let same : t.1 ≡ fault = cc in subst IsPlain same plain.0

joined : (xs ys : List Test) → ArePlain xs → ArePlain ys → ArePlain (xs ++ ys)
joined [] ys p q = q
joined (x ∷ xs) ys p q = (p.0, joined xs ys p.1 q)

plain_actions : (known : List Known) (xs : List Placed) → ArePlain (flat_map (action_tests known) xs)
plain_actions known [] = tt
plain_actions known (x ∷ xs) = joined (action_tests known x) (flat_map (action_tests known) xs) (tt, (tt, (tt, tt))) (plain_actions known xs)

plain_roots : (known : List Known) (forest : Forest Placed) → ArePlain (root_tests known forest)
plain_roots known NoRoots = tt
plain_roots known (Root x below others) = (
  tt,
  joined (flat_map (action_tests known) (x ∷ preorder below)) (root_tests known others) (plain_actions known (x ∷ preorder below))
      (plain_roots known others),
)

pub plain_stop : (known : List Known) (seed : Hash) (drafts : Drafts) (fault : CommandFault) → FillStops known seed drafts fault → IsPlain fault
plain_stop known seed drafts fault (inl failing) =
    plain_failing (root_tests known (number_from 0 (paths_from [] 0 drafts))) fault (plain_roots known (number_from 0 (paths_from [] 0 drafts))) failing
plain_stop known seed drafts fault (inr large) = subst IsPlain (sym large.5) tt

-- the same of what a call answers
pub plain_answer : {A : Type 0} (known : List Known) (seed : Hash) (drafts : Drafts) (r : Result A CommandFault)
    → IfErr r (λ fault. fault ≢ Memory → FillStops known seed drafts fault) → IfErr r (λ fault. fault ≢ Memory → IsPlain fault)
plain_answer known seed drafts (Ok v) h = h
plain_answer known seed drafts (Err fault) h = λ some. plain_stop known seed drafts fault (h some)
