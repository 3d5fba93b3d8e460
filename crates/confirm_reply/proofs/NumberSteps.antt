-- Trees numbered, one at a time.
use Rattle.std.proofs.Common.{◌≡◌, ℕ, suc, ◌+◌, ◌<◌, ◌≤◌, List, [], ◌∷◌, ◌++◌, length, get_or, drop, refl, sym, ◌∙◌, ap, arith}
use Rattle.std.proofs.lemmas.List.{drop_more}
use Rattle.std.proofs.Math.ListN.{drop_of_length-le}
use Rattle.ledger_terms.specs.declared.act.Act.{Act}
use Rattle.ledger_terms.specs.Trees.{ActionNode}
use Rattle.ledger_terms.specs.Forest.{Forest, NoRoots, Root, join, number_from, size}
use Rattle.ledger_terms.specs.Grown.{forest_of}
use Rattle.ledger_terms.proofs.Grow.{join-assoc, join-end}
use Rattle.confirm_reply.specs.Numbers.{numbered_trees}
use Rattle.confirm_reply.specs.declared.numbered.Numbered.{Numbered}

abbrev Below : Type 0
Below = Forest (ℕ × Act)

-- the size of what is left is that of the next tree with that of the rest
pub next_size : (ns : List ActionNode) (i : ℕ) (n : ActionNode) → i < length ns → n ≡ get_or ns i n
    → size (forest_of (drop i ns)) ≡ size n.below + 1 + size (forest_of (drop (i + 1) ns))
next_size ns i n h at =
    let next : size (forest_of (drop i ns)) ≡ suc (size n.below + size (forest_of (drop (i + 1) ns))) = rw (drop_more ns i n h, ← at) refl in
    omega (arith, next)

pub no_size_left : (ns : List ActionNode) (i : ℕ) → length ns ≤ i → size (forest_of (drop i ns)) ≡ 0
no_size_left ns i past = rw (drop_of_length-le ns past) refl

numbered-append : (ts us : List Numbered) → numbered_trees (ts ++ us) ≡ join (numbered_trees ts) (numbered_trees us)
numbered-append [] us = refl
numbered-append (t ∷ ts) us = ap (Root (t.number, t.node.now.root) (number_from (suc t.number) t.node.now.below)) (numbered-append ts us)

pub numbered_pushed : (ts : List Numbered) (t : Numbered) → numbered_trees (ts ++ t ∷ []) ≡ join (numbered_trees ts) (numbered_trees (t ∷ []))
numbered_pushed ts t = numbered-append ts (t ∷ [])

pub number_step : (ns : List ActionNode) (i : ℕ) (n : ActionNode) (ts new : List Numbered) (t : Numbered) (all : Below) → i < length ns → n ≡ get_or ns i n
    → new ≡ ts ++ t ∷ [] → t.node.now ≡ n → join (numbered_trees ts) (number_from t.number (forest_of (drop i ns))) ≡ all
    → join (numbered_trees new) (number_from (t.number + (size n.below + 1)) (forest_of (drop (i + 1) ns))) ≡ all
number_step ns i n ts new t all h at pushed node before =
    let k = t.number in
    let rest = forest_of (drop (i + 1) ns) in
    let tree = Root (k, n.root) (number_from (suc k) n.below) NoRoots in
    let next : number_from k (forest_of (drop i ns)) ≡ Root (k, n.root) (number_from (suc k) n.below) (number_from (suc k + size n.below) rest) =
    rw (drop_more ns i n h, ← at) refl in
    let later : suc k + size n.below ≡ k + (size n.below + 1) = omega arith in
    let grown : numbered_trees new ≡ join (numbered_trees ts) tree =
    ap numbered_trees pushed ∙ (numbered-append ts (t ∷ []) ∙ (λ j. join (numbered_trees ts) (Root (k, (node j).root) (number_from (suc k) (node j).below) NoRoots))) in
    let more = number_from (k + (size n.below + 1)) rest in
    ap (λ (x : Below). join x more) grown
    ∙ (join-assoc (numbered_trees ts) tree more
    ∙ (ap (λ (m : ℕ). join (numbered_trees ts) (Root (k, n.root) (number_from (suc k) n.below) (number_from m rest))) (sym later)
    ∙ (ap (join (numbered_trees ts)) (sym next) ∙ before)))

pub number_end : (ns : List ActionNode) (i k : ℕ) (old all : Below) → length ns ≤ i → join old (number_from k (forest_of (drop i ns))) ≡ all → old ≡ all
number_end ns i k old all past before = sym (join-end old) ∙ (rw (drop_of_length-le ns past) at before)
