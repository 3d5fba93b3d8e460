-- A core's children over trees, one at a time.
use Rattle.std.proofs.Common.{◌≡◌, ℕ, zero, suc, ◌+◌, ◌<◌, ◌≤◌, List, [], ◌∷◌, ◌++◌, length, get_or, drop, refl, sym, ◌∙◌, ap, append_assoc, append-nil, arith}
use Rattle.std.proofs.lemmas.List.{drop_more, map-append}
use Rattle.std.proofs.Math.ListN.{drop_of_length-le}
use Rattle.ledger_terms.specs.declared.act.Act.{Act}
use Rattle.ledger_terms.specs.Forest.{Forest, NoRoots, join, number_from}
use Rattle.ledger_terms.proofs.Grow.{join-assoc, join-end}
use Rattle.view_split.specs.Holed as holed
use Rattle.view_split.specs.Holed.{Holed, NoMore}
use Rattle.view_split.specs.CoreLists.{children_of, core_weight}
use Rattle.view_split.specs.Numbered.{core_in, held_in}
use Rattle.view_split.specs.declared.core_node.CoreNode.{CoreNode}
use Rattle.view_split.specs.declared.core_node.CoreChild.{CoreChild}
use Rattle.view_split.specs.declared.core_node.CoreChild.TheVariants.{Inner, Hole}
use Rattle.confirm_reply.specs.Numbers.{numbered_trees, numbers_of}
use Rattle.confirm_reply.specs.declared.numbered.Numbered.{Numbered}

abbrev Below : Type 0
Below = Forest (ℕ × Act)

abbrev pub numbers_in : List CoreChild → List Numbered → List ℕ
numbers_in cs ts = numbers_of (core_in (children_of cs) (numbered_trees ts))

abbrev pub trees_held : List CoreChild → List Numbered → Below
trees_held cs ts = held_in (children_of cs) (numbered_trees ts)

numbers_next : (c : CoreChild) (cs : List CoreChild) (t : Numbered) (ts : List Numbered) → numbers_in (c ∷ cs) (t ∷ ts) ≡ numbers_in (c ∷ []) (t ∷ []) ++ numbers_in cs ts
numbers_next (Inner node) cs t ts =
    let here = core_in node.children (number_from (suc t.number) t.node.now.below) in
    let rest = core_in (children_of cs) (numbered_trees ts) in
    ap (λ (ns : List ℕ). t.number ∷ ns)
    (map-append (λ (a : ℕ × Act). a.0) here rest ∙ ap (λ (xs : List (ℕ × Act)). numbers_of xs ++ numbers_of rest) (sym (append-nil here)))
numbers_next Hole cs t ts = refl

held_next : (c : CoreChild) (cs : List CoreChild) (t : Numbered) (ts : List Numbered) → trees_held (c ∷ cs) (t ∷ ts) ≡ join (trees_held (c ∷ []) (t ∷ [])) (trees_held cs ts)
held_next (Inner node) cs t ts =
    ap (λ (f : Below). join f (trees_held cs ts)) (sym (join-end (held_in node.children (number_from (suc t.number) t.node.now.below))))
held_next Hole cs t ts = refl

none_in : (h : Holed Act) → core_in h (numbered_trees []) ≡ []
none_in NoMore = refl
none_in (holed.Inner a below others) = refl
none_in (holed.Hole others) = refl

none_held : (h : Holed Act) → held_in h (numbered_trees []) ≡ NoRoots
none_held NoMore = refl
none_held (holed.Inner a below others) = refl
none_held (holed.Hole others) = refl

pub inner_held : (c : CoreChild) (node : CoreNode) (t : Numbered) (below : List Numbered) (held new : Below) → c ≡ Inner node
    → numbered_trees below ≡ number_from (suc t.number) t.node.now.below → new ≡ join held (held_in node.children (numbered_trees below))
    → new ≡ join held (trees_held (c ∷ []) (t ∷ []))
inner_held c node t below held new is same grown =
    let filled = held_in node.children (number_from (suc t.number) t.node.now.below) in
    grown ∙ (ap (λ (f : Below). join held (held_in node.children f)) same ∙ (ap (join held) (sym (join-end filled)) ∙ (λ j. join held (trees_held (sym is j ∷ []) (t ∷ [])))))

one_within : (c : CoreChild) (cs : List CoreChild) → core_weight (children_of (c ∷ [])) ≤ core_weight (children_of (c ∷ cs))
one_within (Inner node) cs = omega arith
one_within Hole cs = omega arith

rest_within : (c : CoreChild) (cs : List CoreChild) → core_weight (children_of cs) ≤ core_weight (children_of (c ∷ cs))
rest_within (Inner node) cs = omega arith
rest_within Hole cs = omega arith

pub child_within : (cs : List CoreChild) (i : ℕ) (d : CoreChild) → i < length cs → core_weight (children_of (get_or cs i d ∷ [])) ≤ core_weight (children_of cs)
child_within [] i d h = absurd (omega (arith, h))
child_within (c ∷ cs) zero d h = one_within c cs
child_within (c ∷ cs) (suc i) d h = omega (arith, child_within cs i d (omega (arith, h)), rest_within c cs)

-- what the loop keeps
abbrev pub Keeps : (cs : List CoreChild) (ts : List Numbered) (i : ℕ) (core all : List ℕ) (held whole : Below) → Type 0
Keeps cs ts i core all held whole = (core ++ numbers_in (drop i cs) (drop i ts) ≡ all) × (join held (trees_held (drop i cs) (drop i ts)) ≡ whole)

pub core_step : (cs : List CoreChild) (ts : List Numbered) (i : ℕ) (c : CoreChild) (t : Numbered) (core core' all : List ℕ) (held held' whole : Below)
    → i < length cs → c ≡ get_or cs i c → i < length ts → t ≡ get_or ts i t
    → core' ≡ core ++ numbers_in (c ∷ []) (t ∷ []) → held' ≡ join held (trees_held (c ∷ []) (t ∷ []))
    → Keeps cs ts i core all held whole → Keeps cs ts (i + 1) core' all held' whole
core_step cs ts i c t core core' all held held' whole h at k there grown filled keeps =
    let rest = drop (i + 1) cs in
    let more = drop (i + 1) ts in
    let child : drop i cs ≡ c ∷ rest = rw (drop_more cs i c h, ← at) refl in
    let tree : drop i ts ≡ t ∷ more = rw (drop_more ts i t k, ← there) refl in (
      ap (λ (ns : List ℕ). ns ++ numbers_in rest more) grown
          ∙ (append_assoc core (numbers_in (c ∷ []) (t ∷ [])) (numbers_in rest more)
          ∙ (ap (λ (ns : List ℕ). core ++ ns) (sym (numbers_next c rest t more))
          ∙ ((λ j. core ++ numbers_in (sym child j) (sym tree j)) ∙ keeps.0))),
      ap (λ (f : Below). join f (trees_held rest more)) filled
          ∙ (join-assoc held (trees_held (c ∷ []) (t ∷ [])) (trees_held rest more)
          ∙ (ap (join held) (sym (held_next c rest t more))
          ∙ ((λ j. join held (trees_held (sym child j) (sym tree j))) ∙ keeps.1))),
    )

pub core_end : (cs : List CoreChild) (ts : List Numbered) (i : ℕ) (core all : List ℕ) (held whole : Below) → length cs ≤ i → Keeps cs ts i core all held whole
    → (core ≡ all) × (held ≡ whole)
core_end cs ts i core all held whole past keeps =
    let over : children_of (drop i cs) ≡ NoMore = rw (drop_of_length-le cs past) refl in (
      sym (append-nil core) ∙ ((λ j. core ++ numbers_of (core_in (sym over j) (numbered_trees (drop i ts)))) ∙ keeps.0),
      sym (join-end held) ∙ ((λ j. join held (held_in (sym over j) (numbered_trees (drop i ts)))) ∙ keeps.1),
    )

pub core_short : (cs : List CoreChild) (ts : List Numbered) (i : ℕ) (core all : List ℕ) (held whole : Below) → length ts ≤ i → Keeps cs ts i core all held whole
    → (core ≡ all) × (held ≡ whole)
core_short cs ts i core all held whole past keeps =
    let over : numbered_trees (drop i ts) ≡ NoRoots = rw (drop_of_length-le ts past) refl in (
      sym (append-nil core)
          ∙ (ap (λ (xs : List (ℕ × Act)). core ++ numbers_of xs) (sym (none_in (children_of (drop i cs))))
          ∙ ((λ j. core ++ numbers_of (core_in (children_of (drop i cs)) (sym over j))) ∙ keeps.0)),
      sym (join-end held)
          ∙ (ap (join held) (sym (none_held (children_of (drop i cs))))
          ∙ ((λ j. join held (held_in (children_of (drop i cs)) (sym over j))) ∙ keeps.1)),
    )
