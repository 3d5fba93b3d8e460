-- Cores written child by child.
use Rattle.std.proofs.Common.{◌≡◌, ℕ, max, zero, suc, ◌+◌, ◌-◌, ◌^◌, ◌<◌, ◌≤◌, List, [], ◌∷◌, ◌++◌, length, get_or, drop, refl, sym, ◌∙◌, subst, ap, arith, append_assoc}
use Rattle.std.proofs.lemmas.List.{drop_all, drop_more}
use Rattle.ledger_terms.specs.declared.act.Act.{Act}
use Rattle.view_split.specs.Holed as holed
use Rattle.view_split.specs.Holed.{Holed, NoMore, holes}
use Rattle.view_split.specs.CoreLists.{act_of, children_of, core_weight}
use Rattle.view_split.specs.declared.core_node.CoreChild.{CoreChild}
use Rattle.view_split.specs.declared.core_node.CoreChild.TheVariants.{Inner, Hole}
use Rattle.wire_form.specs.Lengths.{capped}
use Rattle.blind_tree.specs.Cores.{AreSpellableChildren, IsSpellableChild, levels, spell_child, spell_children}

-- a child and those after it
abbrev pub with_child : CoreChild → Holed Act → Holed Act
with_child (Inner node) others = holed.Inner (act_of node) node.children others
with_child Hole others = holed.Hole others

children_with : (c : CoreChild) (cs : List CoreChild) → children_of (c ∷ cs) ≡ with_child c (children_of cs)
children_with (Inner node) cs = refl
children_with Hole cs = refl

pub next_child : (cs : List CoreChild) (i : ℕ) (c : CoreChild) → i < length cs → c ≡ get_or cs i c → children_of (drop i cs) ≡ with_child c (children_of (drop (i + 1) cs))
next_child cs i c h at = rw (drop_more cs i c h, ← at) (children_with c (drop (i + 1) cs))

weighs_with : (c : CoreChild) (cs : List CoreChild) → (core_weight (children_of (c ∷ [])) ≤ core_weight (children_of (c ∷ cs))) × (core_weight (children_of cs) ≤ core_weight (children_of (c ∷ cs)))
weighs_with (Inner node) cs = (omega arith, omega arith)
weighs_with Hole cs = (omega arith, omega arith)

-- a child by itself weighs no more than the list that holds it
pub child_at : (cs : List CoreChild) (i : ℕ) (d : CoreChild) → i < length cs → core_weight (children_of (get_or cs i d ∷ [])) ≤ core_weight (children_of cs)
child_at [] i d h = absurd (omega arith)
child_at (c ∷ cs) zero d h = (weighs_with c cs).0
child_at (c ∷ cs) (suc i) d h = let r = child_at cs i d (omega arith) in let w = (weighs_with c cs).1 in omega (arith, r, w)

spelled_with : (c : CoreChild) (rest : Holed Act) → spell_children (with_child c rest) ≡ spell_child c ++ spell_children rest
spelled_with (Inner node) rest = refl
spelled_with Hole rest = refl

spellable_with : (c : CoreChild) (rest : Holed Act) → AreSpellableChildren (with_child c rest) → IsSpellableChild c × AreSpellableChildren rest
spellable_with (Inner node) rest s = (record { action = s.0; few = s.1; children = s.2 }, s.3)
spellable_with Hole rest s = (tt, s)

pub spellable_child : (cs : List CoreChild) (i : ℕ) (c : CoreChild) → i < length cs → c ≡ get_or cs i c → AreSpellableChildren (children_of (drop i cs)) → IsSpellableChild c × AreSpellableChildren (children_of (drop (i + 1) cs))
spellable_child cs i c h at s = spellable_with c (children_of (drop (i + 1) cs)) (subst AreSpellableChildren (next_child cs i c h at) s)

pub child_step : (cs : List CoreChild) (i : ℕ) (c : CoreChild) (all out new : List ℕ) → i < length cs → c ≡ get_or cs i c → new ≡ out ++ spell_child c
    → out ++ spell_children (children_of (drop i cs)) ≡ all → new ++ spell_children (children_of (drop (i + 1) cs)) ≡ all
child_step cs i c all out new h at grown before =
    let rest = children_of (drop (i + 1) cs) in
    let next : spell_children (children_of (drop i cs)) ≡ spell_child c ++ spell_children rest = ap spell_children (next_child cs i c h at) ∙ spelled_with c rest in
    ap (λ (xs : List ℕ). xs ++ spell_children rest) grown
    ∙ (append_assoc out (spell_child c) (spell_children rest)
    ∙ (ap (λ (xs : List ℕ). out ++ xs) (sym next) ∙ before))

-- ---- holes and levels

holes_with : (c : CoreChild) (rest : Holed Act) → holes (with_child c rest) ≡ holes (children_of (c ∷ [])) + holes rest
holes_with (Inner node) rest = omega arith
holes_with Hole rest = omega arith

-- the holes with those of one more child
pub holes_step : (cs : List CoreChild) (i : ℕ) (c : CoreChild) (count more all : ℕ) → i < length cs → c ≡ get_or cs i c → more ≡ capped (holes (children_of (c ∷ [])))
    → capped (count + holes (children_of (drop i cs))) ≡ capped all → capped (capped (count + more) + holes (children_of (drop (i + 1) cs))) ≡ capped all
holes_step cs i c count more all h at is before =
    let here = ap (λ (k : Holed Act). holes k) (next_child cs i c h at) ∙ holes_with c (children_of (drop (i + 1) cs)) in
    omega (arith, here, is, before)

pub holes_end : (cs : List CoreChild) (i count all : ℕ) → length cs ≤ i → count ≤ 2 ^ 64 - 1
    → capped (count + holes (children_of (drop i cs))) ≡ capped all → count ≡ capped all
holes_end cs i count all past fits before =
    let none : holes (children_of (drop i cs)) ≡ 0 = rw (drop_all i cs past) refl in
    omega (arith, none, fits, before)

levels_with : (c : CoreChild) (rest : Holed Act) → levels (with_child c rest) ≡ max (levels (children_of (c ∷ []))) (levels rest)
levels_with (Inner node) rest = omega arith
levels_with Hole rest = omega arith

-- the levels of one more child
pub levels_step : (cs : List CoreChild) (i : ℕ) (c : CoreChild) → i < length cs → c ≡ get_or cs i c
    → levels (children_of (drop i cs)) ≡ max (levels (children_of (c ∷ []))) (levels (children_of (drop (i + 1) cs)))
levels_step cs i c h at = ap (λ (k : Holed Act). levels k) (next_child cs i c h at) ∙ levels_with c (children_of (drop (i + 1) cs))
