-- The format of cores, composed of those of fields.
use Rattle.std.proofs.Common.{◌≡◌, ℕ, zero, suc, ◌≤◌, List, [], ◌∷◌, ◌++◌, length, Result, Ok, refl, sym, ap, lit<, subst, append_assoc, arith}
use Rattle.std.specs.Int.{w16, to_be_bytes}
use Rattle.std.specs.List.{flat_map, AllByRecursion}
use Rattle.ledger_terms.specs.declared.act.Act.{Act}
use Rattle.ledger_terms.specs.declared.action.Action.{Action}
use Rattle.wire_form.specs.Formats.{◌>>=◌, Reading, both_at, counted_at, any_item}
use Rattle.wire_form.specs.Fields.{count_at, hash_at}
use Rattle.wire_form.specs.Reading.{action_at}
use Rattle.wire_form.specs.Spelling.{spell_action}
use Rattle.wire_form.specs.InRange.{IsAction, IsHash}
use Rattle.wire_form.proofs.FormatLaws.{IsBytes, IsBytes-rest, Takes, Reads, ok_is}
use Rattle.wire_form.proofs.Compose.{both_reads, seen_reads, ranged_reads, counted_reads, under, tag_takes, Admits, any_admitted}
use Rattle.wire_form.proofs.FieldLaws.{count_reads, hash_reads}
use Rattle.wire_form.proofs.ValueLaws.{action_reads}
use Rattle.view_split.specs.Holed.{Holed, NoMore, Inner, width}
use Rattle.view_split.specs.Holed as holed
use Rattle.view_split.specs.CoreLists.{children_of}
use Rattle.view_split.specs.declared.core_node.CoreNode.{CoreNode}
use Rattle.view_split.specs.declared.core_node.CoreChild.{CoreChild}
use Rattle.view_split.specs.declared.core_node.CoreChild.TheVariants as children
use Rattle.blind_tree.specs.Cores.{levels, spell_child, spell_children, spell_core, spell_node}
use Rattle.blind_tree.specs.CoreReading.{NodeParts, node_of, children_with, node_with, tagged_child_at, tagged_hole_at, hole_at, child_at, node_at, core_at}
use Rattle.blind_tree.specs.ShownViews.{AreChildren, IsCore}
use Rattle.blind_tree.specs.Leaves.{IsNode}
use Rattle.blind_tree.proofs.TreeLaws.{respelled_reads}

-- ---- children side by side, and a child by itself

abbrev core_with : Act → Holed Act → CoreNode
core_with act below = record { seed = act.seed; action = act.action; children = below }

abbrev child_list : Holed Act → List CoreChild
child_list NoMore = []
child_list (Inner act below others) = children.Inner (core_with act below) ∷ child_list others
child_list (holed.Hole others) = children.Hole ∷ child_list others

listed : (cs : List CoreChild) → child_list (children_of cs) ≡ cs
listed [] = refl
listed (children.Inner core ∷ cs) = ap (λ (ds : List CoreChild). children.Inner core ∷ ds) (listed cs)
listed (children.Hole ∷ cs) = ap (λ (ds : List CoreChild). children.Hole ∷ ds) (listed cs)

unlisted : (h : Holed Act) → children_of (child_list h) ≡ h
unlisted NoMore = refl
unlisted (Inner act below others) = ap (Inner act below) (unlisted others)
unlisted (holed.Hole others) = ap holed.Hole (unlisted others)

list_width : (h : Holed Act) → length (child_list h) ≡ width h
list_width NoMore = refl
list_width (Inner act below others) = ap suc (list_width others)
list_width (holed.Hole others) = ap suc (list_width others)

list_spelled : (h : Holed Act) → flat_map spell_child (child_list h) ≡ spell_children h
list_spelled NoMore = refl
list_spelled (Inner act below others) = ap (λ (k : List ℕ). spell_child (children.Inner (core_with act below)) ++ k) (list_spelled others)
list_spelled (holed.Hole others) = ap (λ (k : List ℕ). (1 ∷ []) ++ k) (list_spelled others)

-- in range, with actions on so many levels at most
abbrev IsChild : ℕ → CoreChild → Type 0
IsChild n (children.Inner core) =
    (suc (levels core.children) ≤ n) × IsHash core.seed × IsAction core.action × (width core.children ≤ 63) × AreChildren core.children
IsChild n children.Hole = Unit {0}

record IsList (n : ℕ) (h : Holed Act) : Type 0 where
  few : width h ≤ 63
  nested : levels h ≤ n
  each : AreChildren h

range_from : (n : ℕ) (h : Holed Act) → AllByRecursion (IsChild n) (child_list h) → (levels h ≤ n) × AreChildren h
range_from n NoMore all = (omega arith, tt)
range_from n (Inner act below others) all =
    let r = range_from n others all.1 in (omega (arith, all.0.0, r.0), (all.0.1, all.0.2, all.0.3, all.0.4, r.1))
range_from n (holed.Hole others) all = range_from n others all.1

range_to : (n : ℕ) (h : Holed Act) → levels h ≤ n → AreChildren h → AllByRecursion (IsChild n) (child_list h)
range_to n NoMore nested h = tt
range_to n (Inner act below others) nested h =
    ((omega (arith, nested), h.0, h.1, h.2, h.3), range_to n others (omega (arith, nested)) h.4)
range_to n (holed.Hole others) nested h = (tt, range_to n others nested h)

abbrev FitList : ℕ → List CoreChild → Type 0
FitList n cs = (length cs ≤ 63) × AllByRecursion (IsChild n) cs × Admits any_item [] cs

list_from : (n : ℕ) (h : Holed Act) → FitList n (child_list h) → IsList n h
list_from n h fit =
    let r = range_from n h fit.1 in record { few = omega (arith, list_width h, fit.0); nested = r.0; each = r.1 }

list_to : (n : ℕ) (h : Holed Act) → IsList n h → FitList n (child_list h)
list_to n h is = (omega (arith, list_width h, is.few), range_to n h is.nested is.each, any_admitted [] (child_list h))

abbrev spell_counted : List CoreChild → List ℕ
spell_counted cs = to_be_bytes w16 (length cs) ++ flat_map spell_child cs

abbrev spell_list : Holed Act → List ℕ
spell_list h = to_be_bytes w16 (width h) ++ spell_children h

counted_spelled : (h : Holed Act) → spell_counted (child_list h) ≡ spell_list h
counted_spelled h = λ i. to_be_bytes w16 (list_width h i) ++ list_spelled h i

list_reads : (n : ℕ) → Reads spell_child (IsChild n) (child_at n) → Reads spell_list (IsList n) (children_with (child_at n))
list_reads n r =
    let counted = counted_reads (λ k. to_be_bytes w16 k) (λ k. k ≤ 63) (count_at 63) spell_child (IsChild n) (child_at n) any_item (count_reads 63 (lit< tt)) r in
    let seen = seen_reads children_of child_list listed unlisted spell_counted (FitList n) (counted_at (count_at 63) any_item (child_at n)) counted in
    ranged_reads spell_list (λ h. FitList n (child_list h)) (IsList n) (children_with (child_at n)) (list_from n) (list_to n)
    (respelled_reads (λ h. spell_counted (child_list h)) spell_list (λ h. FitList n (child_list h)) (children_with (child_at n)) counted_spelled seen)

-- ---- an action with its children

abbrev acts_at : Reading (List ℕ × Action)
acts_at = both_at hash_at action_at

abbrev spell_act : List ℕ × Action → List ℕ
spell_act p = p.0 ++ spell_action p.1

abbrev IsAct : List ℕ × Action → Type 0
IsAct p = IsHash p.0 × IsAction p.1

acts_read : Reads spell_act IsAct acts_at
acts_read = both_reads (λ h. h) IsHash hash_at spell_action IsAction action_at hash_reads action_reads

abbrev spell_parts : NodeParts → List ℕ
spell_parts p = spell_act p.0 ++ spell_list p.1

abbrev FitParts : ℕ → NodeParts → Type 0
FitParts n p = IsAct p.0 × IsList n p.1

abbrev parts_of : CoreNode → NodeParts
parts_of core = ((core.seed, core.action), core.children)

record FitNode (n : ℕ) (core : CoreNode) : Type 0 where
  seed_is : IsHash core.seed
  action_is : IsAction core.action
  few : width core.children ≤ 63
  nested : levels core.children ≤ n
  each : AreChildren core.children

node_spelled : (core : CoreNode) → spell_parts (parts_of core) ≡ spell_node core
node_spelled core = sym (append_assoc (spell_act (core.seed, core.action)) (to_be_bytes w16 (width core.children)) (spell_children core.children))

node_reads : (n : ℕ) → Reads spell_child (IsChild n) (child_at n) → Reads spell_node (FitNode n) (node_with (child_at n))
node_reads n r =
    let parts = both_reads spell_act IsAct acts_at spell_list (IsList n) (children_with (child_at n)) acts_read (list_reads n r) in
    let seen = seen_reads node_of parts_of (λ p. refl) (λ core. refl) spell_parts (FitParts n) (both_at acts_at (children_with (child_at n))) parts in
    ranged_reads spell_node (λ core. FitParts n (parts_of core)) (FitNode n) (node_with (child_at n))
    (λ core h. record { seed_is = h.0.0; action_is = h.0.1; few = h.1.few; nested = h.1.nested; each = h.1.each })
    (λ core h. ((h.seed_is, h.action_is), record { few = h.few; nested = h.nested; each = h.each }))
    (respelled_reads (λ core. spell_parts (parts_of core)) spell_node (λ core. FitParts n (parts_of core)) (node_with (child_at n)) node_spelled seen)

-- ---- a child

abbrev made : {A B : Type 0} → (A → B) → Result (A × List ℕ) ℕ → Result (B × List ℕ) ℕ
made make r = r >>= λ x. Ok (make x.0, x.1)

abbrev IsChildRead : ℕ → List ℕ → CoreChild → List ℕ → Type 0
IsChildRead n bytes child rest = Takes bytes (spell_child child) rest × IsChild n child

hole_takes : (n : ℕ) (rest : List ℕ) (x : CoreChild × List ℕ) → IsBytes (1 ∷ rest) → (children.Hole, rest) ≡ x → IsChildRead n (1 ∷ rest) x.0 x.1
hole_takes n rest x fits same =
    subst (λ (y : CoreChild × List ℕ). IsChildRead n (1 ∷ rest) y.0 y.1) same (record { parts = refl; rest_fits = IsBytes-rest 1 rest fits }, tt)

last_takes : (bytes : List ℕ) (x : CoreChild × List ℕ) → IsBytes bytes → child_at 0 bytes ≡ Ok x → IsChildRead 0 bytes x.0 x.1
unfolding child_at hole_at tagged_hole_at
last_takes [] x fits e = absurd cc
last_takes (zero ∷ rest) x fits e = absurd cc
last_takes (suc zero ∷ rest) x fits e = hole_takes 0 rest x fits (ok_is (children.Hole, rest) x e)
last_takes (suc (suc n) ∷ rest) x fits e = absurd cc

last_again : (child : CoreChild) (rest : List ℕ) → IsChild 0 child → child_at 0 (spell_child child ++ rest) ≡ Ok (child, rest)
unfolding child_at hole_at tagged_hole_at
last_again (children.Inner core) rest h = absurd (omega (arith, h.0))
last_again children.Hole rest h = refl

child_takes : (n : ℕ) → Reads spell_node (FitNode n) (node_with (child_at n)) → (bytes : List ℕ) (x : CoreChild × List ℕ) → IsBytes bytes
    → child_at (suc n) bytes ≡ Ok x → IsChildRead (suc n) bytes x.0 x.1
unfolding child_at tagged_child_at
child_takes n r [] x fits e = absurd cc
child_takes n r (zero ∷ rest) x fits e =
    let u = under children.Inner spell_node (FitNode n) (node_with (child_at n)) r rest x (IsBytes-rest 0 rest fits) e in
    let f = u.3 in
    subst (λ (c : CoreChild). IsChildRead (suc n) (0 ∷ rest) c x.1) u.1
    (tag_takes 0 rest _ x.1 u.2, (omega (arith, f.nested), f.seed_is, f.action_is, f.few, f.each))
child_takes n r (suc zero ∷ rest) x fits e = hole_takes (suc n) rest x fits (ok_is (children.Hole, rest) x e)
child_takes n r (suc (suc k) ∷ rest) x fits e = absurd cc

child_again : (n : ℕ) → Reads spell_node (FitNode n) (node_with (child_at n)) → (child : CoreChild) (rest : List ℕ) → IsChild (suc n) child
    → child_at (suc n) (spell_child child ++ rest) ≡ Ok (child, rest)
unfolding child_at tagged_child_at
child_again n r (children.Inner core) rest h =
    ap (made children.Inner) (r.again core rest (record { seed_is = h.1; action_is = h.2; few = h.3; nested = omega (arith, h.0); each = h.4 }))
child_again n r children.Hole rest h = refl

child_reads : (n : ℕ) → Reads spell_child (IsChild n) (child_at n)
child_reads zero = record { takes = last_takes; again = last_again }
child_reads (suc n) =
    let r = node_reads n (child_reads n) in
    record { takes = child_takes n r; again = child_again n r }

-- ---- cores

pub core_reads : Reads spell_node IsNode core_at
unfolding core_at node_at
core_reads =
    ranged_reads spell_node (FitNode 15) IsNode core_at
    (λ core h. record { seed_is = h.seed_is; action_is = h.action_is; few = h.few; nested = h.nested; children = h.each })
    (λ core h. record { seed_is = h.seed_is; action_is = h.action_is; few = h.few; nested = h.nested; each = h.children })
    (node_reads 15 (child_reads 15))

pub core_again : (first : Act) (below : Holed Act) (rest : List ℕ) → IsCore first below → core_at (spell_core first below ++ rest) ≡ Ok (core_with first below, rest)
core_again first below rest h = core_reads.again (core_with first below) rest h
