-- Trees of one request over what their envelopes open together.
use Rattle.std.proofs.Common.{◌≡◌, ℕ, suc, ◌≤◌, Bool, true, false, List, [], ◌∷◌, ◌++◌, Result, Ok, Err, refl, sym, ap, ◌∙◌, subst, inl, inr, arith}
use Rattle.std.specs.Prelude.{Option, Some, None, nat_eq, option_and_then, if◌then◌else◌}
use Rattle.std.proofs.lemmas.Bool.{cases_Bool, both_ways}
use Rattle.std.proofs.lemmas.Option.{same_Some, none-some}
use Rattle.std.proofs.lemmas.Bool.Decides.{Decides-eqb}
use Rattle.ledger_terms.specs.Forest.{Forest, NoRoots, Root, join, paths_from, project}
use Rattle.ledger_terms.specs.Grown.{tree_of}
use Rattle.ledger_model.proofs.Lists.{In, in_append_left, in_append_right}
use Rattle.wire_form.specs.declared.wire_fault.WireFault.{WireFault}
use Rattle.view_split.specs.CoreLists.{act_of}
use Rattle.view_split.specs.Numbered.{map_forest}
use Rattle.view_split.specs.Placed.{tops, view_with}
use Rattle.view_split.specs.ViewTrees.{View}
use Rattle.view_split.specs.declared.core_node.CoreNode.{CoreNode}
use Rattle.view_split.specs.declared.placed_view.PlacedView.{PlacedView}
use Rattle.view_split.specs.declared.split_view.SplitView.{SplitView}
use Rattle.view_split.proofs.Sight.{without_paths}
use Rattle.blind_tree.specs.Agreement.{Agree, AgreeLeaf}
use Rattle.blind_tree.specs.CoreReading.{core_at}
use Rattle.blind_tree.specs.Leaves.{Sets}
use Rattle.blind_tree.specs.Opening.{ViewParts, parts_read, placed, read_leaf, roles_at, view_of, view_read, views_read, with_read}
use Rattle.blind_tree.specs.Reading.{read_all}
use Rattle.blind_tree.specs.Vertices.{Vertices, NoVertices, BlindVertex, InnerVertex, count}
use Rattle.blind_tree.specs.declared.leaf.Leaf.{Leaf}
use Rattle.blind_tree.specs.declared.leaf.Leaf.TheVariants.{Blind, Plain}
use Rattle.wire_form.specs.Formats.{Reading}
use Rattle.framed_form.specs.Frames.{paths_in, roles_read}
use Rattle.blind_tree.specs.OpenedFor.{are_listed, is_end, missing, stands_at, views_listed}
use Rattle.canton_model.specs.Timeline.{or_else}
use Rattle.framed_form.specs.Together.{Part, below_in, first_view, others_in, parts_after, parts_below, split_view, view_at, view_if, view_in, views_together}
use Rattle.framed_form.proofs.Listed.{Lists, Region, kept_in, one_on, paths_append, paths_root}

abbrev pub done : {A : Type 0} → A → Result A WireFault
done x = Ok x

-- the value of a step that did not fail
pub read_ok : {A B : Type 0} (r : Result A WireFault) (go : A → Result B WireFault) (y : B) → with_read r go ≡ Ok y → (x : A) × (r ≡ Ok x) × (go x ≡ Ok y)
read_ok (Ok x) go y e = (x, refl, e)
read_ok (Err fault) go y e = absurd cc

pub same_ok : {A : Type 0} (x y : A) → done x ≡ done y → x ≡ y
same_ok x y e = cc

pub view_shown : (r : Result ViewParts WireFault) (w : SplitView) → view_if r ≡ Some w → (parts : ViewParts) × (r ≡ Ok parts) × (w ≡ split_view parts)
view_shown (Ok parts) w e = (parts, refl, sym (same_Some (split_view parts) w e))
view_shown (Err fault) w e = absurd (none-some w e)

pub if_there : {A : Type 0} (b : Bool) (r : Result A WireFault) (y : A) → (if b then r else missing) ≡ Ok y → (b ≡ true) × (r ≡ Ok y)
if_there true r y e = (refl, e)
if_there false r y e = absurd cc

pub then_some : {A B : Type 0} (go : A → Option B) (r : Option A) (y : B) → option_and_then go r ≡ Some y → (x : A) × (r ≡ Some x) × (go x ≡ Some y)
then_some go None y e = absurd (none-some y e)
then_some go (Some x) y e = (x, refl, e)

pub if_some : {A : Type 0} (b : Bool) (r : Option A) (y : A) → (if b then r else None) ≡ Some y → (b ≡ true) × (r ≡ Some y)
if_some true r y e = (refl, e)
if_some false r y e = absurd (none-some y e)

not_there : {A : Type 0} (x : A) → missing ≡ done x → ⊥
not_there x e = cc

-- what leaves say of a view, where they can be read
pub record LeavesLie (informees contents : Leaf) (w : SplitView) : Type 0 where
  pub roles : (sets : Sets) → read_leaf roles_at informees ≡ Ok sets → sets ≡ (w.informees, w.confirmers)
  pub core : (core : CoreNode) → read_leaf core_at contents ≡ Ok core → (act_of core ≡ w.first) × (core.children ≡ w.below)

-- vertices have the shape of some views, and their leaves say what those are
abbrev pub Lies : Forest SplitView → Vertices → Type 0
Lies NoRoots NoVertices = Unit {0}
Lies NoRoots (BlindVertex hash others) = ⊥
Lies NoRoots (InnerVertex informees contents subviews others) = ⊥
Lies (Root w below rest) NoVertices = ⊥
Lies (Root w below rest) (BlindVertex hash others) = Lies rest others
Lies (Root w below rest) (InnerVertex informees contents subviews others) = LeavesLie informees contents w × Lies below subviews × Lies rest others

-- the parts of a view that were read
pub parts_said : (informees contents : Leaf) (n : ℕ) (parts : ViewParts) → parts_read informees contents n ≡ Ok parts
    → (read_leaf roles_at informees ≡ Ok parts.0) × (read_leaf core_at contents ≡ Ok parts.1)
parts_said informees contents n parts e =
    let sets = read_ok (read_leaf roles_at informees) _ parts e in
    let core = read_ok (read_leaf core_at contents) _ parts sets.2 in
    let test = tested (nat_eq (holes_in core.0) n) (Ok (sets.0, core.0)) _ parts core.2 in
    let same = same_ok (sets.0, core.0) parts test.1 in
    (sets.1 ∙ ap (λ (p : ViewParts). done p.0) same, core.1 ∙ ap (λ (p : ViewParts). done p.1) same)
  where
    holes_in : CoreNode → ℕ
    holes_in core = Rattle.view_split.specs.Holed.holes core.children

    tested : {A : Type 0} (b : Bool) (r : Result A WireFault) (fault : WireFault) (y : A) → (if b then r else Err fault) ≡ Ok y → (b ≡ true) × (r ≡ Ok y)
    tested true r fault y e = (refl, e)
    tested false r fault y e = absurd cc

pub said : (informees contents : Leaf) (n : ℕ) (parts : ViewParts) (w : SplitView) → LeavesLie informees contents w → parts_read informees contents n ≡ Ok parts → split_view parts ≡ w
said informees contents n parts w lie e =
    let two = parts_said informees contents n parts e in
    let sets = lie.roles parts.0 two.0 in
    let core = lie.core parts.1 two.1 in
    λ i. record { informees = (sets i).0; confirmers = (sets i).1; first = core.0 i; below = core.1 i }

-- all that is read of vertices is what they lie over
read_all_of : (w : Forest SplitView) (v : Vertices) (g : Forest SplitView) → Lies w v → views_read v ≡ Ok g → g ≡ w
read_all_of NoRoots NoVertices g lie e = sym (same_ok NoRoots g e)
read_all_of NoRoots (BlindVertex hash others) g lie e = absurd lie
read_all_of NoRoots (InnerVertex informees contents subviews others) g lie e = absurd lie
read_all_of (Root w below rest) NoVertices g lie e = absurd lie
read_all_of (Root w below rest) (BlindVertex hash others) g lie e = absurd cc
read_all_of (Root w below rest) (InnerVertex informees contents subviews others) g lie e =
    let parts = read_ok (parts_read informees contents (count subviews)) _ g e in
    let under = read_ok (views_read subviews) _ g parts.2 in
    let after = read_ok (views_read others) _ g under.2 in
    let here = said informees contents (count subviews) parts.0 w lie.0 parts.1 in
    let b = read_all_of below subviews under.0 lie.1 under.1 in
    let r = read_all_of rest others after.0 lie.2 after.1 in
    sym (same_ok (join (tree_of (view_of parts.0 under.0)) after.0) g after.2) ∙ (λ i. Root (here i) (b i) (r i))

view_of_all : (informees contents : Leaf) (subviews : Vertices) (w : SplitView) (below : Forest SplitView) (view : View)
    → LeavesLie informees contents w → Lies below subviews → view_read informees contents subviews ≡ Ok view → view ≡ view_with w below
view_of_all informees contents subviews w below view lie under e =
    let parts = read_ok (parts_read informees contents (count subviews)) _ view e in
    let more = read_ok (views_read subviews) _ view parts.2 in
    let here = said informees contents (count subviews) parts.0 w lie parts.1 in
    let b = read_all_of below subviews more.0 under more.1 in
    sym (same_ok (view_of parts.0 more.0) view more.2) ∙ (λ i. record { root = here i; below = b i })

-- vertices stand at all these paths below a path
abbrev pub Stand : List ℕ → ℕ → Vertices → List (List ℕ) → Type 0
Stand above k v paths = (step : ℕ) (rest : List ℕ) → k ≤ step → In (above ++ step ∷ rest) paths → stands_at k v (step ∷ rest) ≡ true

pub empty : {A : Type 0} (f : Forest (List ℕ × A)) → ((q : List ℕ) → In q (paths_in f) → ⊥) → f ≡ NoRoots
empty NoRoots none = refl
empty (Root x f g) none = absurd (none x.0 (inl refl))

other_number : (j k : ℕ) → suc k ≤ j → nat_eq j k ≡ false
other_number j k l =
    elim (cases_Bool (nat_eq j k)) [
      | inr out ↦ out
      | inl is ↦ (let same = (Decides-eqb j k).0 is in absurd (omega (arith, l, same)))
    ]

same_number : (k : ℕ) → nat_eq k k ≡ true
same_number k = (Decides-eqb k k).1 refl

-- a vertex that stands at a later number stands among the others
pub later_stands : (above : List ℕ) (k step : ℕ) (rest : List ℕ) (v : Vertices) → suc k ≤ step → stands_at k v (step ∷ rest) ≡ true → stands_at (suc k) (others_in v) (step ∷ rest) ≡ true
later_stands above k step rest NoVertices l e = absurd (both_ways false refl e)
later_stands above k step rest (BlindVertex hash others) l e = rw (other_number step k l) at e
later_stands above k step rest (InnerVertex informees contents subviews others) l e = rw (other_number step k l) at e

pub below_stands : (k step : ℕ) (rest : List ℕ) (informees contents : Leaf) (subviews others : Vertices)
    → stands_at k (InnerVertex informees contents subviews others) (k ∷ step ∷ rest) ≡ true → stands_at 0 subviews (step ∷ rest) ≡ true
below_stands k step rest informees contents subviews others e = rw (same_number k) at e

-- below a vertex that shows its hash alone none stands
pub hidden_below : {A : Type 0} (above : List ℕ) (k : ℕ) (hash : List ℕ) (others : Vertices) (under after : Forest (List ℕ × A))
    → Stand above k (BlindVertex hash others) (paths_in (join under after)) → (q : List ℕ) → In q (paths_in under) → Region (above ++ k ∷ []) 0 q → ⊥
hidden_below above k hash others under after stand q h r =
    let is : q ≡ above ++ k ∷ (r.step ∷ r.rest) = r.is ∙ one_on above k (r.step ∷ r.rest) in
    let there : In (above ++ k ∷ (r.step ∷ r.rest)) (paths_in (join under after)) =
    subst (λ (p : List ℕ). In p (paths_in (join under after))) is (subst (In q) (sym (paths_append under after)) (in_append_left (paths_in under) (paths_in after) q h)) in
    let at : is_end (r.step ∷ r.rest) ≡ true = rw (same_number k) at (stand k (r.step ∷ r.rest) (omega arith) there) in
    both_ways false refl at

module _ (keeps : SplitView → Bool) where
  abbrev seen : Forest (List ℕ × SplitView) → Forest (List ℕ × SplitView)
  seen f = project (λ (v : List ℕ × SplitView). keeps v.1) f

  tops_join : (v w : Forest (List ℕ × SplitView)) → tops (join v w) ≡ tops v ++ tops w
  tops_join NoRoots w = refl
  tops_join (Root view subviews others) w =
      ap (λ (ps : List PlacedView). record { path = view.0; view = view_with view.1 (map_forest (λ (v : List ℕ × SplitView). v.1) subviews) } ∷ ps) (tops_join others w)

  module _ (listed : List ℕ → Bool) where
    -- what is opened for the paths of what is kept is just that
    pub opens_kept : (above : List ℕ) (k : ℕ) (w : Forest SplitView) (v : Vertices) (ps : List PlacedView)
        → Lies w v → Lists keeps listed false above k w → Stand above k v (paths_in (seen (paths_from above k w)))
        → views_listed listed above k v ≡ Ok ps → ps ≡ tops (seen (paths_from above k w))
    opens_kept above k NoRoots NoVertices ps lie lists stand e = sym (same_ok [] ps e)
    opens_kept above k NoRoots (BlindVertex hash others) ps lie lists stand e = absurd lie
    opens_kept above k NoRoots (InnerVertex informees contents subviews others) ps lie lists stand e = absurd lie
    opens_kept above k (Root w below rest) NoVertices ps lie lists stand e = absurd lie
    opens_kept above k (Root w below rest) (BlindVertex hash others) ps lie lists stand e =
        let path = above ++ k ∷ [] in
        let under = seen (paths_from path 0 below) in
        let after = seen (paths_from above (suc k) rest) in
        elim (cases_Bool (keeps w)) [
          | inl is ↦
              (let told : listed path ≡ true = lists.0 ∙ is in
              let none : missing ≡ done ps = rw told at e in
              absurd (not_there ps none))
          | inr out ↦
              (let told : listed path ≡ false = lists.0 ∙ out in
              let more : views_listed listed above (suc k) others ≡ Ok ps = rw told at e in
              let stand' : Stand above k (BlindVertex hash others) (paths_in (join under after)) = rw out at stand in
              let nothing : under ≡ NoRoots = empty under (λ q h. hidden_below above k hash others under after stand' q h (kept_in keeps path 0 below q h)) in
              let r = opens_kept above (suc k) rest others ps lie lists.2 (λ step more' l h. later_stands above k step more' (BlindVertex hash others) l
              (stand' step more' (omega (arith, l)) (subst (In (above ++ step ∷ more')) (sym (paths_append under after)) (in_append_right (paths_in under) (paths_in after) (above ++ step ∷ more') h)))) more in
              rw out (r ∙ ap (λ (f : Forest (List ℕ × SplitView)). tops (join f after)) (sym nothing)))
        ]
    opens_kept above k (Root w below rest) (InnerVertex informees contents subviews others) ps lie lists stand e =
        let path = above ++ k ∷ [] in
        let after = seen (paths_from above (suc k) rest) in
        elim (cases_Bool (keeps w)) [
          | inl is ↦
              (let told : listed path ≡ true = lists.0 ∙ is in
              let e1 : (if are_listed listed path 0 subviews then with_read (view_read informees contents subviews) (λ (view : View). with_read (views_listed listed above (suc k) others) (λ (more : List PlacedView). done (placed path view ∷ more))) else missing) ≡ Ok ps = rw told at e in
              let all = if_there (are_listed listed path 0 subviews) _ ps e1 in
              let view = read_ok (view_read informees contents subviews) _ ps all.1 in
              let more = read_ok (views_listed listed above (suc k) others) _ ps view.2 in
              let stand' : Stand above k (InnerVertex informees contents subviews others) (paths_in (Root (path, w) (paths_from path 0 below) after)) = rw is at stand in
              let here = view_of_all informees contents subviews w below view.0 lie.0 lie.1 view.1 in
              let r = opens_kept above (suc k) rest others more.0 lie.2 lists.2 (λ step more' l h. later_stands above k step more' (InnerVertex informees contents subviews others) l
              (stand' step more' (omega (arith, l)) (subst (In (above ++ step ∷ more')) (sym (paths_root (path, w) (paths_from path 0 below) after))
              (inr (in_append_right (paths_in (paths_from path 0 below)) (paths_in after) (above ++ step ∷ more') h))))) more.1 in
              rw is (sym (same_ok (placed path view.0 ∷ more.0) ps more.2)
              ∙ (λ i. placed path (here i) ∷ r i)
              ∙ ap (λ (f : Forest SplitView). placed path (view_with w f) ∷ tops after) (sym (without_paths path 0 below))))
          | inr out ↦
              (let told : listed path ≡ false = lists.0 ∙ out in
              let under = seen (paths_from path 0 below) in
              let e1 : with_read (views_listed listed path 0 subviews) (λ (first : List PlacedView). with_read (views_listed listed above (suc k) others) (λ (more : List PlacedView). done (first ++ more))) ≡ Ok ps = rw told at e in
              let first = read_ok (views_listed listed path 0 subviews) _ ps e1 in
              let more = read_ok (views_listed listed above (suc k) others) _ ps first.2 in
              let stand' : Stand above k (InnerVertex informees contents subviews others) (paths_in (join under after)) = rw out at stand in
              let lists' : Lists keeps listed false path 0 below = subst (λ (b : Bool). Lists keeps listed b path 0 below) out lists.1 in
              let b = opens_kept path 0 below subviews first.0 lie.1 lists' (λ step more' l h. below_stands k step more' informees contents subviews others
              (stand' k (step ∷ more') (omega arith) (subst (λ (q : List ℕ). In q (paths_in (join under after))) (one_on above k (step ∷ more'))
              (subst (In (path ++ step ∷ more')) (sym (paths_append under after)) (in_append_left (paths_in under) (paths_in after) (path ++ step ∷ more') h))))) first.1 in
              let r = opens_kept above (suc k) rest others more.0 lie.2 lists.2 (λ step more' l h. later_stands above k step more' (InnerVertex informees contents subviews others) l
              (stand' step more' (omega (arith, l)) (subst (In (above ++ step ∷ more')) (sym (paths_append under after)) (in_append_right (paths_in under) (paths_in after) (above ++ step ∷ more') h)))) more.1 in
              rw out (sym (same_ok (first.0 ++ more.0) ps more.2) ∙ ((λ i. b i ++ r i) ∙ sym (tops_join under after))))
        ]

-- ---- several trees together

abbrev pub AllAgree : Vertices → List Part → Type 0
AllAgree v [] = Unit {0}
AllAgree v (part ∷ parts) = Agree v part.views × AllAgree v parts

-- two leaves that agree are read as one
pub same_reading : {A : Type 0} (read : Reading A) (l m : Leaf) (x y : A) → AgreeLeaf l m → read_leaf read l ≡ Ok x → read_leaf read m ≡ Ok y → x ≡ y
same_reading read (Blind hash) m x y agree e f = absurd cc
same_reading read (Plain salt bytes) (Blind hash) x y agree e f = absurd cc
same_reading {A} read (Plain salt bytes) (Plain salt2 bytes2) x y agree e f =
    same_ok x y (sym e ∙ (ap (λ (bs : List ℕ). read_all read bs) agree.1 ∙ f))

-- the first vertex of a part that shows the view
pub record Front (v : Vertices) (w : SplitView) : Type 0 where
  pub informees : Leaf
  pub contents : Leaf
  pub subviews : Vertices
  pub others : Vertices
  pub parts : ViewParts
  pub is : v ≡ InnerVertex informees contents subviews others
  pub read : parts_read informees contents (count subviews) ≡ Ok parts
  pub view : w ≡ split_view parts

pub front_of : (v : Vertices) (w : SplitView) → first_view v ≡ Some w → Front v w
front_of NoVertices w e = absurd (none-some w e)
front_of (BlindVertex hash others) w e = absurd (none-some w e)
front_of (InnerVertex informees contents subviews others) w e =
    let parts = view_shown (parts_read informees contents (count subviews)) w e in
    record {
      informees = informees;
      contents = contents;
      subviews = subviews;
      others = others;
      parts = parts.0;
      is = refl;
      read = parts.1;
      view = parts.2;
    }

-- what agrees with a part that shows a view tells no other view
front_lies : (informees contents : Leaf) (subviews others v : Vertices) (w : SplitView) → Agree (InnerVertex informees contents subviews others) v → Front v w → LeavesLie informees contents w
front_lies informees contents subviews others v w agree f =
    let agree' : Agree (InnerVertex informees contents subviews others) (InnerVertex f.informees f.contents f.subviews f.others) =
    subst (Agree (InnerVertex informees contents subviews others)) f.is agree in
    let two = parts_said f.informees f.contents (count f.subviews) f.parts f.read in
    record {
      roles = λ sets e. same_reading roles_at informees f.informees sets (f.parts).0 agree'.0 e two.0 ∙ (λ i. ((sym f.view i).informees, (sym f.view i).confirmers));
      core = λ core e.
          let same = same_reading core_at contents f.contents core (f.parts).1 agree'.1 e two.1 in
          (ap act_of same ∙ (λ i. (sym f.view i).first), ap (λ (n : CoreNode). n.children) same ∙ (λ i. (sym f.view i).below));
    }

view_lies : (informees contents : Leaf) (subviews others : Vertices) (path : List ℕ) (parts : List Part) (w : SplitView)
    → AllAgree (InnerVertex informees contents subviews others) parts → view_at path parts ≡ Some w → LeavesLie informees contents w
view_lies informees contents subviews others path [] w agree e = absurd (none-some w e)
view_lies informees contents subviews others path (part ∷ parts) w agree e =
    first (view_in path part) refl e (λ e'. view_lies informees contents subviews others path parts w agree.1 e')
  where
    first : (r : Option SplitView) → view_in path part ≡ r → or_else r (view_at path parts) ≡ Some w → (view_at path parts ≡ Some w → LeavesLie informees contents w)
        → LeavesLie informees contents w
    first None is e' more = more e'
    first (Some u) is e' more =
        let shown = if_some (part.opens path) (first_view part.views) w (is ∙ e') in
        front_lies informees contents subviews others part.views w agree.0 (front_of part.views w shown.1)

pub agree_below : (informees contents : Leaf) (subviews others : Vertices) (parts : List Part) → AllAgree (InnerVertex informees contents subviews others) parts → AllAgree subviews (parts_below parts)
agree_below informees contents subviews others [] agree = tt
agree_below informees contents subviews others (part ∷ parts) agree = one part.views agree.0 (agree_below informees contents subviews others parts agree.1)
  where
    one : (v : Vertices) → Agree (InnerVertex informees contents subviews others) v → AllAgree subviews (parts_below parts) → AllAgree subviews (below_in part.opens v ++ parts_below parts)
    one NoVertices a more = more
    one (BlindVertex hash after) a more = more
    one (InnerVertex i c s o) a more = (a.2, more)

pub agree_after : (v : Vertices) (parts : List Part) → AllAgree v parts → AllAgree (others_in v) (parts_after parts)
agree_after v [] agree = tt
agree_after v (part ∷ parts) agree = (one v part.views agree.0, agree_after v parts agree.1)
  where
    one : (v w : Vertices) → Agree v w → Agree (others_in v) (others_in w)
    one NoVertices NoVertices a = tt
    one NoVertices (BlindVertex hash others) a = absurd a
    one NoVertices (InnerVertex i c s o) a = absurd a
    one (BlindVertex hash others) NoVertices a = absurd a
    one (BlindVertex hash others) (BlindVertex hash2 others2) a = a
    one (BlindVertex hash others) (InnerVertex i c s o) a = a
    one (InnerVertex i c s o) NoVertices a = absurd a
    one (InnerVertex i c s o) (BlindVertex hash2 others2) a = a
    one (InnerVertex i c s o) (InnerVertex i2 c2 s2 o2) a = a.3

-- what is told of a vertex and of those below and after it
pub record Told (informees : Leaf) (under after : Vertices) (sets : Sets) (below rest : Forest Sets) : Type 0 where
  pub here : read_leaf roles_at informees ≡ Ok sets
  pub below_is : roles_read under ≡ Ok below
  pub rest_is : roles_read after ≡ Ok rest

pub told_parts : (i c : Leaf) (s o : Vertices) (sets : Sets) (below rest : Forest Sets) → roles_read (InnerVertex i c s o) ≡ Ok (Root sets below rest) → Told i s o sets below rest
told_parts i c s o sets below rest t =
    let x = read_ok (read_leaf roles_at i) _ (Root sets below rest) t in
    let u = read_ok (roles_read s) _ (Root sets below rest) x.2 in
    let r = read_ok (roles_read o) _ (Root sets below rest) u.2 in
    let same = same_ok (Root x.0 u.0 r.0) (Root sets below rest) r.2 in
    record {
      here = x.1 ∙ ap (λ (f : Forest Sets). done (first_in sets f)) same;
      below_is = u.1 ∙ ap (λ (f : Forest Sets). done (under_in f)) same;
      rest_is = r.1 ∙ ap (λ (f : Forest Sets). done (after_in f)) same;
    }
  where
    first_in : Sets → Forest Sets → Sets
    first_in other NoRoots = other
    first_in other (Root x f g) = x

    under_in : Forest Sets → Forest Sets
    under_in NoRoots = NoRoots
    under_in (Root x f g) = f

    after_in : Forest Sets → Forest Sets
    after_in NoRoots = NoRoots
    after_in (Root x f g) = g

pub no_root : {x : Sets} {f g : Forest Sets} → Root x f g ≡ NoRoots → ⊥
no_root h = cc

pub no_views : (i c : Leaf) (s o : Vertices) → roles_read (InnerVertex i c s o) ≡ Ok NoRoots → ⊥
no_views i c s o t =
    let x = read_ok (read_leaf roles_at i) _ NoRoots t in
    let u = read_ok (roles_read s) _ NoRoots x.2 in
    let r = read_ok (roles_read o) _ NoRoots u.2 in
    no_root (same_ok (Root x.0 u.0 r.0) NoRoots r.2)

-- A tree that agrees with the mediator's and with each that opens something lies in what they open together.
pub lies_together : (above : List ℕ) (k : ℕ) (parts : List Part) (f : Forest Sets) (w : Forest SplitView) (m v : Vertices)
    → views_together above k parts f ≡ Some w → roles_read m ≡ Ok f → Agree v m → AllAgree v parts → Lies w v
lies_together above k parts NoRoots w NoVertices NoVertices e told agree all = subst (λ (g : Forest SplitView). Lies g NoVertices) (same_Some NoRoots w e) tt
lies_together above k parts NoRoots w NoVertices (BlindVertex hash others) e told agree all = absurd agree
lies_together above k parts NoRoots w NoVertices (InnerVertex i c s o) e told agree all = absurd agree
lies_together above k parts NoRoots w (BlindVertex hash others) v e told agree all = absurd cc
lies_together above k parts NoRoots w (InnerVertex i c s o) v e told agree all = absurd (no_views i c s o told)
lies_together above k parts (Root sets subviews others) w NoVertices v e told agree all = absurd (no_root (sym (same_ok NoRoots (Root sets subviews others) told)))
lies_together above k parts (Root sets subviews others) w (BlindVertex hash more) v e told agree all = absurd cc
lies_together above k parts (Root sets subviews others) w (InnerVertex mi mc ms mo) NoVertices e told agree all = absurd agree
lies_together above k parts (Root sets subviews others) w (InnerVertex mi mc ms mo) (BlindVertex hash vo) e told agree all =
    let path = above ++ k ∷ [] in
    let view = then_some _ (view_at path parts) w e in
    let below = then_some _ (views_together path 0 (parts_below parts) subviews) w view.2 in
    let rest = then_some _ (views_together above (suc k) (parts_after parts) others) w below.2 in
    let t = told_parts mi mc ms mo sets subviews others told in
    let r = lies_together above (suc k) (parts_after parts) others rest.0 mo vo rest.1 t.rest_is agree (agree_after (BlindVertex hash vo) parts all) in
    subst (λ (g : Forest SplitView). Lies g (BlindVertex hash vo)) (same_Some (Root view.0 below.0 rest.0) w rest.2) r
lies_together above k parts (Root sets subviews others) w (InnerVertex mi mc ms mo) (InnerVertex i c s o) e told agree all =
    let path = above ++ k ∷ [] in
    let view = then_some _ (view_at path parts) w e in
    let below = then_some _ (views_together path 0 (parts_below parts) subviews) w view.2 in
    let rest = then_some _ (views_together above (suc k) (parts_after parts) others) w below.2 in
    let t = told_parts mi mc ms mo sets subviews others told in
    let h = view_lies i c s o path parts view.0 all view.1 in
    let b = lies_together path 0 (parts_below parts) subviews below.0 ms s below.1 t.below_is agree.2 (agree_below i c s o parts all) in
    let r = lies_together above (suc k) (parts_after parts) others rest.0 mo o rest.1 t.rest_is agree.3 (agree_after (InnerVertex i c s o) parts all) in
    subst (λ (g : Forest SplitView). Lies g (InnerVertex i c s o)) (same_Some (Root view.0 below.0 rest.0) w rest.2) (h, b, r)

abbrev pub sets_of : SplitView → Sets
sets_of view = (view.informees, view.confirmers)

-- the informees and confirmers of views that the mediator's tree lies in are those that it tells
pub told_of : (w : Forest SplitView) (m : Vertices) (f : Forest Sets) → Lies w m → roles_read m ≡ Ok f → map_forest sets_of w ≡ f
told_of NoRoots NoVertices f lie t = same_ok NoRoots f t
told_of NoRoots (BlindVertex hash others) f lie t = absurd lie
told_of NoRoots (InnerVertex i c s o) f lie t = absurd lie
told_of (Root x below rest) NoVertices f lie t = absurd lie
told_of (Root x below rest) (BlindVertex hash others) f lie t = absurd cc
told_of (Root x below rest) (InnerVertex i c s o) f lie t =
    let sets = read_ok (read_leaf roles_at i) _ f t in
    let u = read_ok (roles_read s) _ f sets.2 in
    let r = read_ok (roles_read o) _ f u.2 in
    let h = (lie.0).roles sets.0 sets.1 in
    let b = told_of below s u.0 lie.1 u.1 in
    let a = told_of rest o r.0 lie.2 r.1 in
    (λ i. Root (sym h i) (b i) (a i)) ∙ same_ok (Root sets.0 u.0 r.0) f r.2
