-- What a tree opens is what is seen.
use Rattle.std.proofs.Common.{◌≡◌, ℕ, suc, ◌^◌, ◌<◌, Bool, true, false, List, [], ◌∷◌, ◌++◌, length, map, Some, None, Ok, refl, sym, ap, ◌∙◌, inl, inr, append-nil}
use Rattle.std.specs.Prelude.{◌||◌, if◌then◌else◌, nat_eq}
use Rattle.std.specs.Int.{w64, to_be_bytes}
use Rattle.std.proofs.lemmas.Bool.{cases_Bool}
use Rattle.std.proofs.lemmas.Bool.Decides.{Decides-eqb}
use Rattle.ledger_terms.specs.Forest.{Forest, NoRoots, Root, join, preorder, project, paths_from}
use Rattle.ledger_terms.specs.Roots.{trees_count}
use Rattle.wire_form.specs.Formats.{◌>>=◌, Reading}
use Rattle.wire_form.specs.Fields.{name_at, number_at}
use Rattle.wire_form.specs.Reading.{set_at}
use Rattle.wire_form.specs.Spelling.{spell_name, spell_parties}
use Rattle.ledger_terms.specs.Names.{IsName}
use Rattle.wire_form.specs.InRange.{IsPartySet}
use Rattle.wire_form.proofs.FormatLaws.{Reads}
use Rattle.wire_form.proofs.Compose.{both_reads}
use Rattle.wire_form.proofs.FieldLaws.{name_reads, u64_reads}
use Rattle.wire_form.proofs.ValueLaws.{set_reads}
use Rattle.view_split.specs.Holed.{holes}
use Rattle.view_split.specs.declared.split_view.SplitView.{SplitView}
use Rattle.view_split.specs.Filled.{AreFilled}
use Rattle.view_split.specs.Numbered.{map_forest}
use Rattle.view_split.specs.SeenViews.{is_sight, seen_views}
use Rattle.view_split.specs.Placed.{view_with, tops}
use Rattle.view_split.specs.declared.core_node.CoreNode.{CoreNode}
use Rattle.view_split.specs.declared.views.Views.{Views}
use Rattle.view_split.specs.declared.placed_view.PlacedView.{PlacedView}
use Rattle.blind_tree.specs.Vertices.{count}
use Rattle.blind_tree.specs.TreeHashes.{Hashing}
use Rattle.blind_tree.specs.LeafBytes.{common_bytes, roles_bytes, core_bytes}
use Rattle.blind_tree.specs.Leaves.{spell_common, IsCommon, spell_roles, AreRoles}
use Rattle.blind_tree.specs.Reading.{ended, with_place, read_all}
use Rattle.blind_tree.specs.CoreReading.{core_at}
use Rattle.blind_tree.specs.Blind.{leaf_of, vertices_shown, shown_to, informees_alone, has_sight, sees_root, blind_to, blind_for_mediator}
use Rattle.blind_tree.specs.Opening.{head_at, roles_at, view_roles, roles_listed, informee_tree_of, ViewParts, parts_read, views_read, views_opened, placed, read_if_plain, tree_opened}
use Rattle.blind_tree.specs.ShownViews.{roles_of_all, IsView, AreViews, AreInRange}
use Rattle.blind_tree.specs.declared.view_roles.ViewRoles.{ViewRoles}
use Rattle.blind_tree.proofs.CoreLaws as cores
use Rattle.blind_tree.proofs.Blinded.{none_seen}

abbrev Placed : Type 0
Placed = List ℕ × SplitView

abbrev bare : Forest Placed → Forest SplitView
bare = map_forest (λ (v : Placed). v.1)

-- ---- leaves

read_again : {A : Type 0} (read : Reading A) (bytes : List ℕ) (x : A) → read (bytes ++ []) ≡ Ok (x, []) → read_all read bytes ≡ Ok x
read_again read bytes x h =
    ap (λ r. with_place (length bytes) (r >>= λ y. ended y.0 y.1)) (ap read (sym (append-nil bytes)) ∙ h)

pub roles_reads : Reads spell_roles AreRoles roles_at
unfolding roles_at
roles_reads = both_reads spell_parties IsPartySet set_at spell_parties IsPartySet set_at set_reads set_reads

pub head_reads : Reads spell_common IsCommon head_at
unfolding head_at
head_reads = both_reads spell_name IsName name_at (λ n. to_be_bytes w64 n) (λ n. n < 2 ^ 64) (number_at w64) name_reads u64_reads

pub roles_again : (view : SplitView) → IsView view → read_all roles_at (roles_bytes view) ≡ Ok (view.informees, view.confirmers)
roles_again view h = read_again roles_at (roles_bytes view) (view.informees, view.confirmers) (roles_reads.again (view.informees, view.confirmers) [] (h.informees_are, h.confirmers_are))

abbrev pub core_in : SplitView → CoreNode
core_in view = record { seed = (view.first).seed; action = (view.first).action; children = view.below }

pub core_again : (view : SplitView) → IsView view → read_all core_at (core_bytes view) ≡ Ok (core_in view)
core_again view h = read_again core_at (core_bytes view) (core_in view) (cores.core_again view.first view.below [] h.core)

pub head_again : (sender : List ℕ) (time : ℕ) → IsName sender → time < 2 ^ 64 → read_all head_at (common_bytes sender time) ≡ Ok (sender, time)
head_again sender time s t = read_again head_at (common_bytes sender time) (sender, time) (head_reads.again (sender, time) [] (s, t))

set_again : (set : List (List ℕ)) → IsPartySet set → read_all set_at (spell_parties set) ≡ Ok set
set_again set h = read_again set_at (spell_parties set) set (set_reads.again set [] h)

-- ---- paths

pub paths_bare : (above : List ℕ) (k : ℕ) (f : Forest SplitView) → bare (paths_from above k f) ≡ f
paths_bare above k NoRoots = refl
paths_bare above k (Root view subviews others) = λ i. Root view (paths_bare (above ++ k ∷ []) 0 subviews i) (paths_bare above (suc k) others i)

abbrev keeps : (List ℕ → Bool) → Placed → Bool
keeps hosts v = is_sight hosts v.1

unseen : (hosts : List ℕ → Bool) (above : List ℕ) (k : ℕ) (f : Forest SplitView) → has_sight hosts f ≡ false → project (keeps hosts) (paths_from above k f) ≡ NoRoots
unseen hosts above k NoRoots none = refl
unseen hosts above k (Root view subviews others) none =
    let n = none_seen hosts view subviews others none in
    rw (n.0, unseen hosts (above ++ k ∷ []) 0 subviews n.1) (unseen hosts above (suc k) others n.2)

tops_join : (f g : Forest Placed) → tops (join f g) ≡ tops f ++ tops g
tops_join NoRoots g = refl
tops_join (Root v below others) g = ap (λ (ps : List PlacedView). placed v.0 (view_with v.1 (bare below)) ∷ ps) (tops_join others g)

same_number : (n m : ℕ) → n ≡ m → nat_eq n m ≡ true
same_number n m e = (Decides-eqb n m).1 e

-- the topmost views seen, of views the first of which is number k below a path
abbrev topmost : (List ℕ → Bool) → List ℕ → ℕ → Forest SplitView → List PlacedView
topmost hosts above k f = tops (project (keeps hosts) (paths_from above k f))

map_append : {X Y : Type 0} (f : X → Y) (xs ys : List X) → map f (xs ++ ys) ≡ map f xs ++ map f ys
map_append f [] ys = refl
map_append {X} {Y} f (x ∷ xs) ys = ap (λ (zs : List Y). f x ∷ zs) (map_append f xs ys)

abbrev one_role : Placed → ViewRoles
one_role v = view_roles v.0 ((v.1).informees, (v.1).confirmers)

module _ (sha : Hashing) where
  count_shown : (hosts : List ℕ → Bool) (sees : Bool) (f : Forest SplitView) → count (vertices_shown sha (shown_to hosts sees f)) ≡ trees_count f
  count_shown hosts sees NoRoots = refl
  count_shown hosts sees (Root view subviews others) =
      let after = count_shown hosts sees others in
      elim (cases_Bool (sees || is_sight hosts view)) [
        | inl here ↦ rw here (ap suc after)
        | inr not_here ↦ elim (cases_Bool (has_sight hosts subviews)) [ inl below ↦ rw (not_here, below) (ap suc after) | inr none ↦ rw (not_here, none) (ap suc after) ]
      ]

  abbrev its_parts : SplitView → ViewParts
  its_parts view = ((view.informees, view.confirmers), core_in view)

  parts_again : (view : SplitView) (n : ℕ) → IsView view → holes view.below ≡ n
      → parts_read (leaf_of sha true 3 (view.first).seed (roles_bytes view)) (leaf_of sha true 4 (view.first).seed (core_bytes view)) n ≡ Ok (its_parts view)
  parts_again view n h filled = rw (roles_again view h, core_again view h, same_number (holes view.below) n filled) refl

  -- below a view that is seen all is read
  pub all_again : (hosts : List ℕ → Bool) (f : Forest SplitView) → AreViews f → AreFilled f → views_read (vertices_shown sha (shown_to hosts true f)) ≡ Ok f
  all_again hosts NoRoots h filled = refl
  all_again hosts (Root view subviews others) h filled =
      rw (parts_again view (count (vertices_shown sha (shown_to hosts true subviews))) h.0 (filled.0 ∙ sym (count_shown hosts true subviews)), all_again hosts subviews h.1 filled.1, all_again hosts others h.2 filled.2) refl

  opens : (hosts : List ℕ → Bool) (above : List ℕ) (k : ℕ) (f : Forest SplitView) → AreViews f → AreFilled f
      → views_opened above k (vertices_shown sha (shown_to hosts false f)) ≡ Ok (topmost hosts above k f)
  opens hosts above k NoRoots h filled = refl
  opens hosts above k (Root view subviews others) h filled =
      let path = above ++ k ∷ [] in
      let after = opens hosts above (suc k) others h.2 filled.2 in
      elim (cases_Bool (is_sight hosts view)) [
        | inl sees ↦
            rw (sees, parts_again view (count (vertices_shown sha (shown_to hosts true subviews))) h.0 (filled.0 ∙ sym (count_shown hosts true subviews)), all_again hosts subviews h.1 filled.1, after)
            (ap (λ (s : Forest SplitView). Ok (placed path (view_with view s) ∷ topmost hosts above (suc k) others)) (sym (paths_bare path 0 subviews)))
        | inr not_here ↦ elim (cases_Bool (has_sight hosts subviews)) [
          | inl below ↦ rw (not_here, below, opens hosts path 0 subviews h.1 filled.1, after)
              (ap (λ (ps : List PlacedView). Ok ps) (sym (tops_join (project (keeps hosts) (paths_from path 0 subviews)) (project (keeps hosts) (paths_from above (suc k) others)))))
          | inr none ↦ rw (not_here, none, unseen hosts path 0 subviews none) after
        ]
      ]

  requesters_again : (shows : Bool) (seed : List ℕ) (set : List (List ℕ)) → IsPartySet set → read_if_plain set_at (leaf_of sha shows 2 seed (spell_parties set)) ≡ Ok (if shows then Some set else None)
  requesters_again true seed set h = rw (set_again set h) refl
  requesters_again false seed set h = refl

  pub tree_opens : (views : Views) (sender : List ℕ) (hosts : List ℕ → Bool) (is_sender : Bool) → AreInRange sender views → AreFilled views.roots
      → tree_opened (blind_to sha views sender hosts is_sender)
      ≡ Ok (record { sender = sender; ledger_time = views.ledger_time; requesters = if (sees_root hosts views.roots || is_sender) then Some views.act_as else None; views = tops (seen_views hosts views.roots) })
  tree_opens views sender hosts is_sender h filled =
      rw (head_again sender views.ledger_time h.sender_is h.time_fits, requesters_again (sees_root hosts views.roots || is_sender) views.seed views.act_as h.requesters_are, opens hosts [] 0 views.roots h.each filled) refl

  -- ---- what the mediator is told

  told_again : (above : List ℕ) (k : ℕ) (f : Forest SplitView) → AreViews f → roles_listed above k (vertices_shown sha (map_forest informees_alone f)) ≡ Ok (roles_of_all above k f)
  told_again above k NoRoots h = refl
  told_again above k (Root view subviews others) h =
      rw (roles_again view h.0, told_again (above ++ k ∷ []) 0 subviews h.1, told_again above (suc k) others h.2)
      (ap (λ (rs : List ViewRoles). Ok (view_roles (above ++ k ∷ []) (view.informees, view.confirmers) ∷ rs)) (sym (map_append one_role (preorder (paths_from (above ++ k ∷ []) 0 subviews)) (preorder (paths_from above (suc k) others)))))

  pub tree_tells : (views : Views) (sender : List ℕ) → AreInRange sender views → informee_tree_of (blind_for_mediator sha views sender) ≡ Ok (record { sender = sender; views = roles_of_all [] 0 views.roots })
  tree_tells views sender h = rw (head_again sender views.ledger_time h.sender_is h.time_fits, told_again [] 0 views.roots h.each) refl
