-- The views of a transaction within the limits are few, short and not deep.
use Rattle.std.proofs.Common.{◌≡◌, ℕ, suc, ◌+◌, ◌*◌, ◌≤◌, max, Bool, true, false, List, [], ◌∷◌, ◌++◌, length, refl, ap, subst, inl, inr, arith}
use Rattle.std.specs.Prelude.{nat_le, ◌&&◌}
use Rattle.ledger_terms.specs.Depth.{depth}
use Rattle.ledger_terms.specs.Names.{is_spelled, IsName}
use Rattle.std.specs.Int.{w16, w64, to_be_bytes}
use Rattle.std.specs.List.{flat_map, AllByRecursion}
use Rattle.std.proofs.lemmas.Bool.{cases_Bool, leb-true}
use Rattle.std.proofs.lemmas.List.{length-append}
use Rattle.std.proofs.lemmas.List.Elements.{recursion_from_All}
use Rattle.ledger_terms.specs.declared.act.Act.{Act}
use Rattle.ledger_terms.specs.Forest.{Forest, NoRoots, Root, join, size}
use Rattle.ledger_terms.specs.Roots.{trees_count}
use Rattle.ledger_terms.specs.declared.action.Action.{Action}
use Rattle.ledger_model.specs.Views.{its_informees, starts}
use Rattle.ledger_model.specs.declared.roles.Roles.{Roles}
use Rattle.wire_form.specs.Spelling.{spell_name, spell_parties, spell_action}
use Rattle.wire_form.specs.Spellable.{IsSpellableAction}
use Rattle.wire_form.specs.InRange.{IsPartySet}
use Rattle.view_split.specs.Holed.{width}
use Rattle.view_split.specs.declared.split_view.SplitView.{SplitView}
use Rattle.view_split.specs.Split.{core_of, view_at, split_below, split}
use Rattle.view_split.specs.declared.views.Views.{Views}
use Rattle.blind_tree.specs.Cores.{spell_children, AreSpellableChildren, levels}
use Rattle.blind_tree.specs.LeafBytes.{core_bytes, AreSpellableViews, AreSpellable}
use Rattle.blind_tree.specs.ShownViews.{AreSmall, IsSmall}
use Rattle.blind_tree.specs.Limits.{acts_length, AreSpellableActs, KeepLimits, HaveSets}

-- ---- sets and names

left_of : (a b : Bool) → (a && b) ≡ true → a ≡ true
left_of true b h = refl
left_of false b h = h

pub short_name : (name : List ℕ) → IsName name → length name ≤ 32
short_name name h = leb-true (length name) 32 (left_of (nat_le (length name) 32) (is_spelled name) h)

names_length : (names : List (List ℕ)) → AllByRecursion IsName names → length (flat_map spell_name names) ≤ 33 * length names
names_length [] h = omega arith
names_length (name ∷ names) h =
    let r = names_length names h.1 in
    let s = short_name name h.0 in
    let l = length-append (spell_name name) (flat_map spell_name names) in
    omega (arith, r, s, l)

pub set_length : (set : List (List ℕ)) → IsPartySet set → length (spell_parties set) ≤ 4226
set_length set h =
    let n = names_length set (recursion_from_All IsName set h.names) in
    let l = length-append (to_be_bytes w16 (length set)) (flat_map spell_name set) in
    let two : length (to_be_bytes w16 (length set)) ≡ 2 = refl in
    omega (arith, n, l, two, h.few)

-- ---- counts and depths

count_join : {A : Type 0} (f g : Forest A) → trees_count (join f g) ≡ trees_count f + trees_count g
count_join NoRoots g = omega arith
count_join (Root root below others) g = let r = count_join others g in omega (arith, r)

depth_join : {A : Type 0} (f g : Forest A) → depth (join f g) ≡ max (depth f) (depth g)
depth_join NoRoots g = omega arith
depth_join (Root root below others) g = let r = depth_join others g in omega (arith, r)

count_size : {A : Type 0} (f : Forest A) → trees_count f ≤ size f
count_size NoRoots = omega arith
count_size (Root root below others) = let r = count_size others in omega (arith, r)

pub sets_parted : (f g : Forest SplitView) → HaveSets (join f g) → HaveSets f × HaveSets g
sets_parted NoRoots g h = (tt, h)
sets_parted (Root view subviews others) g h = let r = sets_parted others g h.2 in ((h.0, h.1, r.0), r.1)

module _ (roles : Action → Roles) where
  count_below : (e : List (List ℕ)) (f : Forest Act) → trees_count (split_below roles e f) ≤ size f
  count_below e NoRoots = omega arith
  count_below e (Root act below others) =
      let o = count_below e others in
      elim (cases_Bool (starts roles e act)) [
        | inl new ↦ rw new (omega (arith, o))
        | inr old ↦ rw old (let b = count_below e below in omega (arith, b, o, count_join (split_below roles e below) (split_below roles e others)))
      ]

  depth_below : (e : List (List ℕ)) (f : Forest Act) → depth (split_below roles e f) ≤ depth f
  depth_below e NoRoots = omega arith
  depth_below e (Root act below others) =
      let o = depth_below e others in
      elim (cases_Bool (starts roles e act)) [
        | inl new ↦ rw new (let b = depth_below (its_informees roles act) below in omega (arith, b, o))
        | inr old ↦ rw old (let b = depth_below e below in omega (arith, b, o, depth_join (split_below roles e below) (split_below roles e others)))
      ]

  count_split : (f : Forest Act) → trees_count (split roles f) ≤ size f
  count_split NoRoots = omega arith
  count_split (Root act below others) = let o = count_split others in omega (arith, o)

  depth_split : (f : Forest Act) → depth (split roles f) ≤ depth f
  depth_split NoRoots = omega arith
  depth_split (Root act below others) =
      let b = depth_below (its_informees roles act) below in
      let o = depth_split others in
      omega (arith, b, o)

  -- ---- cores

  core_width : (e : List (List ℕ)) (f : Forest Act) → width (core_of roles e f) ≡ trees_count f
  core_width e NoRoots = refl
  core_width e (Root act below others) =
      elim (cases_Bool (starts roles e act)) [ inl new ↦ rw new (ap suc (core_width e others)) | inr old ↦ rw old (ap suc (core_width e others)) ]

  core_length : (e : List (List ℕ)) (f : Forest Act) → length (spell_children (core_of roles e f)) ≤ acts_length f + 3 * size f
  core_length e NoRoots = omega arith
  core_length e (Root act below others) =
      let o = core_length e others in
      elim (cases_Bool (starts roles e act)) [
        | inl new ↦ rw new (omega (arith, o))
        | inr old ↦ rw old
            (let b = core_length e below in
            let first = act.seed ++ spell_action act.action in
            let counted = to_be_bytes w16 (width (core_of roles e below)) in
            let two : length counted ≡ 2 = refl in
            let inside = spell_children (core_of roles e below) in
            let after = spell_children (core_of roles e others) in
            omega (arith, b, o, two, length-append (0 ∷ (first ++ counted ++ inside)) after, length-append (first ++ counted) inside, length-append first counted, length-append act.seed (spell_action act.action)))
      ]

  pub view_length : (act : Act) (below : Forest Act) → suc (size below) ≤ 64
      → length act.seed + length (spell_action act.action) + acts_length below ≤ 32768 → length (core_bytes (view_at roles act below)) ≤ 32960
  view_length act below few short =
      let inside = spell_children (core_of roles (its_informees roles act) below) in
      let b = core_length (its_informees roles act) below in
      let first = act.seed ++ spell_action act.action in
      let counted = to_be_bytes w16 (width (core_of roles (its_informees roles act) below)) in
      let two : length counted ≡ 2 = refl in
      omega (arith, b, few, short, two, length-append (first ++ counted) inside, length-append first counted, length-append act.seed (spell_action act.action))

  children_spellable : (e : List (List ℕ)) (f : Forest Act) → size f ≤ 64 → AreSpellableActs f → AreSpellableChildren (core_of roles e f)
  children_spellable e NoRoots few each = tt
  children_spellable e (Root act below others) few each =
      let o = children_spellable e others (omega (arith, few)) each.2 in
      elim (cases_Bool (starts roles e act)) [
        | inl new ↦ rw new o
        | inr old ↦ rw old (each.0, omega (arith, core_width e below, count_size below, few), children_spellable e below (omega (arith, few)) each.1, o)
      ]

  core_levels : (e : List (List ℕ)) (f : Forest Act) → levels (core_of roles e f) ≤ depth f
  core_levels e NoRoots = omega arith
  core_levels e (Root act below others) =
      let o = core_levels e others in
      elim (cases_Bool (starts roles e act)) [
        | inl new ↦ rw new (omega (arith, o))
        | inr old ↦ rw old (let b = core_levels e below in omega (arith, b, o))
      ]

  -- ---- views

  record AreWithin (views : Forest SplitView) : Type 0 where
    small : AreSmall views
    spellable : AreSpellableViews views

  within_root : (act : Act) (below : Forest Act) (subviews others : Forest SplitView) → suc (size below) ≤ 64 → suc (depth below) ≤ 16 → length act.seed + length (spell_action act.action) + acts_length below ≤ 32768
      → IsSpellableAction act.action → AreSpellableActs below → trees_count subviews ≤ 64 → IsPartySet (view_at roles act below).informees → IsPartySet (view_at roles act below).confirmers
      → AreWithin subviews → AreWithin others → AreWithin (Root (view_at roles act below) subviews others)
  within_root act below subviews others few deep short action each count informees confirmers s o =
      let view = view_at roles act below in
      let a = set_length view.informees informees in
      let b = set_length view.confirmers confirmers in
      record {
        small = (omega (arith, a, b, length-append (spell_parties view.informees) (spell_parties view.confirmers)), omega (arith, view_length act below few short), count, s.small, o.small);
        spellable = (
          record {
            informees_are = informees.few;
            confirmers_are = confirmers.few;
            core = record {
              action = action;
              few = omega (arith, core_width (its_informees roles act) below, count_size below, few);
              children = children_spellable (its_informees roles act) below (omega (arith, few)) each;
            };
            nested = omega (arith, core_levels (its_informees roles act) below, deep);
          },
          omega (arith, count),
          s.spellable,
          o.spellable,
        );
      }

  small_join : (f g : Forest SplitView) → AreSmall f → AreSmall g → AreSmall (join f g)
  small_join NoRoots g h i = i
  small_join (Root view subviews others) g h i = (h.0, h.1, h.2, h.3, small_join others g h.4 i)

  spellable_join : (f g : Forest SplitView) → AreSpellableViews f → AreSpellableViews g → AreSpellableViews (join f g)
  spellable_join NoRoots g h i = i
  spellable_join (Root view subviews others) g h i = (h.0, h.1, h.2, spellable_join others g h.3 i)

  within_below : (e : List (List ℕ)) (f : Forest Act) → size f ≤ 64 → depth f ≤ 16 → acts_length f ≤ 32768 → AreSpellableActs f → HaveSets (split_below roles e f) → AreWithin (split_below roles e f)
  within_below e NoRoots few deep short each sets = record { small = tt; spellable = tt }
  within_below e (Root act below others) few deep short each sets =
      let sub = split_below roles (its_informees roles act) below in
      let loose = split_below roles e below in
      let rest = split_below roles e others in
      elim (cases_Bool (starts roles e act)) [
        | inl new ↦
            let here : HaveSets (Root (view_at roles act below) sub rest) = rw new at sets in
            rw new (within_root act below sub rest (omega (arith, few)) (omega (arith, deep)) (omega (arith, short)) each.0 each.1 (omega (arith, count_below (its_informees roles act) below, few)) here.0.0 here.0.1
            (within_below (its_informees roles act) below (omega (arith, few)) (omega (arith, deep)) (omega (arith, short)) each.1 here.1)
            (within_below e others (omega (arith, few)) (omega (arith, deep)) (omega (arith, short)) each.2 here.2))
        | inr old ↦
            let here : HaveSets (join loose rest) = rw old at sets in
            let both = sets_parted loose rest here in
            let b = within_below e below (omega (arith, few)) (omega (arith, deep)) (omega (arith, short)) each.1 both.0 in
            let o = within_below e others (omega (arith, few)) (omega (arith, deep)) (omega (arith, short)) each.2 both.1 in
            rw old (record { small = small_join loose rest b.small o.small; spellable = spellable_join loose rest b.spellable o.spellable })
      ]

  within_split : (f : Forest Act) → size f ≤ 64 → depth f ≤ 16 → acts_length f ≤ 32768 → AreSpellableActs f → HaveSets (split roles f) → AreWithin (split roles f)
  within_split NoRoots few deep short each sets = record { small = tt; spellable = tt }
  within_split (Root act below others) few deep short each sets =
      within_root act below (split_below roles (its_informees roles act) below) (split roles others) (omega (arith, few)) (omega (arith, deep)) (omega (arith, short)) each.0 each.1 (omega (arith, count_below (its_informees roles act) below, few)) sets.0.0 sets.0.1
      (within_below (its_informees roles act) below (omega (arith, few)) (omega (arith, deep)) (omega (arith, short)) each.1 sets.1)
      (within_split others (omega (arith, few)) (omega (arith, deep)) (omega (arith, short)) each.2 sets.2)

  pub split_is_spellable : (views : Views) (roots : Forest Act) → views.roots ≡ split roles roots → IsPartySet views.act_as → KeepLimits roots → HaveSets views.roots → AreSpellable views
  split_is_spellable views roots same requesters limits sets =
      let w = within_split roots limits.few limits.nested limits.short limits.each (subst HaveSets same sets) in
      record {
        requesters = requesters.few;
        few = rw same (omega (arith, count_split roots, limits.few));
        each = rw same w.spellable;
      }

  pub split_is_small : (views : Views) (sender : List ℕ) (roots : Forest Act) → views.roots ≡ split roles roots → IsName sender → IsPartySet views.act_as → KeepLimits roots → HaveSets views.roots → IsSmall sender views
  split_is_small views sender roots same name requesters limits sets =
      let w = within_split roots limits.few limits.nested limits.short limits.each (subst HaveSets same sets) in
      let eight : length (to_be_bytes w64 views.ledger_time) ≡ 8 = refl in
      record {
        common = omega (arith, eight, short_name sender name, length-append (spell_name sender) (to_be_bytes w64 views.ledger_time));
        requesters = omega (arith, set_length views.act_as requesters);
        few = rw same (omega (arith, count_split roots, limits.few));
        nested = rw same (omega (arith, depth_split roots, limits.nested));
        each = rw same w.small;
      }
