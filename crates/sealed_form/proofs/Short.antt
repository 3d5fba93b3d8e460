-- The trees of a transaction within the limits are short.
use Rattle.std.proofs.Common.{◌≡◌, ℕ, ◌+◌, ◌*◌, ◌≤◌, Bool, true, false, List, ◌∷◌, ◌++◌, length, refl, inl, inr, arith}
use Rattle.std.specs.Int.{w16, w32, w64, to_be_bytes}
use Rattle.std.proofs.lemmas.Bool.{cases_Bool}
use Rattle.std.proofs.lemmas.List.{length-append}
use Rattle.hash_id.specs.Strings.{leaf_hash_string, leaf_salt_string, view_hash_string}
use Rattle.ledger_terms.specs.Names.{IsName}
use Rattle.ledger_terms.specs.declared.act.Act.{Act}
use Rattle.ledger_terms.specs.Forest.{Forest, NoRoots, Root, join, size}
use Rattle.ledger_terms.specs.declared.action.Action.{Action}
use Rattle.ledger_model.specs.Views.{its_informees, starts}
use Rattle.ledger_model.specs.Opening.{Transaction}
use Rattle.ledger_model.specs.declared.roles.Roles.{Roles}
use Rattle.wire_form.specs.Spelling.{spell_name, spell_parties}
use Rattle.wire_form.specs.InRange.{IsHash, IsPartySet}
use Rattle.view_split.specs.declared.split_view.SplitView.{SplitView}
use Rattle.view_split.specs.Split.{view_at, split_below, split}
use Rattle.blind_tree.specs.Vertices.{count}
use Rattle.blind_tree.specs.TreeHashes.{Hashing}
use Rattle.blind_tree.specs.LeafBytes.{common_bytes, roles_bytes, core_bytes}
use Rattle.blind_tree.specs.Blind.{Salts, Visibility, is_hidden, leaf_of, leaf_with, roles_digest, salt_of, core_digest, hashes_of_views, views_shown}
use Rattle.blind_tree.specs.Blind.{shows_core, shows_roles, tree_with, vertices_shown}
use Rattle.blind_tree.specs.Limits.{acts_length, HaveSets}
use Rattle.blind_tree.specs.Spelling.{spell_each, spell_leaf, spell_tree}
use Rattle.blind_tree.proofs.LimitLaws.{set_length, sets_parted, short_name, view_length}

size_join : {A : Type 0} (f g : Forest A) → size (join f g) ≡ size f + size g
size_join NoRoots g = omega arith
size_join (Root root below others) g = let r = size_join others g in omega (arith, r)

-- ---- views

-- sets of at most 128 names, and a core of at most 32,960 bytes
abbrev pub AreShort : Forest SplitView → Type 0
AreShort NoRoots = Unit {0}
AreShort (Root view subviews others) = (length (roles_bytes view) ≤ 8452) × (length (core_bytes view) ≤ 32960) × AreShort subviews × AreShort others

short_join : (f g : Forest SplitView) → AreShort f → AreShort g → AreShort (join f g)
short_join NoRoots g h i = i
short_join (Root view subviews others) g h i = (h.0, h.1, h.2, short_join others g h.3 i)

roles_length : (view : SplitView) → IsPartySet view.informees → IsPartySet view.confirmers → length (roles_bytes view) ≤ 8452
roles_length view informees confirmers =
    omega (
      arith,
      set_length view.informees informees,
      set_length view.confirmers confirmers,
      length-append (spell_parties view.informees) (spell_parties view.confirmers),
    )

module _ (roles : Action → Roles) where
  size_below : (e : List (List ℕ)) (f : Forest Act) → size (split_below roles e f) ≤ size f
  size_below e NoRoots = omega arith
  size_below e (Root act below others) =
      let o = size_below e others in
      elim (cases_Bool (starts roles e act)) [
        | inl new ↦ rw new (let b = size_below (its_informees roles act) below in omega (arith, b, o))
        | inr old ↦ rw old (let b = size_below e below in omega (arith, b, o, size_join (split_below roles e below) (split_below roles e others)))
      ]

  pub size_split : (f : Forest Act) → size (split roles f) ≤ size f
  size_split NoRoots = omega arith
  size_split (Root act below others) =
      let b = size_below (its_informees roles act) below in
      let o = size_split others in
      omega (arith, b, o)

  short_below : (e : List (List ℕ)) (f : Forest Act) → size f ≤ 64 → acts_length f ≤ 32768 → HaveSets (split_below roles e f)
      → AreShort (split_below roles e f)
  short_below e NoRoots few short sets = tt
  short_below e (Root act below others) few short sets =
      let sub = split_below roles (its_informees roles act) below in
      let loose = split_below roles e below in
      let rest = split_below roles e others in
      elim (cases_Bool (starts roles e act)) [
        | inl new ↦
            let h : HaveSets (Root (view_at roles act below) sub rest) = rw new at sets in
            rw new (
              roles_length (view_at roles act below) h.0.0 h.0.1,
              view_length roles act below (omega (arith, few)) (omega (arith, short)),
              short_below (its_informees roles act) below (omega (arith, few)) (omega (arith, short)) h.1,
              short_below e others (omega (arith, few)) (omega (arith, short)) h.2,
            )
        | inr old ↦
            let h : HaveSets (join loose rest) = rw old at sets in
            let both = sets_parted loose rest h in
            rw old (short_join loose rest (short_below e below (omega (arith, few)) (omega (arith, short)) both.0)
            (short_below e others (omega (arith, few)) (omega (arith, short)) both.1))
      ]

  pub short_split : (f : Forest Act) → size f ≤ 64 → acts_length f ≤ 32768 → HaveSets (split roles f) → AreShort (split roles f)
  short_split NoRoots few short sets = tt
  short_split (Root act below others) few short sets = (
    roles_length (view_at roles act below) sets.0.0 sets.0.1,
    view_length roles act below (omega (arith, few)) (omega (arith, short)),
    short_below (its_informees roles act) below (omega (arith, few)) (omega (arith, short)) sets.1,
    short_split others (omega (arith, few)) (omega (arith, short)) sets.2,
  )

-- ---- trees

bytes_length : (bytes : List ℕ) → length (to_be_bytes w32 (length bytes) ++ bytes) ≡ 4 + length bytes
bytes_length bytes =
    let four : length (to_be_bytes w32 (length bytes)) ≡ 4 = refl in
    omega (arith, four, length-append (to_be_bytes w32 (length bytes)) bytes)

module _ (sha : Hashing) (long : (s : List ℕ) → length (sha s) ≡ 32) where
  leaf_length : (shows : Bool) (kind : ℕ) (salt bytes : List ℕ) → IsHash salt → length (spell_leaf (leaf_with sha shows kind salt bytes)) ≤ 37 + length bytes
  leaf_length true kind salt bytes h = omega (arith, h, bytes_length bytes, length-append salt (to_be_bytes w32 (length bytes) ++ bytes))
  leaf_length false kind salt bytes h = let l = long (leaf_hash_string kind salt bytes) in omega (arith, l)

  inner_leaf : (shows : Bool) (kind : ℕ) (seed bytes : List ℕ) → length (spell_leaf (leaf_of sha shows kind seed bytes)) ≤ 37 + length bytes
  inner_leaf shows kind seed bytes = leaf_length shows kind (salt_of sha kind seed) bytes (long (leaf_salt_string kind seed))

  each_length : (f : Forest (Visibility × SplitView)) → AreShort (views_shown f) → length (spell_each (vertices_shown sha f)) ≤ 41489 * size (views_shown f)
  each_length NoRoots h = omega arith
  each_length (Root marked subviews others) h =
      let view = marked.1 in
      let o = each_length others h.3 in
      let b = each_length subviews h.2 in
      let after = spell_each (vertices_shown sha others) in
      elim (cases_Bool (is_hidden marked.0)) [
        | inl hidden ↦
            let hash = sha (view_hash_string (roles_digest sha view) (core_digest sha view) (hashes_of_views sha (views_shown subviews))) in
            rw hidden
            (omega (
              arith,
              o,
              long (view_hash_string (roles_digest sha view) (core_digest sha view) (hashes_of_views sha (views_shown subviews))),
              length-append (0 ∷ hash) after,
            ))
        | inr inner ↦
            let first = leaf_of sha (shows_roles marked.0) 3 (view.first).seed (roles_bytes view) in
            let second = leaf_of sha (shows_core marked.0) 4 (view.first).seed (core_bytes view) in
            let below = vertices_shown sha subviews in
            let counted = to_be_bytes w16 (count below) in
            let two : length counted ≡ 2 = refl in
            let l = inner_leaf (shows_roles marked.0) 3 (view.first).seed (roles_bytes view) in
            let m = inner_leaf (shows_core marked.0) 4 (view.first).seed (core_bytes view) in
            rw inner
            (omega (
              arith,
              o,
              b,
              l,
              m,
              h.0,
              h.1,
              two,
              length-append (1 ∷ (spell_leaf first ++ spell_leaf second ++ (counted ++ spell_each below))) after,
              length-append (spell_leaf first ++ spell_leaf second) (counted ++ spell_each below),
              length-append (spell_leaf first) (spell_leaf second),
              length-append counted (spell_each below),
            ))
      ]

  pub tree_length : (salts : Salts) (sender : List ℕ) (shows : Bool) (t : Transaction) (f : Forest (Visibility × SplitView))
      → IsHash salts.common → IsHash salts.requesters → IsName sender → IsPartySet t.requesters → AreShort (views_shown f) → size (views_shown f) ≤ 64
      → length (spell_tree (tree_with sha salts sender shows t f)) ≤ 4194304
  tree_length salts sender shows t f common requesters name set short few =
      let tree = tree_with sha salts sender shows t f in
      let head = common_bytes sender t.ledger_time in
      let eight : length (to_be_bytes w64 t.ledger_time) ≡ 8 = refl in
      let counted = to_be_bytes w16 (count tree.views) in
      let two : length counted ≡ 2 = refl in
      let a = leaf_length true 1 salts.common head common in
      let b = leaf_length shows 2 salts.requesters (spell_parties t.requesters) requesters in
      let c = each_length f short in
      omega (
        arith,
        a,
        b,
        c,
        few,
        eight,
        two,
        short_name sender name,
        set_length t.requesters set,
        length-append (spell_name sender) (to_be_bytes w64 t.ledger_time),
        length-append (spell_leaf tree.common ++ spell_leaf tree.requesters) (counted ++ spell_each tree.views),
        length-append (spell_leaf tree.common) (spell_leaf tree.requesters),
        length-append counted (spell_each tree.views),
      )
